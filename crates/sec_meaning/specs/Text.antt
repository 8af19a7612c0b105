-- Bytes that are borrowed or owned.
use Rattle.std.specs.Prelude.{ℕ, List}
use Rattle.sec_meaning.specs.declared.text.Text.{Text}
use Rattle.sec_meaning.specs.declared.text.Text.TheVariants.{Borrowed, Owned}

abbrev pub text_of : Text → List ℕ
text_of (Borrowed bytes) = bytes.now
text_of (Owned bytes) = bytes
