-- Texts that differ, and texts that are no document.
use Rattle.std.proofs.Common.{◌≡◌, ℕ, List, Bool, true, false, cond, refl, sym, None}
use Rattle.std.specs.Prelude.{IsUtf8, bytes_eq}
use Rattle.std.specs.Str.{is_utf8}
use Rattle.std.proofs.lemmas.Bool.{false_from_ne_true}
use Rattle.std.proofs.lemmas.Slice.Eq.{bytes_eq-Decides}
use Rattle.std.proofs.lemmas.Str.{IsUtf8-from_is_utf8}
use Rattle.toml.specs.Parse.{parse_document}

pub unlike : (key text : List ℕ) → (text ≡ key → ⊥) → bytes_eq key text ≡ false
unlike key text h = false_from_ne_true (bytes_eq key text) (λ e. h (sym ((bytes_eq-Decides key text).0 e)))

pub no_document : (text : List ℕ) (valid : Bool) → is_utf8 text ≡ valid → (IsUtf8 text → parse_document text ≡ None) → cond valid (parse_document text) None ≡ None
no_document text true e h = h (IsUtf8-from_is_utf8 text e)
no_document text false e h = refl
