use Rattle.std.proofs.Common.{◌∙◌, ap, take, ℕ}
use Rattle.std.specs.List.{prefix_len}
use Rattle.sec_decoders.specs.Digits.{is_hex}
use Rattle.sec_decoders.proofs.Numbers.{twice}
use Rattle.sec_decoders.proofs.css.digits_of.Goals as goal

pub returns-clause-digits : goal.returns-clause-digits
returns-clause-digits c =
    c.split_at.ensures.front ∙ ap (λ (n : ℕ). take n c.args.text.now) c.digits_len.ensures.count
    ∙ twice (prefix_len is_hex (take 6 c.args.text.now)) 6 c.args.text.now
