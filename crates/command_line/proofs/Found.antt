-- The value that clap found for a word.
use Rattle.std.proofs.Common.{◌≡◌, ap, None, Option, Some, option_map, unwrap_or}

-- what a value is seen as, or what another is
pub seen_or : {X Y : Type 0} (seen : X → Y) (found : Option X) (other : X) (is : Option Y) → option_map seen found ≡ is
    → seen (unwrap_or found other) ≡ unwrap_or is (seen other)
seen_or seen None other is same = ap (λ o. unwrap_or o (seen other)) same
seen_or seen (Some x) other is same = ap (λ o. unwrap_or o (seen other)) same
