-- A request that was judged before and not interrupted, judged anew.
use Rattle.std.proofs.Common.{◌≡◌, ◌∙◌, ℕ, ◌+◌, ◌≤◌, List, ◌++◌, drop, length, Option, Some, None, ap, arith}
use Rattle.std.proofs.Math.Seq.{drop-append_seam}
use Rattle.std.proofs.lemmas.List.{length-append}
use Rattle.sec_ast.specs.declared.listing.Listing.{Listing}
use Rattle.sec_ast.specs.declared.verdict.LogLine.{LogLine}
use Rattle.web_parts.specs.declared.transaction.Request.{Request}
use Rattle.web_parts.specs.declared.transaction.Response.{Response}
use Rattle.sec_meaning.specs.declared.state.Judged.{Judged}
use Rattle.sec_meaning.specs.Judgement.{judge, last_part, request_part}
use Rattle.tx_core.specs.Halves.{EndsAs, first_lines}
use Rattle.tx_core.specs.Later.{later_part}
use Rattle.tx_core.specs.Lines.{without_lines}
use Rattle.tx_core.proofs.Joins.{comes_in_halves}

seam : {A : Type 0} (xs ys zs : List A) (n : ℕ) → n ≡ length xs → zs ≡ xs ++ ys → (n ≤ length zs) × (xs ++ drop n zs ≡ zs)
seam xs ys zs n count joined =
    let long : length zs ≡ length xs + length ys = ap length joined ∙ length-append xs ys in (
      omega arith,
      rw (count, joined) (ap (λ (rest : List _). xs ++ rest) (drop-append_seam xs ys)),
    )

-- the lines begin with those that were logged before, n of them
pub further_lines : (l : Listing) (r : Request) (response : Option Response) (n : ℕ) (j : Judged) → (request_part l r).verdict ≡ None → n ≡ length (first_lines l r) → j ≡ judge l r response
    → (n ≤ length j.lines) × (first_lines l r ++ drop n j.lines ≡ (judge l r response).lines)
further_lines l r response n j goes count anew =
    let later = later_part l response (without_lines (request_part l r).state) in
    let joined : j.lines ≡ first_lines l r ++ (last_part l later).lines = ap (λ (k : Judged). k.lines) (anew ∙ comes_in_halves l r response goes) in
    let s = seam (first_lines l r) (last_part l later).lines j.lines n count joined in
    (s.0, s.1 ∙ ap (λ (k : Judged). k.lines) anew)

pub ended_anew : (l : Listing) (g : ℕ) (r : Request) (response : Response) (n : ℕ) (j : Judged) (lines : List LogLine) → (request_part l r).verdict ≡ None → n ≡ length (first_lines l r) → j ≡ judge l r (Some response)
    → lines ≡ drop n j.lines → EndsAs (record { generation = g; listing = l; request = r }) response (record { verdict = j.second; lines = lines })
ended_anew l g r response n j lines goes count anew rest = record {
  verdict = ap (λ (k : Judged). k.second) anew;
  lines = ap (λ (ls : List LogLine). first_lines l r ++ ls) rest ∙ (further_lines l r (Some response) n j goes count anew).1;
}
