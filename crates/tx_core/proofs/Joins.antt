-- A judgement that went on later, and one at once.
use Rattle.std.proofs.Common.{◌≡◌, ◌∙◌, ℕ, List, ◌++◌, Option, Some, None, refl, ap, sym, append-nil}
use Rattle.sec_ast.specs.declared.listing.Listing.{Listing}
use Rattle.sec_ast.specs.declared.verdict.LogLine.{LogLine}
use Rattle.sec_ast.specs.declared.verdict.Verdict.{Verdict}
use Rattle.web_parts.specs.declared.transaction.Request.{Request}
use Rattle.web_parts.specs.declared.transaction.Response.{Response}
use Rattle.sec_meaning.specs.declared.state.Judged.{Judged}
use Rattle.sec_meaning.specs.declared.state.PlainState.{PlainState}
use Rattle.sec_meaning.specs.Judgement.{answered, judge, last_part, request_part, response_part, start, two_phases, unless_denied}
use Rattle.sec_meaning.specs.Phase.{Run, ended, phase}
use Rattle.tx_core.specs.declared.half.Ended.{Ended}
use Rattle.tx_core.specs.Halves.{EndsAs, first_lines}
use Rattle.tx_core.specs.Later.{FollowsAs, judged_later, later_part}
use Rattle.tx_core.specs.Lines.{behind_lines, run_behind, without_lines}
use Rattle.tx_core.proofs.Behind.{phase_behind, two_behind}
use Rattle.tx_core.proofs.Stays.{part_stays}

whole : (s : PlainState) → behind_lines s.lines (without_lines s) ≡ s
whole s = ap (λ (ls : List LogLine). record s { lines = ls }) (append-nil s.lines)

later_behind : (l : Listing) (response : Option Response) (front : List LogLine) (s : PlainState) → later_part l response (behind_lines front s) ≡ run_behind front (later_part l response s)
later_behind l None front s = refl
later_behind l (Some response) front s = two_behind front l 3 4 (answered response s)

-- phases 3 and 4 of a judgement at once, where the request was not interrupted
goes_on : (l : Listing) (response : Option Response) (s : PlainState) (one : Run) → one.state ≡ s → one.verdict ≡ None → response_part l response one ≡ later_part l response s
goes_on l None s one same goes = ap ended same
goes_on l (Some response) s one same goes =
    ap (λ (v : Option Verdict). unless_denied v (ended one.state) (two_phases l 3 4 (answered response one.state))) goes
    ∙ ap (λ (t : PlainState). two_phases l 3 4 (answered response t)) same

-- the verdict on the request, what comes of the rest, and its lines behind those of the first phases
record_of : (l : Listing) (front : List LogLine) (r : Run) (first : Option Verdict) → first ≡ None
    → (let j : Judged = record { first = first; second = (run_behind front r).verdict; lines = (last_part l (run_behind front r)).lines } in j)
    ≡ record { first = None; second = r.verdict; lines = front ++ (last_part l r).lines }
record_of l front r first goes =
    ap (λ (v : Option Verdict). let j : Judged = record { first = v; second = r.verdict; lines = (last_part l (run_behind front r)).lines } in j) goes
    ∙ ap (λ (k : Run). let j : Judged = record { first = None; second = r.verdict; lines = k.state.lines } in j) (phase_behind front l 5 r.state)

later_is : (l : Listing) (response : Option Response) (s : PlainState) → later_part l response s ≡ run_behind s.lines (later_part l response (without_lines s))
later_is l response s = ap (λ (t : PlainState). later_part l response t) (sym (whole s)) ∙ later_behind l response s.lines (without_lines s)

-- there is no response part behind an interruption
no_response_part : (l : Listing) (response : Option Response) (one : Run) (v : Verdict) → one.verdict ≡ Some v → response_part l response one ≡ ended one.state
no_response_part l None one v stops = refl
no_response_part l (Some response) one v stops = ap (λ (w : Option Verdict). unless_denied w (ended one.state) (two_phases l 3 4 (answered response one.state))) stops

pub ends_there : (l : Listing) (r : Request) (response : Option Response) (v : Verdict) → (request_part l r).verdict ≡ Some v
    → judge l r response ≡ record { first = Some v; second = None; lines = (last_part l (request_part l r)).lines }
ends_there l r response v stops =
    let one = request_part l r in
    ap (λ (k : Run). let j : Judged = record { first = one.verdict; second = k.verdict; lines = (last_part l k).lines } in j) (no_response_part l response one v stops)
    ∙ ap (λ (w : Option Verdict). let j : Judged = record { first = w; second = None; lines = (last_part l one).lines } in j) stops

pub comes_in_halves : (l : Listing) (r : Request) (response : Option Response) → (request_part l r).verdict ≡ None → judge l r response ≡ judged_later l response (request_part l r).state
comes_in_halves l r response goes =
    let one = request_part l r in
    let joined : response_part l response one ≡ run_behind one.state.lines (later_part l response (without_lines one.state))
    = goes_on l response one.state one refl goes ∙ later_is l response one.state in
    ap (λ (k : Run). let j : Judged = record { first = one.verdict; second = k.verdict; lines = (last_part l k).lines } in j) joined
    ∙ record_of l one.state.lines (later_part l response (without_lines one.state)) one.verdict goes

-- the state s, from which the lines were taken, is that of a half
pub record Started (l : Listing) (r : Request) (s : PlainState) : Type 0 where
  pub request : s.request ≡ r
  pub state : s ≡ without_lines (request_part l s.request).state
  pub goes : (request_part l s.request).verdict ≡ None
  pub none : (request_part l r).verdict ≡ None

pub started : (l l1 l2 : Listing) (r : Request) (s0 s1 s2 : PlainState) → l1 ≡ l → l2 ≡ l → s0 ≡ start l1 r → None ≡ (two_phases l2 1 2 s0).verdict → s1 ≡ (two_phases l2 1 2 s0).state
    → s2 ≡ without_lines s1 → Started l r s2
started l l1 l2 r s0 s1 s2 a b d e f h =
    let two : two_phases l2 1 2 s0 ≡ request_part l r = rw (b, d, a) refl in
    let here : s1 ≡ (request_part l r).state = f ∙ ap (λ (k : Run). k.state) two in
    let no : (request_part l r).verdict ≡ None = sym (e ∙ ap (λ (k : Run). k.verdict) two) in
    let kept : s2.request ≡ r = ap (λ (s : PlainState). s.request) (h ∙ ap without_lines here) ∙ part_stays l r in
    record {
      request = kept;
      state = h ∙ ap without_lines here ∙ sym (ap (λ (q : Request). without_lines (request_part l q).state) kept);
      goes = ap (λ (q : Request). (request_part l q).verdict) kept ∙ no;
      none = no;
    }

pub lines_of_begin : (l l1 l2 : Listing) (r : Request) (s0 s1 : PlainState) → l1 ≡ l → l2 ≡ l → s0 ≡ start l1 r → s1 ≡ (two_phases l2 1 2 s0).state → s1.lines ≡ first_lines l r
lines_of_begin l l1 l2 r s0 s1 a b d f =
    let two : two_phases l2 1 2 s0 ≡ request_part l r = rw (b, d, a) refl in
    ap (λ (s : PlainState). s.lines) (f ∙ ap (λ (k : Run). k.state) two)

-- what is made of the state of a half comes to the judgement
pub finished : (l l1 : Listing) (g : ℕ) (r : Request) (response : Response) (h : PlainState) (e : Ended) → l1 ≡ l → h ≡ without_lines (request_part l r).state → (request_part l r).verdict ≡ None
    → FollowsAs l1 response h e → EndsAs (record { generation = g; listing = l; request = r }) response e
finished l l1 g r response h e same stands goes f =
    let s : PlainState = without_lines (request_part l r).state in
    let later : Run = later_part l (Some response) s in
    let two : later_part l1 (Some response) h ≡ later = rw (same, stands) refl in
    let last : e.lines ≡ (last_part l later).lines = f.lines ∙ rw (same, stands) refl in
    let law : judge l r (Some response) ≡ judged_later l (Some response) (request_part l r).state = comes_in_halves l r (Some response) goes in
    record {
      verdict = f.verdict ∙ ap (λ (k : Run). k.verdict) two ∙ sym (ap (λ (j : Judged). j.second) law);
      lines = ap (λ (ls : List LogLine). first_lines l r ++ ls) last ∙ sym (ap (λ (j : Judged). j.lines) law);
    }

pub retired : (l l1 : Listing) (r : Request) (h : PlainState) (lines : List LogLine) → l1 ≡ l → h ≡ without_lines (request_part l r).state → (request_part l r).verdict ≡ None
    → lines ≡ (phase l1 5 h).state.lines → first_lines l r ++ lines ≡ (judge l r None).lines
retired l l1 r h lines a stands goes g =
    let last : lines ≡ (last_part l (ended (without_lines (request_part l r).state))).lines = g ∙ rw (a, stands) refl in
    ap (λ (ls : List LogLine). first_lines l r ++ ls) last ∙ sym (ap (λ (j : Judged). j.lines) (comes_in_halves l r None goes))
