-- The commands of a script can be made in their order.
use Rattle.std.proofs.Common.{◌≡◌, ℕ, zero, suc, ◌+◌, ◌%◌, ◌<◌, Bool, true, false, not, ◌||◌, eqb, ltb, List, [], ◌∷◌, ◌++◌, append-nil, add-zero, refl, sym, ◌∙◌, ap, subst, arith}
use Rattle.std.specs.List.{flat_map, list_any, range_with_len}
use Rattle.std.proofs.lemmas.Bool.{lt-ltb}
use Rattle.std.proofs.lemmas.Bool.Decides.{nat_tests}
use Rattle.std.proofs.lemmas.Grind.{flat_map-append}
use Rattle.std.proofs.lemmas.List.Folds.{list_any-append}
use Rattle.replay_text.specs.Playable.{IsPlayable, names_shard}
use Rattle.replay_text.specs.Script.{is_in_order, is_open, opened_by, opens}
use Rattle.replay_text.specs.declared.command.Command.{Command}
use Rattle.replay_text.specs.declared.command.Command.TheVariants as commands
use Rattle.workload.specs.Draws.{turn_of}
use Rattle.workload.specs.Messages.{hello_bytes}
use Rattle.workload.specs.Turns.{acts, request_commands, request_conn, response_commands, response_conn, turn_commands}
use Rattle.workload.specs.Workload.{opening, openings, script}
use Rattle.workload.specs.declared.turn.Turn.{Turn}

-- the connections below n were opened, and no other
abbrev Opened : ℕ → List Command → Type 0
Opened n past = (conn : ℕ) → is_open past conn ≡ ltb conn n

-- it opens nothing, and names connections and shards below these
abbrev IsSteady : ℕ → ℕ → Command → Type 0
IsSteady n shards (commands.Open conn) = ⊥
IsSteady n shards (commands.Feed conn bytes) = conn < n
IsSteady n shards (commands.End conn) = conn < n
IsSteady n shards (commands.Act conn) = conn < n
IsSteady n shards (commands.Tick by) = Unit {0}
IsSteady n shards (commands.Expire shard) = shard < shards
IsSteady n shards commands.Reload = Unit {0}
IsSteady n shards commands.Stats = Unit {0}

abbrev AllSteady : ℕ → ℕ → List Command → Type 0
AllSteady n shards [] = Unit {0}
AllSteady n shards (c ∷ cs) = IsSteady n shards c × AllSteady n shards cs

or_false : (b : Bool) → (b || false) ≡ b
or_false true = refl
or_false false = refl

open_more : (past : List Command) (c : Command) (conn : ℕ) → is_open (past ++ c ∷ []) conn ≡ (is_open past conn || list_any (λ k. eqb k conn) (opens c))
open_more past c conn =
    ap (list_any (λ k. eqb k conn)) (flat_map-append opens past (c ∷ []) ∙ ap (λ (l : List ℕ). opened_by past ++ l) (append-nil (opens c)))
    ∙ list_any-append (λ k. eqb k conn) (opened_by past) (opens c)

opened_next : (n : ℕ) (past : List Command) → Opened n past → Opened (n + 1) (past ++ commands.Open n ∷ [])
opened_next n past opened = λ conn. open_more past (commands.Open n) conn ∙ ap (λ (b : Bool). b || (eqb n conn || false)) (opened conn) ∙ below conn
  where
    below : (conn : ℕ) → (ltb conn n || (eqb n conn || false)) ≡ ltb conn (n + 1)
    below conn = rw or_false (grind (arith, nat_tests))

opened_still : (n : ℕ) (past : List Command) (c : Command) → opens c ≡ [] → Opened n past → Opened n (past ++ c ∷ [])
opened_still n past c none opened = λ conn.
    open_more past c conn ∙ ap (λ (l : List ℕ). is_open past conn || list_any (λ k. eqb k conn) l) none ∙ or_false (is_open past conn) ∙ opened conn

module _ (n shards : ℕ) where
  opens_none : (c : Command) → IsSteady n shards c → opens c ≡ []
  opens_none (commands.Open conn) steady = absurd steady
  opens_none (commands.Feed conn bytes) steady = refl
  opens_none (commands.End conn) steady = refl
  opens_none (commands.Act conn) steady = refl
  opens_none (commands.Tick by) steady = refl
  opens_none (commands.Expire shard) steady = refl
  opens_none commands.Reload steady = refl
  opens_none commands.Stats steady = refl

  in_order : (past : List Command) (c : Command) → Opened n past → IsSteady n shards c → is_in_order past c ≡ true
  in_order past (commands.Open conn) opened steady = absurd steady
  in_order past (commands.Feed conn bytes) opened steady = opened conn ∙ lt-ltb conn n steady
  in_order past (commands.End conn) opened steady = opened conn ∙ lt-ltb conn n steady
  in_order past (commands.Act conn) opened steady = opened conn ∙ lt-ltb conn n steady
  in_order past (commands.Tick by) opened steady = refl
  in_order past (commands.Expire shard) opened steady = refl
  in_order past commands.Reload opened steady = refl
  in_order past commands.Stats opened steady = refl

  in_range : (c : Command) → IsSteady n shards c → names_shard shards c ≡ true
  in_range (commands.Open conn) steady = refl
  in_range (commands.Feed conn bytes) steady = refl
  in_range (commands.End conn) steady = refl
  in_range (commands.Act conn) steady = refl
  in_range (commands.Tick by) steady = refl
  in_range (commands.Expire shard) steady = lt-ltb shard shards steady
  in_range commands.Reload steady = refl
  in_range commands.Stats steady = refl

  steady_playable : (cs past : List Command) → Opened n past → AllSteady n shards cs → IsPlayable shards past cs
  steady_playable [] past opened steady = tt
  steady_playable (c ∷ cs) past opened steady = (
    in_order past c opened steady.0,
    in_range c steady.0,
    steady_playable cs (past ++ c ∷ []) (opened_still n past c (opens_none c steady.0) opened) steady.1,
  )

openings_playable : (shards n a : ℕ) (past rest : List Command) → Opened a past
    → ((later : List Command) → Opened (a + n) later → IsPlayable shards later rest) → IsPlayable shards past (flat_map opening (range_with_len a n) ++ rest)
openings_playable shards zero a past rest opened more = more past (subst (λ (k : ℕ). Opened k past) (sym (add-zero a)) opened)
openings_playable shards (suc n) a past rest opened more =
    let own : a < a + 1 = omega arith in
    let one = opened_next a past opened in
    let two = opened_still (a + 1) (past ++ commands.Open a ∷ []) (commands.Feed a hello_bytes) refl one in
    let three = opened_still (a + 1) ((past ++ commands.Open a ∷ []) ++ commands.Feed a hello_bytes ∷ []) (commands.Act a) refl two in
    let next : (a + 1) + n ≡ a + suc n = omega arith in (
      ap not (opened a ∙ itself a),
      refl,
      (
        one a ∙ lt-ltb a (a + 1) own,
        refl,
        (
          two a ∙ lt-ltb a (a + 1) own,
          refl,
          openings_playable shards n (a + 1) _ rest three (λ later all. more later (subst (λ (k : ℕ). Opened k later) next all)),
        ),
      ),
    )
  where
    itself : (k : ℕ) → ltb k k ≡ false
    itself k = grind (arith, nat_tests)

module _ (n shards : ℕ) where
  both_steady : (cs ds : List Command) → AllSteady n shards cs → AllSteady n shards ds → AllSteady n shards (cs ++ ds)
  both_steady [] ds first second = second
  both_steady (c ∷ cs) ds first second = (first.0, both_steady cs ds first.1 second)

  acts_steady : (count conn : ℕ) → conn < n → AllSteady n shards (acts count conn)
  acts_steady zero conn below = tt
  acts_steady (suc count) conn below = (below, acts_steady count conn below)

turn_steady : (t : Turn) → AllSteady 16 4 (turn_commands t)
unfolding turn_commands request_commands response_commands
turn_steady t =
    let first : request_conn t < 16 = omega arith in
    let second : response_conn t < 16 = omega arith in
    let shard : t.number % 4 < 4 = omega arith in
    let request : AllSteady 16 4 (request_commands t) = (first, (first, acts_steady 16 4 5 (request_conn t) first)) in
    let response : AllSteady 16 4 (response_commands t) = (second, acts_steady 16 4 3 (response_conn t) second) in
    both_steady 16 4 (request_commands t ++ commands.Tick (t.moment % 100) ∷ response_commands t) (commands.Expire (t.number % 4) ∷ [])
    (both_steady 16 4 (request_commands t) (commands.Tick (t.moment % 100) ∷ response_commands t) request (tt, response)) (shard, tt)

turns_steady : (seed : ℕ) (numbers : List ℕ) → AllSteady 16 4 (flat_map (λ i. turn_commands (turn_of seed i)) numbers)
turns_steady seed [] = tt
turns_steady seed (i ∷ numbers) =
    both_steady 16 4 (turn_commands (turn_of seed i)) (flat_map (λ k. turn_commands (turn_of seed k)) numbers) (turn_steady (turn_of seed i)) (turns_steady seed numbers)

-- none is open before the first
none_opened : Opened 0 []
none_opened = λ conn. below conn
  where
    below : (conn : ℕ) → false ≡ ltb conn 0
    below conn = grind (arith, nat_tests)

pub script_playable : (seed count : ℕ) → IsPlayable 4 [] (script seed count)
unfolding script openings
script_playable seed count =
    openings_playable 4 16 0 [] (flat_map (λ i. turn_commands (turn_of seed i)) (range_with_len 1 count)) none_opened
    (λ later all. steady_playable 16 4 (flat_map (λ i. turn_commands (turn_of seed i)) (range_with_len 1 count)) later all (turns_steady seed (range_with_len 1 count)))

pub playable_is : (seed count : ℕ) (cs : List Command) → cs ≡ script seed count → IsPlayable 4 [] cs
playable_is seed count cs is = subst (λ (l : List Command). IsPlayable 4 [] l) (sym is) (script_playable seed count)
