-- A run over the commands of a script, command by command.
use Rattle.std.proofs.Common.{◌≡◌, ℕ, ◌+◌, ◌<◌, ◌≤◌, ◌==◌, ◌||◌, Bool, true, false, not, cond, List, [], ◌∷◌, ◌++◌, length, map, find, Option, Some, None, Result, Ok, Err, refl, sym, ap, ◌∙◌, subst, append_assoc, arith}
use Rattle.std.proofs.lemmas.Grind.{flat_map-append}
use Rattle.std.proofs.lemmas.List.{append-nil, length-set, map-append}
use Rattle.std.proofs.lemmas.Bool.{false≢true, ltb-true}
use Rattle.std.specs.Arc.{arc_value}
use Rattle.std.specs.Prelude.{◌≢◌, IfOk}
use Rattle.std.specs.List.{list_any}
use Rattle.shelf.specs.declared.apps.Apps.{Apps}
use Rattle.tx_core.specs.HalfView.{HalfView}
use Rattle.hall_core.specs.declared.calls.Call as calling
use Rattle.hall_core.specs.declared.calls.Call.TheVariants as calls
use Rattle.hall_core.specs.declared.calls.Reply as answering
use Rattle.hall_core.specs.declared.calls.Reply.TheVariants as answers
use Rattle.hall_core.specs.Shard.{shard_of as hall_of}
use Rattle.hall_core.specs.Step as turn
use Rattle.conn_core.specs.Trace as needs
use Rattle.conn_core.specs.declared.seen.Seen.{Seen}
use Rattle.replay_text.specs.declared.command.Command.TheVariants as commands
use Rattle.replay_text.specs.Script.{is_in_order, is_open, opened_by, opens}
use Rattle.world_core.specs.declared.step.Step.{Step}
use Rattle.world_core.specs.World.{Conn, Halls, Has, Need, Peer, World, is_peer, later, with_conn}
use Rattle.world_core.specs.Acts.{Acts, Called}
use Rattle.world_core.specs.Steps.{Runs, Steps, can}
use Rattle.world_core.specs.Standing.{IsOpening, Opens, Shared, SharedView, StandsFor}
use Rattle.agent_main.specs.declared.playing.Limits.{Limits}
use Rattle.replay_text.specs.Playable.{IsPlayable, names_shard}
use Rattle.agent_main.specs.declared.entry.Entry.{Entry}
use Rattle.agent_main.specs.declared.entry.Shown as showing
use Rattle.agent_main.specs.Playing.{HasPlayed, IsPlan, MayPlay, Turns, failed_read_by}
use Rattle.agent_main.specs.Turns.{AreTurns, Command, IsTurn, Keeps, Log, Loads, Makes, Plays, RoseBy, Turn, entries_of, entry_of, failed_read, failed_read_in, failed_reads, kept, made, shown_in, steps_in, steps_of}
use Rattle.sec_read.specs.FileWords.{Named}
use Rattle.agent_conf.specs.declared.load_fault.LoadFault.{LoadFault}
use Rattle.agent_conf.specs.LoadFaults.{is_read_fault}
use Rattle.agent_conf.specs.declared.load_fault.LoadFault.TheVariants as load_faults
use Rattle.agent_main.specs.declared.playing.Plan as planning
use Rattle.agent_main.specs.declared.playing.Plan.TheVariants as plans
use Rattle.waf_io.specs.Counts.{Rose}
use Rattle.world_core.specs.declared.step.Step.TheVariants as steps

-- ---- one step more

runs_more : (w : World Shared) (log : List (Step Shared × Seen)) (u v : World Shared) (step : Step Shared) (seen : Seen)
    → Runs arc_value w log u → can u step → Steps arc_value u step v seen → Runs arc_value w (log ++ (step, seen) ∷ []) v
runs_more w [] u v step seen r c s = (v, subst (λ (z : World Shared). can z step) r c, subst (λ (z : World Shared). Steps arc_value z step v seen) r s, refl)
runs_more w (e ∷ es) u v step seen r c s = (r.0, r.1, r.2, runs_more r.0 es u v step seen r.3 c s)

-- ---- the connections and the shards after a step

abbrev pub numbers : List Peer → List ℕ
numbers [] = []
numbers (p ∷ ps) = p.number ∷ numbers ps

numbers_more : (ps : List Peer) (p : Peer) → numbers (ps ++ p ∷ []) ≡ numbers ps ++ p.number ∷ []
numbers_more [] p = refl
numbers_more (q ∷ ps) p = ap (λ l. q.number ∷ l) (numbers_more ps p)

numbers_stay : (n : ℕ) (s : Conn) (ps : List Peer) → numbers (with_conn n s ps) ≡ numbers ps
numbers_stay n s [] = refl
numbers_stay n s (p ∷ ps) = pick (is_peer n p) (numbers_stay n s ps)
  where
    pick : (b : Bool) → numbers (with_conn n s ps) ≡ numbers ps → numbers (cond b (record { number = p.number; conn = s } ∷ ps) (p ∷ with_conn n s ps)) ≡ p.number ∷ numbers ps
    pick true r = refl
    pick false r = ap (λ l. p.number ∷ l) r

one_stays : (w u : World Shared) (n : ℕ) (s : Conn) → u.peers ≡ with_conn n s w.peers → numbers u.peers ≡ numbers w.peers ++ []
one_stays w u n s is = ap numbers is ∙ (numbers_stay n s w.peers ∙ sym (append-nil (numbers w.peers)))

all_stay : (w u : World Shared) → u.peers ≡ w.peers → numbers u.peers ≡ numbers w.peers ++ []
all_stay w u is = ap numbers is ∙ sym (append-nil (numbers w.peers))

-- the same for a step that is this one
module _ (content : Option Named) (name : List ℕ) (w : World Shared) (u : World Shared) (seen : Seen) where
  as_step : (step t : Step Shared) → step ≡ t → Steps arc_value w step u seen → Steps arc_value w t u seen
  as_step step t is h = subst (λ (s : Step Shared). Steps arc_value w s u seen) is h

  opened_after : (c : Command) (step : Step Shared) → Makes content name c step → Steps arc_value w step u seen → numbers u.peers ≡ numbers w.peers ++ opens c
  opened_after (commands.Open n) step is m = let h = as_step step (steps.Open n) is m in ap (λ (z : World Shared). numbers z.peers) h.0 ∙ numbers_more w.peers _
  opened_after (commands.Feed n bytes) step is m = let h = as_step step (steps.Feed n bytes) is m in one_stays w u n _ (ap (λ (z : World Shared). z.peers) h.2)
  opened_after (commands.End n) step is m = let h = as_step step (steps.End n) is m in one_stays w u n _ (ap (λ (z : World Shared). z.peers) h.2)
  opened_after (commands.Act n) step is m = let h = as_step step (steps.Act n) is m in one_stays w u n h.next (ap (λ (z : World Shared). z.peers) h.state)
  opened_after (commands.Tick units) step is m = let h = as_step step (steps.Tick units) is m in all_stay w u (ap (λ (z : World Shared). z.peers) h.0)
  opened_after (commands.Expire shard) step is m = let h = as_step step (steps.Expire shard) is m in all_stay w u (ap (λ (z : World Shared). z.peers) h.3)
  opened_after commands.Reload step is m = let h = as_step step (steps.Reload is.1) is.3 m in all_stay w u (ap (λ (z : World Shared). z.peers) h.2)
  opened_after commands.Stats step is m = let h = as_step step steps.Stats is m in all_stay w u (ap (λ (z : World Shared). z.peers) h.0)

called : (halls others : Halls) (k : ℕ) (c : calling.Call HalfView) (r : answering.Reply HalfView) → Called halls k c r others → length others ≡ length halls
called halls others k c r h = ap length h.state ∙ length-set halls k (turn.after h.hall c r)

acted : (w : World Shared) (s : Conn) (need : Need) (halls : Halls) (t : Conn) (seen : Seen) → Acts arc_value w s need halls t seen → length halls ≡ length w.halls
acted w s needs.Bytes halls t seen h = ap length h.0
acted w s (needs.Look name) halls t seen h = ap length h.0
acted w s (needs.Enter key) halls t seen h = called w.halls halls (hall_of (length w.halls) key) (calls.Enter key) (answers.OfEnter h.0.0) h.0.1
acted w s (needs.Begin rules request) halls t seen h = ap length h.0
acted w s (needs.Park ticket life half) halls t seen h = called w.halls halls ticket.shard (calls.Park ticket (later w.moment life) half) answers.OfPark h.0.0
acted w s (needs.Leave ticket) halls t seen h = called w.halls halls ticket.shard (calls.Leave ticket) answers.OfLeave h.0.0
acted w s (needs.Resume key) halls t seen h = called w.halls halls (hall_of (length w.halls) key) (calls.Resume key) (answers.OfResume h.0.0) h.0.1
acted w s (needs.Finish half response) halls t seen h = ap length h.0
acted w s (needs.Retire half) halls t seen h = ap length h.0
acted w s (needs.Write bytes) halls t seen h = ap length h.0
acted w s (needs.Close how) halls t seen h = ap length h.0

same_count : (w u : World Shared) → u.halls ≡ w.halls → length u.halls ≡ length w.halls
same_count w u is = ap length is

module _ (content : Option Named) (name : List ℕ) (w : World Shared) (u : World Shared) (seen : Seen) where
  halls_after : (c : Command) (step : Step Shared) → Makes content name c step → Steps arc_value w step u seen → length u.halls ≡ length w.halls
  halls_after (commands.Open n) step is m = let h = as_step content name w u seen step (steps.Open n) is m in same_count w u (ap (λ (z : World Shared). z.halls) h.0)
  halls_after (commands.Feed n bytes) step is m = let h = as_step content name w u seen step (steps.Feed n bytes) is m in same_count w u (ap (λ (z : World Shared). z.halls) h.2)
  halls_after (commands.End n) step is m = let h = as_step content name w u seen step (steps.End n) is m in same_count w u (ap (λ (z : World Shared). z.halls) h.2)
  halls_after (commands.Act n) step is m = let h = as_step content name w u seen step (steps.Act n) is m in ap (λ (z : World Shared). length z.halls) h.state ∙ acted w h.before h.need h.halls h.next seen h.acts
  halls_after (commands.Tick units) step is m = let h = as_step content name w u seen step (steps.Tick units) is m in same_count w u (ap (λ (z : World Shared). z.halls) h.0)
  halls_after (commands.Expire shard) step is m = let h = as_step content name w u seen step (steps.Expire shard) is m in ap (λ (z : World Shared). length z.halls) h.3 ∙ called w.halls h.1 shard (calls.Expire w.moment) (answers.OfExpire h.0) h.2
  halls_after commands.Reload step is m = let h = as_step content name w u seen step (steps.Reload is.1) is.3 m in same_count w u (ap (λ (z : World Shared). z.halls) h.2)
  halls_after commands.Stats step is m = let h = as_step content name w u seen step steps.Stats is m in same_count w u (ap (λ (z : World Shared). z.halls) h.0)

-- ---- which steps may be made

is_opened : (n : ℕ) (ps : List Peer) → list_any (λ c. c == n) (numbers ps) ≡ true → (s : Conn) × Has ps n s
is_opened n [] h = absurd (false≢true h)
is_opened n (p ∷ ps) h = go (is_peer n p) refl (is_opened n ps)
  where
    go : (b : Bool) → is_peer n p ≡ b → (list_any (λ c. c == n) (numbers ps) ≡ true → (s : Conn) × Has ps n s) → (s : Conn) × Has (p ∷ ps) n s
    go true e more = (p.conn, record { peer = p; found = ap (λ b. cond b (Some p) (find (is_peer n) ps)) e; conn = refl })
    go false e more =
        let r = more (sym (ap (λ b. b || list_any (λ c. c == n) (numbers ps)) e) ∙ h) in
        (r.0, record { peer = r.1.peer; found = ap (λ b. cond b (Some p) (find (is_peer n) ps)) e ∙ r.1.found; conn = r.1.conn })

is_new : (n : ℕ) (ps : List Peer) → list_any (λ c. c == n) (numbers ps) ≡ false → find (is_peer n) ps ≡ None
is_new n [] h = refl
is_new n (p ∷ ps) h = go (is_peer n p) refl (is_new n ps)
  where
    go : (b : Bool) → is_peer n p ≡ b → (list_any (λ c. c == n) (numbers ps) ≡ false → find (is_peer n) ps ≡ None) → find (is_peer n) (p ∷ ps) ≡ None
    go true e more = absurd (false≢true (sym (sym (ap (λ b. b || list_any (λ c. c == n) (numbers ps)) e) ∙ h)))
    go false e more = ap (λ b. cond b (Some p) (find (is_peer n) ps)) e ∙ more (sym (ap (λ b. b || list_any (λ c. c == n) (numbers ps)) e) ∙ h)

not_true : (b : Bool) → not b ≡ true → b ≡ false
not_true true h = absurd (false≢true h)
not_true false h = refl

module _ (w : World Shared) (past : List Command) (shards : ℕ) (peers : numbers w.peers ≡ opened_by past) where
  was_opened : (n : ℕ) → is_open past n ≡ true → (s : Conn) × Has w.peers n s
  was_opened n o = is_opened n w.peers (ap (list_any (λ c. c == n)) peers ∙ o)

  module _ (content : Option Named) (name : List ℕ) (few : shards ≤ length w.halls) where
    as_possible : (step t : Step Shared) → step ≡ t → can w t → can w step
    as_possible step t is h = subst (λ (s : Step Shared). can w s) (sym is) h

    possible : (c : Command) (step : Step Shared) → is_in_order past c ≡ true → names_shard shards c ≡ true → Makes content name c step → can w step
    possible (commands.Open n) step o k is = as_possible step (steps.Open n) is (is_new n w.peers (ap (list_any (λ c. c == n)) peers ∙ not_true (is_open past n) o))
    possible (commands.Feed n bytes) step o k is = as_possible step (steps.Feed n bytes) is (was_opened n o)
    possible (commands.End n) step o k is = as_possible step (steps.End n) is (was_opened n o)
    possible (commands.Act n) step o k is = as_possible step (steps.Act n) is (was_opened n o)
    possible (commands.Tick units) step o k is = as_possible step (steps.Tick units) is tt
    possible (commands.Expire shard) step o k is = as_possible step (steps.Expire shard) is (let named : shard < shards = ltb-true shard shards k in omega (arith, named, few))
    possible commands.Reload step o k is = as_possible step (steps.Reload is.1) is.3 tt
    possible commands.Stats step o k is = as_possible step steps.Stats is tt

-- ---- entries

-- a command that keeps a fault opens nothing
opens_nothing : (content : Option Named) (name : List ℕ) (c : Command) (fault : LoadFault) → Keeps content name c fault → opens c ≡ []
opens_nothing content name commands.Reload fault h = refl
opens_nothing content name (commands.Open n) fault h = absurd h
opens_nothing content name (commands.Feed n bytes) fault h = absurd h
opens_nothing content name (commands.End n) fault h = absurd h
opens_nothing content name (commands.Act n) fault h = absurd h
opens_nothing content name (commands.Tick n) fault h = absurd h
opens_nothing content name (commands.Expire n) fault h = absurd h
opens_nothing content name commands.Stats fault h = absurd h

reads_more : (es : List Entry) (e : Entry) → failed_reads (es ++ e ∷ []) ≡ failed_reads es + failed_read_in e.shown
reads_more [] e = let zero : failed_reads [] ≡ 0 = refl in omega (arith, zero)
reads_more (d ∷ es) e = let more = reads_more es e in omega (arith, more)

turns_more : (content : Option Named) (name : List ℕ) (log : Log) (c : Command) (turn : Turn) → AreTurns content name log → IsTurn content name c turn → AreTurns content name (log ++ (c, turn) ∷ [])
turns_more content name [] c turn h is = (is, tt)
turns_more content name (e ∷ log) c turn h is = (h.0, turns_more content name log c turn h.1 is)

steps_more : (log : Log) (c : Command) (turn : Turn) → steps_of (log ++ (c, turn) ∷ []) ≡ steps_of log ++ steps_in turn
steps_more log c turn = flat_map-append (λ e. steps_in e.1) log ((c, turn) ∷ []) ∙ ap (λ l. steps_of log ++ l) (append-nil (steps_in turn))

-- a fault of reading is counted
pub counted : (fault : LoadFault) (before now : ℕ) → (is_read_fault fault ≡ true → Rose before now) → before ≤ now → RoseBy (failed_read fault) before now
counted fault before now rose grown = go (is_read_fault fault) refl
  where
    go : (b : Bool) → is_read_fault fault ≡ b → RoseBy (cond b 1 0) before now
    go true e = let more = rose e in omega (arith, more)
    go false e = omega (arith, grown)

-- a fault that is kept
pub kept_plan : {E : Type 0} (content : Option Named) (name : List ℕ) (fault : LoadFault) (before now : ℕ) (r : Result planning.Plan E) → Loads content name (Err fault) → RoseBy (failed_read fault) before now
    → IfOk r (λ plan. (plan ≡ plans.Kept fault) × (fault ≢ load_faults.NoMemory))
    → IfOk r (IsPlan content name commands.Reload) × IfOk r (λ plan. RoseBy (failed_read_by plan) before now)
kept_plan content name fault before now (Ok plan) loads rose h = (
  subst (IsPlan content name commands.Reload) (sym h.0) (h.1, loads),
  subst (λ p. RoseBy (failed_read_by p) before now) (sym h.0) rose,
)
kept_plan content name fault before now (Err e) loads rose h = (tt, tt)

-- ---- the run so far

-- over these commands it came to a world, and this is what it showed
pub record Playing (content : Option Named) (name : List ℕ) (size shards capacity : ℕ) (apps : Apps Shared) (past : List Command) (world : SharedView) (entries : List Entry) : Type 0 where
  pub first : World Shared
  pub opening : IsOpening size shards capacity apps first
  pub log : Log
  pub commands_are : map (λ e. e.0) log ≡ past
  pub turns : AreTurns content name log
  pub last : World Shared
  pub runs : Runs arc_value first (steps_of log) last
  pub entries_are : entries ≡ entries_of log
  pub stands : StandsFor world last
  pub peers : numbers last.peers ≡ opened_by past
  pub halls : length last.halls ≡ shards

module _ (content : Option Named) (name : List ℕ) (size shards capacity : ℕ) (apps : Apps Shared) where
  -- it begins
  pub begins : (world : SharedView) → Opens size shards capacity apps world → Playing content name size shards capacity apps [] world []
  begins world h = record {
    first = h.0;
    opening = h.1;
    log = [];
    commands_are = refl;
    turns = tt;
    last = h.0;
    runs = refl;
    entries_are = refl;
    stands = h.2;
    peers = ap numbers h.1.peers;
    halls = h.1.halls.count_is;
  }

  module _ (past : List Command) (world : SharedView) (entries : List Entry) (p : Playing content name size shards capacity apps past world entries) (c : Command)
      (ordered : is_in_order past c ≡ true) (known : names_shard shards c ≡ true) where
    may_step : (step : Step Shared) → Makes content name c step → can p.last step
    may_step step makes = possible p.last past shards p.peers content name (let count : length p.last.halls ≡ shards = p.halls in omega (arith, count)) c step ordered known makes

    -- the next command may be played
    pub may : MayPlay content name world c
    may step makes = record { state = p.last; stands = p.stands; possible = may_step step makes }

    -- what its turn comes to, from the world so far
    pub record Comes (turn : Turn) (new : SharedView) : Type 0 where
      pub last : World Shared
      pub runs : Runs arc_value p.first (steps_of p.log ++ steps_in turn) last
      pub stands : StandsFor new last
      pub peers : numbers last.peers ≡ numbers p.last.peers ++ opens c
      pub halls : length last.halls ≡ length p.last.halls

    comes : (turn : Turn) (new : SharedView) → IsTurn content name c turn → Turns world turn new → Comes turn new
    comes (made step seen) new is h =
        let m = h p.last p.stands (may_step step is) in
        record {
          last = m.0;
          runs = runs_more p.first (steps_of p.log) p.last m.0 step seen p.runs (may_step step is) m.1;
          stands = m.2;
          peers = opened_after content name p.last m.0 seen c step is m.1;
          halls = halls_after content name p.last m.0 seen c step is m.1;
        }
    comes (kept fault) new is h = record {
      last = p.last;
      runs = subst (λ l. Runs arc_value p.first l p.last) (sym (append-nil (steps_of p.log))) p.runs;
      stands = subst (λ (v : SharedView). StandsFor v p.last) (sym h) p.stands;
      peers = sym (append-nil (numbers p.last.peers)) ∙ ap (λ l. numbers p.last.peers ++ l) (sym (opens_nothing content name c fault is));
      halls = refl;
    }

    -- and the run goes on by it
    pub goes_on : (shown : showing.Shown) (new : SharedView) (now : List Entry) → HasPlayed content name world c shown new → now ≡ entries ++ entry_of c shown ∷ [] → Playing content name size shards capacity apps (past ++ c ∷ []) new now
    goes_on shown new now h is =
        let k = comes h.turn new h.is_turn h.turns in
        record {
          first = p.first;
          opening = p.opening;
          log = p.log ++ (c, h.turn) ∷ [];
          commands_are = map-append (λ e. e.0) p.log ((c, h.turn) ∷ []) ∙ ap (λ l. l ++ c ∷ []) p.commands_are;
          turns = turns_more content name p.log c h.turn p.turns h.is_turn;
          last = k.last;
          runs = subst (λ l. Runs arc_value p.first l k.last) (sym (steps_more p.log c h.turn)) k.runs;
          entries_are = is ∙ ((λ i. p.entries_are i ++ entry_of c (h.shown_is i) ∷ []) ∙ sym (map-append (λ e. entry_of e.0 (shown_in e.1)) p.log ((c, h.turn) ∷ [])));
          stands = k.stands;
          peers = k.peers ∙ (ap (λ l. l ++ opens c) p.peers ∙ (ap (λ l. opened_by past ++ l) (sym (append-nil (opens c))) ∙ sym (flat_map-append opens past (c ∷ []))));
          halls = k.halls ∙ p.halls;
        }

-- ---- the loop over the commands

-- a run over a prefix of the commands, of which the others may follow, and the count of faults from its beginning
pub record Played (content : Option Named) (name : List ℕ) (before now : ℕ) (size shards capacity : ℕ) (apps : Apps Shared) (all rest : List Command) (world : SharedView) (entries : List Entry) : Type 0 where
  pub past : List Command
  pub all_are : past ++ rest ≡ all
  pub playable : IsPlayable shards past rest
  pub playing : Playing content name size shards capacity apps past world entries
  pub reads : RoseBy (failed_reads entries) before now

module _ (content : Option Named) (name : List ℕ) (before : ℕ) (size shards capacity : ℕ) (apps : Apps Shared) (all : List Command) where
  pub starts : (world : SharedView) → Opens size shards capacity apps world → IsPlayable shards [] all → Played content name before before size shards capacity apps all all world []
  starts world opened playable = record { past = []; all_are = refl; playable = playable; playing = begins content name size shards capacity apps world opened; reads = let zero : failed_reads [] ≡ 0 = refl in omega (arith, zero) }

  module _ (now : ℕ) (rest more : List Command) (c : Command) (world : SharedView) (entries : List Entry) (next : rest ≡ c ∷ more) (p : Played content name before now size shards capacity apps all rest world entries) where
    playable_now : IsPlayable shards p.past (c ∷ more)
    playable_now = subst (IsPlayable shards p.past) next p.playable

    pub may_play : MayPlay content name world c
    may_play = may content name size shards capacity apps p.past world entries p.playing c playable_now.0 playable_now.1

    pub plays_on : (shown : showing.Shown) (new : SharedView) (added : List Entry) (end : ℕ) → HasPlayed content name world c shown new → added ≡ entries ++ entry_of c shown ∷ [] → RoseBy (failed_read_in shown) now end
        → Played content name before end size shards capacity apps all more new added
    plays_on shown new added end h is count = record {
      past = p.past ++ c ∷ [];
      all_are = append_assoc p.past (c ∷ []) more ∙ (ap (λ l. p.past ++ l) (sym next) ∙ p.all_are);
      playable = playable_now.2;
      playing = goes_on content name size shards capacity apps p.past world entries p.playing c playable_now.0 playable_now.1 shown new added h is;
      reads = let sum : failed_reads added ≡ failed_reads entries + failed_read_in shown = ap failed_reads is ∙ reads_more entries (entry_of c shown) in let so_far = p.reads in omega (arith, sum, so_far, count);
    }

-- it is over
pub ends : (content : Option Named) (name : List ℕ) (before now : ℕ) (limits : Limits) (apps : Apps Shared) (all rest : List Command) (world : SharedView) (entries : List Entry) → rest ≡ [] → Played content name before now limits.size limits.shards limits.capacity apps all rest world entries
    → Plays content name before now limits apps all entries
ends content name before now limits apps all rest world entries none p = record {
  first = p.playing.first;
  opens = p.playing.opening;
  log = p.playing.log;
  commands_are = p.playing.commands_are ∙ (sym (append-nil p.past) ∙ (ap (λ l. p.past ++ l) (sym none) ∙ p.all_are));
  turns = p.playing.turns;
  last = p.playing.last;
  runs = p.playing.runs;
  entries_are = p.playing.entries_are;
  reads = p.reads;
}
