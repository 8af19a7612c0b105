-- The commands of a script follow one another in order.
use Rattle.std.proofs.Common.{◌≡◌, ℕ, Bool, true, false, not, cond, List, [], ◌∷◌, ◌++◌, length, position, Option, Some, None, Result, Ok, Err, refl, sym, ap, ◌∙◌, subst, append_assoc, arith, ◌+◌, ◌≤◌, nat_lt}
use Rattle.std.specs.List.{position_or_len, prefix_len}
use Rattle.std.proofs.lemmas.Bool.{ltb-false}
use Rattle.std.proofs.lemmas.List.{append-nil}
use Rattle.replay_text.specs.Commands.{command_of}
use Rattle.replay_text.specs.Script.{commands_from, in_order, is_in_order, lines_of, next, script, with_next}
use Rattle.std.specs.Prelude.{IfOk}
use Rattle.reports.specs.declared.faults.CommandFault as command
use Rattle.reports.specs.CommandFaults.{Tells}
use Rattle.replay_text.specs.Playable.{IsPlayable, names_shard}
use Rattle.agent_main.specs.Turns.{Command}
use Rattle.agent_main.specs.Replay.{in_script, known, unless_at}

abbrev InOrder : List Command → List Command → Type 0
InOrder past [] = Unit {0}
InOrder past (c ∷ rest) = (is_in_order past c ≡ true) × InOrder (past ++ c ∷ []) rest

ordered : (past : List Command) (o : Option Command) (c : Command) → in_order past o ≡ Some c → is_in_order past c ≡ true
ordered past None c e = absurd (let k : None ≡ Some c = e in cc)
ordered past (Some d) c e = go (is_in_order past d) refl
  where
    go : (b : Bool) → is_in_order past d ≡ b → is_in_order past c ≡ true
    go true t = let same : Some d ≡ Some c = sym (ap (λ b. cond b (Some d) None) t) ∙ e in let is : d ≡ c = cc in subst (λ z. is_in_order past z ≡ true) is t
    go false t = absurd (let none : None ≡ Some c = sym (ap (λ b. cond b (Some d) None) t) ∙ e in cc)

in_order_from : (past : List Command) (lines : List (List ℕ)) (found : List Command) → commands_from past lines ≡ Ok found → (rest : List Command) × (found ≡ past ++ rest) × InOrder past rest
in_order_from past [] found h = let is : past ≡ found = cc in ([], sym is ∙ sym (append-nil past), tt)
in_order_from past (line ∷ lines) found h = go (next past line) refl (λ c. in_order_from (past ++ c ∷ []) lines found)
  where
    go : (o : Option Command) → next past line ≡ o → ((c : Command) → commands_from (past ++ c ∷ []) lines ≡ Ok found → (rest : List Command) × (found ≡ (past ++ c ∷ []) ++ rest) × InOrder (past ++ c ∷ []) rest)
        → (rest : List Command) × (found ≡ past ++ rest) × InOrder past rest
    go None e more = absurd (let bad : Err (length past + 1) ≡ Ok found = sym (ap (with_next (λ now. commands_from now lines) past) e) ∙ h in cc)
    go (Some c) e more =
        let r = more c (sym (ap (with_next (λ now. commands_from now lines) past) e) ∙ h) in
        (c ∷ r.0, r.1 ∙ append_assoc past (c ∷ []) r.0, (ordered past (command_of line) c e, r.2))

-- ---- each names a shard that there is

abbrev EachPasses : (Command → Bool) → List Command → Type 0
EachPasses test [] = Unit {0}
EachPasses test (c ∷ cs) = (test c ≡ true) × EachPasses test cs

each_passes : (test : Command → Bool) (cs : List Command) → length cs ≤ prefix_len test cs → EachPasses test cs
each_passes test [] h = tt
each_passes test (c ∷ cs) h = go (test c) refl (each_passes test cs)
  where
    go : (b : Bool) → test c ≡ b → (length cs ≤ prefix_len test cs → EachPasses test cs) → (test c ≡ true) × EachPasses test cs
    go true e rest = let more : prefix_len test (c ∷ cs) ≡ 1 + prefix_len test cs = ap (λ b. cond b (1 + prefix_len test cs) 0) e in (e, rest (omega (arith, h, more)))
    go false e rest = absurd (let none : prefix_len test (c ∷ cs) ≡ 0 = ap (λ b. cond b (1 + prefix_len test cs) 0) e in omega (arith, h, none))

passes_twice : (test : Command → Bool) (cs : List Command) → EachPasses (λ c. not (not (test c))) cs → EachPasses test cs
passes_twice test [] h = tt
passes_twice test (c ∷ cs) h = (go (test c) h.0, passes_twice test cs h.1)
  where
    go : (b : Bool) → not (not b) ≡ true → b ≡ true
    go true e = refl
    go false e = e

each_known : (shards : ℕ) (found : List Command) → position (λ c. not (names_shard shards c)) found ≡ None → EachPasses (names_shard shards) found
each_known shards found h = passes_twice (names_shard shards) found (each_passes (λ c. not (not (names_shard shards c))) found few)
  where
    failing : Command → Bool
    failing c = not (names_shard shards c)

    few : length found ≤ position_or_len failing found
    few = go (nat_lt (position_or_len failing found) (length found)) refl
      where
        go : (b : Bool) → nat_lt (position_or_len failing found) (length found) ≡ b → length found ≤ position_or_len failing found
        go true e = absurd (let some : Some (position_or_len failing found) ≡ None = sym (ap (λ b. cond b (Some (position_or_len failing found)) None) e) ∙ h in cc)
        go false e = ltb-false (position_or_len failing found) (length found) e

both : (shards : ℕ) (past rest : List Command) → InOrder past rest → EachPasses (names_shard shards) rest → IsPlayable shards past rest
both shards past [] ordered known = tt
both shards past (c ∷ rest) ordered known = (ordered.0, known.0, both shards (past ++ c ∷ []) rest ordered.1 known.1)

known_playable : (shards : ℕ) (found : List Command) → InOrder [] found → (o : Option ℕ) → position (λ c. not (names_shard shards c)) found ≡ o → (a : List Command) → in_script (unless_at o found) ≡ Ok a → IsPlayable shards [] a
known_playable shards found ordered None none a h = let same : found ≡ a = cc in subst (IsPlayable shards []) same (both shards [] found ordered (each_known shards found none))
known_playable shards found ordered (Some place) some a h = cc

-- the commands of a text can be played
playable : (shards : ℕ) (text : List ℕ) (found a : List Command) → script text ≡ Ok found → in_script (known shards found) ≡ Ok a → IsPlayable shards [] a
playable shards text found a read h =
    let r = in_order_from [] (lines_of text) found read in
    known_playable shards found (subst (InOrder []) (sym r.1) r.2) (position (λ c. not (names_shard shards c)) found) refl a h

pub known_plays : (shards : ℕ) (text : List ℕ) (found : List Command) (r : Result (List Command) command.CommandFault) → script text ≡ Ok found → Tells r (in_script (known shards found)) → IfOk r (IsPlayable shards [])
known_plays shards text found (Ok a) read h = playable shards text found a read h
known_plays shards text found (Err e) read h = tt
