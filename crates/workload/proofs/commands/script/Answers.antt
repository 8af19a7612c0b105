use Rattle.std.proofs.Common.{◌≡◌, ℕ, ◌+◌, ◌-◌, ◌*◌, ◌++◌, List, [], ◌∙◌, ap, sym, append-nil, arith}
use Rattle.std.specs.List.{flat_map, range_with_len}
use Rattle.workload.specs.Draws.{after_steps, turn_of}
use Rattle.workload.specs.Turns.{turn_commands}
use Rattle.workload.specs.Workload.{openings, script}
use Rattle.replay_text.specs.declared.command.Command.{Command}
use Rattle.workload.specs.declared.turn.Turn.{Turn}
use Rattle.workload.proofs.Joined.{grown}
use Rattle.workload.proofs.Playable.{playable_is}
use Rattle.workload.proofs.commands.script.Goals as goal

none : (new made : List Command) → made ≡ [] → new ≡ made ++ openings → new ≡ openings ++ []
none new made empty is = is ∙ ap (λ (l : List Command). l ++ openings) empty ∙ sym (append-nil openings)

start : (seed held : ℕ) → held ≡ seed → held ≡ after_steps seed 0
unfolding after_steps
start seed held is = is

pub loop-past-init : goal.loop-past-init
loop-past-init c = record {
  so_far = none c.add_openings.new.commands c.new-commands.result c.new-commands.ensures c.in_ok-add_openings.ensures;
  held = start c.args.seed c.new-draws.result.held c.new-draws.ensures;
}

pub loop-past-preserved : goal.loop-past-preserved
loop-past-preserved c =
    let before : 6 * c.loop-past.past ≡ 6 * (c.loop-past.past + 1 - 1) = omega arith in
    let held = c.loop-past.invariant.held ∙ ap (λ (n : ℕ). after_steps c.args.seed n) before in
    let turn : c.drawn-turn.result ≡ turn_of c.args.seed (c.loop-past.past + 1) = c.drawn-turn.ensures.turn c.args.seed held in
    let after : 6 * (c.loop-past.past + 1 - 1) + 6 ≡ 6 * (c.loop-past.past + 1) = omega arith in
    record {
      so_far =
          grown (λ i. turn_commands (turn_of c.args.seed i)) openings c.loop-past.commands c.add_turn.new.commands 1 c.loop-past.past (c.loop-past.past + 1)
          c.loop-past.invariant.so_far (c.in_ok-add_turn.ensures ∙ ap (λ (t : Turn). c.loop-past.commands ++ turn_commands t) turn) (omega arith);
      held = c.drawn-turn.ensures.held c.args.seed held ∙ ap (λ (n : ℕ). after_steps c.args.seed n) after;
    }

whole : (seed past count : ℕ) (cs : List Command) → cs ≡ openings ++ flat_map (λ i. turn_commands (turn_of seed i)) (range_with_len 1 past) → past ≡ count → cs ≡ script seed count
unfolding script
whole seed past count cs so_far all = so_far ∙ ap (λ (n : ℕ). openings ++ flat_map (λ i. turn_commands (turn_of seed i)) (range_with_len 1 n)) all

pub returns-clause-commands : goal.returns-clause-commands
returns-clause-commands c = whole c.args.seed c.loop-past.past c.args.count c.loop-past.commands c.loop-past.invariant.so_far (omega arith)

pub returns-clause-playable : goal.returns-clause-playable
returns-clause-playable c =
    playable_is c.args.seed c.args.count c.loop-past.commands (whole c.args.seed c.loop-past.past c.args.count c.loop-past.commands c.loop-past.invariant.so_far (omega arith))
