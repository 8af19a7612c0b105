use Rattle.std.proofs.Common.{◌≡◌, ◌+◌, ◌∷◌, ◌++◌, [], drop, refl, sym, ap, ◌∙◌, Option, subst}
use Rattle.std.proofs.lemmas.List.{drop_all, drop_more}
use Rattle.sec_read.specs.FileWords.{Named}
use Rattle.agent_main.specs.Playing.{HasPlayed, MayPlay}
use Rattle.agent_main.specs.Turns.{Command}
use Rattle.agent_main.proofs.Runs.{ends, may_play, plays_on, starts}
use Rattle.agent_main.proofs.playing.played.Goals as goal

pub loop-command-init : goal.loop-command-init
loop-command-init g c =
    let files = g.F.Files in
    let limits = c.args.limits in
    let init = starts (files.content c.args.files.now) c.args.name.now (files.faults c.args.files.now) limits.size limits.shards limits.capacity c.args.apps c.args.commands.now c.in_ok-world.world c.in_ok-world.ensures c.requires.playable in
    record { same = refl; played = rw c.new-entries.ensures init }

pub play-requires : goal.play-requires
play-requires g c =
    let files = g.F.Files in
    let limits = c.args.limits in
    let i = c.loop-command.command-index in
    let command = c.command-item.result in
    let all = c.args.commands.now in
    let next : drop i all ≡ command ∷ drop (i + 1) all =
    drop_more all i command c.loop-command-test.true ∙ ap (λ (k : Command). k ∷ drop (i + 1) all) (sym c.command-item.is) in
    let may =
    may_play (files.content c.args.files.now) c.args.name.now (files.faults c.args.files.now) limits.size limits.shards limits.capacity c.args.apps all (files.faults c.loop-command.files) (drop i all) (drop (i + 1) all) command c.loop-command.world c.loop-command.entries next c.loop-command.invariant.played in
    subst (λ (content : Option Named). MayPlay content c.args.name.now c.loop-command.world command) (sym c.loop-command.invariant.same) may

pub loop-command-preserved : goal.loop-command-preserved
loop-command-preserved g c =
    let files = g.F.Files in
    let limits = c.args.limits in
    let i = c.loop-command.command-index in
    let command = c.command-item.result in
    let all = c.args.commands.now in
    let next : drop i all ≡ command ∷ drop (i + 1) all =
    drop_more all i command c.loop-command-test.true ∙ ap (λ (k : Command). k ∷ drop (i + 1) all) (sym c.command-item.is) in
    let turn = subst (λ (content : Option Named). HasPlayed content c.args.name.now c.loop-command.world command c.in_ok-shown.shown c.play.new.world) c.loop-command.invariant.same c.in_ok-shown.ensures.turn in
    record {
      same = c.in_ok-shown.ensures.same ∙ c.loop-command.invariant.same;
      played =
          plays_on (files.content c.args.files.now) c.args.name.now (files.faults c.args.files.now) limits.size limits.shards limits.capacity c.args.apps all (files.faults c.loop-command.files) (drop i all) (drop (i + 1) all) command c.loop-command.world c.loop-command.entries next c.loop-command.invariant.played
          c.in_ok-shown.shown c.play.new.world c.push.new.self (files.faults c.play.new.files) turn (c.in_ok-push.ensures.ok ∙ ap (λ e. c.loop-command.entries ++ e ∷ []) c.entry_of.ensures) c.in_ok-shown.ensures.reads;
    }

pub returns : goal.returns
returns g c =
    let files = g.F.Files in
    let i = c.loop-command.command-index in
    let all = c.args.commands.now in
    let none : drop i all ≡ [] = drop_all i all c.loop-command-test.false in
    ends (files.content c.args.files.now) c.args.name.now (files.faults c.args.files.now) (files.faults c.loop-command.files) c.args.limits c.args.apps all (drop i all) c.loop-command.world c.loop-command.entries none c.loop-command.invariant.played
