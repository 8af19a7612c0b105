-- The agent's command line, as clap's definition of a command line sees it.
use Rattle.std.specs.Prelude.{ℕ, List, Some, codes, true}
use Rattle.clap.specs.Words.{App, Rule, new_app, new_rule, with_rule, with_subcommand}
use Rattle.clap.specs.declared.builder.action.ArgAction.TheVariants.{SetTrue}
use Rattle.command_line.specs.declared.names.TheConstants.{CHECK, CONF, COUNT, GENERATE, ONCE, PLAIN, REPLAY, RULES, SEED, SERVE}

-- one word that has to be there
abbrev pub positional : List ℕ → Rule
positional id = record (new_rule id) { required = true }

-- `--id`, which may be there
abbrev pub flag : List ℕ → Rule
flag id = record (new_rule id) { long = Some id; action = Some SetTrue }

abbrev pub check : App
check = with_rule (new_app CHECK.now) (positional CONF.now)

abbrev pub once : App
once = with_rule (new_app ONCE.now) (positional RULES.now)

abbrev pub replay : App
replay = with_rule (with_rule (new_app REPLAY.now) (flag PLAIN.now)) (positional CONF.now)

abbrev pub generate : App
generate = with_rule (with_rule (new_app GENERATE.now) (positional SEED.now)) (positional COUNT.now)

abbrev pub serve : App
serve = with_rule (new_app SERVE.now) (positional CONF.now)

-- no help and no version of clap's own, and a subcommand has to be there
abbrev pub empty_agent : App
empty_agent = let app = new_app (codes "agent") in record app {
  top = record (app.top) {
    no_binary_name = true;
    disable_help_flag = true;
    disable_version_flag = true;
    disable_help_subcommand = true;
    subcommand_required = true;
  };
}

abbrev pub agent : App
agent = with_subcommand (with_subcommand (with_subcommand (with_subcommand (with_subcommand empty_agent
    check.top) once.top) replay.top) generate.top) serve.top
