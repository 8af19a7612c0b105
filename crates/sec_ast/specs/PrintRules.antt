-- Rules as they are written: a line for each link.
use Rattle.std.specs.Prelude.{ℕ, Bool, true, false, List, [], ◌∷◌, ◌++◌, codes, if◌then◌else◌}
use Rattle.std.specs.List.{join_with_byte}
use Rattle.sec_ast.specs.PrintActions.{link_pieces, rule_pieces}
use Rattle.sec_ast.specs.PrintOperators.{operator_text}
use Rattle.sec_ast.specs.PrintTargets.{targets_text}
use Rattle.sec_ast.specs.PrintTexts.{line_of}
use Rattle.sec_ast.specs.declared.link.Link.{Link}
use Rattle.sec_ast.specs.declared.rule.Rule.{Rule}
use Rattle.sec_text.specs.declared.characters.TheConstants.{COMMA}

-- an action list without actions is no word of SecRule; SecAction has an action without effect then
abbrev pub condition_words : Link → List ℕ → List (List ℕ)
condition_words link [] = targets_text link.targets ∷ operator_text link.negated link.op ∷ []
condition_words link (b ∷ actions) = targets_text link.targets ∷ operator_text link.negated link.op ∷ (b ∷ actions) ∷ []

abbrev pub action_word : List ℕ → List ℕ
action_word [] = codes "severity:0"
action_word (b ∷ actions) = b ∷ actions

unfoldable pub link_line : Link → List ℕ → List ℕ
link_line link actions =
    if link.always then line_of (codes "SecAction") (action_word actions ∷ [])
    else line_of (codes "SecRule") (condition_words link actions)

abbrev pub is_more : List Link → Bool
is_more [] = false
is_more (link ∷ links) = true

-- the lines of some links, the first of which has these pieces before its own
unfoldable pub lines_behind : List (List ℕ) → List Link → List ℕ
lines_behind pieces [] = []
lines_behind pieces (link ∷ links) =
    link_line link (join_with_byte COMMA (pieces ++ link_pieces link (is_more links))) ++ lines_behind [] links

abbrev pub rule_text : Rule → List ℕ
rule_text rule = lines_behind (rule_pieces rule) rule.links
