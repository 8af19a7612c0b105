-- The first line of a script, and what stands behind it.
use Rattle.std.proofs.Common.{◌≡◌, ℕ, ◌+◌, ◌<◌, ◌≤◌, List, [], ◌∷◌, ◌++◌, length, refl, sym, ap, ◌∙◌, arith, Option, Some, None, Err}
use Rattle.std.specs.List.{join_with_byte}
use Rattle.std.specs.Option.{unwrap_or}
use Rattle.std.proofs.lemmas.List.{length-append}
use Rattle.std.proofs.lemmas.List.Splits.{join_with_byte-slice_split}
use Rattle.web_parts.specs.Pieces.{before, behind, pieces}
use Rattle.web_parts.proofs.Cuts.{pieces_cut, pieces_in}
use Rattle.replay_text.specs.Script.{commands_from, lines_of, next, with_next, without_empty_end}
use Rattle.replay_text.specs.declared.command.Command.{Command}

alone : (line : List ℕ) → (line ≡ [] → ⊥) → without_empty_end (line ∷ []) ≡ line ∷ []
alone [] some = absurd (some refl)
alone (b ∷ line) some = refl

among : (line other : List ℕ) (lines : List (List ℕ)) → without_empty_end (line ∷ other ∷ lines) ≡ line ∷ without_empty_end (other ∷ lines)
among [] other lines = refl
among (b ∷ line) other lines = refl

-- where nothing stands behind the first piece, it is the whole
whole : (text : List ℕ) → pieces 10 text ≡ before 10 text ∷ [] → before 10 text ≡ text
whole text one = sym (ap (join_with_byte 10) one) ∙ join_with_byte-slice_split 10 text

pub first_line : (text : List ℕ) (rest : Option (List ℕ)) → behind 10 text ≡ rest → (text ≡ [] → ⊥) → lines_of text ≡ before 10 text ∷ lines_of (unwrap_or rest [])
first_line text None is some =
    let one : pieces 10 text ≡ before 10 text ∷ [] = pieces_cut 10 text ∙ ap (λ (o : Option (List ℕ)). before 10 text ∷ pieces_in 10 o) is in
    ap without_empty_end one ∙ alone (before 10 text) (λ none. some (sym (whole text one) ∙ none))
first_line text (Some rest) is some =
    ap without_empty_end (pieces_cut 10 text ∙ ap (λ (o : Option (List ℕ)). before 10 text ∷ pieces_in 10 o) is ∙ ap (λ (l : List (List ℕ)). before 10 text ∷ l) (pieces_cut 10 rest))
    ∙ among (before 10 text) (before 10 rest) (pieces_in 10 (behind 10 rest))
    ∙ ap (λ (l : List (List ℕ)). before 10 text ∷ without_empty_end l) (sym (pieces_cut 10 rest))

-- a line that is no command here is the first bad one
pub stops : (past : List Command) (text line rest : List ℕ) (n : ℕ) →
    lines_of text ≡ line ∷ lines_of rest → None ≡ next past line → n ≡ length past → commands_from past (lines_of text) ≡ Err (n + 1)
stops past text line rest n first none n_is =
    ap (commands_from past) first
    ∙ ap (with_next (λ (now : List Command). commands_from now (lines_of rest)) past) (sym none)
    ∙ ap (λ (k : ℕ). Err (k + 1)) (sym n_is)

-- a line that is a command adds it
pub goes_on : (past : List Command) (command : Command) (text line rest : List ℕ) →
    lines_of text ≡ line ∷ lines_of rest → Some command ≡ next past line → commands_from past (lines_of text) ≡ commands_from (past ++ command ∷ []) (lines_of rest)
goes_on past command text line rest first is =
    ap (commands_from past) first ∙ ap (with_next (λ (now : List Command). commands_from now (lines_of rest)) past) (sym is)

pub still_room : (past : List Command) (command : Command) (text rest whole : List ℕ) →
    length past + length text ≤ length whole → length rest < length text → length (past ++ command ∷ []) + length rest ≤ length whole
still_room past command text rest whole within shorter = omega (arith, within, shorter, length-append past (command ∷ []))
