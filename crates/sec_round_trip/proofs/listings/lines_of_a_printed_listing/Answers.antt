use Rattle.std.proofs.Common.{List, map, ◌∙◌, ap}
use Rattle.sec_text.specs.Lines.{logical}
use Rattle.sec_text.specs.Words.{words}
use Rattle.sec_text.specs.declared.line.Line.{Line}
use Rattle.sec_round_trip.specs.Directives.{directive_line, directives_of}
use Rattle.sec_round_trip.proofs.Directives.{all_fit, lines_whole, words_are}
use Rattle.sec_round_trip.proofs.listings.lines_of_a_printed_listing.Goals as goal

pub returns-clause-lines : goal.returns-clause-lines
returns-clause-lines c = λ listing printable.
    ap logical (c.printed_directives.ensures listing) ∙ c.written_lines_are_read.ensures (map directive_line (directives_of listing)) (lines_whole (directives_of listing) (all_fit listing) printable)

pub returns-clause-words : goal.returns-clause-words
returns-clause-words c = λ listing printable.
    ap (λ (l : List Line). map (λ line. words line.text) l) (returns-clause-lines c listing printable)
    ∙ words_are c.words_of_a_printed_line.ensures 1 (directives_of listing) (all_fit listing) printable
