use Rattle.std.proofs.Common.{◌≡◌, drop, map, take}
use Rattle.std.specs.List.{list_all}
use Rattle.std.specs.Str.{is_utf8}
use Rattle.command_line.proofs.words.texts_in.Given as goal

abbrev pub invariant-loop-word : goal.invariant-loop-word
invariant-loop-word l = record {
  taken : map (λ text. text.now) l.texts.items ≡ take l.word-index l.words;
  left : list_all is_utf8 (drop l.word-index l.words) ≡ list_all is_utf8 l.words;
}
