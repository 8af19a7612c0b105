-- The loop over the pieces of a phrase, whose bytes are joined as they are read.
use Rattle.std.proofs.Common.{◌≡◌, ℕ, suc, ◌<◌, List, [], ◌∷◌, ◌++◌, length, Some, None, Result, Ok, refl, ap, ◌∙◌, sym, arith}
use Rattle.std.specs.List.{concat}
use Rattle.sec_text.specs.Readers.{repeat}
use Rattle.sec_parts.specs.declared.faults.Bad.{Bad}
use Rattle.sec_parts.specs.declared.faults.Refusal.{Refusal}
use Rattle.sec_parts.specs.declared.faults.Refusal.TheVariants as refusals
use Rattle.sec_parts.specs.Results.{◌>>=◌, Refuses}
use Rattle.sec_parts.specs.Phrases.{phrase, phrase_part}
use Rattle.sec_parts.proofs.Loops.{Goes, starts, goes_on, stops, ends}
use Rattle.sec_parts.proofs.WordLaws.{concat_push}

abbrev pub pieces_of : List ℕ → Result (List (List ℕ)) Bad
pieces_of word = repeat (phrase_part word) (suc (length word)) word

-- the bytes so far are those of some pieces, and what is left gives the others
pub record Reads (word bytes rest : List ℕ) : Type 0 where
  pub pieces : List (List ℕ)
  pub joined : bytes ≡ concat pieces
  pub goes : Goes (phrase_part word) (λ rest. length rest) rest pieces (pieces_of word)

pub reads_nothing : (word : List ℕ) → Reads word [] word
reads_nothing word = record { pieces = []; joined = refl; goes = starts (phrase_part word) (λ rest. length rest) (suc (length word)) word (omega arith) }

pub reads_more : (word bytes rest part after : List ℕ) → Reads word bytes rest → phrase_part word rest ≡ Ok (Some (part, after)) → length after < length rest → Reads word (bytes ++ part) after
reads_more word bytes rest part after r step less = record {
  pieces = r.pieces ++ part ∷ [];
  joined = ap (λ (l : List ℕ). l ++ part) r.joined ∙ sym (concat_push r.pieces part);
  goes = goes_on (phrase_part word) (λ rest. length rest) rest after r.pieces part (pieces_of word) r.goes step less;
}

refuses-bind : {A B : Type 0} (e : Refusal) (r : Result A Bad) (f : A → Result B Bad) → Refuses e r → Refuses e (r >>= f)
refuses-bind refusals.NoMemory r f h = tt
refuses-bind (refusals.Bad bad) r f h = ap (λ x. x >>= f) h

pub reads_stops : (e : Refusal) (word bytes rest : List ℕ) → Reads word bytes rest → Refuses e (phrase_part word rest) → Refuses e (phrase word)
unfolding phrase
reads_stops e word bytes rest r h =
    refuses-bind e (pieces_of word) (λ pieces. Ok (concat pieces)) (stops (phrase_part word) (λ rest. length rest) e rest r.pieces (pieces_of word) r.goes h)

pub reads_ends : (word bytes rest : List ℕ) → Reads word bytes rest → phrase_part word rest ≡ Ok None → phrase word ≡ Ok bytes
unfolding phrase
reads_ends word bytes rest r last =
    let whole : pieces_of word ≡ Ok r.pieces = ends (phrase_part word) (λ rest. length rest) rest r.pieces (pieces_of word) r.goes last in
    ap (λ (x : Result (List (List ℕ)) Bad). x >>= λ pieces. Ok (concat pieces)) whole ∙ ap (λ (l : List ℕ). Ok l) (sym r.joined)
