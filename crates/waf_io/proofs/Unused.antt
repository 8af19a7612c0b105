-- Doors that were not used yet.
use Rattle.std.proofs.Common.{◌≡◌, ◌∙◌, ◌≤◌, ◌<◌, ◌-◌, ◌++◌, ◌∷◌, [], ℕ, List, map, refl, length, ap, suc, zero, sym, subst, arith, append_assoc, nat_le, false}
use Rattle.std.specs.List.{All, list_any}
use Rattle.std.proofs.lemmas.List.{append-nil, length-append, length-take-le}
use Rattle.std.proofs.lemmas.List.Elements.{All-append, All-cons, All-map, All-nil}
use Rattle.waf_io.specs.MemDoor.{copies, door_of, first_doors, FaultyPassing, IsUnused, IsUnusedFaulty, new_door, Passing}
use Rattle.waf_io.specs.declared.mem_doors.MemLane.{MemLane}

pub unused_made : {P : Type 0} (doors : List (Passing P)) (lanes : List (List P)) → doors ≡ map new_door lanes → All IsUnused doors
unused_made doors lanes made = subst (All IsUnused) (sym made) (All-map IsUnused new_door lanes (λ k d lt. (refl, refl, refl, refl)))

pub faulty_unused_made : {I O : Type 0} (doors : List (FaultyPassing (I × O))) (lanes : List (MemLane I O)) → doors ≡ map door_of lanes → All IsUnusedFaulty doors
faulty_unused_made doors lanes made = subst (All IsUnusedFaulty) (sym made) (All-map IsUnusedFaulty door_of lanes (λ k d lt. (refl, refl, refl, refl)))

-- one blank door more at the end, and one less to come
pub one_fewer : {D : Type 0} (door : D) (ready : List D) (count : ℕ) → length ready < count → (ready ++ door ∷ []) ++ copies (count - length (ready ++ door ∷ [])) door ≡ ready ++ copies (count - length ready) door
one_fewer door ready count lt =
    let longer = length-append ready (door ∷ []) in
    let n = count - length (ready ++ door ∷ []) in
    let fewer : count - length ready ≡ suc n = omega (arith, longer, lt) in
    append_assoc ready (door ∷ []) (copies n door) ∙ ap (λ (k : ℕ). ready ++ copies k door) (sym fewer)

pub no_more : {D : Type 0} (door : D) (ready : List D) (count : ℕ) → count ≤ length ready → ready ++ copies (count - length ready) door ≡ ready
no_more door ready count le =
    let none : count - length ready ≡ 0 = omega (arith, le) in
    ap (λ (k : ℕ). ready ++ copies k door) none ∙ append-nil ready

pub none_failed : {D : Type 0} (doors : List D) → list_any (λ d. nat_le 1 0) doors ≡ false
none_failed [] = refl
none_failed (d ∷ ds) = none_failed ds

pub all_and_one : {X : Type 0} (P : X → Type 0) (xs : List X) (x : X) → All P xs → P x → All P (xs ++ x ∷ [])
all_and_one P xs x all one = All-append P xs (x ∷ []) all (All-cons P x [] one (All-nil P))

pub length_copies : {D : Type 0} (n : ℕ) (door : D) → length (copies n door) ≡ n
length_copies zero door = refl
length_copies (suc n) door = ap suc (length_copies n door)

-- the first doors of enough are as many as were asked for
pub enough : {D : Type 0} (door : D) (ready : List D) (count : ℕ) → count ≤ length (ready ++ copies (count - length ready) door)
enough door ready count =
    let total = length-append ready (copies (count - length ready) door) in
    let more = length_copies (count - length ready) door in
    omega (arith, total, more)

pub all_copies : {D : Type 0} (P : D → Type 0) (n : ℕ) (door : D) → P door → All P (copies n door)
all_copies P zero door is = All-nil P
all_copies P (suc n) door is = All-cons P door (copies n door) is (all_copies P n door is)

pub length_first : {D : Type 0} (door : D) (ready : List D) (count : ℕ) → length (first_doors door ready count) ≡ count
length_first door ready count =
    length-take-le count (ready ++ copies (count - length ready) door) (enough door ready count)
