-- A step leaves the other connections as they were.
use Rattle.std.proofs.Common.{◌≡◌, ◌≢◌, ℕ, Bool, true, false, cond, nat_eq, List, [], ◌∷◌, ◌++◌, find, Some, None, refl, sym, ap, ◌∙◌, subst, arith, tests}
use Rattle.sec_ast.specs.declared.listing.Listing.{Listing}
use Rattle.conn_core.specs.declared.seen.Seen.{Seen}
use Rattle.world_core.specs.declared.step.Step.{Step}
use Rattle.world_core.specs.declared.step.Step.TheVariants.{Open, Feed, End, Act, Tick, Expire, Reload, Stats}
use Rattle.world_core.specs.World.{Conn, Has, Peer, World, is_peer, sent, shut, with_conn}
use Rattle.conn_core.specs.Stands.{opening}
use Rattle.world_core.specs.Steps.{Steps}
use Rattle.world_core.specs.Promised.{IsElsewhere}

found_before : (test : Peer → Bool) (xs ys : List Peer) (x : Peer) → find test xs ≡ Some x → find test (xs ++ ys) ≡ Some x
found_before test [] ys x e = absurd (let k : None ≡ Some x = e in cc)
found_before test (y ∷ rest) ys x e = go (test y) refl (found_before test rest ys x)
  where
    go : (b : Bool) → test y ≡ b → (find test rest ≡ Some x → find test (rest ++ ys) ≡ Some x) → find test (y ∷ (rest ++ ys)) ≡ Some x
    go true t rec = ap (λ b. cond b (Some y) (find test (rest ++ ys))) t ∙ (sym (ap (λ b. cond b (Some y) (find test rest)) t) ∙ e)
    go false t rec = ap (λ b. cond b (Some y) (find test (rest ++ ys))) t ∙ rec (sym (ap (λ b. cond b (Some y) (find test rest)) t) ∙ e)

apart : (k m n : ℕ) → m ≢ n → nat_eq k m ≡ true → nat_eq k n ≡ false
apart k m n ne e = grind (arith, tests)

pub found_else : (m n : ℕ) (s : Conn) (xs : List Peer) → m ≢ n → find (is_peer n) (with_conn m s xs) ≡ find (is_peer n) xs
found_else m n s [] ne = refl
found_else m n s (y ∷ rest) ne = go (is_peer m y) (is_peer n y) refl refl (found_else m n s rest ne)
  where
    go : (a b : Bool) → is_peer m y ≡ a → is_peer n y ≡ b → find (is_peer n) (with_conn m s rest) ≡ find (is_peer n) rest
        → find (is_peer n) (cond (is_peer m y) (record { number = y.number; conn = s } ∷ rest) (y ∷ with_conn m s rest)) ≡ find (is_peer n) (y ∷ rest)
    go true b p q rec =
        let no : is_peer n y ≡ false = apart y.number m n ne p in
        ap (λ c. find (is_peer n) (cond c (record { number = y.number; conn = s } ∷ rest) (y ∷ with_conn m s rest))) p
        ∙ (ap (λ c. cond c (Some (record { number = y.number; conn = s })) (find (is_peer n) rest)) no ∙ sym (ap (λ c. cond c (Some y) (find (is_peer n) rest)) no))
    go false b p q rec =
        ap (λ c. find (is_peer n) (cond c (record { number = y.number; conn = s } ∷ rest) (y ∷ with_conn m s rest))) p
        ∙ ap (λ f. cond (is_peer n y) (Some y) f) rec

-- the one that changed is found changed
pub found_changed : (n : ℕ) (s : Conn) (xs : List Peer) (x : Peer) → find (is_peer n) xs ≡ Some x → find (is_peer n) (with_conn n s xs) ≡ Some (record { number = x.number; conn = s })
found_changed n s [] x e = absurd (let k : None ≡ Some x = e in cc)
found_changed n s (y ∷ rest) x e = go (is_peer n y) refl (found_changed n s rest x)
  where
    go : (b : Bool) → is_peer n y ≡ b → (find (is_peer n) rest ≡ Some x → find (is_peer n) (with_conn n s rest) ≡ Some (record { number = x.number; conn = s }))
        → find (is_peer n) (cond (is_peer n y) (record { number = y.number; conn = s } ∷ rest) (y ∷ with_conn n s rest)) ≡ Some (record { number = x.number; conn = s })
    go true p rec =
        let one : Some y ≡ Some x = sym (ap (λ c. cond c (Some y) (find (is_peer n) rest)) p) ∙ e in let is : y ≡ x = cc in
        ap (λ c. find (is_peer n) (cond c (record { number = y.number; conn = s } ∷ rest) (y ∷ with_conn n s rest))) p
        ∙ (ap (λ c. cond c (Some (record { number = y.number; conn = s })) (find (is_peer n) rest)) p ∙ ap (λ z. Some (record { number = z.number; conn = s })) is)
    go false p rec =
        ap (λ c. find (is_peer n) (cond c (record { number = y.number; conn = s } ∷ rest) (y ∷ with_conn n s rest))) p
        ∙ (ap (λ c. cond c (Some y) (find (is_peer n) (with_conn n s rest))) p ∙ rec (sym (ap (λ c. cond c (Some y) (find (is_peer n) rest)) p) ∙ e))

has_else : (m n : ℕ) (t s : Conn) (peers : List Peer) → m ≢ n → Has peers n s → Has (with_conn m t peers) n s
has_else m n t s peers ne h = record { peer = h.peer; found = found_else m n t peers ne ∙ h.found; conn = h.conn }

module _ {R : Type 0} (listing_of : R → Listing) where
  pub others_stay : (w : World R) (step : Step R) (u : World R) (seen : Seen) (n : ℕ) (s : Conn) → Steps listing_of w step u seen → IsElsewhere step n → Has w.peers n s → Has u.peers n s
  others_stay w (Open m) u seen n s h ne has = subst (λ (z : World R). Has z.peers n s) (sym h.0)
      (record { peer = has.peer; found = found_before (is_peer n) w.peers (record { number = m; conn = opening w.size } ∷ []) has.peer has.found; conn = has.conn })
  others_stay w (Feed m bytes) u seen n s h ne has = subst (λ (z : World R). Has z.peers n s) (sym h.2) (has_else m n (sent bytes h.0) s w.peers ne has)
  others_stay w (End m) u seen n s h ne has = subst (λ (z : World R). Has z.peers n s) (sym h.2) (has_else m n (shut h.0) s w.peers ne has)
  others_stay w (Act m) u seen n s h ne has = subst (λ (z : World R). Has z.peers n s) (sym h.state) (has_else m n h.next s w.peers ne has)
  others_stay w (Tick units) u seen n s h ne has = subst (λ (z : World R). Has z.peers n s) (sym h.0) has
  others_stay w (Expire shard) u seen n s h ne has = subst (λ (z : World R). Has z.peers n s) (sym h.3) has
  others_stay w (Reload apps) u seen n s h ne has = subst (λ (z : World R). Has z.peers n s) (sym h.2) has
  others_stay w Stats u seen n s h ne has = subst (λ (z : World R). Has z.peers n s) (sym h.0) has
