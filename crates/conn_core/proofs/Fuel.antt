-- More frames allowed change nothing of what was decided.
use Rattle.std.proofs.Common.{◌≡◌, ℕ, zero, suc, ◌<◌, Bool, Option, List, ◌++◌, length, refl, arith}
use Rattle.spop_frame.specs.Head.{Head, NotYet, Bad, Whole, head_of}
use Rattle.spop_frame.specs.declared.frame.Frame.{Frame}
use Rattle.conn_core.specs.Trace.{Need, Reply, at_head, any_frame, frames, needs_from, limit_of}
use Rattle.conn_core.proofs.Heads.{shorter, whole_more}

module _ {R P T : Type 0} where
  at_same : (size : ℕ) (agreed : Option ℕ) (k j : List ℕ → Option ℕ → List (Reply R P T) → List (Need R P T)) (ended : Bool) (unread : List ℕ) (h : Head) (replies : List (Reply R P T))
      → ((f : Frame) (r : List ℕ) → h ≡ Whole f r → (a : Option ℕ) (l : List (Reply R P T)) → k r a l ≡ j r a l)
      → at_head size agreed k ended unread h replies ≡ at_head size agreed j ended unread h replies
  at_same size agreed k j ended unread NotYet replies same = refl
  at_same size agreed k j ended unread (Bad s) replies same = refl
  at_same size agreed k j ended unread (Whole f r) replies same =
      (λ i. any_frame size agreed (λ a l. same f r refl a l i) f replies)

  pub enough : (m n size : ℕ) (agreed : Option ℕ) (unread : List ℕ) (ended : Bool) (replies : List (Reply R P T)) → length unread < m → length unread < n
      → frames m size agreed unread ended replies ≡ frames n size agreed unread ended replies
  enough zero n size agreed unread ended replies a b = absurd (omega (arith, a))
  enough (suc m) zero size agreed unread ended replies a b = absurd (omega (arith, b))
  enough (suc m) (suc n) size agreed unread ended replies a b =
      at_same size agreed (λ rest now later. frames m size now rest ended later) (λ rest now later. frames n size now rest ended later) ended unread (head_of (limit_of size agreed) unread) replies
      (λ f r e now later. let lt = shorter (limit_of size agreed) unread f r e in enough m n size now r ended later (omega (arith, lt, a)) (omega (arith, lt, b)))

  -- where a frame stands at the head
  pub at_whole : (size : ℕ) (agreed : Option ℕ) (unread more : List ℕ) (ended : Bool) (f : Frame) (r : List ℕ) (replies : List (Reply R P T)) → head_of (limit_of size agreed) unread ≡ Whole f r
      → needs_from size agreed (unread ++ more) ended replies ≡ any_frame size agreed (λ a. needs_from size a (r ++ more) ended) f replies
  at_whole size agreed unread more ended f r replies e =
      let w = whole_more (limit_of size agreed) unread more f r e in
      let lt = shorter (limit_of size agreed) (unread ++ more) f (r ++ more) w in
      rw w (λ i. any_frame size agreed (λ a l. enough (length (unread ++ more)) (suc (length (r ++ more))) size a (r ++ more) ended l (omega (arith, lt)) (omega arith) i) f replies)
