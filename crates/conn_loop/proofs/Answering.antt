-- Needs that a host was asked for, one after another.
use Rattle.std.proofs.Common.{◌≡◌, inl, inr, ℕ, Bool, true, false, List, [], ◌∷◌, ◌++◌, length, refl, sym, ◌∙◌, ap, subst, append_assoc}
use Rattle.std.proofs.lemmas.List.{append-nil}
use Rattle.conn_core.specs.Trace.{Need, Needs, Look, Replies, Retire}
use Rattle.conn_loop.specs.Answered.{Step, Answered, Hosted, IsAsked, Starved, Takes, due, in_full}

module _ {R P T : Type 0} where
  asked_more : (unreplied asked : Needs R P T) (n : Need R P T) → IsAsked unreplied asked → IsAsked (unreplied ++ n ∷ []) (asked ++ n ∷ [])
  asked_more unreplied asked n (inl is) = inl (ap (λ (l : Needs R P T). l ++ n ∷ []) is)
  asked_more unreplied asked n (inr (inl is)) = inr (inl (is.0, ap (λ (l : Needs R P T). l ++ n ∷ []) is.1))
  asked_more unreplied asked n (inr (inr is)) = inr (inr (is.0, ap (λ (l : Needs R P T). l ++ n ∷ []) is.1))

module _ {R P T Desk : Type 0} where
  pub answered_both : (serves : Step R P T Desk) (a b c : Desk) (xs ys : Needs R P T) (rs ss : Replies R P T)
      → Answered serves a xs rs b → Answered serves b ys ss c → Answered serves a (xs ++ ys) (rs ++ ss) c
  answered_both serves a b c [] ys rs ss x y =
      subst (λ (l : Replies R P T). Answered serves a ys (l ++ ss) c) (sym x.0) (subst (λ (d : Desk). Answered serves d ys ss c) x.1 y)
  answered_both serves a b c (n ∷ xs) ys rs ss x y = (
    x.0,
    x.1,
    x.2 ++ ss,
    ap (λ (l : Replies R P T). l ++ ss) x.3 ∙ append_assoc x.0 x.2 ss,
    x.4,
    answered_both serves x.1 b c xs ys x.2 ss x.5 y,
  )

  pub answered_one : (serves : Step R P T Desk) (a b : Desk) (n : Need R P T) (mine : Replies R P T) → Takes serves a n mine b → Answered serves a (n ∷ []) mine b
  answered_one serves a b n mine step = (mine, b, [], sym (append-nil mine), step, (refl, refl))

  -- one need more
  pub answered_more : (serves : Step R P T Desk) (a b c : Desk) (past : Needs R P T) (replies : Replies R P T) (n : Need R P T) (mine : Replies R P T)
      → Answered serves a past replies b → Takes serves b n mine c → Answered serves a (past ++ n ∷ []) (replies ++ mine) c
  answered_more serves a b c past replies n mine x step = answered_both serves a b c past (n ∷ []) replies mine x (answered_one serves b c n mine step)

  -- each was replied to, and memory may have run out since
  pub hosted_full : (d : Bool) (serves : Step R P T Desk) (a b : Desk) (past : Needs R P T) (replies : Replies R P T)
      → Answered (in_full serves) a past replies b → Hosted d serves a past replies b
  hosted_full false serves a b past replies x = x
  hosted_full true serves a b past replies x = record {
    replied = past;
    unreplied = [];
    past_is = sym (append-nil past);
    mid = b;
    answered = x;
    asked = [];
    asked_is = inl refl;
    unanswered = (refl, refl);
  }

  -- it is whole, so each was
  pub in_full_at : (d : Bool) (serves : Step R P T Desk) (a b : Desk) (past : Needs R P T) (replies : Replies R P T)
      → d ≡ false → Hosted d serves a past replies b → Answered (in_full serves) a past replies b
  in_full_at d serves a b past replies whole x = subst (λ (d : Bool). Hosted d serves a past replies b) whole x

  -- a need that memory ran out at
  pub starved_by : (serves : Step R P T Desk) (a b c : Desk) (past : Needs R P T) (replies : Replies R P T) (n : Need R P T)
      → Answered (in_full serves) a past replies b → Takes serves b n [] c → Starved serves a (past ++ n ∷ []) replies c
  starved_by serves a b c past replies n x step = record {
    replied = past;
    unreplied = n ∷ [];
    past_is = refl;
    mid = b;
    answered = x;
    asked = n ∷ [];
    asked_is = inl refl;
    unanswered = answered_one serves b c n [] step;
  }

  -- a Look that memory ran out at, which is not done
  pub starved_at_look : (serves : Step R P T Desk) (a b c : Desk) (past : Needs R P T) (replies : Replies R P T) (app : List ℕ)
      → Answered (in_full serves) a past replies b → serves b (Look app) [] c → Starved serves a past replies c
  starved_at_look serves a b c past replies app x step = record {
    replied = past;
    unreplied = [];
    past_is = sym (append-nil past);
    mid = b;
    answered = x;
    asked = Look app ∷ [];
    asked_is = inr (inl (app, refl));
    unanswered = answered_one serves b c (Look app) [] step;
  }

  -- a Retire that memory ran out at, which the host did nothing for
  pub starved_at_retire : (serves : Step R P T Desk) (a b : Desk) (past : Needs R P T) (replies : Replies R P T) (half : P)
      → Answered (in_full serves) a past replies b → Starved serves a (past ++ Retire half ∷ []) replies b
  starved_at_retire serves a b past replies half x = record {
    replied = past;
    unreplied = Retire half ∷ [];
    past_is = refl;
    mid = b;
    answered = x;
    asked = [];
    asked_is = inr (inr (half, refl));
    unanswered = (refl, refl);
  }

  -- a need after that, to which no reply is due
  starved_more : (serves : Step R P T Desk) (a b c : Desk) (past : Needs R P T) (replies : Replies R P T) (n : Need R P T)
      → Starved serves a past replies b → Takes serves b n [] c → Starved serves a (past ++ n ∷ []) replies c
  starved_more serves a b c past replies n x step = record {
    replied = x.replied;
    unreplied = x.unreplied ++ n ∷ [];
    past_is = ap (λ (l : Needs R P T). l ++ n ∷ []) x.past_is ∙ append_assoc x.replied x.unreplied (n ∷ []);
    mid = x.mid;
    answered = x.answered;
    asked = x.asked ++ n ∷ [];
    asked_is = asked_more x.unreplied x.asked n x.asked_is;
    unanswered = answered_more serves x.mid b c x.asked [] n [] x.unanswered step;
  }

  pub hosted_more : (d e : Bool) (serves : Step R P T Desk) (a b c : Desk) (past : Needs R P T) (replies : Replies R P T) (n : Need R P T)
      → (d ≡ true → e ≡ true) → Takes serves b n [] c → Takes (in_full serves) b n [] c → Hosted d serves a past replies b
      → Hosted e serves a (past ++ n ∷ []) replies c
  hosted_more true e serves a b c past replies n stays step full x =
      subst (λ (e : Bool). Hosted e serves a (past ++ n ∷ []) replies c) (sym (stays refl)) (starved_more serves a b c past replies n x step)
  hosted_more false e serves a b c past replies n stays step full x =
      hosted_full e serves a c (past ++ n ∷ []) replies
      (subst (λ (l : Replies R P T). Answered (in_full serves) a (past ++ n ∷ []) l c) (append-nil replies) (answered_more (in_full serves) a b c past replies n [] x full))

  -- each reply that is due to a need
  pub hosted_by : (d e : Bool) (serves : Step R P T Desk) (a b c : Desk) (past : Needs R P T) (replies : Replies R P T) (n : Need R P T) (mine : Replies R P T)
      → (d ≡ true → (e ≡ true) × (due n ≡ 0)) → Takes serves b n mine c → Takes (in_full serves) b n mine c → length mine ≡ due n → Hosted d serves a past replies b
      → Hosted e serves a (past ++ n ∷ []) (replies ++ mine) c
  hosted_by false e serves a b c past replies n mine stays step full count x = hosted_full e serves a c (past ++ n ∷ []) (replies ++ mine) (answered_more (in_full serves) a b c past replies n mine x full)
  hosted_by true e serves a b c past replies n [] stays step full count x =
      subst (λ (e : Bool). Hosted e serves a (past ++ n ∷ []) (replies ++ []) c) (sym (stays refl).0)
      (subst (λ (l : Replies R P T). Starved serves a (past ++ n ∷ []) l c) (sym (append-nil replies)) (starved_more serves a b c past replies n x step))
  hosted_by true e serves a b c past replies n (r ∷ mine) stays step full count x = absurd (cc (count, (stays refl).1))

  -- nothing was asked
  pub hosted_still : (d e : Bool) (serves : Step R P T Desk) (a b : Desk) (past : Needs R P T) (replies : Replies R P T)
      → (d ≡ true → e ≡ true) → Hosted d serves a past replies b → Hosted e serves a past replies b
  hosted_still true e serves a b past replies stays x = subst (λ (e : Bool). Hosted e serves a past replies b) (sym (stays refl)) x
  hosted_still false e serves a b past replies stays x = hosted_full e serves a b past replies x
