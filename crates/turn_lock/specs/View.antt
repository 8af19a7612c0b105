-- What a pass knows, and how that is split and joined.
use Rattle.std.specs.Prelude.{◌≡◌, ℕ, ◌+◌, ◌-◌, ◌≤◌, Bool, ◌⊎◌, List, [], ◌∷◌, ◌++◌, length, Some, None}
use Rattle.turn_lock.specs.declared.history.Entry.{Entry}
use Rattle.turn_lock.specs.declared.view.Stage.{Stage}
use Rattle.turn_lock.specs.declared.view.Stage.TheVariants.{Idle, Waiting, Serving}
use Rattle.turn_lock.specs.declared.view.View.{View}
use Rattle.turn_lock.specs.History.{Begins, longer}
use Rattle.turn_lock.specs.Marks.{selected, mark_at, with_mark, merged}

-- the shares of a lock, all together: 2^32 - 1
abbrev pub all_shares : ℕ
all_shares = 4294967295

-- 1 where the pass has a turn
abbrev pub waits : Stage → ℕ
waits Idle = 0
waits (Waiting t) = 1
waits Serving = 1

-- the pass has the turn t, where n turns have ended
abbrev pub HasTurn : ℕ → Stage → ℕ → Type 0
HasTurn n Idle t = ⊥
HasTurn n (Waiting u) t = u ≡ t
HasTurn n Serving t = n ≡ t

-- two lists of calls seen, with the marks of two passes' own calls, are of one history, and no call was both's
pub record OfOneHistory {A : Type 0} (xs ys : List A) (bs cs : List Bool) : Type 0 where
  pub prefix : Begins xs ys ⊎ Begins ys xs
  pub disjoint : (p : ℕ) → mark_at bs p + mark_at cs p ≤ 1
  pub left_within : length bs ≤ length xs
  pub right_within : length cs ≤ length ys

module _ {O C R : Type 0} where
  -- what the last join of this pass put together
  abbrev pub JoinedParts : View O C R → Type 0
  JoinedParts v = OfOneHistory v.left_seen v.right_seen v.left_own v.right_own

  -- 1 where the pass of this view has a turn
  abbrev pub waiting : View O C R → ℕ
  waiting v = waits v.stage

  -- its part of all shares
  abbrev pub share_in : View O C R → ℕ
  share_in v = v.share

  -- 1 where the call at this place is one of the pass's own
  abbrev pub owns_at : ℕ → View O C R → ℕ
  owns_at p v = mark_at v.own p

  -- the calls of a history that are the pass's own
  abbrev pub own_in : List (Entry C R) → View O C R → List (Entry C R)
  own_in log v = selected v.own log

  -- of the first pass
  abbrev pub first_view : O → View O C R
  first_view s =
      record {
        start = Some s;
        seen = [];
        own = [];
        share = all_shares;
        stage = Idle;
        left_seen = [];
        right_seen = [];
        left_own = [];
        right_own = [];
      }

  -- after a turn that ended with this entry
  abbrev pub ended : View O C R → Entry C R → View O C R
  ended v e = record v { stage = Idle; seen = v.seen ++ e ∷ []; own = with_mark v.own (length v.seen) }

  -- of a pass that was split
  abbrev pub split_old : View O C R → View O C R
  split_old v = record v { share = v.share - 1 }

  -- of the new pass, which has made no call
  abbrev pub split_new : View O C R → View O C R
  split_new v = record v { own = []; share = 1; stage = Idle }

  -- of a pass that took in another
  abbrev pub joined : View O C R → View O C R → View O C R
  joined v w =
      record {
        start = v.start;
        seen = longer v.seen w.seen;
        own = merged v.own w.own;
        share = v.share + w.share;
        stage = Idle;
        left_seen = v.seen;
        right_seen = w.seen;
        left_own = v.own;
        right_own = w.own;
      }

  -- of that other
  abbrev pub spent_view : View O C R
  spent_view =
      record {
        start = None;
        seen = [];
        own = [];
        share = 0;
        stage = Idle;
        left_seen = [];
        right_seen = [];
        left_own = [];
        right_own = [];
      }
