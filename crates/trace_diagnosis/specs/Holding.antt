-- Whether what a rank waits for comes to pass, where just these ranks can go on.
--
-- A round whose calls don't match never ends. (The verdict on stuck ranks takes a call of it as one that may go on,
-- since MPI says nothing of such programs.)
use Rattle.std.specs.Prelude.{ℕ, Bool, true, false, ◌&&◌, ◌||◌, ◌==◌, not, Option, Some, None}
use Rattle.trace_stuck.specs.Shape as waits
use Rattle.trace_stuck.specs.Shape.{Waits, OnNothing, OnRank, OnAll, OnOne, OnMismatched, none, and}
use Rattle.trace_stuck.specs.Graph.{is_up}
use Rattle.trace_diagnosis.specs.declared.holding.Going.{Going}

abbrev mutual
  -- it holds where these ranks can go on
  pub holds : (ℕ → Bool) → waits.Wait → Bool
  holds able OnNothing = true
  holds able (OnRank r) = able r
  holds able (OnAll parts) = all_hold able parts
  holds able (OnOne parts) = one_holds able parts
  holds able (OnMismatched first) = false

  -- all of the parts hold
  pub all_hold : (ℕ → Bool) → Waits → Bool
  all_hold able none = true
  all_hold able (and first rest) = holds able first && all_hold able rest

  -- one of the parts holds
  pub one_holds : (ℕ → Bool) → Waits → Bool
  one_holds able none = false
  one_holds able (and first rest) = holds able first || one_holds able rest

-- no rank can go on
abbrev pub nobody : ℕ → Bool
nobody r = false

-- the rank is another one
abbrev pub is_other : Option ℕ → ℕ → Bool
is_other None r = true
is_other (Some but) r = not (but == r)

-- the ranks that can go on, but for one
abbrev pub going : Going → ℕ → Bool
going g r = is_up g.able.now r && is_other g.but r

-- A rank is held where it has a condition that doesn't hold where no rank can go on.
abbrev pub is_held : Option waits.Wait → Bool
is_held None = false
is_held (Some w) = not (holds nobody w)
