-- The same rounds, gathered row by row: what the program keeps of a round while rows come in.
use Rattle.std.specs.Prelude.{ℕ, zero, suc, ◌+◌, ◌-◌, ◌^◌, true, ◌==◌, ◌&&◌, not, List, [], ◌∷◌, min, if◌then◌else◌}
use Rattle.std.specs.List.{fold}
use Rattle.trace_ops.specs.declared.entered.Entered.{Entered}
use Rattle.trace_wait.specs.declared.round.Round.{Round}
use Rattle.trace_wait.specs.declared.round.Standing.{Standing}
use Rattle.trace_wait.specs.declared.round.Standing.TheVariants.{Mismatched, Complete, Partial}
use Rattle.trace_wait.specs.declared.tally.RoundTally.{RoundTally}
use Rattle.trace_ops.specs.Ops.{Ops}
use Rattle.trace_wait.specs.Ranks.{ops_of}
use Rattle.trace_wait.specs.Rounds.{same_function, same_root, on_comm}

-- the tally of a round that one member has entered
abbrev pub start : Entered → RoundTally
start e = record { function = e.function; root = e.root; is_alike = true; entered = 1 }

-- the tally once one member more has entered
abbrev pub add : RoundTally → Entered → RoundTally
add t e = record {
  function = t.function;
  root = t.root;
  is_alike = t.is_alike && same_function t.function e.function && same_root t.root e.root;
  entered = min (t.entered + 1) (2 ^ 32 - 1);
}

-- one more call of the k-th round
abbrev pub put : List RoundTally → ℕ → Entered → List RoundTally
put [] k e = start e ∷ []
put (t ∷ ts) zero e = add t e ∷ ts
put (t ∷ ts) (suc k) e = t ∷ put ts k e

-- a row's calls go to the rounds of their places
abbrev pub merged : List Entered → List RoundTally → List RoundTally
merged [] ts = ts
merged (e ∷ es) [] = start e ∷ merged es []
merged (e ∷ es) (t ∷ ts) = add t e ∷ merged es ts

-- the tallies of a communicator's rounds, over all members
abbrev pub tallied : List Ops → ℕ → List ℕ → List RoundTally
tallied ops c members = fold (λ ts r. merged (on_comm c (ops_of ops r).rounds) ts) [] members

-- how a round of so many members stands
abbrev pub stands : ℕ → RoundTally → Standing
stands members t = if not t.is_alike then Mismatched else if t.entered == members then Complete t.function t.root else Partial t.function t.root t.entered members

-- the rounds of a communicator, from number k on
abbrev pub rounds_from : ℕ → ℕ → ℕ → List RoundTally → List Round
rounds_from c members k [] = []
rounds_from c members k (t ∷ ts) = record { comm = c; k = k; standing = stands members t } ∷ rounds_from c members (k + 1) ts
