-- What a held rank needs: ranks that go on, and rounds that end.
use Rattle.std.specs.Prelude.{ℕ, Bool, ◌||◌, not, List, [], ◌∷◌, ◌++◌, if◌then◌else◌}
use Rattle.trace_stuck.specs.Shape as waits
use Rattle.trace_stuck.specs.Shape.{Waits, OnNothing, OnRank, OnAll, OnOne, OnMismatched, none, and}
use Rattle.trace_diagnosis.specs.Holding.{holds, nobody, one_holds}
use Rattle.diagnosis_value.specs.declared.diagnosis.Need.{Need}
use Rattle.diagnosis_value.specs.declared.diagnosis.Need.TheVariants as needs

-- What a condition needs that doesn't hold where no rank can go on. `others` are all other ranks that haven't ended. Of
-- an all-of it is what those of its parts need that don't hold so; of a one-of what those need that would hold if the
-- others went on, and what all of its parts need where none would.
abbrev mutual
  pub needs_of : (ℕ → Bool) → waits.Wait → List Need
  needs_of others OnNothing = []
  needs_of others (OnRank r) = needs.Rank r ∷ []
  needs_of others (OnMismatched first) = needs.Round first ∷ []
  needs_of others (OnAll parts) = needs_of_all others parts
  needs_of others (OnOne parts) = needs_of_one others (one_holds others parts) parts

  pub needs_of_all : (ℕ → Bool) → Waits → List Need
  needs_of_all others none = []
  needs_of_all others (and first rest) = (if holds nobody first then [] else needs_of others first) ++ needs_of_all others rest

  pub needs_of_one : (ℕ → Bool) → Bool → Waits → List Need
  needs_of_one others may none = []
  needs_of_one others may (and first rest) = (if not may || holds others first then needs_of others first else []) ++ needs_of_one others may rest
