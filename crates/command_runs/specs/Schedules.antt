-- The segments of pieces, and the steps of a world that a manifest's schedule stands for.
use Rattle.std.specs.Prelude.{◌≡◌, ℕ, List, [], ◌∷◌, Option, Vec, map, slice_index_or}
use Rattle.std.specs.List.{flat_map}
use Rattle.std.specs.declared.alloc.Global.{Global}
use Rattle.trace_know.specs.Segment.{PlacedEvents}
use Rattle.trace_world.specs.declared.step.Step.{Step}
use Rattle.trace_world.specs.declared.step.Step.TheVariants.{Post, Take, Ship, Deliver, Restart}
use Rattle.run_files.specs.Manifests.{PieceParts}
use Rattle.run_files.specs.declared.manifest.PlannedStep.{PlannedStep}
use Rattle.run_files.specs.declared.manifest.PlannedStep.TheVariants as planned
use Rattle.command_runs.specs.Pieces.{TellsSegments}

-- The segments of each of these pieces, from its file.
abbrev pub TellSegments : (List ℕ → Option (List ℕ)) → List PieceParts → List (List PlacedEvents) → Type 0
TellSegments file [] lists = lists ≡ []
TellSegments file (piece ∷ pieces) lists = (own : List PlacedEvents) × (rest : List (List PlacedEvents))
    × TellsSegments (file piece.file) piece.rank piece.first own × TellSegments file pieces rest × (lists ≡ own ∷ rest)

-- the lists that vectors hold
abbrev pub held_lists : List (Vec PlacedEvents Global) → List (List PlacedEvents)
held_lists lists = map (λ v. v.items) lists

-- the posts of these segments, one after another
abbrev pub posts_of : ℕ → ℕ → List PlacedEvents → List Step
posts_of worker node segments = map (λ s. Post worker node s) segments

-- What a step of the schedule does in a world: it posts each segment of its piece, in order; any other step is itself.
abbrev pub steps_for : List (List PlacedEvents) → PlannedStep → List Step
steps_for lists (planned.Post worker node piece) = posts_of worker node (slice_index_or lists piece [])
steps_for lists (planned.Take node) = Take node ∷ []
steps_for lists (planned.Ship node) = Ship node ∷ []
steps_for lists (planned.Deliver mail node) = Deliver mail node ∷ []
steps_for lists (planned.Restart node) = Restart node ∷ []

-- what a whole schedule does
abbrev pub world_steps : List (List PlacedEvents) → List PlannedStep → List Step
world_steps lists schedule = flat_map (steps_for lists) schedule
