-- What all pieces of a manifest tell together.
use Rattle.std.specs.Prelude.{◌≡◌, ℕ, List, Option}
use Rattle.std.specs.List.{All}
use Rattle.mpi_model.specs.Layouts.{Parts}
use Rattle.trace_know.specs.Trace.{Trace, view_of}
use Rattle.trace_know.specs.View.{View, join}
use Rattle.run_files.specs.Manifests.{ManifestParts}
use Rattle.command_runs.specs.Packed.{TellPacked}
use Rattle.command_runs.specs.Traces.{IsInside, TellTrace}

-- The view is the join of what the packed files tell and of the view of the facts of all texts, all of ranks below a
-- number.
abbrev pub TellAll : (List ℕ → Option (List ℕ)) → ℕ → ManifestParts → View → Type 0
TellAll file ranks m view = (packed : View) × (trace : Trace) × TellPacked file ranks m.packed packed
    × TellTrace file m.pieces trace × All (IsInside file ranks) m.pieces × (view ≡ join packed (view_of trace))

-- It is so of all that the pieces tell that a manifest lists, of ranks of the layout.
abbrev pub OfAllTold : (List ℕ → Option (List ℕ)) → Parts → ManifestParts → (View → Type 0) → Type 0
OfAllTold file l m Is = (view : View) × TellAll file l.ranks m view × Is view
