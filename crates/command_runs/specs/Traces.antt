-- What pieces tell together, and which of them tell of a rank that the layout doesn't have.
use Rattle.std.specs.Prelude.{◌≡◌, ◌≢◌, ◌<◌, ◌≤◌, ◌⊎◌, ◌++◌, ℕ, List, [], ◌∷◌, Option, Some, None, String}
use Rattle.std.specs.List.{All}
use Rattle.std.specs.declared.alloc.Global.{Global}
use Rattle.trace_know.specs.Trace.{Trace, view_of}
use Rattle.trace_know.specs.View.{View}
use Rattle.run_files.specs.Manifests.{PieceParts}
use Rattle.run_inputs.specs.WalkFaults.{IsNamed}
use Rattle.command_runs.specs.Pieces.{TellsFacts}

-- The facts of these pieces together, each from its file.
abbrev pub TellTrace : (List ℕ → Option (List ℕ)) → List PieceParts → Trace → Type 0
TellTrace file [] trace = trace ≡ []
TellTrace file (piece ∷ pieces) trace = (own : Trace) × (rest : Trace)
    × TellsFacts (file piece.file) piece.rank piece.first own × TellTrace file pieces rest × (trace ≡ own ++ rest)

-- The view of all that the pieces tell.
abbrev pub IsKnown : (List ℕ → Option (List ℕ)) → List PieceParts → View → Type 0
IsKnown file pieces view = (trace : Trace) × TellTrace file pieces trace × (view ≡ view_of trace)

-- The pieces begin with these, and then with this one.
abbrev pub Begin : List PieceParts → PieceParts → List PieceParts → Type 0
Begin front piece pieces = (back : List PieceParts) × (pieces ≡ front ++ piece ∷ back)

-- The piece is of a rank of the layout, or it tells no call.
abbrev pub IsInside : (List ℕ → Option (List ℕ)) → ℕ → PieceParts → Type 0
IsInside file ranks piece = (piece.rank < ranks) ⊎ TellsFacts (file piece.file) piece.rank piece.first []

-- The piece tells a call of a rank that the layout doesn't have, and its file has this name.
abbrev pub IsStranger : (List ℕ → Option (List ℕ)) → ℕ → String Global → PieceParts → Type 0
IsStranger file ranks path piece = IsNamed path piece.file × (ranks ≤ piece.rank)
    × ((facts : Trace) × TellsFacts (file piece.file) piece.rank piece.first facts × (facts ≢ []))

-- The file of this name is that of the first such piece.
abbrev pub IsFirstStranger : (List ℕ → Option (List ℕ)) → ℕ → List PieceParts → String Global → Type 0
IsFirstStranger file ranks pieces path = (front : List PieceParts) × (piece : PieceParts) × Begin front piece pieces
    × All (IsInside file ranks) front × IsStranger file ranks path piece

-- The stranger that is kept once a piece was read that tells these facts: the first.
abbrev pub KeepsFirst : ℕ → PieceParts → Trace → Option (String Global) → Option (String Global) → Type 0
KeepsFirst ranks piece facts (Some path) new = new ≡ Some path
KeepsFirst ranks piece facts None None = (piece.rank < ranks) ⊎ (facts ≡ [])
KeepsFirst ranks piece facts None (Some path) = IsNamed path piece.file × (ranks ≤ piece.rank) × (facts ≢ [])
