-- What knows nothing knows nothing of a rank that a layout lacks.
use Rattle.std.proofs.Common.{◌≡◌, ◌∙◌, ◌<◌, ℕ, None, IsSome, ap}
use Rattle.std.specs.FinMap.{empty, get-empty}
use Rattle.trace_know.specs.View.{View, cell, place_cmp}

pub none_known : (view : View) → view ≡ empty → (ranks rank place : ℕ) → IsSome (cell view rank place) → rank < ranks
none_known view e ranks rank place some =
    let none : cell view rank place ≡ None = ap (λ (v : View). cell v rank place) e ∙ get-empty place_cmp (rank, place) in
    absurd (cc (some, none))
