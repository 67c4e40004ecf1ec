-- What jobs gave that several threads did.
use Rattle.std.specs.Prelude.{◌≡◌, ◌+◌, ◌∷◌, [], ℕ, List, Option, IfSome}
use Rattle.std.specs.List.{All}
use Rattle.side_by_side.specs.declared.crew.Done.{Done}

-- What jobs gave, by their numbers from this one on, where they were done.
abbrev pub AreGiven : {X : Type 0} → (ℕ → X → Type 0) → ℕ → List (Option X) → Type 0
AreGiven gives number [] = Unit {0}
AreGiven gives number (slot ∷ slots) = IfSome slot (gives number) × AreGiven gives (number + 1) slots

-- Each of these jobs gave what the job of its number gives.
abbrev pub AllDone : {X : Type 0} → (ℕ → X → Type 0) → List (Done X) → Type 0
AllDone gives list = All (λ one. gives one.number one.given) list
