-- What stands at each place of a list.
use Rattle.std.specs.Prelude.{◌≡◌, ℕ, List, Option, Some, Vec}
use Rattle.std.specs.List.{slice_get}
use Rattle.std.specs.Option.{option_map}
use Rattle.std.specs.declared.alloc.Global.{Global}

-- the elements of a list, where there is one
abbrev pub list_in : {X : Type 0} → Option (Vec X Global) → Option (List X)
list_in list = option_map (λ v. v.items) list

-- What stands at a place is what this says of the place.
abbrev pub EachIs : {X : Type 0} → List X → (ℕ → X) → Type 0
EachIs {X} list says = (k : ℕ) (x : X) → slice_get list k ≡ Some x → x ≡ says k

-- What stands at a place comes by this step of what stood there.
abbrev pub EachBecomes : {X : Type 0} → List X → List X → (ℕ → X → X) → Type 0
EachBecomes {X} old new step = (k : ℕ) (now : X) → slice_get new k ≡ Some now → (before : X) × (slice_get old k ≡ Some before) × (now ≡ step k before)

-- The list at a place is what this says of the place.
abbrev pub ListsAre : List (Vec ℕ Global) → (ℕ → List ℕ) → Type 0
ListsAre lists says = (k : ℕ) (list : List ℕ) → list_in (slice_get lists k) ≡ Some list → list ≡ says k

-- The list at a place comes by this step of the one that stood there.
abbrev pub ListsBecome : List (Vec ℕ Global) → List (Vec ℕ Global) → (ℕ → List ℕ → List ℕ) → Type 0
ListsBecome old new step = (k : ℕ) (now : List ℕ) → list_in (slice_get new k) ≡ Some now
    → (before : List ℕ) × (list_in (slice_get old k) ≡ Some before) × (now ≡ step k before)
