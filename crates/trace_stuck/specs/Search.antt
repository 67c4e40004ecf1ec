-- How a search along the edges of a graph stands. No public clause speaks of it.
use Rattle.std.specs.Prelude.{◌≡◌, ◌≤◌, ◌<◌, ◌+◌, ◌&&◌, ◌||◌, ◌==◌, ℕ, Bool, true, false, Option, Some, None, List, [], ◌∷◌, ◌++◌, length, nat_lt, set, slice_get, unwrap_or, Vec}
use Rattle.std.specs.declared.alloc.Global.{Global}
use Rattle.trace_stuck.specs.Release.{among}
use Rattle.trace_stuck.specs.Chains.{Leads}
use Rattle.trace_stuck.specs.Graph.{edge, is_up, label_at}

-- there is a label, and it is not above this
abbrev pub AtMost : ℕ → Option ℕ → Type 0
AtMost m None = ⊥
AtMost m (Some l) = l ≤ m

-- how many have no label
abbrev pub bare : List (Option ℕ) → ℕ
bare [] = 0
bare (None ∷ labels) = bare labels + 1
bare (Some l ∷ labels) = bare labels

-- the node is there, and has no label
abbrev pub is_bare : List (Option ℕ) → ℕ → Bool
is_bare labels x = of (slice_get labels x)
  where
    of : Option (Option ℕ) → Bool
    of (Some None) = true
    of o = false

-- What labelling leaves: the node was bare, has the label now and waits on the stack; or nothing changed.
abbrev pub LabelledAs : Bool → ℕ → ℕ → List (Option ℕ) → List ℕ → List (Option ℕ) → List ℕ → Type 0
LabelledAs true l x labels stack labels_after stack_after = (labels_after ≡ set labels x (Some l)) × (stack_after ≡ stack ++ x ∷ [])
LabelledAs false l x labels stack labels_after stack_after = (labels_after ≡ labels) × (stack_after ≡ stack)

-- what labelling a node leaves
abbrev pub Labelled : ℕ → ℕ → List (Option ℕ) → List ℕ → List (Option ℕ) → List ℕ → Type 0
Labelled l x labels stack = LabelledAs (is_bare labels x) l x labels stack

-- Labels below `top` were given, and `top` is given now. A labelled node that is not held has no edge to a node without
-- a label or with a greater one; a node that is held has the label that is given now. The starts below `done` are
-- labelled.
pub record Spreads (step : ℕ → ℕ → Bool) (starts : ℕ → Bool) (top done : ℕ) (held : ℕ → Bool) (labels : List (Option ℕ)) : Type 0 where
  pub sound : (x l : ℕ) → label_at labels x ≡ Some l → (starts l ≡ true) × Leads step l x × (l ≤ top)
  pub fresh : (x : ℕ) → held x ≡ true → label_at labels x ≡ Some top
  pub closed : (x l : ℕ) → label_at labels x ≡ Some l → held x ≡ false → (y : ℕ) → step x y ≡ true → AtMost l (label_at labels y)
  pub started : (m : ℕ) → m < done → starts m ≡ true → AtMost m (label_at labels m)

-- the nodes on the stack, and the one whose edges are gone through
abbrev pub held_with : List ℕ → ℕ → ℕ → Bool
held_with stack x y = among stack y || x == y

-- The starts below `done` were gone through.
pub record Begun (step : ℕ → ℕ → Bool) (starts : ℕ → Bool) (done : ℕ) (labels : List (Option ℕ)) : Type 0 where
  pub sound : (x l : ℕ) → label_at labels x ≡ Some l → (starts l ≡ true) × Leads step l x × (l < done)
  pub closed : (x l : ℕ) → label_at labels x ≡ Some l → (y : ℕ) → step x y ≡ true → AtMost l (label_at labels y)
  pub started : (m : ℕ) → m < done → starts m ≡ true → AtMost m (label_at labels m)

-- What was true of the search with r beside the stack is true of it with the edges of r gone through.
abbrev pub GoesThrough : List (Vec ℕ Global) → ℕ → ℕ → List ℕ → List (Option ℕ) → List ℕ → List (Option ℕ) → Type 0
GoesThrough edges first r stack labels stack_after labels_after = (starts : ℕ → Bool) → (done : ℕ) →
    Spreads (edge edges) starts first done (held_with stack r) labels → Spreads (edge edges) starts first done (among stack_after) labels_after

-- Where the starts below the first were gone through, it was gone through too.
abbrev pub GoesOn : List (Vec ℕ Global) → (ℕ → Bool) → ℕ → List (Option ℕ) → List (Option ℕ) → Type 0
GoesOn edges starts first labels labels_after = Begun (edge edges) starts first labels → Begun (edge edges) starts (first + 1) labels_after

-- An edge leads from the node to one with another label, or it doesn't.
abbrev pub LeakIs : List (Vec ℕ Global) → List (Option ℕ) → ℕ → Bool → Type 0
LeakIs edges labels x true = (y : ℕ) × (edge edges x y ≡ true) × (label_at labels y ≡ label_at labels x → ⊥)
LeakIs edges labels x false = (y : ℕ) → edge edges x y ≡ true → label_at labels y ≡ label_at labels x

-- The node has its own number as label, and none in the second list; or it doesn't.
abbrev pub RootIs : List (Option ℕ) → List (Option ℕ) → ℕ → Bool → Type 0
RootIs least strays x true = (label_at least x ≡ Some x) × (label_at strays x ≡ None)
RootIs least strays x false = label_at least x ≡ Some x → label_at strays x ≡ None → ⊥
