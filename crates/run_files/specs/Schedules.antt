-- The steps of a manifest's schedule.
use Rattle.std.specs.Prelude.{ℕ, List, [], Bool, false, Option, Some, None, nat_le, nat_lt, if◌then◌else◌, codes, is_none, option_and_then, option_map, slice_index_or, unwrap_or}
use Rattle.std.specs.Str.{bytes_eq}
use Rattle.serde_json.specs.Data.{Data, Items, no_items, item}
use Rattle.serde_json.specs.Find.{as_array, as_str}
use Rattle.run_files.specs.Fields.{u64_in, with_first}
use Rattle.run_files.specs.declared.manifest.PlannedStep.{PlannedStep}
use Rattle.run_files.specs.declared.manifest.PlannedStep.TheVariants.{Post, Take, Ship, Deliver, Restart}

-- two values, where both can be read
abbrev pub both : {A B : Type 0} → Option A → Option B → Option (A × B)
both None second = None
both (Some a) second = option_map (λ b. (a, b)) second

-- exactly one number
abbrev pub one_in : Items → Option ℕ
one_in no_items = None
one_in (item value no_items) = u64_in value
one_in (item value (item next values)) = None

-- exactly two numbers
abbrev pub two_in : Items → Option (ℕ × ℕ)
two_in no_items = None
two_in (item value values) = both (u64_in value) (one_in values)

-- exactly three numbers
abbrev pub three_in : Items → Option (ℕ × (ℕ × ℕ))
three_in no_items = None
three_in (item value values) = both (u64_in value) (two_in values)

-- a worker's number, a node's and a piece's; a worker is at most 255
abbrev pub post_from : ℕ × (ℕ × ℕ) → Option PlannedStep
post_from (worker, (node, piece)) = if nat_lt worker 256 then Some (Post worker node piece) else None

-- a step by its word and its numbers
abbrev pub step_from : List ℕ → Items → Option PlannedStep
step_from word numbers = if bytes_eq word (codes "post") then option_and_then post_from (three_in numbers)
    else if bytes_eq word (codes "take") then option_map (λ node. Take node) (one_in numbers)
    else if bytes_eq word (codes "ship") then option_map (λ node. Ship node) (one_in numbers)
    else if bytes_eq word (codes "deliver") then option_map (λ (p : ℕ × ℕ). Deliver p.0 p.1) (two_in numbers)
    else if bytes_eq word (codes "restart") then option_map (λ node. Restart node) (one_in numbers) else None

-- a word and then its numbers
abbrev pub step_of : Items → Option PlannedStep
step_of no_items = None
step_of (item word numbers) = option_and_then (λ w. step_from w numbers) (as_str word)

-- a step, which is a list of its word and its numbers
abbrev pub step_in : Data → Option PlannedStep
step_in value = option_and_then step_of (as_array value)

-- the steps of a list, in its order
abbrev pub steps_in : Items → Option (List PlannedStep)
steps_in no_items = Some []
steps_in (item value values) = with_first (step_in value) (steps_in values)

-- a step posts a piece past the last of so many
abbrev pub posts_past : ℕ → PlannedStep → Bool
posts_past pieces (Post worker node piece) = nat_le pieces piece
posts_past pieces (Take node) = false
posts_past pieces (Ship node) = false
posts_past pieces (Deliver mail node) = false
posts_past pieces (Restart node) = false

-- a step posts a packed piece, one without a number
abbrev pub posts_packed : List (Option ℕ) → PlannedStep → Bool
posts_packed numbers (Post worker node piece) = is_none (slice_index_or numbers piece (Some 0))
posts_packed numbers (Take node) = false
posts_packed numbers (Ship node) = false
posts_packed numbers (Deliver mail node) = false
posts_packed numbers (Restart node) = false

-- the number of a piece among the texts, or its own where it has none
abbrev pub number_of : List (Option ℕ) → ℕ → ℕ
number_of numbers piece = unwrap_or (slice_index_or numbers piece None) piece

-- a step that posts a piece posts the text of its number
abbrev pub renumbered : List (Option ℕ) → PlannedStep → PlannedStep
renumbered numbers (Post worker node piece) = Post worker node (number_of numbers piece)
renumbered numbers (Take node) = Take node
renumbered numbers (Ship node) = Ship node
renumbered numbers (Deliver mail node) = Deliver mail node
renumbered numbers (Restart node) = Restart node
