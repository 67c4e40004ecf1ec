-- The lines of a check, where the tables are the same and the verdict is right.
use Rattle.std.proofs.Common.{◌≡◌, ◌∙◌, ◌≢◌, ◌↔◌, ℕ, true, Option, List, map, sym, subst, length, arith}
use Rattle.std.specs.List.{AllPairs}
use Rattle.std.specs.List.Sorted.{IsStrictlyIncreasing}
use Rattle.std.specs.Option.{option_map}
use Rattle.std.proofs.lemmas.List.Kept.{AllPairs-from_increasing}
use Rattle.mpi_model.specs.Layouts.{Parts}
use Rattle.trace_ops.specs.Ops.{Ops}
use Rattle.trace_ops.specs.declared.state.State.{State}
use Rattle.trace_pair.specs.Table.{Table, table_of}
use Rattle.trace_stuck.specs.Release.{IsReleaseOrder, among, left}
use Rattle.trace_stuck.specs.Shape.{shape}
use Rattle.trace_stuck.specs.Stuck.{IsStuck}
use Rattle.trace_stuck.specs.declared.condition.Condition.{Condition}
use Rattle.trace_node.specs.Answer.{states_of, waits_of}
use Rattle.trace_check.specs.Checker.{IsCheckBy}
use Rattle.trace_check.specs.Lines.{IsCheckText, check_text}
use Rattle.trace_check.specs.Right.{IsRight}

-- ranks that rise are told once
once : (ranks : List ℕ) → IsStrictlyIncreasing ranks → AllPairs (λ r s. r ≢ s) ranks
once ranks rising i j d lt below e = let less = AllPairs-from_increasing ranks rising i j d lt below in omega (arith, less, e)

-- the verdict of `stuck` is right
pub verdict_right : (states : List State) (conditions : List (Option Condition)) (stuck release : List ℕ) → IsStrictlyIncreasing stuck
    → ((r : ℕ) → (among stuck r ≡ true) ↔ IsStuck states conditions r) → IsReleaseOrder states conditions release
    → ((r : ℕ) → among stuck r ≡ left states release r) → IsRight states conditions stuck release
verdict_right states conditions stuck release rising lists order others = record { lists = lists; once = once stuck rising; order = order; others = others }

-- it is right for the same states and conditions, wherever they lie
pub right_for : (states told : List State) (conditions others : List (Option Condition)) (stuck release : List ℕ) → states ≡ told → conditions ≡ others
    → IsRight states conditions stuck release → IsRight told others stuck release
right_for states told conditions others stuck release s c right =
    subst (λ (p : List State × List (Option Condition)). IsRight p.0 p.1 stuck release) (λ i. (s i, c i)) right

-- the lines say `equal` and `valid`
pub told_right : (layout : Parts) (ops : List Ops) (first second : Table) (states : List State) (conditions : List (Option Condition)) (stuck release text : List ℕ)
    → first ≡ table_of ops → second ≡ table_of ops → states ≡ states_of ops → map (option_map shape) conditions ≡ waits_of layout ops
    → IsRight states conditions stuck release → IsCheckText first second states conditions stuck release text → IsCheckBy layout ops text
told_right layout ops first second states conditions stuck release text f s e waits right told =
    let equal : told.0 ≡ true = told.2.1 (f ∙ sym s) in
    let valid : told.1 ≡ true = told.3.1 right in (
      conditions,
      stuck,
      release,
      waits,
      subst (λ (l : List State). IsRight l conditions stuck release) e right,
      told.4 ∙ (λ i. check_text (length (f i).pairs) (length (f i).postponed) (equal i) (length stuck) (length release) (valid i)),
    )
