-- What a check tells of what is known of a run.
use Rattle.std.specs.Prelude.{◌≡◌, ℕ, true, Option, List, length, map}
use Rattle.std.specs.Option.{option_map}
use Rattle.mpi_model.specs.Layouts.{Parts}
use Rattle.trace_know.specs.View.{View}
use Rattle.trace_ops.specs.Ops.{Ops}
use Rattle.trace_ops.specs.RankOps.{all_ops}
use Rattle.trace_pair.specs.Table.{table_of}
use Rattle.trace_stuck.specs.Shape.{shape}
use Rattle.trace_stuck.specs.declared.condition.Condition.{Condition}
use Rattle.trace_node.specs.Answer.{states_of, waits_of}
use Rattle.trace_check.specs.Lines.{check_text}
use Rattle.trace_check.specs.Right.{IsRight}

-- What a checker holds: its layout, and all that is known.
pub record Held : Type 0 where
  pub layout : Parts
  pub know : View

-- what a checker holds
abbrev pub held : Parts → View → Held
held layout know = record { layout = layout; know = know }

-- The lines of a check of what the ranks did. They count the pairs and the postponed messages, the stuck ranks and all
-- other waiting ranks, and say `equal` and `valid`.
abbrev pub IsCheckBy : Parts → List Ops → List ℕ → Type 0
IsCheckBy layout ops text = (conditions : List (Option Condition)) × (stuck : List ℕ) × (release : List ℕ)
    × (map (option_map shape) conditions ≡ waits_of layout ops) × IsRight (states_of ops) conditions stuck release
    × (text ≡ check_text (length (table_of ops).pairs) (length (table_of ops).postponed) true (length stuck) (length release) true)

-- The lines of a check of what is known.
abbrev pub IsCheckOf : Parts → View → List ℕ → Type 0
IsCheckOf layout know text = IsCheckBy layout (all_ops layout know) text
