-- How ranks stand: whether a rank has ended, and where its last call stands.
use Rattle.std.specs.Prelude.{ℕ, Bool, ◌==◌, ◌%◌, not, Option, Some, None, List, if◌then◌else◌}
use Rattle.trace_know.specs.View.{View, cell}
use Rattle.trace_know.specs.Prefix.{is_beyond, is_unread, prefix_of}
use Rattle.trace_know.specs.declared.cell.Known.{Known}
use Rattle.trace_know.specs.declared.cell.Known.TheVariants.{One, Contradiction}
use Rattle.trace_ops.specs.Ops.{Ops}
use Rattle.trace_ops.specs.declared.state.State.{State}
use Rattle.trace_ops.specs.declared.state.State.TheVariants.{Free, Waiting, Ended}
use Rattle.trace_stuck.specs.Graph.{is_up}
use Rattle.trace_wait.specs.Ranks.{ops_of}
use Rattle.diagnosis_value.specs.declared.diagnosis.Beyond.{Beyond}
use Rattle.diagnosis_value.specs.declared.diagnosis.Beyond.TheVariants as beyond
use Rattle.diagnosis_value.specs.declared.diagnosis.Stand.{Stand}
use Rattle.diagnosis_value.specs.declared.diagnosis.Stand.TheVariants as stand
use Rattle.diagnosis_value.specs.declared.diagnosis.Standing.{Standing}

-- where the last call stands of a rank that hasn't ended, by its readable prefix: an odd one ends with an Enter
abbrev pub stand_at : ℕ → Stand
stand_at prefix = if prefix == 0 then stand.Nowhere else if prefix % 2 == 1 then stand.In else stand.Behind

-- whether a rank has ended, or where its last call stands
abbrev pub stand_of : State → ℕ → Stand
stand_of Ended prefix = stand.Ended
stand_of Free prefix = stand_at prefix
stand_of Waiting prefix = stand_at prefix

-- what ends a prefix behind which more is known, by what is known of the next place
abbrev pub ends_with : Option Known → Beyond
ends_with (Some Contradiction) = beyond.Contradiction
ends_with (Some (One event)) = beyond.Gap
ends_with None = beyond.Gap

-- what ends the readable prefix of a rank, where more is known of it or was written
abbrev pub beyond_of : View → ℕ → Bool → Option Beyond
beyond_of view rank cut =
    if not (is_beyond view rank) then (if cut then Some beyond.Cut else None)
    else if is_unread view rank then Some beyond.Unread
    else Some (ends_with (cell view rank (prefix_of view rank)))

-- How a rank stands, but for its last call.
pub record Stands : Type 0 where
  pub rank : ℕ
  pub stand : Stand
  pub beyond : Option Beyond

-- what is told of a rank
abbrev pub stands_told : Standing → Stands
stands_told s = record { rank = s.rank; stand = s.stand; beyond = s.beyond }

-- how a rank stands in this state
abbrev pub stands_by : State → View → ℕ → Bool → Stands
stands_by state view r cut = record { rank = r; stand = stand_of state (prefix_of view r); beyond = beyond_of view r cut }

-- how a rank stands, by what it did; `cut` says of each rank whether its text was cut
abbrev pub stands_at : View → List Ops → List Bool → ℕ → Stands
stands_at view ops cut r = stands_by (ops_of ops r).state view r (is_up cut r)
