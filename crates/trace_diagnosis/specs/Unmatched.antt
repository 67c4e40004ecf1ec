-- What is told of messages, receives and requests that found no end.
use Rattle.std.specs.Prelude.{◌≡◌, Bool, List, All, filter, map}
use Rattle.std.specs.List.{flat_map}
use Rattle.mpi_model.specs.Layouts.{Parts}
use Rattle.mpi_model.specs.declared.message.Receive.{Receive}
use Rattle.trace_ops.specs.Ops.{Ops}
use Rattle.trace_pair.specs.declared.pair.Pair.{Pair}
use Rattle.trace_stuck.specs.Graph.{is_up}
use Rattle.trace_diagnosis.specs.Conditions.{Asker}
use Rattle.trace_diagnosis.specs.LeftOver.{is_told, left_over, unfinished_of}
use Rattle.trace_diagnosis.specs.Missed.{HasNearMessages, HasNearReceives}
use Rattle.trace_diagnosis.specs.Starving.{starving}
use Rattle.diagnosis_value.specs.declared.diagnosis.Unmatched.{Unmatched}

-- The receive is of a rank that waits or polls.
abbrev pub is_of_waiting : List Bool → Receive → Bool
is_of_waiting waits q = is_up waits q.at

-- What is told of messages, receives and requests, where these ranks poll, these are held, and these wait or poll: all
-- that is left over and to be told, by name; all that starves of ranks that wait or poll, rank by rank; each with its
-- near misses among all of the other; and all requests that were never completed.
pub record IsUnmatched (layout : Parts) (ops : List Ops) (pairs : List Pair) (askers : List Asker) (held waits : List Bool) (told : Unmatched) : Type 0 where
  pub near_receives : All (HasNearReceives (starving layout ops pairs askers)) told.left_over.items
  pub near_messages : All (HasNearMessages (left_over ops pairs)) told.starving.items
  pub left_over : map (λ l. l.message) told.left_over.items ≡ filter (is_told held waits) (left_over ops pairs)
  pub starving : map (λ s. s.receive) told.starving.items ≡ filter (is_of_waiting waits) (starving layout ops pairs askers)
  pub unfinished : told.unfinished.items ≡ flat_map unfinished_of ops
