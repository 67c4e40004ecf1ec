use Rattle.std.proofs.Common.{◌≡◌, ◌++◌, take}
use Rattle.std.specs.List.{flat_map}
use Rattle.trace_diagnosis.specs.Nearest.{near_message_at}
use Rattle.trace_diagnosis.proofs.unmatched.push_messages.Given as goal

abbrev pub invariant-loop-place : goal.invariant-loop-place
invariant-loop-place l = l.near.items ≡ l.fn.near.items ++ flat_map (near_message_at l.why l.q l.messages) (take l.place-index l.places)
