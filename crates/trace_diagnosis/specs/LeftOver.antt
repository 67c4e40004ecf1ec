-- Messages that are left over, and requests that were never completed.
use Rattle.std.specs.Prelude.{Bool, ◌&&◌, ◌||◌, not, List, [], filter, map}
use Rattle.std.specs.List.{flat_map, list_any}
use Rattle.mpi_model.specs.declared.event.OpName.{OpName}
use Rattle.mpi_model.specs.declared.message.Message.{Message}
use Rattle.mpi_model.specs.declared.message.Receive.{Receive}
use Rattle.mpi_model.specs.Trusts.{is_sure, is_void}
use Rattle.trace_ops.specs.Ops.{Ops}
use Rattle.trace_ops.specs.declared.state.State.{State}
use Rattle.trace_ops.specs.declared.state.State.TheVariants.{Free, Waiting, Ended}
use Rattle.trace_pair.specs.After.{comes_after}
use Rattle.trace_pair.specs.Ends.{may_take}
use Rattle.trace_pair.specs.declared.pair.Pair.{Pair}
use Rattle.trace_stuck.specs.Graph.{is_up}
use Rattle.trace_wait.specs.Matching.{free_receives, is_unpaired_message}

-- a message in no pair that wasn't cancelled
abbrev pub is_loose : List Pair → Message → Bool
is_loose pairs m = not (is_void m.trust) && is_unpaired_message pairs m

-- all of them, by name
abbrev pub loose : List Ops → List Pair → List Message
loose ops pairs = flat_map (λ o. filter (is_loose pairs) o.sends) ops

-- It is left over beside these receives where it is sure, and each of them whose envelope fits it was completed before
-- it was sent.
abbrev pub is_left_beside : List Ops → List Receive → Message → Bool
is_left_beside ops free m = is_sure m.trust && not (may_take (comes_after ops) free m)

-- It is left over where it is so beside all receives in no pair.
abbrev pub is_left : List Ops → List Pair → Message → Bool
is_left ops pairs = is_left_beside ops (free_receives ops pairs)

-- It is undecided beside these receives where it is sure, and one of them whose envelope fits it may have taken it.
abbrev pub is_undecided_beside : List Ops → List Receive → Message → Bool
is_undecided_beside ops free m = is_sure m.trust && may_take (comes_after ops) free m

-- the messages that are left over
abbrev pub left_over : List Ops → List Pair → List Message
left_over ops pairs = filter (is_left ops pairs) (loose ops pairs)

-- Told are those that were sent to a rank which is held or has no condition.
abbrev pub is_told : List Bool → List Bool → Message → Bool
is_told held waits m = is_up held m.to || not (is_up waits m.to)

-- a message that is sure and in no pair
abbrev pub is_sure_loose : List Pair → Message → Bool
is_sure_loose pairs m = is_sure m.trust && is_unpaired_message pairs m

-- some rank sent one
abbrev pub has_sure_loose : List Pair → List Ops → Bool
has_sure_loose pairs ops = list_any (λ (o : Ops). list_any (is_sure_loose pairs) o.sends) ops

-- the requests of a rank that were active when it ended
abbrev pub unfinished_of : Ops → List OpName
unfinished_of o = of o.state
  where
    of : State → List OpName
    of Ended = map (λ p. p.1) o.active
    of Free = []
    of Waiting = []
