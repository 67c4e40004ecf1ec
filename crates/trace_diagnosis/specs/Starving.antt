-- Receives and probes that starve.
--
-- Of the messages that a receive fits, the one that an earlier receive of its rank may have taken needn't come to it
-- (MPI 4.0, 3.5: receives take messages in the order in which they were posted). So a receive starves where each such
-- message may have been taken by an open receive that its rank posted by an earlier call.
use Rattle.std.specs.Prelude.{ℕ, Bool, false, ◌&&◌, ◌||◌, ◌==◌, nat_lt, Option, Some, None, is_none, List, [], ◌++◌, filter, length, if◌then◌else◌}
use Rattle.std.specs.List.{flat_map, list_all, list_any, range_with_len}
use Rattle.std.specs.Option.{option_and_then, option_to_list}
use Rattle.mpi_model.specs.declared.call.Call.{Call}
use Rattle.mpi_model.specs.declared.call.Call.TheVariants.{Probe, Iprobe, Improbe}
use Rattle.mpi_model.specs.declared.event.OpName.{OpName}
use Rattle.mpi_model.specs.declared.message.Message.{Message}
use Rattle.mpi_model.specs.declared.message.Receive.{Receive}
use Rattle.mpi_model.specs.Fit.{envelopes_fit}
use Rattle.mpi_model.specs.Layouts.{Parts}
use Rattle.mpi_model.specs.Ranges.{Probed}
use Rattle.mpi_model.specs.Trusts.{is_open, is_sure}
use Rattle.trace_ops.specs.Foreign.{is_foreign}
use Rattle.trace_ops.specs.Ops.{Ops}
use Rattle.trace_ops.specs.Receive.{probed}
use Rattle.trace_pair.specs.After.{comes_after}
use Rattle.trace_pair.specs.Ends.{may_take}
use Rattle.trace_pair.specs.Table.{same_name}
use Rattle.trace_pair.specs.declared.pair.Pair.{Pair}
use Rattle.trace_wait.specs.Matching.{is_unpaired_receive}
use Rattle.trace_wait.specs.Ranks.{ops_of}
use Rattle.trace_diagnosis.specs.Conditions.{Asker}
use Rattle.trace_diagnosis.specs.LeftOver.{loose}

-- the name of a rank's call, which is no Startall
abbrev pub call_name : ℕ → ℕ → OpName
call_name r n = record { rank = r; call = n; part = 0 }

-- the rank waits in the call of that name
abbrev pub waits_in : ℕ → Option (ℕ × Call) → OpName → Bool
waits_in r None n = false
waits_in r (Some w) n = same_name (call_name r w.0) n

-- An operation of a rank is pending: the rank waits in its call, or its request is active.
abbrev pub is_pending : ℕ → Ops → OpName → Bool
is_pending r o n = waits_in r o.waiting n || list_any (λ p. same_name p.1 n) o.active

-- A receive may starve: it is sure, not completed, pending, and in no pair.
abbrev pub may_starve : (OpName → Bool) → List Pair → Receive → Bool
may_starve pending pairs q = is_sure q.trust && is_none q.ended && pending q.name && is_unpaired_receive pairs q

-- what a probe looks for that takes nothing by itself
abbrev pub probe_of : Call → Option Probed
probe_of (Probe e) = Some e
probe_of (Iprobe e) = Some e
probe_of (Improbe e) = Some e
probe_of call = None

-- The receive as which this call of a rank looks for a message. There is none where the call is foreign, or looks for
-- one of the null process.
abbrev pub probe_at : Parts → ℕ → ℕ × Call → List Receive
probe_at layout r c = if is_foreign layout r c.0 c.1 then [] else option_to_list (option_and_then (probed layout r c.0) (probe_of c.1))

-- as which the rank looks in the call in which it waits
abbrev pub waiting_probe : Parts → ℕ → Option (ℕ × Call) → List Receive
waiting_probe layout r None = []
waiting_probe layout r (Some w) = probe_at layout r w

-- as which it polls
abbrev pub polled_by : Parts → Asker → List Receive
polled_by layout a = flat_map (probe_at layout a.rank) a.calls

-- as which a rank polls
abbrev pub polled : Parts → List Asker → ℕ → List Receive
polled layout askers r = flat_map (λ a. if a.rank == r then polled_by layout a else []) askers

-- the receives of a rank that may starve, with the probes of its polls
abbrev pub candidates_by : Parts → List Pair → ℕ → Ops → List Receive → List Receive
candidates_by layout pairs r o polls = filter (may_starve (is_pending r o) pairs) o.receives ++ waiting_probe layout r o.waiting ++ polls

-- What may starve of a rank: its receives, in the order of their calls, and then the receives as which its probes look.
abbrev pub candidates_at : Parts → List Ops → List Pair → List Asker → ℕ → List Receive
candidates_at layout ops pairs askers r = candidates_by layout pairs r (ops_of ops r) (polled layout askers r)

-- what may starve of all ranks, one rank after another
abbrev pub candidates : Parts → List Ops → List Pair → List Asker → List Receive
candidates layout ops pairs askers = flat_map (candidates_at layout ops pairs askers) (range_with_len 0 (length ops))

-- the open receives of its rank with a lower call number
abbrev pub opened_before : List Ops → Receive → List Receive
opened_before ops q = filter (λ u. is_open u && nat_lt u.name.call q.name.call) (ops_of ops q.at).receives

-- Each of the messages that it fits may have been taken by one of those.
abbrev pub is_starved : List Ops → List Message → Receive → Bool
is_starved ops messages q = list_all (may_take (comes_after ops) (opened_before ops q)) (filter (λ m. envelopes_fit m q) messages)

-- The receives and probes that starve, by the messages in no pair that weren't cancelled.
abbrev pub starving : Parts → List Ops → List Pair → List Asker → List Receive
starving layout ops pairs askers = filter (is_starved ops (loose ops pairs)) (candidates layout ops pairs askers)
