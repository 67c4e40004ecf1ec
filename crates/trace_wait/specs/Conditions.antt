-- What a waiting rank waits for, call by call.
use Rattle.std.specs.Prelude.{ℕ, ◌+◌, Bool, Option, is_some, List, [], ◌∷◌}
use Rattle.std.specs.List.{list_any}
use Rattle.std.specs.Option.{option_map}
use Rattle.mpi_model.specs.Layouts.{Parts}
use Rattle.mpi_model.specs.declared.call.Call.{Call}
use Rattle.mpi_model.specs.declared.call.Call.TheVariants as calls
use Rattle.mpi_model.specs.declared.call.Call.TheVariants.{Local, Finalize, Send, Isend, Recv, Irecv, Sendrecv, Waitall, Waitany, Waitsome, Test, Testall, Testany, Testsome, Cancel, Free, Collective, Icollective, Probe, SendInit, RecvInit, Start, Startall, Mprobe, Improbe, Iprobe, Imrecv, Unread}
use Rattle.trace_stuck.specs.Shape.{Wait, OnNothing, OnAll, waits_of}
use Rattle.trace_ops.specs.Ops.{Ops}
use Rattle.trace_ops.specs.Receive.{probed}
use Rattle.trace_pair.specs.declared.pair.Pair.{Pair}
use Rattle.trace_wait.specs.declared.round.Round.{Round}
use Rattle.trace_wait.specs.Parts.{Run, send_of_call, receive_of_call, probe_part}
use Rattle.trace_wait.specs.Collectives.{collective_of_call}
use Rattle.trace_wait.specs.Requests.{request, requests, choices, some_of}

-- what both sides of a Sendrecv wait for
abbrev pub both_of_call : Run → ℕ → Ops → ℕ → Wait
both_of_call s r o n = OnAll (waits_of (send_of_call s r o n ∷ receive_of_call s r o n ∷ []))

-- what rank r waits for in its call n; the other calls don't wait
abbrev pub waits_for : Run → ℕ → Ops → ℕ → Call → Wait
waits_for s r o n (Send mode e) = send_of_call s r o n
waits_for s r o n (Recv e) = receive_of_call s r o n
waits_for s r o n (Sendrecv x) = both_of_call s r o n
waits_for s r o n (calls.Wait x) = request s r o x
waits_for s r o n (Waitall xs) = OnAll (waits_of (requests s r o xs))
waits_for s r o n (Waitany xs) = some_of (choices s r o xs)
waits_for s r o n (Waitsome xs) = some_of (choices s r o xs)
waits_for s r o n (Collective c) = collective_of_call s r o n
waits_for s r o n (Probe e) = probe_part s (probed s.layout r n e)
waits_for s r o n Local = OnNothing
waits_for s r o n Finalize = OnNothing
waits_for s r o n (Isend mode e) = OnNothing
waits_for s r o n (Irecv e) = OnNothing
waits_for s r o n (Icollective c) = OnNothing
waits_for s r o n (Test x) = OnNothing
waits_for s r o n (Testall xs) = OnNothing
waits_for s r o n (Testany xs) = OnNothing
waits_for s r o n (Testsome xs) = OnNothing
waits_for s r o n (Cancel x) = OnNothing
waits_for s r o n (Free x) = OnNothing
waits_for s r o n (SendInit mode e) = OnNothing
waits_for s r o n (RecvInit e) = OnNothing
waits_for s r o n (Start x) = OnNothing
waits_for s r o n (Startall xs) = OnNothing
waits_for s r o n (Mprobe e) = receive_of_call s r o n
waits_for s r o n (Improbe e) = OnNothing
waits_for s r o n (Iprobe e) = OnNothing
waits_for s r o n Imrecv = OnNothing
waits_for s r o n Unread = OnNothing

-- the condition of rank r, whose operations these are, where it waits
abbrev pub condition_of : Run → ℕ → Ops → Option Wait
condition_of s r o = option_map (λ w. waits_for s r o w.0 w.1) o.waiting

-- some rank waits
abbrev pub does_one_wait : List Ops → Bool
does_one_wait ops = list_any (λ (o : Ops). is_some o.waiting) ops

-- the conditions of the ranks from `first` on
abbrev pub conditions_from : Run → ℕ → List Ops → List (Option Wait)
conditions_from s first [] = []
conditions_from s first (o ∷ ops) = condition_of s first o ∷ conditions_from s (first + 1) ops

-- a run: what the ranks did, with the pairs and the rounds
abbrev pub run_of : Parts → List Ops → List Pair → List Round → Run
run_of layout ops pairs rounds = record { layout = layout; ops = ops; pairs = pairs; rounds = rounds }

-- the conditions of all ranks, by their operations, the pairs and the rounds
abbrev pub conditions_of : Parts → List Ops → List Pair → List Round → List (Option Wait)
conditions_of layout ops pairs rounds = conditions_from (run_of layout ops pairs rounds) 0 ops
