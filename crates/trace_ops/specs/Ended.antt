-- By which call a receive is completed (MPI 4.0, 3.2.4, 3.7.3, 3.7.5 and 3.8.2).
use Rattle.std.specs.Prelude.{ℕ, ℤ, if◌then◌else◌, Option, Some, None, List, [], ◌∷◌}
use Rattle.mpi_model.specs.declared.outcome.Outs.{Outs}
use Rattle.trace_ops.specs.Request.{is_completing}
use Rattle.trace_ops.specs.Steps.{Step, touches}

-- The call whose outcome completes the request x, by the steps behind its post: the first of them that touches x, where
-- that completes it.
abbrev pub ended_by : ℤ → List Step → Option ℕ
ended_by x [] = None
ended_by x (s ∷ later) = if touches x s then (if is_completing s.entry then Some s.number else None) else ended_by x later

-- the call that completes a receive which posted this number
abbrev pub ended_of_post : List Step → Option ℤ → Option ℕ
ended_of_post later None = None
ended_of_post later (Some x) = ended_by x later

-- a Recv, Sendrecv, Mprobe or Improbe is completed by its own call n, once that has returned
abbrev pub ended_of_own : ℕ → Option Outs → Option ℕ
ended_of_own n None = None
ended_of_own n (Some outs) = Some n
