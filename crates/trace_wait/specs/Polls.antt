-- What a rank asks for that polls: a Test or a probe that returned at once, asked again and again (MPI 4.0, 3.7.3,
-- 3.7.5, 3.8.1 and 3.8.2).
use Rattle.std.specs.Prelude.{ℕ, if◌then◌else◌}
use Rattle.mpi_model.specs.Ranges.{Probed}
use Rattle.mpi_model.specs.declared.call.Call.{Call}
use Rattle.mpi_model.specs.declared.call.Call.TheVariants as calls
use Rattle.mpi_model.specs.declared.call.Call.TheVariants.{Test, Testall, Testany, Testsome, Improbe, Iprobe}
use Rattle.trace_stuck.specs.Shape as waits
use Rattle.trace_stuck.specs.Shape.{OnNothing}
use Rattle.trace_ops.specs.Foreign.{is_foreign}
use Rattle.trace_ops.specs.Ops.{Ops}
use Rattle.trace_wait.specs.declared.polls.Poll.{Poll}
use Rattle.trace_wait.specs.Parts.{Run}
use Rattle.trace_wait.specs.Ranks.{ops_of}
use Rattle.trace_wait.specs.Conditions.{waits_for}

-- what a probe that returns at once looks for, as a Probe would that waits for it: nothing where it is foreign
abbrev pub sought_by : Run → ℕ → Ops → ℕ → Call → Probed → waits.Wait
sought_by s r o n call e = if is_foreign s.layout r n call then OnNothing else waits_for s r o n (calls.Probe e)

-- What rank r asks for by its call n: what the Wait, Waitall, Waitany, Waitsome or Probe of the same content would wait
-- for.
abbrev pub asked_by : Run → ℕ → Ops → ℕ → Call → waits.Wait
asked_by s r o n (Test x) = waits_for s r o n (calls.Wait x)
asked_by s r o n (Testall xs) = waits_for s r o n (calls.Waitall xs)
asked_by s r o n (Testany xs) = waits_for s r o n (calls.Waitany xs)
asked_by s r o n (Testsome xs) = waits_for s r o n (calls.Waitsome xs)
asked_by s r o n (Improbe e) = sought_by s r o n (Improbe e) e
asked_by s r o n (Iprobe e) = sought_by s r o n (Iprobe e) e
asked_by s r o n call = OnNothing

-- what a poll asks for
abbrev pub asked_of : Run → Poll → waits.Wait
asked_of s p = asked_by s p.rank (ops_of s.ops p.rank) p.number p.call.now
