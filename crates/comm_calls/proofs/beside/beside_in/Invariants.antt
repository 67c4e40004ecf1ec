use Rattle.std.proofs.Common.{◌≡◌, drop}
use Rattle.comm_calls.specs.Calls.{beside_in}
use Rattle.comm_calls.proofs.beside.beside_in.Given as goal

abbrev pub invariant-loop-place : goal.invariant-loop-place
invariant-loop-place l = beside_in l.name (drop l.place l.raw.params) ≡ beside_in l.name l.raw.params
