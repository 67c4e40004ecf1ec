use Rattle.std.proofs.Common.{◌≡◌, ℕ, take, vec_len}
use Rattle.trace_stuck.specs.Queue.{flag}
use Rattle.trace_stuck.specs.States.{is_free}
use Rattle.trace_stuck.proofs.release.free_flags.Given as goal

abbrev pub invariant-loop-s : goal.invariant-loop-s
invariant-loop-s l = (vec_len l.flags ≡ l.s-index) × ((r : ℕ) → flag l.flags.items r ≡ is_free (take l.s-index l.states) r)
