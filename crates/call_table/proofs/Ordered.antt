-- No call ends before it begins.
use Rattle.std.proofs.Common.{ℕ, ◌≤◌, Option, Some, None}
use Rattle.std.proofs.Math.Nat.{le-max_left}
use Rattle.call_table.specs.Spans.{end_of}

pub begins_before : (enter : ℕ) (exit : Option ℕ) (last : ℕ) → enter ≤ end_of enter exit last
begins_before enter None last = le-max_left enter last
begins_before enter (Some exit) last = le-max_left enter exit
