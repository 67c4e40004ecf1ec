use Rattle.std.proofs.Common.{◌≡◌, drop, map}
use Rattle.run_inputs.specs.Seen.{kept_of, limit_in}
use Rattle.run_inputs.proofs.load.cut_files.cut_at.Given as goal

abbrev pub invariant-loop-cut : goal.invariant-loop-cut
invariant-loop-cut l = limit_in (map kept_of (drop l.cut-index l.cuts)) l.path ≡ limit_in (map kept_of l.cuts) l.path
