use Rattle.std.proofs.Common.{length, ap, arith}
use Rattle.trace_know.proofs.Merging.{none-over, none-told}
use Rattle.trace_know.proofs.patches.patched.Goals as goal

pub loop-runs-init : goal.loop-runs-init
loop-runs-init c =
    let rs = c.args.runs.items in
    let ps = c.args.patch.items in
    let fs = c.args.between.items in
    let none = ap length c.requires.empty.0 in
    let between = c.requires.between in
    let room = c.requires.room in
    record {
      room = omega arith;
      turned = omega arith;
      merging = none-over rs ps fs c.requires.empty.0 c.requires.above c.requires.patch c.requires.covers;
      view = none-told rs ps fs c.requires.empty.0;
    }
