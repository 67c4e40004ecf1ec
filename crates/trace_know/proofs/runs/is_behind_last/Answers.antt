use Rattle.std.proofs.Common.{◌-◌, ◌<◌, length, sym, subst, arith}
use Rattle.trace_know.specs.Runs.{IsFilled}
use Rattle.trace_know.proofs.Order.{filled}
use Rattle.trace_know.proofs.runs.is_behind_last.Goals as goal

pub end-requires : goal.end-requires
end-requires c =
    let runs = c.args.runs.now.items in
    let inside : length runs - 1 < length runs = omega arith in
    subst IsFilled (sym c.last-run.ensures) (filled 0 (length runs - 1) runs c.last-run.result.now c.requires.above inside)
