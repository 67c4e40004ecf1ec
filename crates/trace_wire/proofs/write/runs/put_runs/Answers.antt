use Rattle.std.proofs.Common.{◌≡◌, ◌+◌, ◌∷◌, List, length, ap, arith, subst, ◌∙◌}
use Rattle.trace_wire.specs.Cells.{Entry, knowns_bytes}
use Rattle.trace_wire.specs.Runs.{PlacedRun, run_bytes, runs_bytes, runs_of}
use Rattle.trace_wire.specs.Sending.{Comes}
use Rattle.trace_wire.proofs.Lengths.{runs_len}
use Rattle.trace_wire.proofs.Sending.{came, comes, next_item}
use Rattle.trace_wire.proofs.WrittenRuns.{none_left}
use Rattle.trace_wire.proofs.write.runs.put_runs.Goals as goal

pub loop-cells-init : goal.loop-cells-init
loop-cells-init g c = record { short = c.requires; comes = comes _ (runs_bytes (runs_of c.args.cells)) }

pub loop-cells-preserved : goal.loop-cells-preserved
loop-cells-preserved g c =
    let r = c.put_run.ensures.0 in
    let rest = runs_of c.put_run.new.cells in
    let is : runs_of c.loop-cells.cells ≡ r ∷ rest = c.put_run.ensures.1 in
    let len : length (runs_bytes (runs_of c.loop-cells.cells)) ≡ (16 + length (knowns_bytes r.cells)) + length (runs_bytes rest) = ap (λ (rs : List PlacedRun). length (runs_bytes rs)) is ∙ runs_len r rest in
    record {
      short = omega (arith, len, c.loop-cells.invariant.short);
      comes = next_item run_bytes _ _ _ (runs_bytes (runs_of c.args.cells)) r rest (subst (λ (rs : List PlacedRun). Comes (g.S.Sink.page c.args.out.now) (g.S.Sink.page c.loop-cells.out) (runs_bytes (runs_of c.args.cells)) (runs_bytes rs)) is c.loop-cells.invariant.comes) c.put_run.ensures.2;
    }

pub loop-cells-smaller : goal.loop-cells-smaller
loop-cells-smaller g c = omega (arith, ap (λ (rs : List PlacedRun). length rs) c.put_run.ensures.1)

pub returns : goal.returns
returns g c =
    let none = none_left c.loop-cells.cells (omega arith) in
    came _ _ (runs_bytes (runs_of c.args.cells)) (subst (λ (es : List Entry). Comes (g.S.Sink.page c.args.out.now) (g.S.Sink.page c.loop-cells.out) (runs_bytes (runs_of c.args.cells)) (runs_bytes (runs_of es))) none c.loop-cells.invariant.comes)
