use Rattle.std.proofs.Common.{refl, rules, ◌∙◌}
use Rattle.trace_wire.specs.declared.fault.WireFault.TheVariants.{Content}
use Rattle.trace_wire.specs.Parts.{knowns_at, or_fault}
use Rattle.trace_wire.proofs.WindowRuns.{knowns_done, knowns_next, knowns_start, knowns_stop, no_memory}
use Rattle.trace_wire.proofs.Windows.{leaves_both, taken_all, taken_then}
use Rattle.trace_wire.proofs.read.runs.knowns_of.Goals as goal

pub loop-at-init : goal.loop-at-init
loop-at-init g c = record {
  far = knowns_start _ _ c.args.first c.args.count _ (search rules);
  no_failure = refl;
  beside = search rules;
}

pub loop-at-preserved : goal.loop-at-preserved
loop-at-preserved g c = record {
  far = rw c.in-Ok-push.ensures.items (rw c.make_room.ensures (knowns_next _ _ _ _ _ _ c.args.first c.args.count c.loop-at.at c.loop-at.cells.items c.in-Ok.found c.loop-at-test.true c.loop-at.invariant.far c.in-Ok.ensures.ok));
  no_failure = c.in-Ok.ensures.no_failure ∙ c.loop-at.invariant.no_failure;
  beside = leaves_both _ _ _ c.loop-at.invariant.beside c.in-Ok.ensures.beside;
}

pub returns-in-Err-clause-err : goal.returns-in-Err-clause-err
returns-in-Err-clause-err g c = knowns_stop _ _ _ _ _ _ _ _ _ c.args.first c.args.count c.loop-at.at c.loop-at.cells.items c.in-Err.fault c.loop-at-test.true c.loop-at.invariant.far c.loop-at.invariant.no_failure c.in-Err.ensures.err

pub returns-in-Err-clause-taken : goal.returns-in-Err-clause-taken
returns-in-Err-clause-taken g c = taken_then _ _ _ _ _ _ c.loop-at.invariant.far c.in-Err.ensures.taken

pub returns-in-Err-push-clause-err : goal.returns-in-Err-push-clause-err
returns-in-Err-push-clause-err g c =
    no_memory _ _ _ _ _ _ _ (λ w. or_fault Content (knowns_at c.args.first c.args.count w)) (knowns_next _ _ _ _ _ _ c.args.first c.args.count c.loop-at.at c.loop-at.cells.items c.in-Ok.found c.loop-at-test.true c.loop-at.invariant.far c.in-Ok.ensures.ok) (c.in-Ok.ensures.no_failure ∙ c.loop-at.invariant.no_failure)

pub returns-in-Err-push-clause-taken : goal.returns-in-Err-push-clause-taken
returns-in-Err-push-clause-taken g c = taken_then _ _ _ _ _ _ c.loop-at.invariant.far c.in-Ok.ensures.taken

pub returns-clause-ok : goal.returns-clause-ok
returns-clause-ok g c = knowns_done _ _ _ _ c.args.first c.args.count c.loop-at.at c.loop-at.cells.items c.loop-at-test.false c.loop-at.invariant.far

pub returns-clause-taken : goal.returns-clause-taken
returns-clause-taken g c = taken_all _ _ _ _ _ c.loop-at.invariant.far
