use Rattle.std.proofs.Common.{[], ◌≡◌, ◌++◌, List, Some, None, refl, rules, sym, ap, subst, ◌∙◌}
use Rattle.std.specs.FinMap.{entries}
use Rattle.trace_wire.specs.Cells.{Entry}
use Rattle.trace_wire.specs.Runs.{run_cells}
use Rattle.trace_wire.proofs.LastCells.{AllUpTo, up_to_before, past_all, entries_none, run_behind_all}
use Rattle.trace_wire.proofs.WindowRuns.{runs_done, runs_next, runs_start, runs_stop}
use Rattle.trace_wire.proofs.Windows.{leaves_both, taken_all, taken_then}
use Rattle.trace_wire.proofs.read.runs.runs_of.Goals as goal

pub loop-init : goal.loop-init
loop-init g c =
    let none : entries c.new-knowledge.result ≡ [] = ap entries c.new-knowledge.ensures ∙ entries_none in
    record {
      far = runs_start _ _ c.args.count (entries c.new-knowledge.result) none;
      up_to = subst (λ (es : List Entry). AllUpTo None es) (sym none) tt;
      no_failure = refl;
      beside = search rules;
    }

pub put_run-requires : goal.put_run-requires
put_run-requires g c = λ rank place past. past_all c.loop.knowledge rank place (up_to_before c.loop.last (rank, place) (entries c.loop.knowledge) past c.loop.invariant.up_to)

pub loop-preserved : goal.loop-preserved
loop-preserved g c =
    let ok = c.in-Ok.ensures.ok in
    let r = ok.0 in
    let end = c.in-Ok.found in
    let now : entries c.put_run.new.knowledge ≡ entries c.loop.knowledge ++ run_cells r = ok.2.2 in
    let before = up_to_before c.loop.last (r.rank, r.first) (entries c.loop.knowledge) ok.2.0 c.loop.invariant.up_to in
    record {
      far = runs_next _ _ _ _ _ _ c.args.count c.loop.counter (entries c.loop.knowledge) _ c.loop.last r end c.loop-test.true c.loop.invariant.far ok.1 ok.2.1 now;
      up_to = subst (λ (es : List Entry). AllUpTo (Some end) es) (sym now) (rw ok.2.1 (run_behind_all r.rank r.first r.cells (entries c.loop.knowledge) before));
      no_failure = c.in-Ok.ensures.no_failure ∙ c.loop.invariant.no_failure;
      beside = leaves_both _ _ _ c.loop.invariant.beside c.in-Ok.ensures.beside;
    }

pub returns-in-Err-clause-err : goal.returns-in-Err-clause-err
returns-in-Err-clause-err g c = runs_stop _ _ _ _ _ _ _ _ _ c.args.count c.loop.counter (entries c.loop.knowledge) c.loop.last c.in-Err.fault c.loop-test.true c.loop.invariant.far c.loop.invariant.no_failure c.in-Err.ensures.err

pub returns-in-Err-clause-taken : goal.returns-in-Err-clause-taken
returns-in-Err-clause-taken g c = taken_then _ _ _ _ _ _ c.loop.invariant.far c.in-Err.ensures.taken

pub returns-clause-ok : goal.returns-clause-ok
returns-clause-ok g c = runs_done _ _ _ _ c.args.count c.loop.counter (entries c.loop.knowledge) c.loop.last c.loop-test.false c.loop.invariant.far

pub returns-clause-taken : goal.returns-clause-taken
returns-clause-taken g c = taken_all _ _ _ _ _ c.loop.invariant.far
