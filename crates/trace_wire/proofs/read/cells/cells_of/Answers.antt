use Rattle.std.proofs.Common.{◌≡◌, ◌-◌, ◌+◌, ℕ, List, [], ◌∷◌, ◌++◌, Some, None, sym, ap, subst, ◌∙◌, arith}
use Rattle.std.specs.FinMap.{entries}
use Rattle.trace_wire.specs.Cells.{Entry}
use Rattle.trace_wire.specs.Parts.{cell, parts_at}
use Rattle.trace_wire.proofs.PartLoop.{alone, as_cells, cells_after, cells_at, ends, goes_on, is_done, starts}
use Rattle.trace_wire.proofs.LastCells.{AllUpTo, up_to_before, before_up_to, insert-last, past_all, entries_none}
use Rattle.trace_wire.proofs.read.cells.cells_of.Goals as goal

pub loop-init : goal.loop-init
loop-init c =
    let none : entries c.new-knowledge.result ≡ [] = ap entries c.new-knowledge.ensures ∙ entries_none in
    let zero : c.args.count - 0 ≡ c.args.count = omega arith in
    record {
      so_far = ap (λ (n : ℕ). cells_after (entries c.new-knowledge.result) (cells_at cell alone n None c.args.bytes.now)) zero ∙ starts (entries c.new-knowledge.result) (cells_at cell alone c.args.count None c.args.bytes.now) none
          ∙ as_cells (parts_at cell c.args.count None c.args.bytes.now);
      up_to = subst (λ (es : List Entry). AllUpTo None es) (sym none) tt;
    }

pub put_cell-requires : goal.put_cell-requires
put_cell-requires c = λ rank place past. past_all c.loop.knowledge rank place (up_to_before c.loop.last (rank, place) (entries c.loop.knowledge) past c.loop.invariant.up_to)

pub loop-preserved : goal.loop-preserved
loop-preserved c =
    let here = c.in-Ok.found.0 in
    let known = c.in-Ok.ensures.ok.0 in
    let before = up_to_before c.loop.last here (entries c.loop.knowledge) c.in-Ok.ensures.past c.loop.invariant.up_to in
    let now : entries c.put_cell.new.knowledge ≡ entries c.loop.knowledge ++ (here, known) ∷ [] = ap entries c.in-Ok.ensures.ok.2 ∙ insert-last c.loop.knowledge here known before in
    let next = goes_on cell alone (entries c.loop.knowledge) c.args.count c.loop.counter c.loop.last c.loop.rest.now (here, known) c.in-Ok.found.1.now (parts_at cell c.args.count None c.args.bytes.now) c.loop-test.true c.in-Ok.ensures.ok.1 c.loop.invariant.so_far in
    record {
      so_far = subst (λ (es : List Entry). cells_after es (cells_at cell alone (c.args.count - (c.loop.counter + 1)) (Some here) c.in-Ok.found.1.now) ≡ parts_at cell c.args.count None c.args.bytes.now) (sym now) next;
      up_to = subst (λ (es : List Entry). AllUpTo (Some here) es) (sym now) (before_up_to here known (entries c.loop.knowledge) before);
    }

pub returns-in-Err-clause-value : goal.returns-in-Err-clause-value
returns-in-Err-clause-value c = ends cell alone c.in-Err.fault (entries c.loop.knowledge) c.args.count c.loop.counter c.loop.last c.loop.rest.now (parts_at cell c.args.count None c.args.bytes.now) c.loop-test.true c.in-Err.ensures.err c.loop.invariant.so_far

pub returns-clause-value : goal.returns-clause-value
returns-clause-value c = is_done cell alone (entries c.loop.knowledge) c.args.count c.loop.counter c.loop.last c.loop.rest.now (parts_at cell c.args.count None c.args.bytes.now) c.loop-test.false c.loop.invariant.so_far
