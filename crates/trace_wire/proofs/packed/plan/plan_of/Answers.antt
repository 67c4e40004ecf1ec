use Rattle.std.proofs.Common.{◌≡◌, ◌∷◌, [], Some, List, false, rules, sym, subst}
use Rattle.std.specs.FinMap.{entries}
use Rattle.trace_wire.specs.Cells.{AreInRange, Entry}
use Rattle.trace_wire.proofs.OwnCells.{own_cells}
use Rattle.trace_wire.proofs.Plans.{Planned, goes_next, planned_all, planned_more, planned_none, sizes_few, unplanned}
use Rattle.trace_wire.proofs.packed.plan.plan_of.Goals as goal

pub loop-known-init : goal.loop-known-init
loop-known-init c =
    let all : List Entry = entries c.args.knowledge.now in
    record {
      run_len = c.run_len-run_len.ensures;
      planned = subst (λ (rest : List Entry). Planned all rest c.new-plan.result.items c.empty-part.result false) (sym c.cells-cells.ensures) (planned_none all c.empty-part.result c.new-plan.result.items c.new-plan.ensures.items c.empty-part.ensures);
      range = λ range. subst (λ (es : List Entry). AreInRange es) c.cells-cells.ensures range;
    }

pub add_cell-requires-clause-cells : goal.add_cell-requires-clause-cells
add_cell-requires-clause-cells c = (sizes_few _ _ _ _ _ c.loop-known.invariant.planned).0

pub add_cell-requires-clause-runs : goal.add_cell-requires-clause-runs
add_cell-requires-clause-runs c = (sizes_few _ _ _ _ _ c.loop-known.invariant.planned).1

pub add_cell-requires-clause-len : goal.add_cell-requires-clause-len
add_cell-requires-clause-len c = (sizes_few _ _ _ _ _ c.loop-known.invariant.planned).2

pub loop-known-preserved : goal.loop-known-preserved
loop-known-preserved c =
    let all : List Entry = entries c.args.knowledge.now in
    let e : Entry = ((c.in-Some.field-0-0, c.in-Some.field-0-1), c.in-Some.known.now) in
    let es : List Entry = c.next.new.self in
    let is : c.loop-known.cells ≡ e ∷ es = c.in-Some.ensures.steps in
    let was = c.loop-known.invariant in
    record {
      run_len = c.run_len-run_len-in-Some.ensures;
      planned = planned_more all c.loop-known.cells es e c.loop-known.plan.items c.add_cell.new.plan.items c.loop-known.part c.in-Ok.part c.loop-known.goes_on _ c.known_len.result was.planned is c.known_len.ensures.value c.in-Ok.ensures.ok (goes_next c.loop-known.run_len c.loop-known.cells e es was.run_len is);
      range = λ ranges. was.range (subst (λ (l : List Entry). AreInRange l) (sym is) (c.known_len.ensures.range, ranges));
    }

pub returns-in-Err-clause-err : goal.returns-in-Err-clause-err
returns-in-Err-clause-err c =
    let all : List Entry = entries c.args.knowledge.now in
    let e : Entry = ((c.in-Some.field-0-0, c.in-Some.field-0-1), c.in-Some.known.now) in
    unplanned all c.loop-known.cells c.next.new.self e c.loop-known.plan.items c.loop-known.part c.loop-known.goes_on c.known_len.result c.in-Err.fault c.loop-known.invariant.planned c.in-Some.ensures.steps c.known_len.ensures.value c.in-Err.ensures.err

pub returns-clause-ok : goal.returns-clause-ok
returns-clause-ok c =
    let all : List Entry = entries c.args.knowledge.now in
    let none : c.loop-known.cells ≡ [] = search rules in
    planned_all all c.loop-known.cells c.loop-known.plan.items c.push.new.self.items c.loop-known.part c.loop-known.goes_on c.loop-known.invariant.planned none c.in_ok-push.ensures.items

pub returns-clause-cells : goal.returns-clause-cells
returns-clause-cells c =
    let v = c.args.knowledge.now in
    let none : c.loop-known.cells ≡ [] = search rules in
    own_cells (entries v) (c.listing_laws.ensures.cells_rise v)
    (λ rank place known is. c.known.ensures.placed rank place known ((c.listing_laws.ensures.cells v rank place (Some known)).0 is).0)
    (c.loop-known.invariant.range (subst (λ (es : List Entry). AreInRange es) (sym none) tt))
