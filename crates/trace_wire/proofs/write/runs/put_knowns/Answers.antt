use Rattle.std.proofs.Common.{◌≡◌, ℕ, ◌<◌, ◌^◌, ◌+◌, ◌-◌, ◌∷◌, List, take, drop, length, ap, arith, sym, subst, ◌∙◌}
use Rattle.trace_wire.specs.Cells.{Entry, known_bytes, knowns_bytes, knowns_of}
use Rattle.trace_wire.specs.Sending.{Comes}
use Rattle.trace_wire.proofs.Sending.{came, comes, next_item}
use Rattle.trace_wire.proofs.WrittenRuns.{drop_ahead, dropped_none, knowns_ahead, take_ahead, taken_all}
use Rattle.trace_wire.proofs.write.runs.put_knowns.Goals as goal

pub loop-init : goal.loop-init
loop-init g c =
    let all = knowns_bytes (knowns_of (take c.args.count c.args.cells.now)) in
    let zero : c.args.count - 0 ≡ c.args.count = omega arith in
    record {
      there = omega (arith, c.requires.there);
      left = ap (λ (n : ℕ). drop n c.args.cells.now) zero;
      short = subst (λ (n : ℕ). length (knowns_bytes (knowns_of (take n c.args.cells.now))) < 2 ^ 32) (sym zero) c.requires.short;
      comes = subst (λ (n : ℕ). Comes (g.S.Sink.page c.args.out.now) (g.S.Sink.page c.args.out.now) all (knowns_bytes (knowns_of (take n c.args.cells.now)))) (sym zero) (comes (g.S.Sink.page c.args.out.now) all);
    }

pub put_known-requires : goal.put_known-requires
put_known-requires g c =
    let e : Entry = ((c.in-Some.field-0-0, c.in-Some.field-0-1), c.in-Some.known.now) in
    omega (arith, knowns_ahead c.loop.cells e c.next.new.self c.args.count c.loop.counter c.loop-test.true c.in-Some.ensures.steps, c.loop.invariant.short)

pub loop-preserved : goal.loop-preserved
loop-preserved g c =
    let e : Entry = ((c.in-Some.field-0-0, c.in-Some.field-0-1), c.in-Some.known.now) in
    let es : List Entry = c.next.new.self in
    let is : c.loop.cells ≡ e ∷ es = c.in-Some.ensures.steps in
    let front = take_ahead c.loop.cells e es c.args.count c.loop.counter c.loop-test.true is in
    let all = knowns_bytes (knowns_of (take c.args.count c.args.cells.now)) in
    let size : length c.loop.cells ≡ length (e ∷ es) = ap (λ (xs : List Entry). length xs) is in
    record {
      there = omega (arith, size, c.loop.invariant.there);
      left = sym (drop_ahead c.loop.cells e es c.args.count c.loop.counter c.loop-test.true is) ∙ c.loop.invariant.left;
      short = omega (arith, knowns_ahead c.loop.cells e es c.args.count c.loop.counter c.loop-test.true is, c.loop.invariant.short);
      comes = next_item known_bytes _ _ _ all e.1 (knowns_of (take (c.args.count - (c.loop.counter + 1)) es)) (subst (λ (xs : List Entry). Comes (g.S.Sink.page c.args.out.now) (g.S.Sink.page c.loop.out) all (knowns_bytes (knowns_of xs))) front c.loop.invariant.comes) c.put_known.ensures;
    }

pub returns-clause-sends : goal.returns-clause-sends
returns-clause-sends g c =
    let all = knowns_bytes (knowns_of (take c.args.count c.args.cells.now)) in
    came _ _ all (subst (λ (xs : List Entry). Comes (g.S.Sink.page c.args.out.now) (g.S.Sink.page c.loop.out) all (knowns_bytes (knowns_of xs))) (taken_all c.loop.cells c.args.count c.loop.counter c.loop-test.false) c.loop.invariant.comes)

pub returns-clause-rest : goal.returns-clause-rest
returns-clause-rest g c = sym (dropped_none c.loop.cells c.args.count c.loop.counter c.loop-test.false) ∙ c.loop.invariant.left
