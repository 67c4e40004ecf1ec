use Rattle.std.proofs.Common.{◌≡◌, ◌+◌, ◌-◌, ◌∷◌, ℕ, List, length, take, drop, refl, ap, arith, sym, subst, ◌∙◌, length-drop}
use Rattle.trace_wire.specs.Cells.{Entry, knowns_bytes}
use Rattle.trace_wire.specs.Runs.{PlacedRun, run_bytes, runs_bytes, runs_of}
use Rattle.trace_wire.specs.Sending.{Comes}
use Rattle.trace_wire.proofs.Lengths.{runs_len}
use Rattle.trace_wire.proofs.Sending.{came, comes, next_item}
use Rattle.trace_wire.proofs.SomeRuns.{drop_rest}
use Rattle.trace_wire.proofs.packed.part.put_fronts.Goals as goal

pub loop-left-init : goal.loop-left-init
loop-left-init g c = record { there = c.requires.there; dropped = refl; short = c.requires.short; comes = comes _ (runs_bytes (runs_of (take c.args.count c.args.cells.now))) }

pub loop-left-preserved : goal.loop-left-preserved
loop-left-preserved g c =
    let left : ℕ = c.loop-left.left in
    let n : ℕ = c.put_front-left.result in
    let new : List Entry = c.put_front-left.new.cells in
    let r = c.put_front-left.ensures.sends.0 in
    let rest = runs_of (take (left - n) new) in
    let is : runs_of (take left c.loop-left.cells) ≡ r ∷ rest = c.put_front-left.ensures.sends.1 in
    let len : length (runs_bytes (runs_of (take left c.loop-left.cells))) ≡ (16 + length (knowns_bytes r.cells)) + length (runs_bytes rest) = ap (λ (rs : List PlacedRun). length (runs_bytes rs)) is ∙ runs_len r rest in
    let all = runs_bytes (runs_of (take c.args.count c.args.cells.now)) in
    let shorter : length new ≡ length c.loop-left.cells - n = ap (λ (l : List Entry). length l) c.put_front-left.ensures.rest ∙ length-drop n c.loop-left.cells in
    record {
      there = omega (arith, shorter, c.loop-left.invariant.there);
      dropped = ap (λ (l : List Entry). drop (left - n) l) c.put_front-left.ensures.rest ∙ drop_rest n left c.loop-left.cells c.put_front-left.ensures.count.1 ∙ c.loop-left.invariant.dropped;
      short = omega (arith, len, c.loop-left.invariant.short);
      comes = next_item run_bytes _ _ _ all r rest (subst (λ (rs : List PlacedRun). Comes (g.S.Sink.page c.args.out.now) (g.S.Sink.page c.loop-left.out) all (runs_bytes rs)) is c.loop-left.invariant.comes) c.put_front-left.ensures.sends.2;
    }

pub returns-clause-sends : goal.returns-clause-sends
returns-clause-sends g c =
    let none : c.loop-left.left ≡ 0 = omega arith in
    let all = runs_bytes (runs_of (take c.args.count c.args.cells.now)) in
    came _ _ all (subst (λ (n : ℕ). Comes (g.S.Sink.page c.args.out.now) (g.S.Sink.page c.loop-left.out) all (runs_bytes (runs_of (take n c.loop-left.cells)))) none c.loop-left.invariant.comes)

pub returns-clause-rest : goal.returns-clause-rest
returns-clause-rest g c =
    let none : c.loop-left.left ≡ 0 = omega arith in
    sym (ap (λ (n : ℕ). drop n c.loop-left.cells) none) ∙ c.loop-left.invariant.dropped
