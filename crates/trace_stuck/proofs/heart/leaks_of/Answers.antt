use Rattle.std.proofs.Common.{rules, ◌≡◌, ◌<◌, ◌≤◌, ⊎_elim, ℕ, Bool, false, List, sym, subst, arith}
use Rattle.trace_stuck.specs.Graph.{is_up}
use Rattle.trace_stuck.specs.Search.{LeakIs}
use Rattle.trace_stuck.proofs.Flagged.{below_or_past, flags_push, up_past}
use Rattle.trace_stuck.proofs.Found.{edge_from}
use Rattle.trace_stuck.proofs.heart.leaks_of.Goals as goal

pub loop-r-preserved : goal.loop-r-preserved
loop-r-preserved c = record {
  len = search rules;
  leaks = λ x lt.
      subst (λ (l : List Bool). LeakIs c.args.edges.now c.args.labels.now x (is_up l x)) (sym c.in_ok-push.ensures.items)
      (flags_push (LeakIs c.args.edges.now c.args.labels.now) c.loop-r.leaks.items c.does_leak.result c.loop-r.r
      (omega (arith, c.loop-r.invariant.len, c.loop-r.leaks.ok.0)) c.loop-r.invariant.leaks c.does_leak.ensures x lt);
}

pub returns-clause-leaks : goal.returns-clause-leaks
returns-clause-leaks c = λ x. ⊎_elim
    (λ (h : x < c.loop-r.r). c.loop-r.invariant.leaks x h)
    (λ (h : c.loop-r.r ≤ x).
    let up : is_up c.loop-r.leaks.items x ≡ false = up_past c.loop-r.leaks.items x (omega (arith, c.loop-r.invariant.len, c.loop-r.leaks.ok.0, h)) in
    subst (λ (b : Bool). LeakIs c.args.edges.now c.args.labels.now x b) (sym up)
    (λ y k. absurd (omega (arith, edge_from c.args.edges.now x y k, h, c.loop-r-test.false))))
    (below_or_past x c.loop-r.r)
