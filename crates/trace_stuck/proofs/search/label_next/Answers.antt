use Rattle.std.proofs.Common.{◌≡◌, ◌∙◌, ℕ, List, take, arith, subst}
use Rattle.std.proofs.lemmas.List.{take_all}
use Rattle.trace_stuck.proofs.Labels.{labelled_fewer}
use Rattle.trace_stuck.proofs.Spreading.{Reached, all_edges, next_edge}
use Rattle.trace_stuck.proofs.search.label_next.Goals as goal

pub loop-s-init : goal.loop-s-init
loop-s-init c = record {
  len = c.requires;
  fewer = omega arith;
  spreads = λ starts done s. (s, λ y h below. absurd (cc (h)));
}

pub loop-s-preserved : goal.loop-s-preserved
loop-s-preserved c =
    let i = c.loop-s.invariant in
    let t = c.in_ok-label.ensures in
    let f = labelled_fewer _ _ _ _ _ _ t in
    record {
      len = f.0 ∙ i.len;
      fewer = omega (arith, f.1, i.fewer);
      spreads = λ starts done s.
          let p = i.spreads starts done s in
          next_edge c.args.edges.now starts c.args.first done c.args.r c.edges_at-nodes.result.now c.edges_at-nodes.ensures
          c.loop-s.s-index c.loop-s-test.true c.loop-s.labels c.loop-s.stack.items _ _ i.len t p.0 p.1;
    }

pub returns-clause-spreads : goal.returns-clause-spreads
returns-clause-spreads c = λ starts done s.
    let p = c.loop-s.invariant.spreads starts done s in
    let e : take c.loop-s.s-index c.edges_at-nodes.result.now ≡ c.edges_at-nodes.result.now = take_all c.loop-s.s-index c.edges_at-nodes.result.now (omega arith) in
    all_edges c.args.edges.now starts c.args.first done c.args.r c.edges_at-nodes.result.now c.edges_at-nodes.ensures c.loop-s.labels c.loop-s.stack.items p.0
    (subst (λ (l : List ℕ). Reached c.args.edges.now c.args.first l c.loop-s.labels) e p.1)
