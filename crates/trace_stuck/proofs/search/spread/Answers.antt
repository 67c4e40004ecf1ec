use Rattle.std.proofs.Common.{◌≡◌, ◌+◌, ◌∙◌, ◌∷◌, rules, refl, ℕ, List, [], length, arith, subst}
use Rattle.trace_stuck.specs.Release.{among}
use Rattle.trace_stuck.specs.Graph.{edge}
use Rattle.trace_stuck.specs.Search.{Labelled, Spreads}
use Rattle.trace_stuck.proofs.Labels.{labelled_fewer}
use Rattle.trace_stuck.proofs.Spreading.{spreads_all, spreads_first, taken_off}
use Rattle.trace_stuck.proofs.search.spread.Goals as goal

pub loop-r-init : goal.loop-r-init
loop-r-init c =
    let t = subst (λ (l : List ℕ). Labelled c.args.first c.args.first c.args.labels.now l c.label.new.labels c.label.new.stack.items) c.new-stack.ensures.items c.in_ok-label.ensures in
    record {
      len = (labelled_fewer _ _ _ _ _ _ t).0 ∙ c.requires.within;
      spreads = λ starts is_start b. spreads_first (edge c.args.edges.now) starts c.args.first c.args.labels.now c.label.new.labels c.label.new.stack.items c.requires.bare is_start b t;
    }

pub loop-r-preserved : goal.loop-r-preserved
loop-r-preserved c = record {
  len = c.label_next.auto.labels ∙ c.loop-r.invariant.len;
  spreads = λ starts is_start b.
      c.in_ok-label_next.ensures.spreads starts (c.args.first + 1)
      (taken_off c.args.edges.now starts c.args.first (c.args.first + 1) c.loop-r.stack.items c.pop.new.self.items c.in-Some.r c.loop-r.labels c.in-Some.ensures.items
      (c.loop-r.invariant.spreads starts is_start b));
}

empty : (xs : List ℕ) → length xs ≡ 0 → xs ≡ []
empty [] h = refl
empty (x ∷ xs) h = absurd (omega (arith, h))

pub returns : goal.returns
returns c = λ starts is_start b.
    let e : c.loop-r.stack.items ≡ [] = empty c.loop-r.stack.items (search rules) in
    spreads_all (edge c.args.edges.now) starts c.args.first c.loop-r.labels
    (subst (λ (l : List ℕ). Spreads (edge c.args.edges.now) starts c.args.first (c.args.first + 1) (among l) c.loop-r.labels) e (c.loop-r.invariant.spreads starts is_start b))
