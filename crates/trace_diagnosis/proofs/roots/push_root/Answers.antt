use Rattle.std.proofs.Common.{◌∷◌, [], All, List, ℕ, sym, subst}
use Rattle.std.specs.List.{Contains}
use Rattle.std.proofs.lemmas.List.Elements.{All-append, All-cons, All-nil, Contains-push}
use Rattle.trace_stuck.specs.Hearts.{IsInHeart}
use Rattle.trace_diagnosis.specs.Roots.{IsRoot}
use Rattle.diagnosis_value.specs.declared.diagnosis.Root.{Root}
use Rattle.trace_diagnosis.proofs.Covering.{contains_left, not_in_graph}
use Rattle.trace_diagnosis.proofs.Leading.{held_up, members_in_heart}
use Rattle.trace_diagnosis.proofs.roots.push_root.Goals as goal

pub returns-then-not-is_root-clause-more : goal.returns-then-not-is_root-clause-more
returns-then-not-is_root-clause-more c = λ label has.
    let none = c.is_root.ensures.other c.if-not-is_root.true label in
    absurd (not_in_graph c.args.graph.now.edges.items c.args.graph.now.askers.items c.args.ranks.now.held.now c.args.rank c.requires.askers none.0 none.1 has)

pub returns-clause-sound : goal.returns-clause-sound
returns-clause-sound c = λ all.
    let edges = c.args.graph.now.edges.items in
    let labels = c.args.labels.now in
    let held = c.args.ranks.now.held.now in
    let is = IsRoot edges held c.args.ranks.now.count in
    let root = c.in_ok-root.root in
    let one : is root = record {
      own = subst (λ (l : List ℕ). All (IsInHeart edges) l) (sym c.in_ok-root.ensures.own) (members_in_heart edges labels c.requires.hearts c.args.ranks.now.count c.args.rank);
      holds_up = held_up edges labels c.requires.hearts c.args.rank held root.holds_up.items c.in_ok-root.ensures.holds_up;
    } in
    subst (λ (l : List Root). All is l) (sym c.in_ok-push.ensures.items) (All-append is c.args.roots.now.items (root ∷ []) all (All-cons is root [] one (All-nil is)))

pub returns-clause-kept : goal.returns-clause-kept
returns-clause-kept c = λ r h. subst (λ (l : List Root). Contains l r) (sym c.in_ok-push.ensures.items) (contains_left c.args.roots.now.items (c.in_ok-root.root ∷ []) r h)

pub returns-clause-more : goal.returns-clause-more
returns-clause-more c = λ label has. (
  c.in_ok-root.root,
  subst (λ (l : List Root). Contains l c.in_ok-root.root) (sym c.in_ok-push.ensures.items) (Contains-push c.args.roots.now.items c.in_ok-root.root),
  c.in_ok-root.ensures.kind,
  c.in_ok-root.ensures.own,
)
