use Rattle.std.proofs.Common.{◌≡◌, All, Bool, Global, List, Option, true, Vec, ℕ, subst}
use Rattle.std.specs.Prelude.{is_some}
use Rattle.trace_stuck.specs.Graph.{IsFirst, edge, is_up, label_at}
use Rattle.trace_diagnosis.proofs.Leading.{leading}
use Rattle.trace_diagnosis.proofs.roots.root_of_rank.Goals as goal

pub returns-clause-holds_up : goal.returns-clause-holds_up
returns-clause-holds_up c =
    let held = c.args.ranks.now.held.now in
    let starts = c.in_ok-starts.starts.items in
    let found = c.in_ok-leading.leading.items in
    let ranks = c.in_ok-holds_up.holds_up.items in
    leading c.args.graph.now.edges.items c.args.graph.now.askers.items c.args.labels.now starts c.args.least found held ranks c.requires.askers c.in_ok-starts.ensures.flags
    (subst (λ (es : List (Vec ℕ Global)). (x : ℕ) → IsFirst (edge es) (is_up starts) x (label_at found x)) c.deref.ensures.value
    (subst (λ (ss : List Bool). (x : ℕ) → IsFirst (edge c.deref.result.now) (is_up ss) x (label_at found x)) c.deref-2.ensures.value c.in_ok-leading.ensures.firsts))
    (subst (λ (ls : List (Option ℕ)). All (λ r. (is_up held r ≡ true) × (is_some (label_at ls r) ≡ true)) ranks) c.deref-3.ensures.value c.in_ok-holds_up.ensures)
