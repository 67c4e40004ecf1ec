use Rattle.std.proofs.Common.{◌≡◌, [], ◌∷◌, sym, ap, subst, ◌∙◌, arith}
use Rattle.std.specs.FinMap.{len}
use Rattle.trace_know.specs.Cell.{put_known}
use Rattle.trace_know.specs.Placed.{IsKnowledge, IsPlaced}
use Rattle.trace_know.specs.View.{View, join}
use Rattle.trace_know.specs.Rows.{single}
use Rattle.trace_know.specs.Runs.{of_runs}
use Rattle.trace_know.proofs.Joins.{join-comm, join-empty}
use Rattle.trace_know.proofs.Listing.{insert-join}
use Rattle.trace_know.proofs.Holding.{joined-IsHeld, single-IsKnowledge, past-none}
use Rattle.trace_know.proofs.knowledge.Knowledge.put_last.Goals as goal

pub invariant_of-self-2 : goal.invariant_of-self-2
invariant_of-self-2 c =
    let runs = c.self.inside.runs.items in
    let rank = c.args.rank in
    let place = c.args.place in
    let known = c.known_of.result in
    let same : len (of_runs runs) ≡ len c.args.self.now = ap len c.self.view_is in
    let most = c.in_ok-most.ensures in
    let is : IsKnowledge (single rank place known) = single-IsKnowledge rank place known (subst (λ k. IsPlaced rank place k) (sym c.known_of.ensures) c.requires.placed) in
    joined-IsHeld c.self.inside.most c.in_ok-most.most runs c.take_cell.new.runs.items rank place (known ∷ []) (single rank place known) (join-empty (single rank place known)) is (omega (arith, most.0)) most.1 c.self.invariant c.take_cell.ensures.above
    c.in_ok-take_cell.ensures.ok

pub returns-clause-ok : goal.returns-clause-ok
returns-clause-ok c =
    let old = c.args.self.now in
    let rank = c.args.rank in
    let place = c.args.place in
    let known = put_known c.args.event in
    c.in_ok-take_cell.ensures.ok ∙ ap (λ (v : View). join v (single rank place c.known_of.result)) c.self.view_is
    ∙ ap (λ k. join old (single rank place k)) c.known_of.ensures
    ∙ join-comm old (single rank place known)
    ∙ sym (insert-join old rank place known (past-none old rank place c.requires.last))
