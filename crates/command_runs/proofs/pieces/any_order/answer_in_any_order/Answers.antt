use Rattle.std.specs.List.{All}
use Rattle.std.proofs.lemmas.List.Sorted.{All-permutation, IsPermutation-sym}
use Rattle.command_runs.specs.Refusals.{RefusesPieces}
use Rattle.command_runs.specs.Traces.{IsInside, IsKnown}
use Rattle.command_runs.proofs.AnyOrder.{known_in_order}
use Rattle.command_runs.proofs.pieces.any_order.answer_in_any_order.Goals as goal

pub returns-in-Ok-clause-ok : goal.returns-in-Ok-clause-ok
returns-in-Ok-clause-ok g c =
    let file = g.O.Opener.file c.args.run.now.files.now in
    let sorted = c.in_ok-sorted.sorted.items in
    let pieces = c.args.pieces.now in
    let ok = c.in-Ok.ensures.ok in
    let known : IsKnown file sorted ok.0 = rw c.deref.ensures.value at ok.1 in
    (ok.0, known_in_order c.view_laws.ensures.same_facts file sorted pieces ok.0 (IsPermutation-sym pieces sorted c.in_ok-sorted.ensures.same) known, ok.2)

pub returns-in-Ok-clause-inside : goal.returns-in-Ok-clause-inside
returns-in-Ok-clause-inside g c =
    let file = g.O.Opener.file c.args.run.now.files.now in
    let sorted = c.in_ok-sorted.sorted.items in
    let pieces = c.args.pieces.now in
    let inside : All (IsInside file c.args.run.now.layout.now.ranks) sorted = rw c.deref.ensures.value at c.in-Ok.ensures.inside in
    All-permutation (IsInside file c.args.run.now.layout.now.ranks) sorted pieces (IsPermutation-sym pieces sorted c.in_ok-sorted.ensures.same) inside

pub fault_in_order-requires-clause-refused : goal.fault_in_order-requires-clause-refused
fault_in_order-requires-clause-refused g c =
    let file = g.O.Opener.file c.args.run.now.files.now in
    let ranks = c.args.run.now.layout.now.ranks in
    let sorted = c.in_ok-sorted.sorted.items in
    let refuses : RefusesPieces file ranks sorted c.in-Err.fault = rw c.deref.ensures.value at c.in-Err.ensures.err in
    (sorted, c.in_ok-sorted.ensures.same, refuses)
