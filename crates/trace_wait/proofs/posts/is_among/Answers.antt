use Rattle.std.proofs.Common.{rules, ◌∙◌}
use Rattle.std.proofs.lemmas.List.Sorted.{answers_always}
use Rattle.mpi_model.specs.declared.event.OpName.{OpName}
use Rattle.trace_wait.proofs.Searches.{searched, found_any, names_rise}
use Rattle.trace_wait.proofs.posts.is_among.Goals as goal

-- the closure gives the call and the part of a name
pub returns : goal.returns
returns c =
    let facts = c.binary_search_by_key.ensures in
    let by_name = facts.position (λ a. (a.call, a.part)) (answers_always _ _ _ (λ f a r g called. search rules)) in
    c.is_ok.ensures.value ∙ found_any _ c.args.names.now _ facts.bound (searched (λ (a : OpName). a) c.args.name c.args.names.now (names_rise c.args.names.now c.requires) _ facts.bound by_name)
