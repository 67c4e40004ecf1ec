use Rattle.std.proofs.Common.{rules}
use Rattle.std.proofs.lemmas.List.Sorted.{answers_always}
use Rattle.trace_pair.proofs.Slotted.{search_found, search_missed}
use Rattle.trace_pair.proofs.slots.place_of.Goals as goal

pub returns-clause-found : goal.returns-clause-found
returns-clause-found g c =
    search_found c.args.row.now c.args.at _ c.binary_search_by_key.ensures.bound
    (c.binary_search_by_key.ensures.position (λ s. s.at) (answers_always _ _ _ (λ f a r g h. search rules)))

pub returns-clause-missed : goal.returns-clause-missed
returns-clause-missed g c =
    search_missed c.args.row.now c.args.at _ c.requires c.binary_search_by_key.ensures.bound
    (c.binary_search_by_key.ensures.position (λ s. s.at) (answers_always _ _ _ (λ f a r g h. search rules)))
