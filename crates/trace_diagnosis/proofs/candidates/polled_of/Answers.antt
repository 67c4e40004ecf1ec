use Rattle.std.proofs.Common.{◌∙◌, ◌++◌, [], List, ap, sym}
use Rattle.std.specs.Prelude.{◌==◌, if◌then◌else◌}
use Rattle.std.specs.List.{flat_map}
use Rattle.std.proofs.lemmas.List.{take_all}
use Rattle.mpi_model.specs.declared.message.Receive.{Receive}
use Rattle.trace_diagnosis.specs.Askers.{asker}
use Rattle.trace_diagnosis.specs.Conditions.{Asker}
use Rattle.trace_diagnosis.specs.Listed.{listed_of}
use Rattle.trace_diagnosis.specs.Starving.{polled_by}
use Rattle.trace_diagnosis.specs.declared.conditions.Poller.{Poller}
use Rattle.trace_diagnosis.proofs.Listing.{flat_next, flat_of_map}
use Rattle.trace_diagnosis.proofs.candidates.polled_of.Goals as goal

pub loop-poller-preserved : goal.loop-poller-preserved
loop-poller-preserved c = λ r.
    let f : Poller → List Receive = λ p. if p.rank == r then polled_by c.args.layout.now (asker p) else [] in
    flat_next f [] c.args.pollers.now c.loop-poller.poller-index c.poller-item.result _ _ c.loop-poller-test.true (c.loop-poller.invariant r)
    (c.in_ok-note_poller.ensures r ∙ ap (λ (p : Poller). listed_of c.loop-poller.polled r ++ f p) c.poller-item.is)

pub returns : goal.returns
returns c = λ r.
    let g : Asker → List Receive = λ a. if a.rank == r then polled_by c.args.layout.now a else [] in
    let f : Poller → List Receive = λ p. if p.rank == r then polled_by c.args.layout.now (asker p) else [] in
    c.loop-poller.invariant r ∙ ap (λ (l : List Poller). flat_map f l) (take_all c.loop-poller.poller-index c.args.pollers.now c.loop-poller-test.false) ∙ sym (flat_of_map g asker c.args.pollers.now)
