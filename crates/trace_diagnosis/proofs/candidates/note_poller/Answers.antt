use Rattle.std.proofs.Common.{◌∙◌, ◌++◌, [], List, ap, sym}
use Rattle.std.specs.Prelude.{◌==◌, if◌then◌else◌}
use Rattle.std.specs.List.{flat_map}
use Rattle.mpi_model.specs.declared.message.Receive.{Receive}
use Rattle.trace_diagnosis.specs.Askers.{asked_plain}
use Rattle.trace_diagnosis.specs.Listed.{listed_of}
use Rattle.trace_diagnosis.specs.Starving.{probe_at}
use Rattle.trace_diagnosis.specs.declared.polls.Asked.{Asked}
use Rattle.trace_diagnosis.proofs.Listing.{flat_of_map}
use Rattle.trace_diagnosis.proofs.candidates.note_poller.Goals as goal

pub returns : goal.returns
returns c = λ r.
    let layout = c.args.layout.now in
    let poller = c.args.poller.now in
    c.in_ok-put_polled.ensures r
    ∙ ap (λ (l : List Receive). listed_of c.args.polled.now r ++ (if poller.rank == r then l else []))
    (c.in_ok-push_polled.ensures ∙ ap (λ (l : List Receive). l ++ flat_map (λ a. probe_at layout poller.rank (asked_plain a)) c.deref.result.now) c.new-list.ensures.items
    ∙ ap (λ (l : List Asked). flat_map (λ a. probe_at layout poller.rank (asked_plain a)) l) c.deref.ensures.value
    ∙ sym (flat_of_map (probe_at layout poller.rank) asked_plain poller.asked.items))
