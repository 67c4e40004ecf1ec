use Rattle.std.proofs.Common.{List, subst, arith, ap, sym, ◌∙◌}
use Rattle.std.specs.Prelude.{not}
use Rattle.std.proofs.lemmas.List.{take_all}
use Rattle.mpi_model.specs.declared.message.Message.{Message}
use Rattle.trace_pair.specs.KeyOrders.{queue_cmp, queue_of}
use Rattle.trace_pair.specs.Waiting.{ArePlaces, ArePlain}
use Rattle.trace_pair.proofs.Fitting.{false_apart}
use Rattle.trace_pair.proofs.Orders.{queues_total, exact_queues}
use Rattle.trace_pair.proofs.Waited.{places_next, places_passes, plain_next}
use Rattle.trace_pair.proofs.takings.queues_of.Goals as goal

pub loop-place-preserved-then-is_void : goal.loop-place-preserved-then-is_void
loop-place-preserved-then-is_void c = record {
  places = λ takers.
      let void = ap not (sym c.is_void.ensures ∙ c.if-is_void.true) in
      places_passes queues_total exact_queues queue_of c.args.messages.now c.loop-place.place _ takers c.loop-place.queues c.at-m.ensures (false_apart _ void) (c.loop-place.invariant.places);
  plain = λ h. plain_next c.args.messages.now c.loop-place.place _ c.at-m.ensures (c.loop-place.invariant.plain (c.stays_plain-plain.ensures.before h)) (c.stays_plain-plain.ensures.this h);
}

pub loop-place-preserved : goal.loop-place-preserved
loop-place-preserved c = record {
  places = λ takers.
      places_next queues_total exact_queues queue_of c.args.messages.now c.loop-place.place _ takers c.loop-place.queues c.add.new.self c.at-m.ensures (ap not (sym c.is_void.ensures ∙ c.if-is_void.false)) (c.loop-place.invariant.places) c.in_ok-add.ensures;
  plain = λ h. plain_next c.args.messages.now c.loop-place.place _ c.at-m.ensures (c.loop-place.invariant.plain (c.stays_plain-plain.ensures.before h)) (c.stays_plain-plain.ensures.this h);
}

pub returns-clause-queues : goal.returns-clause-queues
returns-clause-queues c = λ takers. subst (λ (l : List Message). ArePlaces queue_cmp queue_of l takers c.loop-place.queues) (take_all c.loop-place.place c.args.messages.now (omega arith)) (c.loop-place.invariant.places takers)

pub returns-clause-plain : goal.returns-clause-plain
returns-clause-plain c = λ h. subst (λ (l : List Message). ArePlain l) (take_all c.loop-place.place c.args.messages.now (omega arith)) (c.loop-place.invariant.plain h)
