use Rattle.std.proofs.Common.{ℕ, List, Option, subst, refl, sym, ap, ◌∙◌}
use Rattle.std.specs.Prelude.{slice_get}
use Rattle.mpi_model.specs.declared.message.Message.{Message}
use Rattle.trace_pair.specs.Coupled.{taker_of}
use Rattle.trace_pair.specs.Settled.{IsOfferedAt}
use Rattle.trace_pair.proofs.SettlingParts.{settles_none, settles_left, settles_taken}
use Rattle.trace_pair.proofs.batch.settle_receive.Goals as goal

pub returns-in_default-clause-settled : goal.returns-in_default-clause-settled
returns-in_default-clause-settled c = λ after ms qs more call done adds i offered next s.
    settles_none after ms qs more call adds c.args.q.now i done next c.args.batch.now s (subst (λ (o : Option ℕ). IsOfferedAt after ms qs more c.args.q.now o) c.in_default.is offered)

pub returns-in_ok-insert-in-Some-first_for-clause-settled : goal.returns-in_ok-insert-in-Some-first_for-clause-settled
returns-in_ok-insert-in-Some-first_for-clause-settled c = λ after ms qs more call done adds i offered next s.
    settles_left after ms qs more call adds c.args.q.now i done next c.args.batch.now s c.in-Some.place (subst (λ (o : Option ℕ). IsOfferedAt after ms qs more c.args.q.now o) c.in-Some.is offered) c.at-m.result.now
    (ap (λ (l : List Message). slice_get l c.in-Some.place) (sym c.messages.ensures) ∙ c.at-m.ensures)
    c.remove.new.self c.insert.new.self c.remove.ensures c.in_ok-insert-in-Some-first_for.ensures c.in-Some-first_for.field-0 c.in-Some-first_for.ensures.some

pub returns-in_ok-take-in-None-clause-settled : goal.returns-in_ok-take-in-None-clause-settled
returns-in_ok-take-in-None-clause-settled c = λ after ms qs more call done adds i offered next s.
    settles_taken after ms qs more call adds c.args.q.now i done next c.args.batch.now s c.in-Some.place (subst (λ (o : Option ℕ). IsOfferedAt after ms qs more c.args.q.now o) c.in-Some.is offered) c.at-m.result.now
    (ap (λ (l : List Message). slice_get l c.in-Some.place) (sym c.messages.ensures) ∙ c.at-m.ensures)
    c.remove.new.self c.remove.ensures c.in-None.ensures.none (taker_of c.args.q.now) c.take.new.self refl c.in_ok-take-in-None.ensures
