use Rattle.std.proofs.Common.{ℕ, Option, refl, rules, subst, sym, ◌<◌, length}
use Rattle.std.specs.Prelude.{IfSome}
use Rattle.trace_pair.specs.After.{comes_after}
use Rattle.trace_pair.specs.Coupled.{taker_of}
use Rattle.trace_pair.specs.Settled.{IsTakenAt}
use Rattle.trace_pair.specs.declared.batch.Batch.{Batch}
use Rattle.trace_pair.proofs.Settling.{adds_taken, adds_free, adds_open, adds_void}
use Rattle.trace_pair.proofs.batch.add_receive.Goals as goal

pub returns-then-is_open : goal.returns-then-is_open
returns-then-is_open c = λ ms qs more adds apart s. adds_open (comes_after c.args.reaches.now) ms qs more c.args.q.now adds apart c.args.batch.now c.args.batch.now refl s _ (search rules) c.in_ok-insert.ensures

pub returns-then-not-is_settled : goal.returns-then-not-is_settled
returns-then-not-is_settled c = λ ms qs more adds apart s. adds_void (comes_after c.args.reaches.now) ms qs more c.args.q.now adds apart c.args.batch.now c.args.batch.now refl s (search rules) (search rules)

pub take-requires : goal.take-requires
take-requires c =
    let w = subst (λ (o : Option ℕ). IfSome o (λ p. p < length c.args.batch.now.messages.messages)) c.in-Some.is c.in_ok-place.ensures.within in
    subst (λ (b : Batch). c.in-Some.place < length b.messages.messages) (sym c.taken_by.ensures.kept) w

pub returns-in_ok-take-in-Some : goal.returns-in_ok-take-in-Some
returns-in_ok-take-in-Some c = λ ms qs more adds apart s.
    let found = subst (λ (o : Option ℕ). IsTakenAt (comes_after c.args.reaches.now) ms qs more c.args.q.now o) c.in-Some.is (c.in_ok-place.ensures.found ms qs more adds apart s) in
    adds_taken (comes_after c.args.reaches.now) ms qs more c.args.q.now adds apart c.taken_by.new.batch c.args.batch.now c.taken_by.ensures.kept s (search rules) c.in-Some.place (taker_of c.args.q.now) c.take.new.self found refl c.in_ok-take-in-Some.ensures

pub returns-in_ok-insert-in-None : goal.returns-in_ok-insert-in-None
returns-in_ok-insert-in-None c = λ ms qs more adds apart s.
    let found = subst (λ (o : Option ℕ). IsTakenAt (comes_after c.args.reaches.now) ms qs more c.args.q.now o) c.in-None.is (c.in_ok-place.ensures.found ms qs more adds apart s) in
    adds_free (comes_after c.args.reaches.now) ms qs more c.args.q.now adds apart c.taken_by.new.batch c.args.batch.now c.taken_by.ensures.kept s _ (search rules) found c.in_ok-insert-in-None.ensures
