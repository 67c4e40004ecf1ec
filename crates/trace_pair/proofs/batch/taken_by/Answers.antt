use Rattle.std.proofs.Common.{[], ◌∷◌, ℕ, Option, List, subst, inl, refl, sym, ap, ◌∙◌}
use Rattle.std.specs.Prelude.{slice_get}
use Rattle.mpi_model.specs.declared.message.Message.{Message}
use Rattle.trace_pair.specs.After.{comes_after}
use Rattle.trace_pair.specs.Settled.{IsOfferedAt}
use Rattle.trace_pair.specs.declared.batch.Batch.{Batch}
use Rattle.trace_pair.proofs.Fitting.{envelope_of, envelopes_at}
use Rattle.trace_pair.proofs.Settling.{awaits_here, free_at, taken_at}
use Rattle.trace_pair.proofs.batch.taken_by.Goals as goal

pub returns-in_default-clause-found : goal.returns-in_default-clause-found
returns-in_default-clause-found c = λ ms qs more adds apart s.
    let q = c.args.q.now in
    let held = awaits_here (comes_after c.args.reaches.now) ms qs c.args.batch.now s more q adds apart c.requires in
    subst (λ (o : Option ℕ). IsOfferedAt (comes_after c.args.reaches.now) ms qs more q o) c.in_default.is (c.in_ok-place.ensures.found ms qs more (q ∷ []) _ s.opened adds (inl refl) s.last s.messages held)

pub returns-then-not-may_be_of-clause-found : goal.returns-then-not-may_be_of-clause-found
returns-then-not-may_be_of-clause-found c = λ ms qs more adds apart s.
    let q = c.args.q.now in
    let held = awaits_here (comes_after c.args.reaches.now) ms qs c.args.batch.now s more q adds apart c.requires in
    let offered = subst (λ (o : Option ℕ). IsOfferedAt (comes_after c.args.reaches.now) ms qs more q o) c.in-Some.is (c.in_ok-place.ensures.found ms qs more (q ∷ []) _ s.opened adds (inl refl) s.last s.messages held) in
    taken_at (comes_after c.args.reaches.now) ms qs c.args.batch.now s more q adds apart c.requires c.offered_place.new.batch c.offered_place.ensures.kept c.in-Some.place offered.0
    (ap (λ (l : List Message). slice_get l c.in-Some.place) (ap (λ (b : Batch). b.messages.messages) c.offered_place.ensures.kept ∙ s.messages) ∙ offered.1) offered
    (λ r h f. c.may_be_of.ensures c.if-not-may_be_of.true r h (sym (envelopes_at offered.0 r f) ∙ envelopes_at offered.0 q (envelope_of offered.0 q offered.2.1.fit)))

pub returns-then-fits_some-clause-found : goal.returns-then-fits_some-clause-found
returns-then-fits_some-clause-found c = λ ms qs more adds apart s.
    let q = c.args.q.now in
    let held = awaits_here (comes_after c.args.reaches.now) ms qs c.args.batch.now s more q adds apart c.requires in
    let offered = subst (λ (o : Option ℕ). IsOfferedAt (comes_after c.args.reaches.now) ms qs more q o) c.in-Some.is (c.in_ok-place.ensures.found ms qs more (q ∷ []) _ s.opened adds (inl refl) s.last s.messages held) in
    free_at (comes_after c.args.reaches.now) ms qs c.args.batch.now s more q adds apart c.requires c.offered_place.new.batch c.offered_place.ensures.kept c.in-Some.place c.at-m.result.now
    (ap (λ (l : List Message). slice_get l c.in-Some.place) (sym c.messages.ensures) ∙ c.at-m.ensures) offered (c.fits_some.ensures.yes c.if-fits_some.true)

pub returns-clause-found : goal.returns-clause-found
returns-clause-found c = λ ms qs more adds apart s.
    let q = c.args.q.now in
    let held = awaits_here (comes_after c.args.reaches.now) ms qs c.args.batch.now s more q adds apart c.requires in
    let offered = subst (λ (o : Option ℕ). IsOfferedAt (comes_after c.args.reaches.now) ms qs more q o) c.in-Some.is (c.in_ok-place.ensures.found ms qs more (q ∷ []) _ s.opened adds (inl refl) s.last s.messages held) in
    taken_at (comes_after c.args.reaches.now) ms qs c.args.batch.now s more q adds apart c.requires c.offered_place.new.batch c.offered_place.ensures.kept c.in-Some.place c.at-m.result.now
    (ap (λ (l : List Message). slice_get l c.in-Some.place) (sym c.messages.ensures) ∙ c.at-m.ensures) offered (c.fits_some.ensures.no c.if-fits_some.false)
