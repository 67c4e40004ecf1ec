use Rattle.std.proofs.Common.{ℕ, Option, List, ◌<◌, length, subst, sym, ◌∙◌, ap}
use Rattle.std.proofs.lemmas.Option.{slice_get_within}
use Rattle.std.specs.Prelude.{slice_get}
use Rattle.mpi_model.specs.declared.message.Message.{Message}
use Rattle.trace_pair.specs.After.{comes_after}
use Rattle.trace_pair.specs.Waiting.{Takings, ArePlain, IsSolePlace}
use Rattle.trace_pair.proofs.Settling.{unsettled_at, no_place, plain_at, not_sure_at, open_at, offered_at}
use Rattle.trace_pair.proofs.batch.offered_place.Goals as goal

pub returns-then-not-is_settled-clause-found : goal.returns-then-not-is_settled-clause-found
returns-then-not-is_settled-clause-found c = λ ms qs more call free opened adds i last is held.
    unsettled_at (comes_after c.args.reaches.now) ms qs more call c.args.part.now adds i (sym c.is_settled.ensures ∙ c.if-not-is_settled.true)

pub returns-in_default-clause-found : goal.returns-in_default-clause-found
returns-in_default-clause-found c = λ ms qs more call free opened adds i last is held.
    no_place (comes_after c.args.reaches.now) ms qs more call c.args.part.now adds i (sym c.is_settled.ensures ∙ c.if-not-is_settled.false) c.args.batch.now free opened is held
    (subst (λ (o : Option ℕ). IsSolePlace c.args.batch.now.messages c.args.part.now o) c.in_default.is c.in_ok-place.ensures.sole)

pub returns-then-has_no_doubt-clause-within : goal.returns-then-has_no_doubt-clause-within
returns-then-has_no_doubt-clause-within c =
    let sole = subst (λ (o : Option ℕ). IsSolePlace c.args.batch.now.messages c.args.part.now o) c.in-Some.is c.in_ok-place.ensures.sole in
    slice_get_within c.args.batch.now.messages.messages c.in-Some.place sole.0 sole.1

pub returns-then-has_no_doubt-clause-found : goal.returns-then-has_no_doubt-clause-found
returns-then-has_no_doubt-clause-found c = λ ms qs more call free opened adds i last is held.
    let sole = subst (λ (o : Option ℕ). IsSolePlace c.args.batch.now.messages c.args.part.now o) c.in-Some.is c.in_ok-place.ensures.sole in
    plain_at (comes_after c.args.reaches.now) ms qs more call c.args.part.now adds i (sym c.is_settled.ensures ∙ c.if-not-is_settled.false) c.args.batch.now free opened is held c.in-Some.place sole
    (subst (λ (t : Takings). ArePlain t.messages) c.sole_for.ensures.kept (c.has_no_doubt.ensures.plain c.if-has_no_doubt.true)) (c.has_no_doubt.ensures.closed c.if-has_no_doubt.true opened last)

pub at-m-requires : goal.at-m-requires
at-m-requires c =
    let sole = subst (λ (o : Option ℕ). IsSolePlace c.args.batch.now.messages c.args.part.now o) c.in-Some.is c.in_ok-place.ensures.sole in
    subst (λ (l : List Message). c.in-Some.place < length l) (sym (c.messages.ensures ∙ ap (λ (t : Takings). t.messages) c.sole_for.ensures.kept)) (slice_get_within c.args.batch.now.messages.messages c.in-Some.place sole.0 sole.1)

pub returns-then-not-is_sure-clause-found : goal.returns-then-not-is_sure-clause-found
returns-then-not-is_sure-clause-found c = λ ms qs more call free opened adds i last is held.
    let sole = subst (λ (o : Option ℕ). IsSolePlace c.args.batch.now.messages c.args.part.now o) c.in-Some.is c.in_ok-place.ensures.sole in
    not_sure_at (comes_after c.args.reaches.now) ms qs more call c.args.part.now adds i (sym c.is_settled.ensures ∙ c.if-not-is_settled.false) c.args.batch.now free opened is held c.in-Some.place c.at-m.result.now sole
    (ap (λ (l : List Message). slice_get l c.in-Some.place) (sym (c.messages.ensures ∙ ap (λ (t : Takings). t.messages) c.sole_for.ensures.kept)) ∙ c.at-m.ensures) (sym c.is_sure.ensures ∙ c.if-not-is_sure.true)

pub returns-then-is_hidden-clause-found : goal.returns-then-is_hidden-clause-found
returns-then-is_hidden-clause-found c = λ ms qs more call free opened adds i last is held.
    let sole = subst (λ (o : Option ℕ). IsSolePlace c.args.batch.now.messages c.args.part.now o) c.in-Some.is c.in_ok-place.ensures.sole in
    open_at (comes_after c.args.reaches.now) ms qs more call c.args.part.now adds i (sym c.is_settled.ensures ∙ c.if-not-is_settled.false) c.args.batch.now free opened is held c.in-Some.place c.at-m.result.now sole
    (ap (λ (l : List Message). slice_get l c.in-Some.place) (sym (c.messages.ensures ∙ ap (λ (t : Takings). t.messages) c.sole_for.ensures.kept)) ∙ c.at-m.ensures) (c.is_hidden.ensures.yes c.if-is_hidden.true opened last)

pub returns-clause-within : goal.returns-clause-within
returns-clause-within c =
    let sole = subst (λ (o : Option ℕ). IsSolePlace c.args.batch.now.messages c.args.part.now o) c.in-Some.is c.in_ok-place.ensures.sole in
    slice_get_within c.args.batch.now.messages.messages c.in-Some.place sole.0 sole.1

pub returns-clause-found : goal.returns-clause-found
returns-clause-found c = λ ms qs more call free opened adds i last is held.
    let sole = subst (λ (o : Option ℕ). IsSolePlace c.args.batch.now.messages c.args.part.now o) c.in-Some.is c.in_ok-place.ensures.sole in
    offered_at (comes_after c.args.reaches.now) ms qs more call c.args.part.now adds i (sym c.is_settled.ensures ∙ c.if-not-is_settled.false) c.args.batch.now free opened is held c.in-Some.place c.at-m.result.now sole
    (ap (λ (l : List Message). slice_get l c.in-Some.place) (sym (c.messages.ensures ∙ ap (λ (t : Takings). t.messages) c.sole_for.ensures.kept)) ∙ c.at-m.ensures) (sym c.is_sure.ensures ∙ c.if-not-is_sure.false) (c.is_hidden.ensures.no c.if-is_hidden.false opened last)
