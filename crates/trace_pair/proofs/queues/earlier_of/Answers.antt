use Rattle.std.proofs.Common.{◌≡◌, ⊎_elim, subst, sym, true, ◌∙◌, Option}
use Rattle.mpi_model.specs.declared.message.Receive.{Receive}
use Rattle.trace_pair.specs.Queues.{IsBestAmong}
use Rattle.trace_pair.proofs.Names.{name_along}
use Rattle.trace_pair.proofs.Obeyed.{either}
use Rattle.trace_pair.proofs.queues.earlier_of.Goals as goal

pub returns-then-is_named_before : goal.returns-then-is_named_before
returns-then-is_named_before c = λ xs m p t ha hb.
    let q = c.in-Some.q in
    let r = c.in-Some-b.r in
    let a = subst (λ (o : Option Receive). IsBestAmong xs m p o) c.in-Some.is ha in
    let b = subst (λ (o : Option Receive). IsBestAmong xs m t o) c.in-Some-b.is hb in
    let before = sym c.is_named_before.ensures ∙ c.if-is_named_before.true in
    (b.0, b.1, λ s i k f lt. ⊎_elim (λ (x : p s ≡ true). a.2 s i x f (name_along s.name r.name q.name lt before)) (λ (x : t s ≡ true). b.2 s i x f lt) (either (p s) (t s) k))
