-- A receive that is alone of its call, as the sets tell whether it is in a pair.
use Rattle.std.proofs.Common.{subst, ◌≡◌, true, List, [], ◌∷◌, inl, ⊎_elim, refl, ap}
use Rattle.std.specs.Prelude.{is_some}
use Rattle.mpi_model.specs.declared.message.Message.{Message}
use Rattle.mpi_model.specs.declared.message.Receive.{Receive}
use Rattle.mpi_model.specs.Fit.{envelopes_fit}
use Rattle.mpi_model.specs.Trusts.{is_settled}
use Rattle.trace_ops.specs.Order.{Has}
use Rattle.trace_pair.specs.Calls.{AddsReceives, ArePostedApart}
use Rattle.trace_pair.specs.Indexed.{AwaitReceives, OffersMessage}
use Rattle.trace_pair.specs.Pairing.{After, Paired}
use Rattle.trace_pair.specs.Sets.{AddsTo}
use Rattle.trace_pair.specs.declared.pair.Couple.{Couple}
use Rattle.trace_pair.proofs.ReceiveParts as receives

pub the_one : {X : Type 0} (x y : X) → Has (x ∷ []) y → y ≡ x
the_one x y i = ⊎_elim (λ (e : y ≡ x). e) (λ a. absurd a) i

module _ (after : After) (ms : List Message) (qs more : List Receive) (q : Receive) (adds : AddsReceives qs more (q ∷ [])) (apart : ArePostedApart more) (settled : is_settled q ≡ true)
    (waiting : List Message) (free frees opened : List Receive) (couples : List Couple) (added : AddsTo free frees q) (held : AwaitReceives after ms qs more waiting frees opened couples) (m : Message) (offer : OffersMessage after ms qs more q m) where
  pub receive_taken : ((r : Receive) → Has free r → envelopes_fit m r ≡ true → ⊥) → Paired after ms more m q
  receive_taken none =
      receives.taken_free after ms qs more (q ∷ []) adds held.messages_apart apart q (inl refl) settled m offer (λ n r. Has qs r) (λ n r k. k) waiting frees opened couples held
      (λ r i not f. ⊎_elim (λ (k : Has free r). none r k f) (λ (e : r ≡ q). not e) (added.cases r i))

  pub receive_left : (Has free q → ⊥) → (r : Receive) → Has free r → envelopes_fit m r ≡ true → (n : Message) → Has ms n → Paired after ms more n q → ⊥
  receive_left absent r i f n j h =
      receives.left_free after ms qs more (q ∷ []) adds held.messages_apart apart q (inl refl) settled m offer (λ n r. Has qs r) (λ n r k. k) waiting frees opened couples held
      (λ n r k t s. absurd (let e = the_one q r k in let u = ap (λ (x : Receive). is_some x.tag) e in cc))
      r (added.keeps r i) (λ e. absent (subst (λ (x : Receive). Has free x) e i)) f
      (subst (λ (x : Message). Paired after ms more x q) (receives.only_offer after ms qs more (q ∷ []) adds held.messages_apart apart q (inl refl) settled m offer n j h) h)
