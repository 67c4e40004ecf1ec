-- What a fit says, and what stays of it as more is told.
use Rattle.std.proofs.Common.{subst, ◌≡◌, ℕ, Bool, true, false, ◌&&◌, ◌||◌, inl, inr, sym, refl, arith, ◌⊎◌, eqb, Option, Some, None}
use Rattle.std.specs.Prelude.{is_some, is_none, not}
use Rattle.std.proofs.lemmas.Bool.Decides.{nat_tests}
use Rattle.mpi_model.specs.declared.message.Message.{Message}
use Rattle.mpi_model.specs.declared.message.Receive.{Receive}
use Rattle.mpi_model.specs.declared.message.Trust.{Trust}
use Rattle.mpi_model.specs.declared.message.Trust.TheVariants.{Sure, Doubtful, Void}
use Rattle.mpi_model.specs.Fit.{admits, envelopes_fit, fits}
use Rattle.trace_ops.specs.Ops.{TellsMore, SameSend, StaysVoid}
use Rattle.mpi_model.specs.Trusts.{is_sure, is_doubtful, is_void, is_open, is_settled}
use Rattle.trace_pair.specs.Calls.{is_live}
use Rattle.trace_pair.proofs.Obeyed.{both, and_true}

-- the parts of a fit
pub record FitParts (m : Message) (q : Receive) : Type 0 where
  pub comm : eqb m.comm q.comm ≡ true
  pub to : eqb m.to q.at ≡ true
  pub source : admits q.source m.from ≡ true
  pub tag : admits q.tag m.tag ≡ true
  pub message_stands : not (is_void m.trust) ≡ true
  pub receive_stands : not (is_void q.trust) ≡ true

pub fit_parts : (m : Message) (q : Receive) → fits m q ≡ true → FitParts m q
fit_parts m q h =
    let a = eqb m.comm q.comm in let b = eqb m.to q.at in let c = admits q.source m.from in
    let d = admits q.tag m.tag in let e = not (is_void m.trust) in let f = not (is_void q.trust) in
    let h5 = both (a && b && c && d && e) f h in
    let h4 = both (a && b && c && d) e h5.0 in
    let h3 = both (a && b && c) d h4.0 in
    let h2 = both (a && b) c h3.0 in
    let h1 = both a b h2.0 in
    record { comm = h1.0; to = h1.1; source = h2.1; tag = h3.1; message_stands = h4.1; receive_stands = h5.1 }

pub fit_from : (m : Message) (q : Receive) → FitParts m q → fits m q ≡ true
fit_from m q p =
    let a = eqb m.comm q.comm in let b = eqb m.to q.at in let c = admits q.source m.from in
    let d = admits q.tag m.tag in let e = not (is_void m.trust) in let f = not (is_void q.trust) in
    and_true (a && b && c && d && e) f
    (and_true (a && b && c && d) e
    (and_true (a && b && c) d
    (and_true (a && b) c (and_true a b p.comm p.to) p.source) p.tag) p.message_stands) p.receive_stands

pub sure_stands : (t : Trust) → is_sure t ≡ true → not (is_void t) ≡ true
sure_stands Sure h = refl
sure_stands Doubtful h = refl
sure_stands Void h = absurd (cc)

pub sure_not_doubtful : (t : Trust) → is_sure t ≡ true → is_doubtful t ≡ true → ⊥
sure_not_doubtful Sure h g = cc
sure_not_doubtful Doubtful h g = cc
sure_not_doubtful Void h g = cc

-- what stands and isn't doubtful is sure
pub stands_sure : (t : Trust) → not (is_void t) ≡ true → is_doubtful t ≡ false → is_sure t ≡ true
stands_sure Sure h g = refl
stands_sure Doubtful h g = absurd (cc)
stands_sure Void h g = absurd (cc)

pub stood : (old new : Trust) → StaysVoid old new → not (is_void new) ≡ true → not (is_void old) ≡ true
stood Sure new s h = refl
stood Doubtful new s h = refl
stood Void new s h = let e = s refl in absurd (cc)

-- what stands is open or settled
pub open_or_settled : (q : Receive) → not (is_void q.trust) ≡ true → (is_open q ≡ true) ⊎ (is_settled q ≡ true)
open_or_settled q h =
    elim q.source as (λ s. (not (is_void q.trust) && (is_none s || is_doubtful q.trust) ≡ true) ⊎ (is_some s && is_sure q.trust ≡ true)) [
      | None ↦ inl (and_true (not (is_void q.trust)) true h refl)
      | Some s ↦ elim (is_doubtful q.trust) as (λ b. is_doubtful q.trust ≡ b → (not (is_void q.trust) && b ≡ true) ⊎ (is_sure q.trust ≡ true)) [
        | true ↦ λ _. inl (and_true (not (is_void q.trust)) true h refl)
        | false ↦ λ e. inr (stands_sure q.trust h e)
      ] refl
    ]

pub settled_parts : (q : Receive) → is_settled q ≡ true → (is_some q.source ≡ true) × (is_sure q.trust ≡ true)
settled_parts q h = both (is_some q.source) (is_sure q.trust) h

pub settled_from : (q : Receive) → is_some q.source ≡ true → is_sure q.trust ≡ true → is_settled q ≡ true
settled_from q t s = and_true (is_some q.source) (is_sure q.trust) t s

-- what a receive that is told takes, it takes later too, and the other way round
pub admits_more : (a b : Option ℕ) (n : ℕ) → (is_some a ≡ true → b ≡ a) → admits b n ≡ true → admits a n ≡ true
admits_more None b n h k = refl
admits_more (Some s) b n h k = subst (λ o. admits o n ≡ true) (h refl) k

-- what fits in a continuation fitted before
pub fits_before : (n m : Message) (p r : Receive) → SameSend n m → TellsMore p r → fits m r ≡ true → fits n p ≡ true
fits_before n m p r s t h =
    let c = fit_parts m r h in
    fit_from n p (record {
      comm = subst (λ x. eqb n.comm x ≡ true) t.comm (subst (λ x. eqb x r.comm ≡ true) s.comm c.comm);
      to = subst (λ x. eqb n.to x ≡ true) t.at (subst (λ x. eqb x r.at ≡ true) s.to c.to);
      source = admits_more p.source r.source n.from t.source (subst (λ x. admits r.source x ≡ true) s.from c.source);
      tag = subst (λ x. admits x n.tag ≡ true) t.tag (subst (λ x. admits r.tag x ≡ true) s.tag c.tag);
      message_stands = stood n.trust m.trust s.void c.message_stands;
      receive_stands = stood p.trust r.trust t.void c.receive_stands;
    })

-- and a told receive that is still sure fits its sure message later too
pub fits_after : (n m : Message) (p r : Receive) → SameSend n m → TellsMore p r → is_sure m.trust ≡ true → is_sure r.trust ≡ true → is_some p.source ≡ true → fits n p ≡ true → fits m r ≡ true
fits_after n m p r s t u v told h =
    let c = fit_parts n p h in
    fit_from m r (record {
      comm = subst (λ x. eqb m.comm x ≡ true) (sym t.comm) (subst (λ x. eqb x p.comm ≡ true) (sym s.comm) c.comm);
      to = subst (λ x. eqb m.to x ≡ true) (sym t.at) (subst (λ x. eqb x p.at ≡ true) (sym s.to) c.to);
      source = subst (λ o. admits o m.from ≡ true) (sym (t.source told)) (subst (λ x. admits p.source x ≡ true) (sym s.from) c.source);
      tag = subst (λ x. admits x m.tag ≡ true) (sym t.tag) (subst (λ x. admits p.tag x ≡ true) (sym s.tag) c.tag);
      message_stands = sure_stands m.trust u;
      receive_stands = sure_stands r.trust v;
    })

pub one_sender : (o : Option ℕ) (a b : ℕ) → is_some o ≡ true → admits o a ≡ true → admits o b ≡ true → a ≡ b
one_sender None a b h x y = absurd (cc)
one_sender (Some s) a b h x y = grind (arith, nat_tests)

pub fits_source : (m : Message) (q : Receive) → fits m q ≡ true → admits q.source m.from ≡ true
fits_source m q h = (fit_parts m q h).source

pub fits_at : (m : Message) (q : Receive) → fits m q ≡ true → m.to ≡ q.at
fits_at m q h = let e = (fit_parts m q h).to in grind (arith, nat_tests)

-- a fit is one of envelopes, where neither end is void
pub envelope_of : (m : Message) (q : Receive) → fits m q ≡ true → envelopes_fit m q ≡ true
envelope_of m q h =
    let e = is_live m.trust in let f = is_live q.trust in
    (both (envelopes_fit m q) e (both (envelopes_fit m q && e) f h).0).0

pub fits_live : (m : Message) (q : Receive) → is_live m.trust ≡ true → is_live q.trust ≡ true → envelopes_fit m q ≡ true → fits m q ≡ true
fits_live m q e f h = and_true (envelopes_fit m q && is_live m.trust) (is_live q.trust) (and_true (envelopes_fit m q) (is_live m.trust) h e) f

-- and so the envelopes agree on the receiver
pub envelopes_at : (m : Message) (q : Receive) → envelopes_fit m q ≡ true → m.to ≡ q.at
envelopes_at m q h =
    let e = (both (eqb m.comm q.comm) (eqb m.to q.at) (both (eqb m.comm q.comm && eqb m.to q.at) (admits q.source m.from) (both (eqb m.comm q.comm && eqb m.to q.at && admits q.source m.from) (admits q.tag m.tag) h).0).0).1 in
    grind (arith, nat_tests)

pub live_message : (m : Message) (q : Receive) → fits m q ≡ true → is_live m.trust ≡ true
live_message m q h = (fit_parts m q h).message_stands

-- what is open or settled is not void, and not both
pub open_live : (q : Receive) → is_open q ≡ true → is_live q.trust ≡ true
open_live q h = (both (is_live q.trust) (is_none q.source || is_doubtful q.trust) h).0

pub settled_live : (q : Receive) → is_settled q ≡ true → is_live q.trust ≡ true
settled_live q h = sure_stands q.trust (settled_parts q h).1

open_apart : (o : Option ℕ) (t : Trust) → (is_some o && is_sure t) ≡ true → (not (is_void t) && (is_none o || is_doubtful t)) ≡ true → ⊥
open_apart None t h g = absurd (cc)
open_apart (Some s) Sure h g = cc
open_apart (Some s) Doubtful h g = cc
open_apart (Some s) Void h g = cc

pub settled_not_open : (q : Receive) → is_settled q ≡ true → is_open q ≡ true → ⊥
settled_not_open q h g = open_apart q.source q.trust h g

pub false_apart : (b : Bool) → b ≡ false → b ≡ true → ⊥
false_apart b h g = absurd (cc)
