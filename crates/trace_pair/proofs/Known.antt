-- Calls and couples of an index by their names.
use Rattle.std.proofs.Common.{subst, ◌≡◌, ℕ, true, List, sym, refl, ◌∙◌, ap, cond, Option, Some, None}
use Rattle.std.specs.Prelude.{is_some, is_none}
use Rattle.mpi_model.specs.declared.event.OpName.{OpName}
use Rattle.mpi_model.specs.declared.message.Message.{Message}
use Rattle.mpi_model.specs.declared.message.Receive.{Receive}
use Rattle.mpi_model.specs.Fit.{fits, admits}
use Rattle.mpi_model.specs.declared.message.Trust.{Trust}
use Rattle.mpi_model.specs.declared.message.Trust.TheVariants.{Sure, Doubtful, Void}
use Rattle.mpi_model.specs.Trusts.{is_sure, is_settled}
use Rattle.trace_ops.specs.Order.{Has}
use Rattle.trace_pair.specs.Calls.{IsOwnReceive}
use Rattle.trace_pair.specs.Coupled.{taker_of, receive_by, IsNew, IsOneMessage, IsOneReceive}
use Rattle.trace_pair.specs.Indexed.{AreSets, couple_of}
use Rattle.trace_pair.specs.declared.pair.Couple.{Couple}
use Rattle.trace_pair.proofs.Certain.{same_name}
use Rattle.trace_pair.proofs.Names.{placed, placed_receive}
use Rattle.trace_pair.proofs.Fitting.{envelope_of, settled_parts}
use Rattle.trace_pair.proofs.Queued.{fit_parts, admits_says}

admitted : (o : Option ℕ) (x : ℕ) → is_some o ≡ true → admits o x ≡ true → o ≡ Some x
admitted None x t h = absurd (cc)
admitted (Some s) x t h = ap (λ (y : ℕ). Some y) (admits_says s x h)

tag_is : (o : Option ℕ) (x : ℕ) → admits o x ≡ true → o ≡ cond (is_none o) None (Some x)
tag_is None x h = refl
tag_is (Some s) x h = ap (λ (y : ℕ). Some y) (admits_says s x h)

sure_is : (t : Trust) → is_sure t ≡ true → t ≡ Sure
sure_is Sure h = refl
sure_is Doubtful h = absurd (cc)
sure_is Void h = absurd (cc)

abbrev receive : OpName → ℕ → ℕ → Option ℕ → Option ℕ → Trust → Receive → Receive
receive n c a s g t q = record { name = n; comm = c; at = a; source = s; tag = g; count = q.count; trust = t; datatype = q.datatype; ended = q.ended }

-- A settled receive that the message fits is what the message and the rest tell of it.
pub told_by : (m : Message) (q : Receive) → IsOwnReceive q → is_settled q ≡ true → fits m q ≡ true → q ≡ receive_by m (taker_of q)
told_by m q own settled fit =
    let p = fit_parts m q (envelope_of m q fit) in
    let s = settled_parts q settled in
    let n : q.name ≡ record { rank = m.to; call = q.name.call; part = q.name.part } = same_name q.name (record { rank = m.to; call = q.name.call; part = q.name.part }) (own ∙ sym p.1) refl refl in
    ap (λ x. receive x q.comm q.at q.source q.tag q.trust q) n
    ∙ ap (λ x. receive (record { rank = m.to; call = q.name.call; part = q.name.part }) x q.at q.source q.tag q.trust q) (sym p.0)
    ∙ ap (λ x. receive (record { rank = m.to; call = q.name.call; part = q.name.part }) m.comm x q.source q.tag q.trust q) (sym p.1)
    ∙ ap (λ x. receive (record { rank = m.to; call = q.name.call; part = q.name.part }) m.comm m.to x q.tag q.trust q) (admitted q.source m.from s.0 p.2)
    ∙ ap (λ x. receive (record { rank = m.to; call = q.name.call; part = q.name.part }) m.comm m.to (Some m.from) x q.trust q) (tag_is q.tag m.tag p.3)
    ∙ ap (λ x. receive (record { rank = m.to; call = q.name.call; part = q.name.part }) m.comm m.to (Some m.from) (cond (is_none q.tag) None (Some m.tag)) x q) (sure_is q.trust s.1)

module _ (P : Message → Receive → Type 0) (ms : List Message) (qs : List Receive) (waiting : List Message) (free opened : List Receive) (couples : List Couple) (held : AreSets P ms qs waiting free opened couples) where
  pub known_message : (m : Message) → Has ms m → IsOneMessage couples m
  known_message m i d j e =
      let w = held.coupled d j in
      held.messages_apart d.message m w.0 i (placed d.message m (held.senders d.message w.0) (held.senders m i) e)

  pub known_receive : (q : Receive) → Has qs q → IsOneReceive couples q
  known_receive q i d j e =
      let w = held.coupled d j in
      held.receives_apart d.receive q w.1 i (placed_receive d.receive q (held.receivers d.receive w.1) (held.receivers q i) e)

  -- the couple of a message and a receive that are in none is new
  pub new_couple : (m : Message) (q : Receive) → Has ms m → Has qs q → is_settled q ≡ true → fits m q ≡ true → ((r : Receive) → Has qs r → P m r → ⊥) → ((n : Message) → Has ms n → P n q → ⊥) → IsNew couples (couple_of m q)
  new_couple m q i j s f none_m none_q = record {
    fit = told_by m q (held.receivers q j) s f;
    message = λ d k e. let w = held.coupled d k in none_m d.receive w.1 (subst (λ (n : Message). P n d.receive) (known_message m i d k e) w.2);
    receive = λ d k e. let w = held.coupled d k in none_q d.message w.0 (subst (λ (r : Receive). P d.message r) (known_receive q j d k e) w.2);
  }
