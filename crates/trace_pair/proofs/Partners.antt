-- The couples of an index say what takes each message.
use Rattle.std.proofs.Common.{◌≡◌, Bool, true, false, List, ⊎_elim, sym, refl, ◌∙◌, ap, Option, Some, None, ◌&&◌}
use Rattle.std.specs.Prelude.{not}
use Rattle.mpi_model.specs.declared.message.Message.{Message}
use Rattle.mpi_model.specs.declared.message.Receive.{Receive}
use Rattle.mpi_model.specs.Fit.{fits}
use Rattle.mpi_model.specs.Trusts.{is_open}
use Rattle.trace_ops.specs.Order.{Has}
use Rattle.trace_pair.specs.Ends.{NoneHides, SomeHides}
use Rattle.trace_pair.specs.Indexed.{IsIndexed, couple_of}
use Rattle.trace_pair.specs.Places.{posted_at, posted_no_later}
use Rattle.trace_pair.specs.Calls.{is_live, ArePostedApart}
use Rattle.trace_pair.specs.Pairing.{After, paired, receive_of, Paired}
use Rattle.trace_pair.specs.Table.{fits_open}
use Rattle.trace_pair.specs.declared.pair.Couple.{Couple}
use Rattle.trace_pair.proofs.Obeyed.{pair_obeys, any_found, any_of, both, and_true, not_true-elim}
use Rattle.trace_pair.proofs.Certain.{one_receive, in_order}
use Rattle.trace_pair.proofs.Fitting.{fits_at, fits_live, live_message, open_live, envelope_of, false_apart}
use Rattle.trace_pair.proofs.Listed.{found, finds}

-- what takes the message is its receive
pub receive_is_of : (after : After) (ms : List Message) (qs : List Receive) → ArePostedApart qs → (m : Message) (q : Receive) → Has ms m → Has qs q → Paired after ms qs m q → Some q ≡ receive_of after ms qs m
receive_is_of after ms qs apart m q i j h =
    let w = finds (paired after ms qs m) qs q j h in
    let u = found (paired after ms qs m) qs w.0 w.1 in
    let a = fits_at m q (pair_obeys after ms qs m q h).fit in
    let b = fits_at m w.0 (pair_obeys after ms qs m w.0 u.1).fit in
    let e : q ≡ w.0 = ⊎_elim (λ (x : posted_no_later q w.0 ≡ true). absurd (one_receive after ms qs m w.0 q i u.0 j x u.1 h))
    (λ c. ⊎_elim (λ (x : posted_no_later w.0 q ≡ true). absurd (one_receive after ms qs m q w.0 i j u.0 x h u.1))
    (λ (e : posted_at q ≡ posted_at w.0). apart q w.0 j u.0 e) c)
    (in_order (posted_at q) (posted_at w.0) (sym a ∙ b)) in
    ap (λ (x : Receive). Some x) e ∙ sym w.1

module _ (after : After) (ms : List Message) (qs : List Receive) (waiting : List Message) (free opened : List Receive) (couples : List Couple) (held : IsIndexed after ms qs waiting free opened couples) where
  pub partner_is : (m : Message) (q : Receive) → Has couples (couple_of m q) → Some q ≡ receive_of after ms qs m
  partner_is m q ic = let h = held.coupled (couple_of m q) ic in receive_is_of after ms qs held.receives_apart m q h.0 h.1 h.2

  pub partner_absent : (m : Message) → Has ms m → ((q : Receive) → Has couples (couple_of m q) → ⊥) → None ≡ receive_of after ms qs m
  partner_absent m i none =
      elim (receive_of after ms qs m) as (λ (o : Option Receive). receive_of after ms qs m ≡ o → None ≡ o) [
        | None ↦ λ e. refl
        | Some q ↦ λ e. let u = found (paired after ms qs m) qs q e in absurd (none q (held.coupled_all m q i u.0 u.1))
      ] refl

  -- An open receive may have taken the message where one of the set may.
  pub open_is : (m : Message) → is_live m.trust ≡ true → (b : Bool) → (b ≡ true → SomeHides after opened m) → (b ≡ false → NoneHides after opened m) → b ≡ fits_open after qs m
  open_is m live true some none =
      let w = some refl in
      let h = held.opens w.0 w.1 in
      sym (any_of (λ u. is_open u && fits m u && not (after m u)) qs w.0 h.0
      (and_true (is_open w.0 && fits m w.0) (not (after m w.0)) (and_true (is_open w.0) (fits m w.0) h.1 (fits_live m w.0 live (open_live w.0 h.1) w.2)) (ap not w.3)))
  open_is m live false some none =
      elim (fits_open after qs m) as (λ b. fits_open after qs m ≡ b → false ≡ b) [
        | true ↦ λ e.
            let w = any_found (λ u. is_open u && fits m u && not (after m u)) qs e in
            let p' = both (is_open w.0 && fits m w.0) (not (after m w.0)) w.2 in
            let p = both (is_open w.0) (fits m w.0) p'.0 in
            absurd (not_true-elim (after m w.0) p'.1 (none refl w.0 (held.opens_all w.0 w.1 p.0) (envelope_of m w.0 p.1)))
        | false ↦ λ e. refl
      ] refl

  -- and none has taken a void one
  pub void_fits_none : (m : Message) → is_live m.trust ≡ false → false ≡ fits_open after qs m
  void_fits_none m void =
      elim (fits_open after qs m) as (λ b. fits_open after qs m ≡ b → false ≡ b) [
        | true ↦ λ e.
            let w = any_found (λ u. is_open u && fits m u && not (after m u)) qs e in
            let p = both (is_open w.0) (fits m w.0) (both (is_open w.0 && fits m w.0) (not (after m w.0)) w.2).0 in
            absurd (false_apart (is_live m.trust) void (live_message m w.0 p.1))
        | false ↦ λ e. refl
      ] refl
