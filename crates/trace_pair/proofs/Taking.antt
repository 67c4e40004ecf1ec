-- Whether some receive may take a message, by the end of the one that ends last.
use Rattle.std.proofs.Common.{◌≡◌, ℕ, Bool, true, false, ◌&&◌, List, [], ◌∷◌, inl, inr, sym, refl, ap, get_or, Option, Some, None}
use Rattle.std.specs.Prelude.{not}
use Rattle.std.specs.List.{list_any}
use Rattle.mpi_model.specs.declared.message.Message.{Message}
use Rattle.mpi_model.specs.declared.message.Receive.{Receive}
use Rattle.mpi_model.specs.Fit.{envelopes_fit}
use Rattle.trace_ops.specs.Ops.{Ops, no_ops}
use Rattle.trace_ops.specs.Order.{Has}
use Rattle.trace_pair.specs.After.{comes_after, is_after}
use Rattle.trace_pair.specs.Ends.{IsLastFor, NoneHides, SomeHides}
use Rattle.trace_pair.specs.Pairing.{After}
use Rattle.trace_pair.proofs.Afterwards.{none_hides, some_hides}
use Rattle.trace_pair.proofs.Obeyed.{and_true, any_of}

none_so : {X : Type 0} (p : X → Bool) (xs : List X) → ((x : X) → Has xs x → p x ≡ false) → list_any p xs ≡ false
none_so p [] h = refl
none_so p (x ∷ xs) h = let e = h x (inl refl) in let f = none_so p xs (λ y i. h y (inr i)) in cc

module _ (after : After) (xs : List Receive) (m : Message) where
  any_hides : SomeHides after xs m → list_any (λ u. envelopes_fit m u && not (after m u)) xs ≡ true
  any_hides w =
      any_of (λ u. envelopes_fit m u && not (after m u)) xs w.0 w.1 (and_true (envelopes_fit m w.0) (not (after m w.0)) w.2 (ap not w.3))

  not_any_hides : NoneHides after xs m → list_any (λ u. envelopes_fit m u && not (after m u)) xs ≡ false
  not_any_hides h = none_so (λ u. envelopes_fit m u && not (after m u)) xs (λ u i. passed (envelopes_fit m u) (after m u) (h u i))
    where
      passed : (f a : Bool) → (f ≡ true → a ≡ true) → (f && not a) ≡ false
      passed true true h = refl
      passed true false h = let e = h refl in absurd (cc)
      passed false a h = refl

module _ (held : List Ops) (xs : List Receive) (m : Message) where
  pub none_may : IsLastFor xs m None → false ≡ list_any (λ u. envelopes_fit m u && not (comes_after held m u)) xs
  none_may last = sym (not_any_hides (comes_after held) xs m (λ u i f. absurd (last u i f)))

  pub last_may : (e : Option ℕ) → IsLastFor xs m (Some e) → (b : Bool) → b ≡ is_after (get_or held m.from no_ops) (get_or held m.to no_ops) m m.to e →
      not b ≡ list_any (λ u. envelopes_fit m u && not (comes_after held m u)) xs
  last_may e last true h = sym (not_any_hides (comes_after held) xs m (none_hides held xs m e last (sym h)))
  last_may e last false h = sym (any_hides (comes_after held) xs m (some_hides held xs m e last (sym h)))
