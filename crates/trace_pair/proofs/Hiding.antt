-- Whether some open receive may have taken a message: by a test of all of them, and by those that are called before a
-- limit.
use Rattle.std.proofs.Common.{◌≡◌, ◌⊎◌, Bool, true, false, ◌&&◌, List, [], ◌∷◌, Some, None, inl, inr, ⊎_elim, sym, refl, ◌∙◌, ap, arith, cond, eqb, subst}
use Rattle.std.specs.Prelude.{not}
use Rattle.std.specs.Bool.{Decides}
use Rattle.std.specs.List.{filter, list_any}
use Rattle.std.proofs.lemmas.Bool.Decides.{nat_tests}
use Rattle.mpi_model.specs.declared.message.Message.{Message}
use Rattle.mpi_model.specs.declared.message.Receive.{Receive}
use Rattle.mpi_model.specs.Fit.{envelopes_fit}
use Rattle.trace_ops.specs.Order.{Has}
use Rattle.trace_pair.specs.Ends.{NoneHides, NoneHidesUpTo, SomeHides, SomeHidesUpTo}
use Rattle.trace_pair.specs.Lanes.{is_within}
use Rattle.trace_pair.specs.Pairing.{After}
use Rattle.trace_pair.specs.Sets.{DropsFrom}
use Rattle.trace_pair.proofs.Obeyed.{and_true, any_found, any_of, both, unless_not}
use Rattle.trace_pair.proofs.Queued.{fit_parts}

not_yes : (b : Bool) → not b ≡ true → b ≡ false
not_yes true h = absurd (cc)
not_yes false h = refl

module _ (after : After) (xs : List Receive) (m : Message) (b : Bool) where
  pub some_may_hide : b ≡ list_any (λ u. envelopes_fit m u && not (after m u)) xs → b ≡ true → SomeHides after xs m
  some_may_hide e h =
      let w = any_found (λ u. envelopes_fit m u && not (after m u)) xs (sym e ∙ h) in
      let p = both (envelopes_fit m w.0) (not (after m w.0)) w.2 in
      (w.0, w.1, p.0, not_yes (after m w.0) p.1)

  pub none_may_hide : b ≡ list_any (λ u. envelopes_fit m u && not (after m u)) xs → b ≡ false → NoneHides after xs m
  none_may_hide e h u i f = unless_not (after m u) (λ g.
      let t = any_of (λ u. envelopes_fit m u && not (after m u)) xs u i (and_true (envelopes_fit m u) (not (after m u)) f g) in cc)

pub kept_has : {X : Type 0} (p : X → Bool) (xs : List X) (u : X) → Has xs u → p u ≡ true → Has (filter p xs) u
kept_has p [] u i e = absurd i
kept_has {X} p (x ∷ xs) u i e =
    elim (p x) as (λ b. p x ≡ b → Has (cond b (x ∷ filter p xs) (filter p xs)) u) [
      | true ↦ λ h. ⊎_elim (λ (d : u ≡ x). inl d) (λ (j : Has xs u). inr (kept_has p xs u j e)) i
      | false ↦ λ h. ⊎_elim (λ (d : u ≡ x). let g = ap p d in absurd (cc)) (λ (j : Has xs u). kept_has p xs u j e) i
    ] refl

pub was_kept : {X : Type 0} (p : X → Bool) (xs : List X) (u : X) → Has (filter p xs) u → Has xs u × (p u ≡ true)
was_kept p [] u i = absurd i
was_kept {X} p (x ∷ xs) u i =
    elim (p x) as (λ b. p x ≡ b → Has (cond b (x ∷ filter p xs) (filter p xs)) u → Has (x ∷ xs) u × (p u ≡ true)) [
      | true ↦ λ h j. ⊎_elim (λ (d : u ≡ x). (inl d, ap p d ∙ h)) (λ (k : Has (filter p xs) u). let w = was_kept p xs u k in (inr w.0, w.1)) j
      | false ↦ λ h j. let w = was_kept p xs u j in (inr w.0, w.1)
    ] refl i

-- all but those that are the receive
pub dropped_all : (old new : List Receive) (q : Receive) (same : Receive → Bool) → ((u : Receive) → Decides (same u) (u ≡ q)) → new ≡ filter (λ u. not (same u)) old → DropsFrom old new q
dropped_all old new q same decides e = record {
  keeps = λ u i. elim (same u) as (λ b. same u ≡ b → Has new u ⊎ (u ≡ q)) [
    | true ↦ λ h. inr ((decides u).0 h)
    | false ↦ λ h. inl (subst (λ (l : List Receive). Has l u) (sym e) (kept_has (λ v. not (same v)) old u i (ap not h)))
  ] refl;
  dropped = λ i.
      let w = was_kept (λ v. not (same v)) old q (subst (λ (l : List Receive). Has l q) e i) in
      let h = ap not ((decides q).1 refl) in absurd (let g = w.1 in cc);
  was = λ u i. (was_kept (λ v. not (same v)) old u (subst (λ (l : List Receive). Has l u) e i)).0;
}

-- ---- of those that are called before a limit

-- where no limit is, it is all of them
module _ (after : After) (xs : List Receive) (m : Message) where
  pub some_of_all : SomeHides after (filter (is_within None) xs) m → SomeHides after xs m
  some_of_all w = (w.0, (was_kept (is_within None) xs w.0 w.1).0, w.2, w.3)

  pub none_of_all : NoneHides after (filter (is_within None) xs) m → NoneHides after xs m
  none_of_all h u i f = h u (kept_has (is_within None) xs u i refl) f

  module _ (q : Receive) where
    -- Receives that fit the message are posted at its receiver.
    pub some_up_to : m.to ≡ q.at → SomeHides after (filter (is_within (Some q.name.call)) xs) m → SomeHidesUpTo after xs m q
    some_up_to at w =
        let p = was_kept (is_within (Some q.name.call)) xs w.0 w.1 in
        let t = p.1 in
        (w.0, p.0, w.2, w.3, sym (fit_parts m w.0 w.2).1 ∙ at, grind (arith, nat_tests))

    pub none_up_to : NoneHides after (filter (is_within (Some q.name.call)) xs) m → NoneHidesUpTo after xs m q
    none_up_to h u i f at le = h u (kept_has (is_within (Some q.name.call)) xs u i (grind (arith, nat_tests))) f

    -- no receive of another rank does
    pub none_elsewhere : eqb m.to q.at ≡ false → NoneHidesUpTo after xs m q
    none_elsewhere not u i f at le = absurd (let e = (fit_parts m u f).1 ∙ at in grind (arith, nat_tests))
