-- Which communicators are written, and in which order.
use Rattle.std.proofs.Common.{◌≡◌, ◌<◌, ◌≤◌, ◌+◌, ◌++◌, ◌∙◌, ◌&&◌, ℕ, zero, suc, Bool, true, false, List, [], ◌∷◌, Option, Some, None, cond, length, ap, sym, subst, refl, inl, inr, arith, length-append, append-nil, nat_lt, option_and_then}
use Rattle.std.specs.List.{cons_option, filter_map, range_with_len, slice_get}
use Rattle.std.proofs.lemmas.List.Elements.{filter_map-append}
use Rattle.std.proofs.lemmas.List.Sorted.{All-permutation}
use Rattle.std.proofs.lemmas.Option.{same_Some, slice_get_within}
use Rattle.mpi_model.specs.Communicators.{Communicator}
use Rattle.comm_makings.specs.Written.{AreChosen, AreIn, AreOthers, AreWrittenOf, IsWorld, IsWritten, IsWrittenOf, is_named, named_at, named_with}
use Rattle.comm_makings.specs.declared.answer.Choice.{Choice}
use Rattle.comm_makings.specs.declared.state.Made.{Made}
use Rattle.comm_makings.specs.declared.uses.AllUses.{AllUses}
use Rattle.comm_makings.specs.declared.view.RankView.{RankView}
use Rattle.comm_makings.specs.declared.written.Named.{Named}
use Rattle.comm_makings.proofs.Lists.{All-from_slice_get, All-slice_get, get_more}
use Rattle.comm_makings.proofs.Places.{numbers_next}

-- what stands in a list of what numbers give
pub given_by : {X : Type 0} (f : ℕ → Option X) (n k : ℕ) (x : X) → slice_get (filter_map f (range_with_len 0 n)) k ≡ Some x → (place : ℕ) × (place < n) × (f place ≡ Some x)
given_by {X} f zero k x e = absurd (cc)
given_by {X} f (suc n) k x e =
    let before : List X = filter_map f (range_with_len 0 n) in
    let more : filter_map f (range_with_len 0 (suc n)) ≡ before ++ cons_option (f n) [] = ap (filter_map f) (numbers_next n) ∙ filter_map-append f (range_with_len 0 n) (n ∷ []) in
    by_last (λ i h. given_by f n i x h) (f n) refl (ap (λ (l : List X). slice_get l k) (sym more) ∙ e)
  where
    by_last : ((i : ℕ) → slice_get (filter_map f (range_with_len 0 n)) i ≡ Some x → (place : ℕ) × (place < n) × (f place ≡ Some x)) → (o : Option X) → f n ≡ o
        → slice_get (filter_map f (range_with_len 0 n) ++ cons_option o []) k ≡ Some x → (place : ℕ) × (place < suc n) × (f place ≡ Some x)
    by_last rest None is e =
        let r = rest k (ap (λ (l : List X). slice_get l k) (sym (append-nil (filter_map f (range_with_len 0 n)))) ∙ e) in
        (r.0, (let less : r.0 < n = r.1 in omega arith), r.2)
    by_last rest (Some y) is e = elim (get_more (filter_map f (range_with_len 0 n)) y k x e) [
      | inl before ↦
          let r = rest k before in
          (r.0, (let less : r.0 < n = r.1 in omega arith), r.2)
      | inr last ↦ (n, omega arith, is ∙ ap Some (sym last.1))
    ]

named_in : (choice : Choice) (uses : AllUses) (made : List Made) (place : ℕ) (named : Named) → named_at choice uses made place ≡ Some named → (named.place ≡ place) × (place < length made)
named_in choice uses made place named e = of_some (slice_get made place) refl e
  where
    by_test : (comm : Made) (b : Bool) → cond b (Some (record { order = comm.order; place = place })) None ≡ Some named → named.place ≡ place
    by_test comm false e = absurd (cc)
    by_test comm true e = ap (λ (n : Named). n.place) (sym (same_Some (record { order = comm.order; place = place }) named e))

    of_some : (o : Option Made) → slice_get made place ≡ o → option_and_then (named_with choice uses place) o ≡ Some named → (named.place ≡ place) × (place < length made)
    of_some None here e = absurd (cc)
    of_some (Some comm) here e = (by_test comm (nat_lt 0 comm.order.class && is_named choice uses comm) e, slice_get_within made place comm here)

pub chosen_in : (choice : Choice) (uses : AllUses) (made : List Made) (chosen : List Named) → AreChosen choice uses made chosen → AreIn made chosen
chosen_in choice uses made chosen are =
    let P : Named → Type 0 = λ n. n.place < length made in
    let all : List Named = filter_map (named_at choice uses made) (range_with_len 0 (length made)) in
    let each : (k : ℕ) (n : Named) → slice_get all k ≡ Some n → P n =
    λ k n e.
    let r = given_by (named_at choice uses made) (length made) k n e in
    let is = named_in choice uses made r.0 n r.2 in
    let less : r.0 < length made = r.1 in
    subst (λ (p : ℕ). p < length made) (sym is.0) less in
    record { each = λ i n e. All-slice_get P chosen i n (All-permutation P all chosen are.same (All-from_slice_get P all each)) e }

pub record AreWrittenTo (views : List RankView) (uses : AllUses) (made : List Made) (chosen : List Named) (comms : List Communicator) (count : ℕ) : Type 0 where
  pub same : length comms ≡ count
  pub each : (i : ℕ) (named : Named) (one : Made) (comm : Communicator) → slice_get chosen i ≡ Some named → slice_get made named.place ≡ Some one
      → slice_get comms i ≡ Some comm → IsWrittenOf views uses one comm

pub written_none : (views : List RankView) (uses : AllUses) (made : List Made) (chosen : List Named) → AreWrittenTo views uses made chosen [] 0
written_none views uses made chosen = record { same = omega arith; each = λ i named one comm e f g. absurd (cc) }

pub written_more : (views : List RankView) (uses : AllUses) (made : List Made) (chosen : List Named) (comms : List Communicator) (count : ℕ) (named : Named) (one : Made) (comm : Communicator)
    → AreWrittenTo views uses made chosen comms count → slice_get chosen count ≡ Some named → slice_get made named.place ≡ Some one → IsWrittenOf views uses one comm
    → AreWrittenTo views uses made chosen (comms ++ comm ∷ []) (count + 1)
written_more views uses made chosen comms count named one comm are here there is = record {
  same = omega (arith, length-append comms (comm ∷ []), are.same);
  each = λ i n o c e f g. elim (get_more comms comm i c g) [
    | inl before ↦ are.each i n o c e f before
    | inr last ↦
        let at : i ≡ count = last.0 ∙ are.same in
        let same_named : named ≡ n = same_Some named n (sym here ∙ ap (slice_get chosen) (sym at) ∙ e) in
        let same_one : one ≡ o = same_Some one o (sym there ∙ ap (λ (x : Named). slice_get made x.place) same_named ∙ f) in
        subst (λ (x : Made). IsWrittenOf views uses x c) same_one (subst (λ (x : Communicator). IsWrittenOf views uses one x) (sym last.1) is)
  ];
}

pub written_all : (views : List RankView) (uses : AllUses) (made : List Made) (chosen : List Named) (comms : List Communicator) (count : ℕ)
    → AreWrittenTo views uses made chosen comms count → count ≤ length chosen → length chosen ≤ count → AreWrittenOf views uses made chosen comms
written_all views uses made chosen comms count are most least = record { same = omega (arith, are.same); each = are.each }

pub is_written : (choice : Choice) (number count : ℕ) (views : List RankView) (uses : AllUses) (made : List Made) (first : Communicator) (others all : List Communicator)
    → IsWorld number count first → AreOthers choice views uses made others → all ≡ first ∷ others → IsWritten choice number count views uses made all
is_written choice number count views uses made first others all is rest starts = record { first = first; others = others; starts = starts; is_world = is; rest = rest }
