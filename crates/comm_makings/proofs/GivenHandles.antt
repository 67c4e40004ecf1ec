-- Which handle each call gives, one call after the other.
use Rattle.std.proofs.Common.{◌≡◌, ◌<◌, ◌+◌, ◌++◌, ◌∙◌, ℕ, Bool, true, false, List, [], ◌∷◌, Option, Some, None, cond, is_some, length, get_or, ap, sym, refl, inl, inr, option_map, option_and_then}
use Rattle.std.specs.List.{slice_get}
use Rattle.std.proofs.lemmas.List.Sums.{sum_by_more}
use Rattle.std.proofs.lemmas.Option.{slice_get-get_or}
use Rattle.mpi_model.specs.declared.object.Object.{Object}
use Rattle.comm_makings.specs.Each.{EachIs}
use Rattle.comm_makings.specs.Objects.{given_before, handle_given, number_given}
use Rattle.comm_makings.specs.declared.calls.CommCall.{CommCall}
use Rattle.comm_makings.proofs.Lists.{get_more}

module _ (o : Object) (calls : List CommCall) (i : ℕ) (call : CommCall) (below : i < length calls) (is : call ≡ get_or calls i call) where
  counts : given_before o calls (i + 1) ≡ given_before o calls i + cond (is_some (number_given o (get_or calls i call))) 1 0
  counts = sum_by_more (λ (c : CommCall). cond (is_some (number_given o c)) 1 0) calls i call below

  pub count_more : (count : ℕ) (b : Bool) → is_some (number_given o call) ≡ b → count ≡ given_before o calls i → count + cond b 1 0 ≡ given_before o calls (i + 1)
  count_more count b e were =
      ap (λ (n : ℕ). n + cond b 1 0) were ∙ ap (λ (x : Bool). given_before o calls i + cond x 1 0) (sym e)
      ∙ ap (λ (c : CommCall). given_before o calls i + cond (is_some (number_given o c)) 1 0) is ∙ sym counts

  here : slice_get calls i ≡ Some call
  here = slice_get-get_or calls i call below ∙ ap Some (sym is)

  by_number : (count : ℕ) (n : Option ℕ) (b : Bool) → number_given o call ≡ n → is_some (number_given o call) ≡ b → count ≡ given_before o calls i → cond b (Some count) None ≡ handle_given o calls i
  by_number count None false e f were = sym (ap (λ (c : Option CommCall). option_map (λ number. given_before o calls i) (option_and_then (number_given o) c)) here ∙ ap (option_map (λ number. given_before o calls i)) e)
  by_number count None true e f were = absurd (let bad : false ≡ true = sym (ap (λ (n : Option ℕ). is_some n) e) ∙ f in cc)
  by_number count (Some number) false e f were = absurd (let bad : true ≡ false = sym (ap (λ (n : Option ℕ). is_some n) e) ∙ f in cc)
  by_number count (Some number) true e f were =
      ap Some were ∙ sym (ap (λ (c : Option CommCall). option_map (λ number. given_before o calls i) (option_and_then (number_given o) c)) here ∙ ap (option_map (λ number. given_before o calls i)) e)

  pub given_more : (given : List (Option ℕ)) (count : ℕ) (b : Bool) → is_some (number_given o call) ≡ b → count ≡ given_before o calls i → length given ≡ i → EachIs given (handle_given o calls)
      → EachIs (given ++ cond b (Some count) None ∷ []) (handle_given o calls)
  given_more given count b f were long each k x e = elim (get_more given (cond b (Some count) None) k x e) [
    | inl before ↦ each k x before
    | inr last ↦ last.1 ∙ by_number count (number_given o call) b refl f were ∙ ap (handle_given o calls) (sym (last.0 ∙ long))
  ]
