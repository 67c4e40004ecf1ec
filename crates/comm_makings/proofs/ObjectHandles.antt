-- The handles of windows and files, from the last call back.
use Rattle.std.proofs.Common.{◌≡◌, ◌∙◌, ◌+◌, ◌<◌, ◌++◌, ℕ, suc, List, [], ◌∷◌, Option, Some, None, cond, length, get_or, drop, drop-cons, add-one, ap, sym, reverse}
use Rattle.mpi_model.specs.declared.layout.comm.Stretch.{Stretch}
use Rattle.mpi_model.specs.declared.object.Object.{Object}
use Rattle.comm_makings.specs.Names.{next_call}
use Rattle.comm_makings.specs.Objects.{changes, end_in, handle_before, handle_from, number_given, object_handles}
use Rattle.comm_makings.specs.declared.calls.CommCall.{CommCall}

module _ (o : Object) (calls : List CommCall) (at : ℕ) (call : CommCall) (below : at < length calls) (is : call ≡ get_or calls at call) where
  -- the calls from a place on, by the first of them
  first_of : drop at calls ≡ call ∷ drop (at + 1) calls
  first_of = drop-cons calls at call below ∙ ap (λ (c : CommCall). c ∷ drop (suc at) calls) (sym is) ∙ ap (λ (n : ℕ). call ∷ drop n calls) (sym (add-one at))

  -- where a number's stretch ends that begins before the call
  pub end_before : (m : ℕ) (behind : Option ℕ) → behind ≡ end_in o m (drop (at + 1) calls) → cond (changes o m call) (Some (next_call call.call)) behind ≡ end_in o m (drop at calls)
  end_before m behind e = ap (cond (changes o m call) (Some (next_call call.call))) e ∙ ap (end_in o m) (sym first_of)

  by_given : (given : Option ℕ) → number_given o call ≡ given
      → object_handles o (drop at calls) ≡ handle_before o call (drop (at + 1) calls) given (object_handles o (drop (at + 1) calls))
  by_given given e = ap (object_handles o) first_of ∙ ap (λ (g : Option ℕ). handle_before o call (drop (at + 1) calls) g (object_handles o (drop (at + 1) calls))) e

  -- the call gives no handle
  pub no_handle : (handles : List Stretch) → number_given o call ≡ None → handles ≡ reverse (object_handles o (drop (at + 1) calls)) → handles ≡ reverse (object_handles o (drop at calls))
  no_handle handles e were = were ∙ ap reverse (sym (by_given None e))

  -- the call gives this handle
  pub one_handle : (handles : List Stretch) (number : ℕ) (end : Option ℕ) → number_given o call ≡ Some number → end ≡ end_in o number (drop (at + 1) calls)
      → handles ≡ reverse (object_handles o (drop (at + 1) calls)) → ((x : Stretch) (xs : List Stretch) → reverse xs ++ x ∷ [] ≡ reverse (x ∷ xs))
      → handles ++ record { number = number; first = next_call call.call; end = end } ∷ [] ≡ reverse (object_handles o (drop at calls))
  one_handle handles number end e ends were turned =
      let behind : List CommCall = drop (at + 1) calls in
      let is_handle : record { number = number; first = next_call call.call; end = end } ≡ handle_from o call behind number
      = ap (λ (x : Option ℕ). record { number = number; first = next_call call.call; end = x }) ends in
      ap (λ (l : List Stretch). l ++ record { number = number; first = next_call call.call; end = end } ∷ []) were
      ∙ ap (λ (h : Stretch). reverse (object_handles o behind) ++ h ∷ []) is_handle
      ∙ turned (handle_from o call behind number) (object_handles o behind)
      ∙ ap reverse (sym (by_given (Some number) e))
