-- What is known of members, one member more.
use Rattle.std.proofs.Common.{◌≡◌, ◌∙◌, ◌+◌, ◌<◌, ℕ, suc, List, [], ◌∷◌, ◌++◌, Option, append-nil, append_assoc, get_or, length, take, refl, sym, ap, arith}
use Rattle.std.specs.Prelude.{option_to_list}
use Rattle.std.proofs.lemmas.List.{length-take-le, take_more}
use Rattle.trace_ops.specs.Ops.{Ops}
use Rattle.trace_arguments.specs.declared.calls.CallsTold.{CallsTold}
use Rattle.trace_arguments.specs.Values.{ValuedParts, valued_at, values_from}
use Rattle.trace_arguments.specs.declared.disagreement.Comparison.{Comparison}

module _ (ops : List Ops) (calls : CallsTold) (c : Comparison) where
  -- one member behind others
  behind : (place : ℕ) (ranks : List ℕ) (rank : ℕ)
      → values_from ops calls c place (ranks ++ rank ∷ []) ≡ values_from ops calls c place ranks ++ option_to_list (valued_at ops calls c (place + length ranks) rank)
  behind place [] rank =
      let at : place ≡ place + 0 = omega arith in
      append-nil (option_to_list (valued_at ops calls c place rank)) ∙ ap (λ (n : ℕ). option_to_list (valued_at ops calls c n rank)) at
  behind place (r ∷ ranks) rank =
      let at : (place + 1) + length ranks ≡ place + suc (length ranks) = omega arith in
      ap (λ (l : List ValuedParts). option_to_list (valued_at ops calls c place r) ++ l)
      (behind (place + 1) ranks rank ∙ ap (λ (n : ℕ). values_from ops calls c (place + 1) ranks ++ option_to_list (valued_at ops calls c n rank)) at)
      ∙ sym (append_assoc (option_to_list (valued_at ops calls c place r)) (values_from ops calls c (place + 1) ranks) (option_to_list (valued_at ops calls c (place + suc (length ranks)) rank)))

  -- one more of a group's members
  pub one_more : (ranks : List ℕ) (i d : ℕ) (before after : List ValuedParts) → i < length ranks
      → before ≡ values_from ops calls c 0 (take i ranks) → after ≡ before ++ option_to_list (valued_at ops calls c i (get_or ranks i d)) → after ≡ values_from ops calls c 0 (take (i + 1) ranks)
  one_more ranks i d before after lt so_far more =
      let rank = get_or ranks i d in
      let count = length-take-le i ranks (omega (arith, lt)) in
      let at : i ≡ 0 + length (take i ranks) = omega (arith, count) in
      more ∙ ap (λ (l : List ValuedParts). l ++ option_to_list (valued_at ops calls c i rank)) so_far
      ∙ ap (λ (n : ℕ). values_from ops calls c 0 (take i ranks) ++ option_to_list (valued_at ops calls c n rank)) at
      ∙ sym (behind 0 (take i ranks) rank)
      ∙ ap (values_from ops calls c 0) (sym (take_more ranks i d lt))
