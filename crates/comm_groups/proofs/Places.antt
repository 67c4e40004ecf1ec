-- The members at ranks, one rank after the other.
use Rattle.std.proofs.Common.{◌≡◌, ℕ, ◌+◌, ◌<◌, ◌++◌, Bool, true, false, not, List, [], ◌∷◌, Option, Some, None, map, length, take, get_or, filter, cond, refl, arith, ap, ◌∙◌, sym, append-nil}
use Rattle.std.specs.List.{cons_option, filter_map, slice_get, range_with_len}
use Rattle.std.proofs.lemmas.List.{take_more, map-id}
use Rattle.std.proofs.lemmas.List.Elements.{filter-append, filter_map-append}
use Rattle.std.proofs.lemmas.List.FromFn.{filter_of_map_range_with_len_more}
use Rattle.std.proofs.lemmas.Grind.{common_steps}
use Rattle.comm_groups.specs.Groups.{has, members_at, ranks_without}

members_push : (group rs : List ℕ) (r : ℕ) → members_at group (rs ++ r ∷ []) ≡ members_at group rs ++ cons_option (slice_get group r) []
members_push group rs r = filter_map-append (λ q. slice_get group q) rs (r ∷ [])

push_some : (group rs : List ℕ) (r x : ℕ) → slice_get group r ≡ Some x → members_at group (rs ++ r ∷ []) ≡ members_at group rs ++ x ∷ []
push_some group rs r x e = members_push group rs r ∙ ap (λ (o : Option ℕ). members_at group rs ++ cons_option o []) e

push_none : (group rs : List ℕ) (r : ℕ) → slice_get group r ≡ None → members_at group (rs ++ r ∷ []) ≡ members_at group rs
push_none group rs r e = members_push group rs r ∙ ap (λ (o : Option ℕ). members_at group rs ++ cons_option o []) e ∙ append-nil (members_at group rs)

pub members_more_some : (group ranks : List ℕ) (i x : ℕ) → i < length ranks → slice_get group (get_or ranks i 0) ≡ Some x
    → members_at group (take (i + 1) ranks) ≡ members_at group (take i ranks) ++ x ∷ []
members_more_some group ranks i x below e = rw (take_more ranks i 0 below) (push_some group (take i ranks) (get_or ranks i 0) x e)

pub members_more_none : (group ranks : List ℕ) (i : ℕ) → i < length ranks → slice_get group (get_or ranks i 0) ≡ None
    → members_at group (take (i + 1) ranks) ≡ members_at group (take i ranks)
members_more_none group ranks i below e = rw (take_more ranks i 0 below) (push_none group (take i ranks) (get_or ranks i 0) e)

without_push : (ranks : List ℕ) (i : ℕ) → ranks_without (i + 1) ranks ≡ ranks_without i ranks ++ cond (not (has ranks i)) (i ∷ []) []
without_push ranks i =
    let p : ℕ → Bool = λ r. not (has ranks r) in
    let more : filter p (map (λ (x : ℕ). x) (range_with_len 0 (i + 1))) ≡ filter p (map (λ (x : ℕ). x) (range_with_len 0 i)) ++ cond (p i) (i ∷ []) []
    = filter_of_map_range_with_len_more p (λ (x : ℕ). x) 0 i i (omega arith) in
    ap (filter p) (sym (map-id (range_with_len 0 (i + 1)))) ∙ more ∙ ap (λ (l : List ℕ). filter p l ++ cond (p i) (i ∷ []) []) (map-id (range_with_len 0 i))

pub without_more_kept : (group ranks : List ℕ) (i x : ℕ) → has ranks i ≡ false → slice_get group i ≡ Some x
    → members_at group (ranks_without (i + 1) ranks) ≡ members_at group (ranks_without i ranks) ++ x ∷ []
without_more_kept group ranks i x h e =
    ap (members_at group) (without_push ranks i ∙ ap (λ (b : Bool). ranks_without i ranks ++ cond (not b) (i ∷ []) []) h) ∙ push_some group (ranks_without i ranks) i x e

pub without_more_left : (group ranks : List ℕ) (i : ℕ) → has ranks i ≡ true
    → members_at group (ranks_without (i + 1) ranks) ≡ members_at group (ranks_without i ranks)
without_more_left group ranks i h =
    ap (members_at group) (without_push ranks i ∙ ap (λ (b : Bool). ranks_without i ranks ++ cond (not b) (i ∷ []) []) h ∙ append-nil (ranks_without i ranks))
