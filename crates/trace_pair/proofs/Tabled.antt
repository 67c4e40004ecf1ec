-- The rows of a table, message by message and rank by rank.
use Rattle.std.proofs.Common.{◌≡◌, ℕ, zero, suc, ◌+◌, ◌<◌, List, [], ◌∷◌, ◌++◌, inl, inr, sym, refl, ◌∙◌, ap, arith, append_assoc, length, take, get_or, Option, Some}
use Rattle.std.specs.Prelude.{slice_get}
use Rattle.std.specs.List.{flat_map, filter_map, cons_option}
use Rattle.std.proofs.lemmas.List.{take_more, flat_map_more}
use Rattle.std.proofs.lemmas.List.Elements.{filter_map-append}
use Rattle.std.proofs.lemmas.Option.{get_or_from_slice_get, slice_get_within}
use Rattle.trace_ops.specs.Ops.{Ops}
use Rattle.trace_ops.specs.Order.{Has}
use Rattle.trace_pair.proofs.Ranks.{has_left, has_right}

pub rows_next : {X Y : Type 0} (f : X → Option Y) (first old new : List Y) (xs : List X) (i : ℕ) (d : X) → i < length xs → old ≡ first ++ filter_map f (take i xs) → new ≡ old ++ cons_option (f (get_or xs i d)) [] → new ≡ first ++ filter_map f (take (i + 1) xs)
rows_next f first old new xs i d lt e g =
    g ∙ ap (λ l. l ++ cons_option (f (get_or xs i d)) []) e ∙ append_assoc first (filter_map f (take i xs)) (cons_option (f (get_or xs i d)) [])
    ∙ ap (λ l. first ++ l) (sym (filter_map-append f (take i xs) (get_or xs i d ∷ [])) ∙ ap (filter_map f) (sym (take_more xs i d lt)))

-- the front that ends with what stands there
pub take_there : {X : Type 0} (xs : List X) (i : ℕ) (x : X) → slice_get xs i ≡ Some x → take (i + 1) xs ≡ take i xs ++ x ∷ []
take_there xs i x e = take_more xs i x (slice_get_within xs i x e) ∙ ap (λ y. take i xs ++ y ∷ []) (get_or_from_slice_get xs i x x e)

-- the row of what stands there comes next
pub row_there : {X Y : Type 0} (f : X → Option Y) (old new : List Y) (xs : List X) (i : ℕ) (x : X) → slice_get xs i ≡ Some x → old ≡ filter_map f (take i xs) → new ≡ old ++ cons_option (f x) [] → new ≡ filter_map f (take (i + 1) xs)
row_there f old new xs i x e g h =
    rows_next f [] old new xs i x (slice_get_within xs i x e) g (h ∙ ap (λ y. old ++ cons_option (f y) []) (sym (get_or_from_slice_get xs i x x e)))

pub rows_more : {X Y : Type 0} (part : Ops → List X) (f : X → Option Y) (old new : List Y) (os : List Ops) (i : ℕ) (d : Ops) → i < length os → old ≡ filter_map f (flat_map part (take i os)) → new ≡ old ++ filter_map f (part (get_or os i d)) → new ≡ filter_map f (flat_map part (take (i + 1) os))
rows_more part f old new os i d lt e g =
    g ∙ ap (λ l. l ++ filter_map f (part (get_or os i d))) e ∙ sym (filter_map-append f (flat_map part (take i os)) (part (get_or os i d)))
    ∙ ap (filter_map f) (flat_map_more part [] (take i os) (get_or os i d) ∙ ap (flat_map part) (sym (take_more os i d lt)))

pub has_at : {X : Type 0} (xs : List X) (i : ℕ) (d : X) → i < length xs → Has xs (get_or xs i d)
has_at [] i d lt = absurd (omega arith)
has_at (x ∷ xs) zero d lt = inl refl
has_at (x ∷ xs) (suc i) d lt = inr (has_at xs i d (omega arith))

pub has_part : {X : Type 0} (part : Ops → List X) (os : List Ops) (i : ℕ) (d : Ops) (x : X) → i < length os → Has (part (get_or os i d)) x → Has (flat_map part os) x
has_part part [] i d x lt h = absurd (omega arith)
has_part part (o ∷ os) zero d x lt h = has_left (part o) (flat_map part os) x h
has_part part (o ∷ os) (suc i) d x lt h = has_right (part o) (flat_map part os) x (has_part part os i d x (omega arith) h)
