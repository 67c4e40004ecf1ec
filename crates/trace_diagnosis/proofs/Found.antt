-- A pair of a message that is there is found.
use Rattle.std.proofs.Common.{◌≡◌, ◌∙◌, ◌<◌, ◌&&◌, ◌==◌, ◌||◌, ℕ, Bool, true, false, List, [], ◌∷◌, length, get_or, refl, sym, ap}
use Rattle.std.specs.Prelude.{is_none}
use Rattle.std.specs.List.{find, list_any}
use Rattle.std.specs.Option.{option_map}
use Rattle.std.proofs.lemmas.List.Folds.{list_any_at}
use Rattle.mpi_model.specs.declared.event.OpName.{OpName}
use Rattle.trace_pair.specs.Table.{same_name, taken_by}
use Rattle.trace_pair.specs.declared.pair.Pair.{Pair}

by_first : {X Y : Type 0} (p : X → Bool) (f : X → Y) (x : X) (xs : List X) (b : Bool) → p x ≡ b → (b ≡ false → is_none (option_map f (find p xs)) ≡ false) → is_none (option_map f (find p (x ∷ xs))) ≡ false
by_first p f x xs true h rest = rw h refl
by_first p f x xs false h rest = rw h (rest refl)

found : {X Y : Type 0} (p : X → Bool) (f : X → Y) (xs : List X) → list_any p xs ≡ true → is_none (option_map f (find p xs)) ≡ false
found p f [] e = absurd (cc (e))
found p f (x ∷ xs) e = by_first p f x xs (p x) refl (λ h. found p f xs (sym (ap (λ (b : Bool). b || list_any p xs) h) ∙ e))

reorder : (r p k : Bool) → (r && (p && k)) ≡ true → (r && (k && p)) ≡ true
reorder true true true e = refl
reorder true true false e = absurd (cc (e))
reorder true false k e = absurd (cc (e))
reorder false p k e = absurd (cc (e))

-- the message of a pair is in a pair
pub found_at : (pairs : List Pair) (place : ℕ) (d : Pair) (name : OpName) → place < length pairs
    → (((get_or pairs place d).message.rank == name.rank) && (((get_or pairs place d).message.part == name.part) && ((get_or pairs place d).message.call == name.call))) ≡ true → is_none (taken_by pairs name) ≡ false
found_at pairs place d name lt e =
    let m = (get_or pairs place d).message in
    found (λ q. same_name q.message name) (λ q. q.receive) pairs
    (list_any_at (λ q. same_name q.message name) pairs place d lt (reorder (m.rank == name.rank) (m.part == name.part) (m.call == name.call) e))
