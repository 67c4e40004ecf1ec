-- Items of a list, item by item.
use Rattle.std.proofs.Common.{◌≡◌, ◌∙◌, ℕ, suc, ◌+◌, ◌-◌, ◌<◌, List, [], ◌∷◌, ◌++◌, Option, Some, None, Bool, true, false, ap, sym, refl, arith, append_assoc}
use Rattle.std.specs.Prelude.{if◌then◌else◌}
use Rattle.dumpi_text.specs.Stamps.{◌>>=◌}
use Rattle.dumpi_text.specs.Tokens.{after_spaces}
use Rattle.dumpi_text.specs.Items.{many_front, next_front, with_first}

-- items that were read before
abbrev pub with_items : {A : Type 0} → List A → Option (List A × List ℕ) → Option (List A × List ℕ)
with_items items None = None
with_items items (Some (others, rest)) = Some (items ++ others, rest)

pub no_item_before : {A : Type 0} → (o : Option (List A × List ℕ)) → with_items [] o ≡ o
no_item_before None = refl
no_item_before (Some (others, rest)) = refl

-- what follows an item, by what comes next
abbrev pub by_next : {A : Type 0} → (ℕ → List ℕ → Option (List A × List ℕ)) → ℕ → A → Option (Bool × List ℕ) → Option (List A × List ℕ)
by_next many most first next = next >>= (λ n. if n.0 then with_first first (many most n.1) else Some (first ∷ [], n.1))

read_first : {A : Type 0} → (item : List ℕ → Option (A × List ℕ)) (close most : ℕ) (text : List ℕ) (found : Option (A × List ℕ)) → item (after_spaces text) ≡ found
    → many_front item close (suc most) text ≡ (found >>= (λ first. by_next (many_front item close) most first.0 (next_front close (after_spaces first.1))))
read_first {A = A} item close most text found e =
    ap (λ (f : Option (A × List ℕ)). f >>= (λ first. by_next (many_front item close) most first.0 (next_front close (after_spaces first.1)))) e

first_moved : {A : Type 0} → (items : List A) (first : A) (o : Option (List A × List ℕ)) → with_items items (with_first first o) ≡ with_items (items ++ first ∷ []) o
first_moved {A = A} items first None = refl
first_moved {A = A} items first (Some (others, rest)) = ap (λ (all : List A). Some (all, rest)) (sym (append_assoc items (first ∷ []) others))

below : (count done : ℕ) → done < count → count - done ≡ suc (count - (done + 1))
below count done h = omega arith

pub one_more : {A : Type 0} → (item : List ℕ → Option (A × List ℕ)) (close count done : ℕ) (text : List ℕ) (items : List A) (first : A) (rest more : List ℕ)
    → done < count → item (after_spaces text) ≡ Some (first, rest) → next_front close (after_spaces rest) ≡ Some (true, more)
    → with_items items (many_front item close (count - done) text) ≡ with_items (items ++ first ∷ []) (many_front item close (count - (done + 1)) more)
one_more item close count done text items first rest more h e n =
    rw (below count done h)
    (ap (with_items items) (read_first item close (count - (done + 1)) text (Some (first, rest)) e ∙ ap (by_next (many_front item close) (count - (done + 1)) first) n)
    ∙ first_moved items first (many_front item close (count - (done + 1)) more))

pub the_last : {A : Type 0} → (item : List ℕ → Option (A × List ℕ)) (close count done : ℕ) (text : List ℕ) (items : List A) (first : A) (rest more : List ℕ)
    → done < count → item (after_spaces text) ≡ Some (first, rest) → next_front close (after_spaces rest) ≡ Some (false, more)
    → with_items items (many_front item close (count - done) text) ≡ Some (items ++ first ∷ [], more)
the_last item close count done text items first rest more h e n =
    rw (below count done h)
    (ap (with_items items) (read_first item close (count - (done + 1)) text (Some (first, rest)) e ∙ ap (by_next (many_front item close) (count - (done + 1)) first) n))

pub no_item : {A : Type 0} → (item : List ℕ → Option (A × List ℕ)) (close count done : ℕ) (text : List ℕ) (items : List A)
    → done < count → item (after_spaces text) ≡ None → with_items items (many_front item close (count - done) text) ≡ None
no_item item close count done text items h e =
    rw (below count done h) (ap (with_items items) (read_first item close (count - (done + 1)) text None e))

pub no_next : {A : Type 0} → (item : List ℕ → Option (A × List ℕ)) (close count done : ℕ) (text : List ℕ) (items : List A) (first : A) (rest : List ℕ)
    → done < count → item (after_spaces text) ≡ Some (first, rest) → next_front close (after_spaces rest) ≡ None
    → with_items items (many_front item close (count - done) text) ≡ None
no_next item close count done text items first rest h e n =
    rw (below count done h)
    (ap (with_items items) (read_first item close (count - (done + 1)) text (Some (first, rest)) e ∙ ap (by_next (many_front item close) (count - (done + 1)) first) n))
