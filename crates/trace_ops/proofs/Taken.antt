-- One element more of a list that is gone through.
use Rattle.std.proofs.Common.{◌≡◌, ℕ, zero, suc, ◌+◌, ◌*◌, ◌/◌, ◌%◌, ◌<◌, List, [], ◌∷◌, ◌++◌, take, get_or, length, reverse, refl, sym, ◌∙◌, ap, arith}
use Rattle.std.specs.Prelude.{Bool, true, false, if◌then◌else◌, filter, Option, Some, None, slice_get}
use Rattle.std.specs.List.{filter_map, cons_option}
use Rattle.std.specs.Option.{option_and_then}
use Rattle.std.proofs.lemmas.List.{take_more, reverse-append, append-nil}
use Rattle.std.proofs.lemmas.List.Elements.{filter_map-append}
use Rattle.mpi_model.specs.declared.event.Event.{Event}
use Rattle.trace_ops.specs.Calls.{call_of, outs_of, calls_of}
use Rattle.trace_ops.specs.Steps.{Step}

-- the call at a place, by the events at its places
pub call_placed : (es : List Event) (n k : ℕ) (e : Event) → k ≡ 2 * n → slice_get es k ≡ Some e →
    slice_get (calls_of es) n ≡ Some (record { call = call_of e; outs = option_and_then outs_of (slice_get es (k + 1)) })
call_placed [] n k e two at = absurd cc
call_placed (x ∷ []) zero zero e two at = let same : x ≡ e = cc in rw same refl
call_placed (x ∷ []) (suc n) zero e two at = absurd (omega (arith, two))
call_placed (x ∷ []) n (suc k) e two at = absurd cc
call_placed (x ∷ y ∷ es) zero zero e two at = let same : x ≡ e = cc in rw same refl
call_placed (x ∷ y ∷ es) (suc n) zero e two at = absurd (omega (arith, two))
call_placed (x ∷ y ∷ es) zero (suc k) e two at = absurd (omega (arith, two))
call_placed (x ∷ y ∷ es) (suc n) (suc zero) e two at = absurd (omega (arith, two))
call_placed (x ∷ y ∷ es) (suc n) (suc (suc k)) e two at =
    let m : suc (suc k) + 1 ≡ suc (suc (k + 1)) = omega arith in
    rw m (call_placed es n k e (omega (arith, two)) at)

-- how many calls there are
pub calls_count : (es : List Event) → length (calls_of es) ≡ length es / 2 + length es % 2
calls_count [] = refl
calls_count (x ∷ []) = refl
calls_count (x ∷ y ∷ es) = let more = calls_count es in omega (arith, more)

-- what is kept of the items of a list, one more
pub kept_more : {X Y : Type 0} (f : X → Option Y) (xs : List X) (i : ℕ) (d x : X) (done new : List Y) (item : Option Y) → i < length xs →
    x ≡ get_or xs i d → item ≡ f x → done ≡ filter_map f (take i xs) → new ≡ done ++ cons_option item [] → new ≡ filter_map f (take (i + 1) xs)
kept_more {X} {Y} f xs i d x done new item lt at j h k =
    k ∙ ap (λ (l : List Y). l ++ cons_option item []) h
    ∙ ap (λ (o : Option Y). filter_map f (take i xs) ++ cons_option o []) (j ∙ ap f at)
    ∙ sym (ap (filter_map f) (take_more xs i d lt) ∙ filter_map-append f (take i xs) (get_or xs i d ∷ []))

turned : {Y : Type 0} (done : List Y) (item : Option Y) → reverse (done ++ cons_option item []) ≡ cons_option item (reverse done)
turned {Y} done None = ap (λ (l : List Y). reverse l) (append-nil done)
turned {Y} done (Some y) = reverse-append done (y ∷ [])

count_one : {X : Type 0} (test : X → Bool) (x : X) (xs : List X) (b : Bool) → b ≡ test x → length (filter test (x ∷ xs)) ≡ length (filter test xs) + (if b then 1 else 0)
count_one test x xs true k = rw (sym k) (omega arith)
count_one test x xs false k = rw (sym k) (omega arith)

-- One step more towards the front, in a list that is turned round at the end.
pub turned_more : {Y : Type 0} (done new rest : List Y) (item one : Option Y) → item ≡ one → new ≡ done ++ cons_option item [] → reverse done ≡ rest → reverse new ≡ cons_option one rest
turned_more {Y} done new rest item one k j i = ap (λ (l : List Y). reverse l) j ∙ turned done item ∙ ap (λ (l : List Y). cons_option item l) i ∙ ap (λ (o : Option Y). cons_option o rest) k

-- One step more towards the front, where the steps that pass a test are counted.
pub counted_more : (test : Step → Bool) (s : Step) (later : List Step) (old new : ℕ) (b : Bool) → b ≡ test s → new ≡ old + (if b then 1 else 0) →
    old ≡ length (filter test later) → new ≡ length (filter test (s ∷ later))
counted_more test s later old new b k j i = j ∙ ap (λ (m : ℕ). m + (if b then 1 else 0)) i ∙ sym (count_one test s later b k)

-- a step that does not pass is not counted
pub uncounted : (test : Step → Bool) (s : Step) (later : List Step) → test s ≡ false → length (filter test (s ∷ later)) ≡ length (filter test later)
uncounted test s later h = rw h refl
