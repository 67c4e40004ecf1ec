-- How near misses are told: the things at the first places are the first things, and the lists go on.
use Rattle.std.proofs.Common.{◌≡◌, ◌∙◌, ◌+◌, ◌<◌, ℕ, zero, suc, Bool, true, false, cond, if◌then◌else◌, Option, Some, None, List, [], ◌∷◌, ◌++◌, All, filter, map, length, take, get_or, slice_get, refl, sym, ap, append-nil, append_assoc, subst, Contains}
use Rattle.std.specs.List.{flat_map}
use Rattle.std.proofs.lemmas.List.{get_or_default}
use Rattle.std.proofs.lemmas.List.Elements.{All-append, All-cons, All-nil}
use Rattle.mpi_model.specs.declared.event.OpName.{OpName}
use Rattle.mpi_model.specs.declared.message.Message.{Message}
use Rattle.mpi_model.specs.declared.message.Receive.{Receive}
use Rattle.diagnosis_value.specs.declared.diagnosis.NearMessage.{NearMessage}
use Rattle.diagnosis_value.specs.declared.diagnosis.NearReceive.{NearReceive}
use Rattle.diagnosis_value.specs.declared.diagnosis.Why.{Why}
use Rattle.trace_diagnosis.specs.Missed.{GoesOn, IsFitMessage, IsMessageOf, IsReceiveOf, differs_in_one, nearest_messages, nearest_receives}
use Rattle.trace_diagnosis.specs.Near.{is_near}
use Rattle.trace_diagnosis.specs.Nearest.{near_message, near_message_at, near_message_of, near_receive_at, near_receive_of}
use Rattle.trace_diagnosis.specs.Places.{first_places, places_from}
use Rattle.trace_diagnosis.proofs.Lists.{flat_map_more}

-- one of them, or none
pub told_none : {Y : Type 0} (l : List Y) (x : Y) (b r : Bool) → r ≡ b → r ≡ false → l ≡ l ++ (if b then x ∷ [] else [])
told_none {Y = Y} l x b r is fails = sym (append-nil l) ∙ ap (λ (c : Bool). l ++ (if c then x ∷ [] else [])) (sym (sym is ∙ fails))

pub told_one : {Y : Type 0} (old new : List Y) (x : Y) (b r : Bool) → r ≡ b → r ≡ true → new ≡ old ++ x ∷ [] → new ≡ old ++ (if b then x ∷ [] else [])
told_one {Y = Y} old new x b r is holds pushed = pushed ∙ ap (λ (c : Bool). old ++ (if c then x ∷ [] else [])) (sym (sym is ∙ holds))

-- ---- the things at the first places

at_seam : {X : Type 0} (front xs : List X) (x : X) → slice_get (front ++ x ∷ xs) (length front) ≡ Some x
at_seam [] xs x = refl
at_seam (y ∷ front) xs x = at_seam front xs x

length_one : {X : Type 0} (front : List X) (x : X) → suc (length front) ≡ length (front ++ x ∷ [])
length_one [] x = refl
length_one (y ∷ front) x = ap suc (length_one front x)

module _ {X Y : Type 0} (p : X → Bool) (f : X → Y) (of : Option X → List Y) (one : (x : X) → of (Some x) ≡ (if p x then f x ∷ [] else [])) where
  module _ (front : List X) (x : X) (xs : List X) (rest : (m : ℕ) → flat_map (λ i. of (slice_get (front ++ x ∷ xs) i)) (take m (places_from p (suc (length front)) xs)) ≡ map f (take m (filter p xs))) where
    listed_by : (n : ℕ) (b : Bool) → p x ≡ b →
        flat_map (λ i. of (slice_get (front ++ x ∷ xs) i)) (take (suc n) (if b then length front ∷ places_from p (suc (length front)) xs else places_from p (suc (length front)) xs))
        ≡ map f (take (suc n) (cond b (x ∷ filter p xs) (filter p xs)))
    listed_by n true e =
        ap (λ (l : List Y). l ++ flat_map (λ i. of (slice_get (front ++ x ∷ xs) i)) (take n (places_from p (suc (length front)) xs)))
        (ap of (at_seam front xs x) ∙ one x ∙ ap (λ (b : Bool). if b then f x ∷ [] else []) e)
        ∙ ap (λ (l : List Y). f x ∷ l) (rest n)
    listed_by n false e = rest (suc n)

    listed_step : (n : ℕ) → flat_map (λ i. of (slice_get (front ++ x ∷ xs) i)) (take n (places_from p (length front) (x ∷ xs))) ≡ map f (take n (filter p (x ∷ xs)))
    listed_step zero = refl
    listed_step (suc n) = listed_by n (p x) refl

  none_listed : (front : List X) (n : ℕ) → flat_map (λ i. of (slice_get (front ++ []) i)) (take n []) ≡ map f (take n [])
  none_listed front zero = refl
  none_listed front (suc n) = refl

  moved : (front : List X) (x : X) (xs : List X) (m : ℕ) → flat_map (λ i. of (slice_get ((front ++ x ∷ []) ++ xs) i)) (take m (places_from p (length (front ++ x ∷ [])) xs)) ≡ map f (take m (filter p xs))
      → flat_map (λ i. of (slice_get (front ++ x ∷ xs) i)) (take m (places_from p (suc (length front)) xs)) ≡ map f (take m (filter p xs))
  moved front x xs m rest =
      ap (λ (k : ℕ). flat_map (λ i. of (slice_get (front ++ x ∷ xs) i)) (take m (places_from p k xs))) (length_one front x)
      ∙ ap (λ (l : List X). flat_map (λ i. of (slice_get l i)) (take m (places_from p (length (front ++ x ∷ [])) xs))) (sym (append_assoc front (x ∷ []) xs))
      ∙ rest

  listed : (xs front : List X) (n : ℕ) → flat_map (λ i. of (slice_get (front ++ xs) i)) (take n (places_from p (length front) xs)) ≡ map f (take n (filter p xs))
  listed [] front n = none_listed front n
  listed (x ∷ xs) front n = listed_step front x xs (λ m. moved front x xs m (listed xs (front ++ x ∷ []) m)) n

pub receives_told : (w why : Why) (m : Message) (rs qs : List Receive) (ps : List ℕ) (old new : List NearReceive) → w ≡ why → rs ≡ qs → ps ≡ first_places (is_near why m) qs → new ≡ old ++ flat_map (near_receive_at w m rs) ps
    → new ≡ old ++ nearest_receives why m qs
receives_told w why m rs qs ps old new same those first pushed =
    pushed ∙ ap (λ (l : List NearReceive). old ++ l)
    (ap (λ (v : Why). flat_map (near_receive_at v m rs) ps) same ∙ ap (λ (l : List Receive). flat_map (near_receive_at why m l) ps) those ∙ ap (flat_map (near_receive_at why m qs)) first
    ∙ listed (is_near why m) (λ q. record { why = why; receive = q }) (near_receive_of why m) (λ q. refl) qs [] 3)

pub messages_told : (w why : Why) (q : Receive) (ns ms : List Message) (ps : List ℕ) (old new : List NearMessage) → w ≡ why → ns ≡ ms → ps ≡ first_places (λ m. is_near why m q) ms → new ≡ old ++ flat_map (near_message_at w q ns) ps
    → new ≡ old ++ nearest_messages why q ms
messages_told w why q ns ms ps old new same those first pushed =
    pushed ∙ ap (λ (l : List NearMessage). old ++ l)
    (ap (λ (v : Why). flat_map (near_message_at v q ns) ps) same ∙ ap (λ (l : List Message). flat_map (near_message_at why q l) ps) those ∙ ap (flat_map (near_message_at why q ms)) first
    ∙ listed (λ m. is_near why m q) (λ m. record { why = why; message = m; by = None }) (near_message_of why q) (λ m. refl) ms [] 3)

-- one place more
pub pushed_more : {Y : Type 0} (g : ℕ → List Y) (ps : List ℕ) (i p : ℕ) (old now after new : List Y) → i < length ps → p ≡ get_or ps i p → now ≡ old ++ flat_map g (take i ps) → after ≡ now ++ new → new ≡ g p
    → after ≡ old ++ flat_map g (take (i + 1) ps)
pushed_more {Y = Y} g ps i p old now after new lt is before pushed one =
    pushed ∙ ap (λ (l : List Y). l ++ new) before ∙ append_assoc old (flat_map g (take i ps)) new
    ∙ ap (λ (l : List Y). old ++ l) (ap (λ (l : List Y). flat_map g (take i ps) ++ l) one ∙ sym (flat_map_more g ps i p lt is))

-- ---- lists that go on

pub goes_on_here : {X : Type 0} (P : X → Type 0) (xs : List X) → GoesOn P xs xs
goes_on_here P xs = ([], sym (append-nil xs), All-nil P)

pub goes_on_more : {X : Type 0} (P : X → Type 0) (us vs ws : List X) → GoesOn P us vs → GoesOn P vs ws → GoesOn P us ws
goes_on_more {X = X} P us vs ws a b =
    (a.0 ++ b.0, b.1 ∙ ap (λ (l : List X). l ++ b.0) a.1 ∙ append_assoc us a.0 b.0, All-append P a.0 b.0 a.2 b.2)

pub goes_on_as : {X : Type 0} (P Q : X → Type 0) (xs ys : List X) → ((x : X) → P x → Q x) → GoesOn P xs ys → GoesOn Q xs ys
goes_on_as P Q xs ys w a = (a.0, a.1, λ k d lt. w _ (a.2 k d lt))

-- the first ones, sort by sort, and then the others
pub four_told : {X : Type 0} (P : X → Type 0) (us vs ws ds es ls tag comm source dest : List X) → us ≡ [] → vs ≡ us ++ tag → ws ≡ vs ++ comm → ds ≡ ws ++ source → es ≡ ds ++ dest → GoesOn P es ls
    → GoesOn P (((tag ++ comm) ++ source) ++ dest) ls
four_told {X = X} P us vs ws ds es ls tag comm source dest a b c d e on =
    subst (λ (l : List X). GoesOn P l ls)
    (e ∙ ap (λ (l : List X). l ++ dest) (d ∙ ap (λ (l : List X). l ++ source) (c ∙ ap (λ (l : List X). l ++ comm) (b ∙ ap (λ (l : List X). l ++ tag) a)))) on

-- near misses of one sort
all_listed : {Y : Type 0} (P : Y → Type 0) (g : ℕ → List Y) → ((i : ℕ) → All P (g i)) → (ps : List ℕ) → All P (flat_map g ps)
all_listed P g all [] = All-nil P
all_listed P g all (p ∷ ps) = All-append P (g p) (flat_map g ps) (all p) (all_listed P g all ps)

receive_is : (why : Why) (m : Message) (o : Option Receive) → All (IsReceiveOf why m) (near_receive_of why m o)
receive_is why m None = All-nil (IsReceiveOf why m)
receive_is why m (Some q) = by (is_near why m q) refl
  where
    by : (b : Bool) → is_near why m q ≡ b → All (IsReceiveOf why m) (if b then record { why = why; receive = q } ∷ [] else [])
    by true e = All-cons (IsReceiveOf why m) (record { why = why; receive = q }) [] (refl, e) (All-nil (IsReceiveOf why m))
    by false e = All-nil (IsReceiveOf why m)

pub goes_on_receives : (why : Why) (m : Message) (qs : List Receive) (ps : List ℕ) (old new : List NearReceive) → new ≡ old ++ flat_map (near_receive_at why m qs) ps → GoesOn (IsReceiveOf why m) old new
goes_on_receives why m qs ps old new pushed = (flat_map (near_receive_at why m qs) ps, pushed, all_listed (IsReceiveOf why m) (near_receive_at why m qs) (λ i. receive_is why m (slice_get qs i)) ps)

message_is : (why : Why) (q : Receive) (by : Option OpName) (m : Message) → All (IsMessageOf why q) (near_message why q by m)
message_is why q by m = here (is_near why m q) refl
  where
    here : (b : Bool) → is_near why m q ≡ b → All (IsMessageOf why q) (if b then record { why = why; message = m; by = by } ∷ [] else [])
    here true e = All-cons (IsMessageOf why q) (record { why = why; message = m; by = by }) [] (refl, e) (All-nil (IsMessageOf why q))
    here false e = All-nil (IsMessageOf why q)

pub goes_on_message : (why : Why) (q : Receive) (by : Option OpName) (m : Message) (old new : List NearMessage) → new ≡ old ++ near_message why q by m → GoesOn (IsMessageOf why q) old new
goes_on_message why q by m old new pushed = (near_message why q by m, pushed, message_is why q by m)

message_of_is : (why : Why) (q : Receive) (o : Option Message) → All (IsMessageOf why q) (near_message_of why q o)
message_of_is why q None = All-nil (IsMessageOf why q)
message_of_is why q (Some m) = message_is why q None m

pub goes_on_messages : (why : Why) (q : Receive) (ms : List Message) (ps : List ℕ) (old new : List NearMessage) → new ≡ old ++ flat_map (near_message_at why q ms) ps → GoesOn (IsMessageOf why q) old new
goes_on_messages why q ms ps old new pushed = (flat_map (near_message_at why q ms) ps, pushed, all_listed (IsMessageOf why q) (near_message_at why q ms) (λ i. message_of_is why q (slice_get ms i)) ps)

-- a sort of messages that fit
pub fit_of : (why : Why) (q : Receive) → differs_in_one why ≡ false → (old new : List NearMessage) → GoesOn (IsMessageOf why q) old new → GoesOn (IsFitMessage q) old new
fit_of why q fits old new on = goes_on_as (IsMessageOf why q) (IsFitMessage q) old new (λ n h. (ap differs_in_one h.0 ∙ fits, h.1)) on

pub among_table : (xs : List Receive) (q : Receive) (ys : List Receive) → ys ≡ xs → Contains xs q → Contains ys q
among_table xs q ys e has = subst (λ (l : List Receive). Contains l q) (sym e) has

-- what is read at a place stands in the list
pub stands_among : (xs ys : List Receive) (i : ℕ) (d : Receive) → i < length xs → xs ≡ ys → Contains ys (get_or xs i d)
stands_among xs ys i d lt same = subst (λ (l : List Receive). Contains l (get_or xs i d)) same (i, lt, get_or_default xs i (get_or xs i d) d lt)
