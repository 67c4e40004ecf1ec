-- What is kept of a call while it is read, and of the next call of a text.
use Rattle.std.proofs.Common.{◌≡◌, ℕ, ◌<◌, Bool, true, false, List, [], ◌∷◌, ◌++◌, length, nat_lt, Option, Some, None, if◌then◌else◌, refl, sym, ap, subst, ◌∙◌, append_assoc}
use Rattle.std.proofs.lemmas.List.{append-nil}
use Rattle.std.specs.Io.KnownBytes.{Consumes, IsAtEnd}
use Rattle.mpi_model.specs.Times.{Times}
use Rattle.dumpi_text.specs.Bytes.{carriage_return}
use Rattle.dumpi_text.specs.Call.{Param, TextCall, same_bytes}
use Rattle.dumpi_text.specs.Effects.{Opening, Taken, Stays, Gives, Ends, Refuses, by_kind, call_of, count_line, cut_call, inside, last_by_kind, last_inside, last_step, opening, outside, returning, step, threaded, with_param, within_limit}
use Rattle.dumpi_text.specs.Grammar.{Stopped}
use Rattle.dumpi_text.specs.Kept.{Choice, IsNextKept, SameKept, keep_all, keep_by_kind, keep_inside, keep_param, keep_step, kept_after, kept_at, kept_call, kept_found, kept_open, kept_opening, more_kept}
use Rattle.dumpi_text.specs.Lines.{IsOneLine}
use Rattle.dumpi_text.specs.Next.{IsNext, Means, SameMeaning}
use Rattle.dumpi_text.specs.Parameter.{parameter_of}
use Rattle.dumpi_text.specs.Stamps.{Kind, Blank, Entering, Returning, Threaded, Bad, Other, kind_of}
use Rattle.dumpi_text.specs.Words.{trimmed, without_last}
use Rattle.dumpi_text.specs.declared.fault.LineFault.{LineFault}
use Rattle.dumpi_text.specs.declared.fault.LineFault.TheVariants.{LineTooLong, NameDiffers, OtherThread, TooManyLines, Truncated}
use Rattle.dumpi_text.specs.declared.step.TheConstants.{MOST_LINES}
use Rattle.dumpi_text.specs.declared.step.Position.{Position}
use Rattle.dumpi_text.proofs.Meanings.{ends_inside, ends_outside, last_ends, last_gives, last_refuses, last_stays, line_ends, line_gives, line_refuses, line_stays, same_self}

-- ---- the parameters

pub kept_one_more : (keep : Choice) (function : List ℕ) (kept params : List Param) (param : Param) → kept_after keep function kept (params ++ param ∷ []) ≡ more_kept keep function (kept_after keep function kept params) param
kept_one_more keep function kept [] param = refl
kept_one_more keep function kept (first ∷ params) param = kept_one_more keep function (more_kept keep function kept first) params param

-- where all are kept
all_after : (function : List ℕ) (kept params : List Param) → kept_after keep_all function kept params ≡ kept ++ params
all_after function kept [] = sym (append-nil kept)
all_after function kept (param ∷ params) = all_after function (kept ++ param ∷ []) params ∙ append_assoc kept (param ∷ []) params

all_of_call : (call : TextCall) → kept_call keep_all call ≡ call
all_of_call call = ap (λ (params : List Param). record call { params = params }) (all_after call.name [] call.params)

-- ---- what a line does: with what is kept of a call it does what is kept of what it does with the call

threaded_kept : (keep : Choice) (at : Position) (current : Opening) (time : Times) → threaded at (kept_opening keep current) time ≡ kept_at keep (threaded at current time)
threaded_kept keep at current time = elim (nat_lt time.wall at.entered) as (λ (b : Bool). (if b then (Refuses OtherThread, at) else (Ends (cut_call (kept_opening keep current) at.line), at)) ≡ kept_at keep (if b then (Refuses OtherThread, at) else (Ends (cut_call current at.line), at))) [ true ↦ refl | false ↦ refl ]

returning_kept : (keep : Choice) (at : Position) (current : Opening) (name : List ℕ) (exit : Times) (fault : LineFault) → returning at (kept_opening keep current) name exit fault ≡ kept_at keep (returning at current name exit fault)
returning_kept keep at current name exit fault = elim (same_bytes name current.content.name) as (λ (b : Bool). (if b then (Gives (call_of (kept_opening keep current) (Some exit) at.line), at) else (Refuses fault, at)) ≡ kept_at keep (if b then (Gives (call_of current (Some exit) at.line), at) else (Refuses fault, at))) [ true ↦ refl | false ↦ refl ]

outside_kept : (keep : Choice) (at : Position) (kind : Kind) → outside at kind ≡ kept_at keep (outside at kind)
outside_kept keep at Blank = refl
outside_kept keep at (Entering name enter) = refl
outside_kept keep at (Returning name exit) = refl
outside_kept keep at (Threaded name time) = threaded_kept keep at (opening name time at.line) time
outside_kept keep at (Bad fault) = refl
outside_kept keep at (Other content) = refl

param_kept : (keep : Choice) (at : Position) (current : Opening) (param : Option (List ℕ × List ℕ)) → keep_param keep at (kept_opening keep current) param ≡ kept_at keep (with_param at current param)
param_kept keep at current None = refl
param_kept keep at current (Some ([], value)) = refl
param_kept keep at current (Some (byte ∷ name, value)) =
    ap (λ (params : List Param). (Stays (Some (record current { content = record current.content { params = params } })), at)) (sym (kept_one_more keep current.content.name [] current.content.params (record { name = byte ∷ name; value = value })))

inside_kept : (keep : Choice) (at : Position) (current : Opening) (kind : Kind) → keep_inside keep at (kept_opening keep current) kind ≡ kept_at keep (inside at current kind)
inside_kept keep at current Blank = refl
inside_kept keep at current (Entering name enter) = refl
inside_kept keep at current (Returning name exit) = returning_kept keep at current name exit NameDiffers
inside_kept keep at current (Threaded name time) = threaded_kept keep at current time
inside_kept keep at current (Bad fault) = refl
inside_kept keep at current (Other content) = param_kept keep at current (parameter_of content)

by_kind_kept : (keep : Choice) (at : Position) (current : Option Opening) (kind : Kind) → keep_by_kind keep at (kept_open keep current) kind ≡ kept_at keep (by_kind at current kind)
by_kind_kept keep at None kind = outside_kept keep at kind
by_kind_kept keep at (Some current) kind = inside_kept keep at current kind

within_kept : (keep : Choice) (t : Taken × Position) → within_limit (kept_at keep t) ≡ kept_at keep (within_limit t)
within_kept keep (Refuses fault, at) = refl
within_kept keep (Stays current, at) = elim (nat_lt MOST_LINES at.line) as (λ (b : Bool). (if b then (Refuses TooManyLines, at) else (Stays (kept_open keep current), at)) ≡ kept_at keep (if b then (Refuses TooManyLines, at) else (Stays current, at))) [ true ↦ refl | false ↦ refl ]
within_kept keep (Gives call, at) = elim (nat_lt MOST_LINES at.line) as (λ (b : Bool). (if b then (Refuses TooManyLines, at) else (Gives (kept_call keep call), at)) ≡ kept_at keep (if b then (Refuses TooManyLines, at) else (Gives call, at))) [ true ↦ refl | false ↦ refl ]
within_kept keep (Ends call, at) = elim (nat_lt MOST_LINES at.line) as (λ (b : Bool). (if b then (Refuses TooManyLines, at) else (Ends (kept_call keep call), at)) ≡ kept_at keep (if b then (Refuses TooManyLines, at) else (Ends call, at))) [ true ↦ refl | false ↦ refl ]

long_or : (keep : Choice) (b : Bool) (at : Position) (mine whole : Taken × Position) → mine ≡ kept_at keep whole → (if b then (Refuses LineTooLong, at) else mine) ≡ kept_at keep (if b then (Refuses LineTooLong, at) else whole)
long_or keep true at mine whole e = refl
long_or keep false at mine whole e = e

step_kept : (keep : Choice) (at : Position) (current : Option Opening) (line : List ℕ) → keep_step keep at (kept_open keep current) line ≡ kept_at keep (step at current line)
unfolding keep_step step
step_kept keep at current line =
    let kind = kind_of (trimmed (without_last carriage_return line)) in
    long_or keep (nat_lt 65536 (length line)) (count_line at) (within_limit (keep_by_kind keep (count_line at) (kept_open keep current) kind)) (within_limit (by_kind (count_line at) current kind))
    (ap within_limit (by_kind_kept keep (count_line at) current kind) ∙ within_kept keep (by_kind (count_line at) current kind))

last_inside_kept : (keep : Choice) (at : Position) (current : Opening) (kind : Kind) → last_inside at (kept_opening keep current) kind ≡ kept_at keep (last_inside at current kind)
last_inside_kept keep at current Blank = refl
last_inside_kept keep at current (Entering name enter) = refl
last_inside_kept keep at current (Returning name exit) = returning_kept keep at current name exit Truncated
last_inside_kept keep at current (Threaded name time) = refl
last_inside_kept keep at current (Bad fault) = refl
last_inside_kept keep at current (Other content) = refl

last_kind_kept : (keep : Choice) (at : Position) (current : Option Opening) (kind : Kind) → last_by_kind at (kept_open keep current) kind ≡ kept_at keep (last_by_kind at current kind)
last_kind_kept keep at (Some current) kind = last_inside_kept keep at current kind
last_kind_kept keep at None Blank = refl
last_kind_kept keep at None (Entering name enter) = refl
last_kind_kept keep at None (Returning name exit) = refl
last_kind_kept keep at None (Threaded name time) = outside_kept keep at (Threaded name time)
last_kind_kept keep at None (Bad fault) = refl
last_kind_kept keep at None (Other content) = refl

last_kept : (keep : Choice) (at : Position) (current : Option Opening) (line : List ℕ) → last_step at (kept_open keep current) line ≡ kept_at keep (last_step at current line)
unfolding last_step
last_kept keep at current line =
    let kind = kind_of (trimmed line) in
    long_or keep (nat_lt 65536 (length line)) (count_line at) (within_limit (last_by_kind (count_line at) (kept_open keep current) kind)) (within_limit (last_by_kind (count_line at) current kind))
    (ap within_limit (last_kind_kept keep (count_line at) current kind) ∙ within_kept keep (last_by_kind (count_line at) current kind))

-- ---- what was done with the call, by what is kept of it

first_same : (s t : Taken × Position) → s ≡ t → s.0 ≡ t.0
first_same s t e = ap (λ (x : Taken × Position). x.0) e

second_same : (s t : Taken × Position) → s ≡ t → s.1 ≡ t.1
second_same s t e = ap (λ (x : Taken × Position). x.1) e

stays_back : (keep : Choice) (still : Option Opening) (next : Position) (t : Taken × Position) → (Stays still, next) ≡ kept_at keep t → (whole : Option Opening) × (still ≡ kept_open keep whole) × ((Stays whole, next) ≡ t)
stays_back keep still next (Stays whole, at) e =
    let f : Stays still ≡ Stays (kept_open keep whole) = first_same (Stays still, next) (Stays (kept_open keep whole), at) e in
    let same : still ≡ kept_open keep whole = cc in
    (whole, same, ap (λ (place : Position). (Stays whole, place)) (second_same (Stays still, next) (Stays (kept_open keep whole), at) e))
stays_back keep still next (Gives call, at) e = let f : Stays still ≡ Gives (kept_call keep call) = first_same (Stays still, next) (Gives (kept_call keep call), at) e in cc
stays_back keep still next (Ends call, at) e = let f : Stays still ≡ Ends (kept_call keep call) = first_same (Stays still, next) (Ends (kept_call keep call), at) e in cc
stays_back keep still next (Refuses fault, at) e = let f : Stays still ≡ Refuses fault = first_same (Stays still, next) (Refuses fault, at) e in cc

gives_back : (keep : Choice) (call : TextCall) (next : Position) (t : Taken × Position) → (Gives call, next) ≡ kept_at keep t → (whole : TextCall) × (call ≡ kept_call keep whole) × ((Gives whole, next) ≡ t)
gives_back keep call next (Stays whole, at) e = let f : Gives call ≡ Stays (kept_open keep whole) = first_same (Gives call, next) (Stays (kept_open keep whole), at) e in cc
gives_back keep call next (Gives whole, at) e =
    let f : Gives call ≡ Gives (kept_call keep whole) = first_same (Gives call, next) (Gives (kept_call keep whole), at) e in
    let same : call ≡ kept_call keep whole = cc in
    (whole, same, ap (λ (place : Position). (Gives whole, place)) (second_same (Gives call, next) (Gives (kept_call keep whole), at) e))
gives_back keep call next (Ends whole, at) e = let f : Gives call ≡ Ends (kept_call keep whole) = first_same (Gives call, next) (Ends (kept_call keep whole), at) e in cc
gives_back keep call next (Refuses fault, at) e = let f : Gives call ≡ Refuses fault = first_same (Gives call, next) (Refuses fault, at) e in cc

ends_back : (keep : Choice) (call : TextCall) (next : Position) (t : Taken × Position) → (Ends call, next) ≡ kept_at keep t → (whole : TextCall) × (call ≡ kept_call keep whole) × ((Ends whole, next) ≡ t)
ends_back keep call next (Stays whole, at) e = let f : Ends call ≡ Stays (kept_open keep whole) = first_same (Ends call, next) (Stays (kept_open keep whole), at) e in cc
ends_back keep call next (Gives whole, at) e = let f : Ends call ≡ Gives (kept_call keep whole) = first_same (Ends call, next) (Gives (kept_call keep whole), at) e in cc
ends_back keep call next (Ends whole, at) e =
    let f : Ends call ≡ Ends (kept_call keep whole) = first_same (Ends call, next) (Ends (kept_call keep whole), at) e in
    let same : call ≡ kept_call keep whole = cc in
    (whole, same, ap (λ (place : Position). (Ends whole, place)) (second_same (Ends call, next) (Ends (kept_call keep whole), at) e))
ends_back keep call next (Refuses fault, at) e = let f : Ends call ≡ Refuses fault = first_same (Ends call, next) (Refuses fault, at) e in cc

refuses_back : (keep : Choice) (fault : LineFault) (next : Position) (t : Taken × Position) → (Refuses fault, next) ≡ kept_at keep t → (Refuses fault, next) ≡ t
refuses_back keep fault next (Stays whole, at) e = let f : Refuses fault ≡ Stays (kept_open keep whole) = first_same (Refuses fault, next) (Stays (kept_open keep whole), at) e in cc
refuses_back keep fault next (Gives whole, at) e = let f : Refuses fault ≡ Gives (kept_call keep whole) = first_same (Refuses fault, next) (Gives (kept_call keep whole), at) e in cc
refuses_back keep fault next (Ends whole, at) e = let f : Refuses fault ≡ Ends (kept_call keep whole) = first_same (Refuses fault, next) (Ends (kept_call keep whole), at) e in cc
refuses_back keep fault next (Refuses other, at) e = e

-- ---- the next call, line by line

pub nothing_kept : (keep : Choice) (at : Position) (known : Option (List ℕ)) → SameKept keep at known at None known
unfolding SameKept
nothing_kept keep at known = (None, refl, same_self at None known)

-- what a call of which this is kept was
pub whole_of_kept : (keep : Choice) (a : Position) (k : Option (List ℕ)) (at : Position) (current : Option Opening) (rest : Option (List ℕ)) → SameKept keep a k at current rest → (whole : Option Opening) × SameMeaning a None k at whole rest
unfolding SameKept
whole_of_kept keep a k at current rest p = (p.0, p.2)

-- a line that leaves something open
pub kept_stays : (keep : Choice) (a : Position) (k : Option (List ℕ)) (at : Position) (current : Option Opening) (known rest : Option (List ℕ)) (line : List ℕ) (still : Option Opening) (next : Position)
    → SameKept keep a k at current known → Consumes known rest (line ++ 10 ∷ []) → IsOneLine line → (Stays still, next) ≡ keep_step keep at current line → SameKept keep a k next still rest
unfolding SameKept
kept_stays keep a k at current known rest line still next p q one s =
    let back = stays_back keep still next (step at p.0 line) (s ∙ ap (λ (o : Option Opening). keep_step keep at o line) p.1 ∙ step_kept keep at p.0 line) in
    (back.0, back.1, line_stays a None k at p.0 known rest line back.0 next p.2 q one back.2)

-- a line that ends the call
pub kept_gives : (keep : Choice) (a : Position) (k : Option (List ℕ)) (at : Position) (current : Option Opening) (known rest : Option (List ℕ)) (line : List ℕ) (call : TextCall) (next : Position)
    → SameKept keep a k at current known → Consumes known rest (line ++ 10 ∷ []) → IsOneLine line → (Gives call, next) ≡ keep_step keep at current line → call.threads ≡ false → IsNextKept keep a k (Some call) next rest
unfolding SameKept IsNextKept
kept_gives keep a k at current known rest line call next p q one s t =
    let back = gives_back keep call next (step at p.0 line) (s ∙ ap (λ (o : Option Opening). keep_step keep at o line) p.1 ∙ step_kept keep at p.0 line) in
    (Some back.0, ap Some back.1, line_gives a k at p.0 known rest line back.0 next p.2 q one back.2 (sym (ap (λ (c : TextCall). c.threads) back.1) ∙ t))

-- a line of another thread, which ends the reading
pub kept_ends : (keep : Choice) (a : Position) (k : Option (List ℕ)) (at : Position) (current : Option Opening) (known rest : Option (List ℕ)) (line : List ℕ) (call : TextCall) (next : Position)
    → SameKept keep a k at current known → Consumes known rest (line ++ 10 ∷ []) → IsOneLine line → (Ends call, next) ≡ keep_step keep at current line → call.threads ≡ true → IsNextKept keep a k (Some call) next rest
unfolding SameKept IsNextKept
kept_ends keep a k at current known rest line call next p q one s t =
    let back = ends_back keep call next (step at p.0 line) (s ∙ ap (λ (o : Option Opening). keep_step keep at o line) p.1 ∙ step_kept keep at p.0 line) in
    (Some back.0, ap Some back.1, line_ends a k at p.0 known rest line back.0 next p.2 q one back.2 (sym (ap (λ (c : TextCall). c.threads) back.1) ∙ t))

-- a line that is refused
pub kept_refuses : (keep : Choice) (a : Position) (k : Option (List ℕ)) (at : Position) (current : Option Opening) (known rest : Option (List ℕ)) (line : List ℕ) (fault : LineFault) (next : Position)
    → SameKept keep a k at current known → Consumes known rest (line ++ 10 ∷ []) → IsOneLine line → (Refuses fault, next) ≡ keep_step keep at current line → Means a None k (record { calls = []; end = Stopped fault next })
unfolding SameKept
kept_refuses keep a k at current known rest line fault next p q one s =
    line_refuses a k at p.0 known rest line fault next p.2 q one (refuses_back keep fault next (step at p.0 line) (s ∙ ap (λ (o : Option Opening). keep_step keep at o line) p.1 ∙ step_kept keep at p.0 line))

-- ---- the end of the text

ends_open : (keep : Choice) (a : Position) (k : Option (List ℕ)) (at : Position) (current : Opening) (whole : Option Opening) (known rest : Option (List ℕ)) → Some current ≡ kept_open keep whole → SameMeaning a None k at whole known
    → IsAtEnd known → IsAtEnd rest → Consumes known rest [] → IsNextKept keep a k (Some (call_of current None at.line)) at rest
unfolding IsNextKept
ends_open keep a k at current None known rest e p q r c = cc
ends_open keep a k at current (Some whole) known rest e p q r c =
    let same : current ≡ kept_opening keep whole = cc in
    (Some (call_of whole None at.line), ap (λ (o : Opening). Some (call_of o None at.line)) same, ends_inside a k at whole known rest p q r c)

ends_closed : (keep : Choice) (a : Position) (k : Option (List ℕ)) (at : Position) (whole : Option Opening) (known rest : Option (List ℕ)) → None ≡ kept_open keep whole → SameMeaning a None k at whole known
    → IsAtEnd known → IsAtEnd rest → Consumes known rest [] → IsNextKept keep a k None at rest
unfolding IsNextKept
ends_closed keep a k at None known rest e p q r c = (None, refl, ends_outside a k at known rest p q r c)
ends_closed keep a k at (Some whole) known rest e p q r c = cc

-- outside a call
pub kept_outside : (keep : Choice) (a : Position) (k : Option (List ℕ)) (at : Position) (known rest : Option (List ℕ)) → SameKept keep a k at None known → IsAtEnd known → IsAtEnd rest → Consumes known rest []
    → IsNextKept keep a k None at rest
unfolding SameKept IsNextKept
kept_outside keep a k at known rest p q r c = ends_closed keep a k at p.0 known rest p.1 p.2 q r c

-- inside a call
pub kept_inside : (keep : Choice) (a : Position) (k : Option (List ℕ)) (at : Position) (current : Opening) (known rest : Option (List ℕ)) → SameKept keep a k at (Some current) known → IsAtEnd known → IsAtEnd rest → Consumes known rest []
    → IsNextKept keep a k (Some (call_of current None at.line)) at rest
unfolding SameKept IsNextKept
kept_inside keep a k at current known rest p q r c = ends_open keep a k at current p.0 known rest p.1 p.2 q r c

-- a last line that ends no call and is no fault
pub kept_last_stays : (keep : Choice) (a : Position) (k : Option (List ℕ)) (at : Position) (current : Option Opening) (known rest : Option (List ℕ)) (last : List ℕ) (still : Option Opening) (next : Position)
    → SameKept keep a k at current known → Consumes known rest last → IsAtEnd rest → IsOneLine last → 0 < length last → (Stays still, next) ≡ last_step at current last → IsNextKept keep a k None next rest
unfolding SameKept IsNextKept
kept_last_stays keep a k at current known rest last still next p q e one some s =
    let back = stays_back keep still next (last_step at p.0 last) (s ∙ ap (λ (o : Option Opening). last_step at o last) p.1 ∙ last_kept keep at p.0 last) in
    (None, refl, last_stays a k at p.0 known rest last back.0 next p.2 q e one some back.2)

-- a last line that ends the call
pub kept_last_gives : (keep : Choice) (a : Position) (k : Option (List ℕ)) (at : Position) (current : Option Opening) (known rest : Option (List ℕ)) (last : List ℕ) (call : TextCall) (next : Position)
    → SameKept keep a k at current known → Consumes known rest last → IsAtEnd rest → IsOneLine last → 0 < length last → (Gives call, next) ≡ last_step at current last → IsNextKept keep a k (Some call) next rest
unfolding SameKept IsNextKept
kept_last_gives keep a k at current known rest last call next p q e one some s =
    let back = gives_back keep call next (last_step at p.0 last) (s ∙ ap (λ (o : Option Opening). last_step at o last) p.1 ∙ last_kept keep at p.0 last) in
    (Some back.0, ap Some back.1, last_gives a k at p.0 known rest last back.0 next p.2 q e one some back.2)

-- a last line of another thread
pub kept_last_ends : (keep : Choice) (a : Position) (k : Option (List ℕ)) (at : Position) (current : Option Opening) (known rest : Option (List ℕ)) (last : List ℕ) (call : TextCall) (next : Position)
    → SameKept keep a k at current known → Consumes known rest last → IsAtEnd rest → IsOneLine last → 0 < length last → (Ends call, next) ≡ last_step at current last → IsNextKept keep a k (Some call) next rest
unfolding SameKept IsNextKept
kept_last_ends keep a k at current known rest last call next p q e one some s =
    let back = ends_back keep call next (last_step at p.0 last) (s ∙ ap (λ (o : Option Opening). last_step at o last) p.1 ∙ last_kept keep at p.0 last) in
    (Some back.0, ap Some back.1, last_ends a k at p.0 known rest last back.0 next p.2 q e one some back.2)

-- a last line that is refused
pub kept_last_refuses : (keep : Choice) (a : Position) (k : Option (List ℕ)) (at : Position) (current : Option Opening) (known rest : Option (List ℕ)) (last : List ℕ) (fault : LineFault) (next : Position)
    → SameKept keep a k at current known → Consumes known rest last → IsAtEnd rest → IsOneLine last → 0 < length last → (Refuses fault, next) ≡ last_step at current last → Means a None k (record { calls = []; end = Stopped fault next })
unfolding SameKept
kept_last_refuses keep a k at current known rest last fault next p q e one some s =
    last_refuses a k at p.0 known rest last fault next p.2 q e one some (refuses_back keep fault next (last_step at p.0 last) (s ∙ ap (λ (o : Option Opening). last_step at o last) p.1 ∙ last_kept keep at p.0 last))

-- ---- where every parameter is kept

all_found : (whole : Option TextCall) → kept_found keep_all whole ≡ whole
all_found None = refl
all_found (Some call) = ap Some (all_of_call call)

pub all_kept : (at : Position) (rest : Option (List ℕ)) (found : Option TextCall) (next : Position) (left : Option (List ℕ)) → IsNextKept keep_all at rest found next left → IsNext at rest found next left
unfolding IsNextKept
all_kept at rest found next left p = subst (λ (f : Option TextCall). IsNext at rest f next left) (sym (p.1 ∙ all_found p.0)) p.2
