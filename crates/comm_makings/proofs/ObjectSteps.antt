-- Which calls make windows or files of a handle of a communicator, one call after the other.
use Rattle.std.proofs.Common.{◌≡◌, ℕ, suc, ◌+◌, ◌≤◌, ◌<◌, ◌==◌, ◌++◌, Bool, true, false, List, [], ◌∷◌, Option, Some, None, Vec, length, get_or, drop, option_map, take, ap, ◌∙◌, sym, refl, add-one, append_assoc, append-nil, drop-cons}
use Rattle.std.proofs.lemmas.List.{drop_all, take_more}
use Rattle.std.proofs.lemmas.List.Elements.{filter_map-append}
use Rattle.std.specs.List.{cons_option, filter_map, slice_get}
use Rattle.std.specs.declared.alloc.Global.{Global}
use Rattle.mpi_model.specs.declared.object.Object.{Object}
use Rattle.comm_makings.specs.Objects.{end_use, end_uses, makes_such, number_ended, object_making_before, object_makings_on}
use Rattle.comm_makings.specs.Views.{place_if}
use Rattle.comm_makings.specs.declared.calls.CommCall.{CommCall}
use Rattle.comm_makings.specs.declared.calls.Uses.{Uses}
use Rattle.comm_makings.specs.declared.handle.Meant.{Meant}
use Rattle.comm_makings.proofs.MakingSteps.{AddsCall, comm_named, drop_first, drop_next, place_append}

none_left : (o : Object) (h at : ℕ) (calls : List CommCall) → object_makings_on o h at calls [] ≡ []
none_left o h at [] = refl
none_left o h at (call ∷ calls) = refl

without_meant : (b : Bool) (h at : ℕ) (others : List ℕ) → others ≡ [] → object_making_before b h at None others ≡ []
without_meant false h at others e = e
without_meant true h at others e = refl

-- the first of the calls, by what it means
first_call : (o : Object) (h at : ℕ) (call : CommCall) (calls : List CommCall) (meant : List Meant)
    → object_makings_on o h at (call ∷ calls) meant ≡ object_making_before (makes_such o call.action) h at (comm_named (slice_get meant 0)) (object_makings_on o h (at + 1) calls (drop 1 meant))
first_call o h at call calls [] = sym (without_meant (makes_such o call.action) h at (object_makings_on o h (at + 1) calls []) (none_left o h (at + 1) calls))
first_call o h at call calls (m ∷ meant) = refl

-- the calls from a place on, by the first of them
at_call : (o : Object) (h at : ℕ) (calls : List CommCall) (meant : List Meant) (call : CommCall) → at < length calls → call ≡ get_or calls at call
    → object_makings_on o h at (drop at calls) (drop at meant)
    ≡ object_making_before (makes_such o call.action) h at (comm_named (slice_get meant at)) (object_makings_on o h (at + 1) (drop (at + 1) calls) (drop (at + 1) meant))
at_call o h at calls meant call below is =
    ap (λ (l : List CommCall). object_makings_on o h at l (drop at meant)) (drop-cons calls at call below)
    ∙ ap (λ (c : CommCall). object_makings_on o h at (c ∷ drop (suc at) calls) (drop at meant)) (sym is)
    ∙ first_call o h at call (drop (suc at) calls) (drop at meant)
    ∙ ap (λ (m : Option Meant). object_making_before (makes_such o call.action) h at (comm_named m) (object_makings_on o h (at + 1) (drop (suc at) calls) (drop 1 (drop at meant)))) (drop_first at meant)
    ∙ ap (λ (l : List Meant). object_making_before (makes_such o call.action) h at (comm_named (slice_get meant at)) (object_makings_on o h (at + 1) (drop (suc at) calls) l)) (drop_next at meant)
    ∙ ap (λ (n : ℕ). object_making_before (makes_such o call.action) h at (comm_named (slice_get meant at)) (object_makings_on o h (at + 1) (drop n calls) (drop n meant))) (sym (add-one at))

-- which calls are listed, before those from a place on
abbrev pub AreObjectsListed : Object → List CommCall → List Meant → ℕ → List (Vec ℕ Global) → Type 0
AreObjectsListed o calls meant at lists = (handle : ℕ) (list : List ℕ) → option_map (λ (l : Vec ℕ Global). l.items) (slice_get lists handle) ≡ Some list
    → list ++ object_makings_on o handle at (drop at calls) (drop at meant) ≡ object_makings_on o handle 0 calls meant

module _ (o : Object) (calls : List CommCall) (meant : List Meant) (at : ℕ) (call : CommCall) (below : at < length calls) (is : call ≡ get_or calls at call) where
  -- the calls from here on, as the first of them counts
  rest_is : (h : ℕ) (b : Bool) (parent : Option ℕ) → makes_such o call.action ≡ b → comm_named (slice_get meant at) ≡ parent
      → object_makings_on o h at (drop at calls) (drop at meant) ≡ object_making_before b h at parent (object_makings_on o h (at + 1) (drop (at + 1) calls) (drop (at + 1) meant))
  rest_is h b parent e f =
      at_call o h at calls meant call below is
      ∙ ap (λ (x : Bool). object_making_before x h at (comm_named (slice_get meant at)) (object_makings_on o h (at + 1) (drop (at + 1) calls) (drop (at + 1) meant))) e
      ∙ ap (λ (p : Option ℕ). object_making_before b h at p (object_makings_on o h (at + 1) (drop (at + 1) calls) (drop (at + 1) meant))) f

  pub no_object : (lists : List (Vec ℕ Global)) → makes_such o call.action ≡ false → AreObjectsListed o calls meant at lists → AreObjectsListed o calls meant (at + 1) lists
  no_object lists e are h list named =
      ap (λ (l : List ℕ). list ++ l) (sym (rest_is h false (comm_named (slice_get meant at)) e refl)) ∙ are h list named

  pub one_object : (old new : List (Vec ℕ Global)) (parent : ℕ) → makes_such o call.action ≡ true → comm_named (slice_get meant at) ≡ Some parent
      → AreObjectsListed o calls meant at old → AddsCall parent at old new → AreObjectsListed o calls meant (at + 1) new
  one_object old new parent e f are adds h list named =
      let rest : List ℕ = object_makings_on o h (at + 1) (drop (at + 1) calls) (drop (at + 1) meant) in
      let a = adds h list named in
      let first : object_makings_on o h at (drop at calls) (drop at meant) ≡ place_if (parent == h) at rest = rest_is h true (Some parent) e f in
      ap (λ (l : List ℕ). l ++ rest) a.2 ∙ append_assoc a.0 (place_if (parent == h) at []) rest
      ∙ ap (λ (l : List ℕ). a.0 ++ l) (place_append (parent == h) at rest ∙ sym first) ∙ are h a.0 a.1

  -- Behind a call whose parent is unknown none counts.
  pub last_object : (lists : List (Vec ℕ Global)) → makes_such o call.action ≡ true → comm_named (slice_get meant at) ≡ None → AreObjectsListed o calls meant at lists
      → (handle : ℕ) (list : List ℕ) → option_map (λ (l : Vec ℕ Global). l.items) (slice_get lists handle) ≡ Some list → list ≡ object_makings_on o handle 0 calls meant
  last_object lists e f are h list named =
      sym (append-nil list) ∙ ap (λ (l : List ℕ). list ++ l) (sym (rest_is h true None e f)) ∙ are h list named

-- All calls are read.
pub all_objects : (o : Object) (calls : List CommCall) (meant : List Meant) (at : ℕ) (lists : List (Vec ℕ Global)) → length calls ≤ at → AreObjectsListed o calls meant at lists
    → (handle : ℕ) (list : List ℕ) → option_map (λ (l : Vec ℕ Global). l.items) (slice_get lists handle) ≡ Some list → list ≡ object_makings_on o handle 0 calls meant
all_objects o calls meant at lists past are h list named =
    sym (append-nil list) ∙ ap (λ (l : List CommCall). list ++ object_makings_on o h at l (drop at meant)) (sym (drop_all at calls past)) ∙ are h list named

-- Which calls end one, one call after the other.
ends_next : (o : Object) (calls : List CommCall) (i : ℕ) (call : CommCall) (end : Option Uses) → i < length calls → call ≡ get_or calls i call → option_map (end_use call.call) (number_ended o call) ≡ end
    → end_uses o (take (i + 1) calls) ≡ end_uses o (take i calls) ++ cons_option end []
ends_next o calls i call end below is e =
    let f : CommCall → Option Uses = λ c. option_map (end_use c.call) (number_ended o c) in
    ap (filter_map f) (take_more calls i call below ∙ ap (λ (c : CommCall). take i calls ++ c ∷ []) (sym is))
    ∙ filter_map-append f (take i calls) (call ∷ [])
    ∙ ap (λ (u : Option Uses). filter_map f (take i calls) ++ cons_option u []) e

pub no_end : (o : Object) (calls : List CommCall) (i : ℕ) (call : CommCall) (uses : List Uses) → i < length calls → call ≡ get_or calls i call → number_ended o call ≡ None
    → uses ≡ end_uses o (take i calls) → uses ≡ end_uses o (take (i + 1) calls)
no_end o calls i call uses below is e were =
    were ∙ sym (append-nil (end_uses o (take i calls))) ∙ sym (ends_next o calls i call None below is (ap (option_map (end_use call.call)) e))

pub one_end : (o : Object) (calls : List CommCall) (i : ℕ) (call : CommCall) (number : ℕ) (uses : List Uses) → i < length calls → call ≡ get_or calls i call → number_ended o call ≡ Some number
    → uses ≡ end_uses o (take i calls) → uses ++ end_use call.call number ∷ [] ≡ end_uses o (take (i + 1) calls)
one_end o calls i call number uses below is e were =
    ap (λ (l : List Uses). l ++ end_use call.call number ∷ []) were
    ∙ sym (ends_next o calls i call (Some (end_use call.call number)) below is (ap (option_map (end_use call.call)) e))
