-- What a rank called on a handle, one call after the other.
use Rattle.std.proofs.Common.{◌≡◌, ℕ, zero, suc, ◌+◌, ◌≤◌, ◌<◌, ◌==◌, ◌&&◌, ◌++◌, Bool, true, false, List, [], ◌∷◌, Option, Some, None, Vec, cond, length, get_or, drop, option_and_then, option_map, ap, ◌∙◌, sym, refl, add-one, append_assoc, append-nil, drop-cons}
use Rattle.std.proofs.lemmas.List.{drop_all}
use Rattle.std.specs.List.{slice_get}
use Rattle.std.specs.declared.alloc.Global.{Global}
use Rattle.comm_makings.specs.Here.{making_of}
use Rattle.comm_makings.specs.Views.{first_told_on, is_kind, making_before, makings_on, place_if, rank_told, told_before, told_now, told_or}
use Rattle.comm_makings.specs.declared.calls.CommCall.{CommCall}
use Rattle.comm_makings.specs.declared.calls.Making.{Making}
use Rattle.comm_makings.specs.declared.handle.Meant.{Meant}

none_left : (g : Bool) (h at : ℕ) (calls : List CommCall) → makings_on g h at calls [] ≡ []
none_left g h at [] = refl
none_left g h at (call ∷ calls) = refl

without_meant : (g : Bool) (h at : ℕ) (o : Option Making) (others : List ℕ) → others ≡ [] → making_before g h at o None others ≡ []
without_meant g h at None others e = e
without_meant g h at (Some making) others e = refl

-- the first of the calls, by what it means
first_call : (g : Bool) (h at : ℕ) (call : CommCall) (calls : List CommCall) (meant : List Meant)
    → makings_on g h at (call ∷ calls) meant ≡ making_before g h at (making_of call.action) (option_and_then (λ (m : Meant). m.comm) (slice_get meant 0)) (makings_on g h (at + 1) calls (drop 1 meant))
first_call g h at call calls [] = sym (without_meant g h at (making_of call.action) (makings_on g h (at + 1) calls []) (none_left g h (at + 1) calls))
first_call g h at call calls (m ∷ meant) = refl

pub drop_first : {X : Type 0} (at : ℕ) (xs : List X) → slice_get (drop at xs) 0 ≡ slice_get xs at
drop_first zero [] = refl
drop_first zero (x ∷ xs) = refl
drop_first (suc at) [] = refl
drop_first (suc at) (x ∷ xs) = drop_first at xs

pub drop_next : {X : Type 0} (at : ℕ) (xs : List X) → drop 1 (drop at xs) ≡ drop (suc at) xs
drop_next zero xs = refl
drop_next (suc at) [] = refl
drop_next (suc at) (x ∷ xs) = drop_next at xs

-- the calls from a place on, by the first of them
pub makings_step : (g : Bool) (h at : ℕ) (calls : List CommCall) (meant : List Meant) (d : CommCall) → at < length calls
    → makings_on g h at (drop at calls) (drop at meant)
    ≡ making_before g h at (making_of (get_or calls at d).action) (option_and_then (λ (m : Meant). m.comm) (slice_get meant at)) (makings_on g h (at + 1) (drop (at + 1) calls) (drop (at + 1) meant))
makings_step g h at calls meant d below =
    ap (λ (l : List CommCall). makings_on g h at l (drop at meant)) (drop-cons calls at d below)
    ∙ first_call g h at (get_or calls at d) (drop (suc at) calls) (drop at meant)
    ∙ ap (λ (o : Option Meant). making_before g h at (making_of (get_or calls at d).action) (option_and_then (λ (m : Meant). m.comm) o) (makings_on g h (at + 1) (drop (suc at) calls) (drop 1 (drop at meant)))) (drop_first at meant)
    ∙ ap (λ (l : List Meant). making_before g h at (making_of (get_or calls at d).action) (option_and_then (λ (m : Meant). m.comm) (slice_get meant at)) (makings_on g h (at + 1) (drop (suc at) calls) l)) (drop_next at meant)
    ∙ ap (λ (n : ℕ). making_before g h at (making_of (get_or calls at d).action) (option_and_then (λ (m : Meant). m.comm) (slice_get meant at)) (makings_on g h (at + 1) (drop n calls) (drop n meant))) (sym (add-one at))

pub place_append : (counts : Bool) (at : ℕ) (others : List ℕ) → place_if counts at [] ++ others ≡ place_if counts at others
place_append true at others = refl
place_append false at others = refl

abbrev pub comm_named : Option Meant → Option ℕ
comm_named here = option_and_then (λ (m : Meant). m.comm) here

-- the same of the call that stands at the place
at_call : (g : Bool) (h at : ℕ) (calls : List CommCall) (meant : List Meant) (call : CommCall) → at < length calls → call ≡ get_or calls at call
    → makings_on g h at (drop at calls) (drop at meant)
    ≡ making_before g h at (making_of call.action) (comm_named (slice_get meant at)) (makings_on g h (at + 1) (drop (at + 1) calls) (drop (at + 1) meant))
at_call g h at calls meant call below is =
    makings_step g h at calls meant call below
    ∙ ap (λ (c : CommCall). making_before g h at (making_of c.action) (comm_named (slice_get meant at)) (makings_on g h (at + 1) (drop (at + 1) calls) (drop (at + 1) meant))) (sym is)

-- which calls are listed, before those from a place on
abbrev pub AreListed : Bool → List CommCall → List Meant → ℕ → List (Vec ℕ Global) → Type 0
AreListed g calls meant at lists = (handle : ℕ) (list : List ℕ) → option_map (λ (l : Vec ℕ Global). l.items) (slice_get lists handle) ≡ Some list
    → list ++ makings_on g handle at (drop at calls) (drop at meant) ≡ makings_on g handle 0 calls meant

-- Each call that counts is added to its handle's list.
abbrev pub AddsCall : ℕ → ℕ → List (Vec ℕ Global) → List (Vec ℕ Global) → Type 0
AddsCall parent at old new = (handle : ℕ) (list : List ℕ) → option_map (λ (l : Vec ℕ Global). l.items) (slice_get new handle) ≡ Some list
    → (before : List ℕ) × (option_map (λ (l : Vec ℕ Global). l.items) (slice_get old handle) ≡ Some before) × (list ≡ before ++ place_if (parent == handle) at [])

module _ (g : Bool) (calls : List CommCall) (meant : List Meant) (at : ℕ) (call : CommCall) (below : at < length calls) (is : call ≡ get_or calls at call) where
  -- the calls from here on, as the first of them counts
  rest_is : (h : ℕ) (making : Option Making) (parent : Option ℕ) → making_of call.action ≡ making → comm_named (slice_get meant at) ≡ parent
      → makings_on g h at (drop at calls) (drop at meant) ≡ making_before g h at making parent (makings_on g h (at + 1) (drop (at + 1) calls) (drop (at + 1) meant))
  rest_is h making parent e f =
      at_call g h at calls meant call below is
      ∙ ap (λ (o : Option Making). making_before g h at o (comm_named (slice_get meant at)) (makings_on g h (at + 1) (drop (at + 1) calls) (drop (at + 1) meant))) e
      ∙ ap (λ (o : Option ℕ). making_before g h at making o (makings_on g h (at + 1) (drop (at + 1) calls) (drop (at + 1) meant))) f

  pub none_made : (lists : List (Vec ℕ Global)) → making_of call.action ≡ None → AreListed g calls meant at lists → AreListed g calls meant (at + 1) lists
  none_made lists e are h list f =
      ap (λ (l : List ℕ). list ++ l) (sym (rest_is h None (comm_named (slice_get meant at)) e refl)) ∙ are h list f

  pub other_kind : (lists : List (Vec ℕ Global)) (making : Making) (parent : ℕ) → making_of call.action ≡ Some making → comm_named (slice_get meant at) ≡ Some parent
      → is_kind g making ≡ false → AreListed g calls meant at lists → AreListed g calls meant (at + 1) lists
  other_kind lists making parent e f k are h list named =
      let rest : List ℕ = makings_on g h (at + 1) (drop (at + 1) calls) (drop (at + 1) meant) in
      let skipped : makings_on g h at (drop at calls) (drop at meant) ≡ rest =
      rest_is h (Some making) (Some parent) e f ∙ ap (λ (b : Bool). place_if (b && (parent == h)) at rest) k in
      ap (λ (l : List ℕ). list ++ l) (sym skipped) ∙ are h list named

  pub one_made : (old new : List (Vec ℕ Global)) (making : Making) (parent : ℕ) → making_of call.action ≡ Some making → comm_named (slice_get meant at) ≡ Some parent
      → is_kind g making ≡ true → AreListed g calls meant at old → AddsCall parent at old new → AreListed g calls meant (at + 1) new
  one_made old new making parent e f k are adds h list named =
      let rest : List ℕ = makings_on g h (at + 1) (drop (at + 1) calls) (drop (at + 1) meant) in
      let a = adds h list named in
      let first : makings_on g h at (drop at calls) (drop at meant) ≡ place_if (parent == h) at rest =
      rest_is h (Some making) (Some parent) e f ∙ ap (λ (b : Bool). place_if (b && (parent == h)) at rest) k in
      ap (λ (l : List ℕ). l ++ rest) a.2 ∙ append_assoc a.0 (place_if (parent == h) at []) rest
      ∙ ap (λ (l : List ℕ). a.0 ++ l) (place_append (parent == h) at rest ∙ sym first) ∙ are h a.0 a.1

  -- Behind a call whose parent is unknown none counts.
  pub last_made : (lists : List (Vec ℕ Global)) (making : Making) → making_of call.action ≡ Some making → comm_named (slice_get meant at) ≡ None
      → AreListed g calls meant at lists
      → (handle : ℕ) (list : List ℕ) → option_map (λ (l : Vec ℕ Global). l.items) (slice_get lists handle) ≡ Some list → list ≡ makings_on g handle 0 calls meant
  last_made lists making e f are h list named =
      sym (append-nil list) ∙ ap (λ (l : List ℕ). list ++ l) (sym (rest_is h (Some making) None e f)) ∙ are h list named

-- All calls are read.
pub all_listed : (g : Bool) (calls : List CommCall) (meant : List Meant) (at : ℕ) (lists : List (Vec ℕ Global)) → length calls ≤ at → AreListed g calls meant at lists
    → (handle : ℕ) (list : List ℕ) → option_map (λ (l : Vec ℕ Global). l.items) (slice_get lists handle) ≡ Some list → list ≡ makings_on g handle 0 calls meant
all_listed g calls meant at lists past are h list named =
    sym (append-nil list) ∙ ap (λ (l : List CommCall). list ++ makings_on g h at l (drop at meant)) (sym (drop_all at calls past)) ∙ are h list named

-- What is told, one call after the other.
none_told : (h : ℕ) (calls : List CommCall) → first_told_on h calls [] ≡ None
none_told h [] = refl
none_told h (call ∷ calls) = refl

no_rank : (h : ℕ) (comm : Option ℕ) (others : Option ℕ) → told_before h comm None others ≡ others
no_rank h None others = refl
no_rank h (Some comm) others = refl

first_tells : (h : ℕ) (call : CommCall) (calls : List CommCall) (meant : List Meant)
    → first_told_on h (call ∷ calls) meant ≡ told_before h (comm_named (slice_get meant 0)) (rank_told call.returned call.action) (first_told_on h calls (drop 1 meant))
first_tells h call calls [] = sym (none_told h calls)
first_tells h call calls (m ∷ meant) = refl

told_step : (h at : ℕ) (calls : List CommCall) (meant : List Meant) (call : CommCall) → at < length calls → call ≡ get_or calls at call
    → first_told_on h (drop at calls) (drop at meant)
    ≡ told_before h (comm_named (slice_get meant at)) (rank_told call.returned call.action) (first_told_on h (drop (at + 1) calls) (drop (at + 1) meant))
told_step h at calls meant call below is =
    ap (λ (l : List CommCall). first_told_on h l (drop at meant)) (drop-cons calls at call below)
    ∙ ap (λ (c : CommCall). first_told_on h (c ∷ drop (suc at) calls) (drop at meant)) (sym is)
    ∙ first_tells h call (drop (suc at) calls) (drop at meant)
    ∙ ap (λ (o : Option Meant). told_before h (comm_named o) (rank_told call.returned call.action) (first_told_on h (drop (suc at) calls) (drop 1 (drop at meant)))) (drop_first at meant)
    ∙ ap (λ (l : List Meant). told_before h (comm_named (slice_get meant at)) (rank_told call.returned call.action) (first_told_on h (drop (suc at) calls) l)) (drop_next at meant)
    ∙ ap (λ (n : ℕ). told_before h (comm_named (slice_get meant at)) (rank_told call.returned call.action) (first_told_on h (drop n calls) (drop n meant))) (sym (add-one at))

or_cond : (b : Bool) (rank : ℕ) (rest : Option ℕ) → told_or (cond b (Some rank) None) rest ≡ cond b (Some rank) rest
or_cond true rank rest = refl
or_cond false rank rest = refl

now_or : (b : Bool) (rank : ℕ) (before rest : Option ℕ) → told_or (told_now b rank before) rest ≡ told_or before (cond b (Some rank) rest)
now_or b rank None rest = or_cond b rank rest
now_or b rank (Some told) rest = refl

-- what is told before a place
abbrev pub AreTold : List CommCall → List Meant → ℕ → List (Option ℕ) → Type 0
AreTold calls meant at list = (handle : ℕ) (told : Option ℕ) → slice_get list handle ≡ Some told
    → told_or told (first_told_on handle (drop at calls) (drop at meant)) ≡ first_told_on handle calls meant

abbrev pub NotesRank : ℕ → ℕ → List (Option ℕ) → List (Option ℕ) → Type 0
NotesRank handle rank old new = (h : ℕ) (now : Option ℕ) → slice_get new h ≡ Some now
    → (before : Option ℕ) × (slice_get old h ≡ Some before) × (now ≡ told_now (handle == h) rank before)

module _ (calls : List CommCall) (meant : List Meant) (at : ℕ) (call : CommCall) (below : at < length calls) (is : call ≡ get_or calls at call) where
  tells : (h : ℕ) (comm rank : Option ℕ) → comm_named (slice_get meant at) ≡ comm → rank_told call.returned call.action ≡ rank
      → first_told_on h (drop at calls) (drop at meant) ≡ told_before h comm rank (first_told_on h (drop (at + 1) calls) (drop (at + 1) meant))
  tells h comm rank e f =
      told_step h at calls meant call below is
      ∙ ap (λ (o : Option ℕ). told_before h o (rank_told call.returned call.action) (first_told_on h (drop (at + 1) calls) (drop (at + 1) meant))) e
      ∙ ap (λ (o : Option ℕ). told_before h comm o (first_told_on h (drop (at + 1) calls) (drop (at + 1) meant))) f

  pub untold_rank : (list : List (Option ℕ)) → rank_told call.returned call.action ≡ None → AreTold calls meant at list → AreTold calls meant (at + 1) list
  untold_rank list e are h told named =
      let rest : Option ℕ = first_told_on h (drop (at + 1) calls) (drop (at + 1) meant) in
      ap (told_or told) (sym (tells h (comm_named (slice_get meant at)) None refl e ∙ no_rank h (comm_named (slice_get meant at)) rest)) ∙ are h told named

  pub untold_comm : (list : List (Option ℕ)) → comm_named (slice_get meant at) ≡ None → AreTold calls meant at list → AreTold calls meant (at + 1) list
  untold_comm list e are h told named =
      ap (told_or told) (sym (tells h None (rank_told call.returned call.action) e refl)) ∙ are h told named

  pub told_more : (old new : List (Option ℕ)) (handle rank : ℕ) → comm_named (slice_get meant at) ≡ Some handle → rank_told call.returned call.action ≡ Some rank
      → AreTold calls meant at old → NotesRank handle rank old new → AreTold calls meant (at + 1) new
  told_more old new handle rank e f are notes h now named =
      let rest : Option ℕ = first_told_on h (drop (at + 1) calls) (drop (at + 1) meant) in
      let n = notes h now named in
      ap (λ (o : Option ℕ). told_or o rest) n.2 ∙ now_or (handle == h) rank n.0 rest
      ∙ ap (told_or n.0) (sym (tells h (Some handle) (Some rank) e f)) ∙ are h n.0 n.1

or_none : (told : Option ℕ) → told_or told None ≡ told
or_none None = refl
or_none (Some rank) = refl

-- All calls are read.
pub all_told : (calls : List CommCall) (meant : List Meant) (at : ℕ) (list : List (Option ℕ)) → length calls ≤ at → AreTold calls meant at list
    → (handle : ℕ) (told : Option ℕ) → slice_get list handle ≡ Some told → told ≡ first_told_on handle calls meant
all_told calls meant at list past are h told named =
    sym (or_none told) ∙ ap (λ (l : List CommCall). told_or told (first_told_on h l (drop at meant))) (sym (drop_all at calls past)) ∙ are h told named
