-- The windows and files of communicators, one after the other.
use Rattle.std.proofs.Common.{◌≡◌, ◌≤◌, ◌<◌, ◌+◌, ◌++◌, ◌∙◌, ℕ, List, [], ◌∷◌, Option, Some, None, Vec, get_or, length, take, ap, sym, subst, refl, inl, inr, arith, length-append, append-nil, option_and_then, option_map, unwrap_or}
use Rattle.std.specs.List.{flat_map, slice_get}
use Rattle.std.specs.declared.alloc.Global.{Global}
use Rattle.std.proofs.lemmas.Grind.{flat_map-append}
use Rattle.std.proofs.lemmas.List.{take_more}
use Rattle.std.proofs.lemmas.Option.{slice_get-map, slice_get_past, slice_get_within}
use Rattle.mpi_model.specs.declared.object.Object.{Object}
use Rattle.mpi_model.specs.declared.object.Object.TheVariants as objects
use Rattle.comm_makings.specs.ObjectMakings.{AreObjects, AreObjectsOf, AreObjectsOfAll, IsMadeOf, IsMaking, IsMost, IsObject, here_on, kth_making, makings_count, object_here, view_by}
use Rattle.comm_makings.specs.declared.calls.RankCalls.{RankCalls}
use Rattle.comm_makings.specs.declared.objects.ObjectHere.{ObjectHere}
use Rattle.comm_makings.specs.declared.state.Made.{Made}
use Rattle.comm_makings.specs.declared.state.Member.{Member}
use Rattle.comm_makings.specs.declared.view.RankView.{RankView}
use Rattle.comm_makings.proofs.Lists.{All-from_slice_get, All-slice_get, get_more}

weaker : {a b c : ℕ} → a ≤ b → b ≤ c → a ≤ c
weaker h g = omega arith

-- A member has no call behind its last one.
kth_none : (views : List RankView) (object : Object) (k : ℕ) (member : Member) → makings_count views object member ≤ k → kth_making views object k member ≡ None
kth_none views object k member most = of_view (slice_get views member.rank) refl
  where
    of_list : (view : RankView) (handle : ℕ) (o : Option (Vec ℕ Global)) → unwrap_or (option_map (λ (l : Vec ℕ Global). length l.items) o) 0 ≤ k
        → option_and_then (λ (l : Vec ℕ Global). slice_get l.items k) o ≡ None
    of_list view handle None less = refl
    of_list view handle (Some list) less = slice_get_past list.items k less

    of_handle : (view : RankView) (o : Option ℕ)
        → unwrap_or (option_and_then (λ handle. option_map (λ (l : Vec ℕ Global). length l.items) (slice_get (view_by view object).makings.items handle)) o) 0 ≤ k
        → option_and_then (λ handle. option_and_then (λ (l : Vec ℕ Global). slice_get l.items k) (slice_get (view_by view object).makings.items handle)) o ≡ None
    of_handle view None less = refl
    of_handle view (Some handle) less = of_list view handle (slice_get (view_by view object).makings.items handle) less

    of_view : (o : Option RankView) → slice_get views member.rank ≡ o → kth_making views object k member ≡ None
    of_view None e = rw e refl
    of_view (Some view) e = rw e (of_handle view member.handle (rw e at most))

module _ (ranks : List RankCalls) (views : List RankView) (object : Object) (comm : Made) where
  -- Nothing is made by calls that no member has.
  none_made : (k : ℕ) → IsMost views object comm.members.items k → (first : ObjectHere) → IsMaking ranks views object comm k first → ⊥
  none_made k most first making = of_member (slice_get comm.members.items making.smallest.at) refl
      (sym (slice_get-map (object_here ranks views object k) comm.members.items making.smallest.at) ∙ making.smallest.here)
    where
      of_member : (o : Option Member) → slice_get comm.members.items making.smallest.at ≡ o → option_map (object_here ranks views object k) o ≡ Some (Some first) → ⊥
      of_member None e f = absurd (cc)
      of_member (Some member) e f =
          let less : makings_count views object member ≤ k = All-slice_get (λ m. makings_count views object m ≤ k) comm.members.items making.smallest.at member most e in
          let none : object_here ranks views object k member ≡ None = ap (option_and_then (here_on ranks views object member.rank)) (kth_none views object k member less) in
          absurd (cc)

  -- the first of them
  pub record AreFirst (listed : List Made) (count : ℕ) : Type 0 where
    pub each : (k : ℕ) (made : Made) → slice_get listed k ≡ Some made → IsMadeOf ranks views object comm k made
    pub counted : length listed ≡ count

  pub first_none : AreFirst [] 0
  first_none = record { each = λ k made e. absurd (cc); counted = refl }

  pub first_more : (listed : List Made) (count : ℕ) (made : Made) → AreFirst listed count → IsMadeOf ranks views object comm count made → AreFirst (listed ++ made ∷ []) (count + 1)
  first_more listed count made are is = record {
    each = λ k one e. elim (get_more listed made k one e) [
      | inl before ↦ are.each k one before
      | inr last ↦ subst (λ (n : ℕ). IsMadeOf ranks views object comm n one) (sym (last.0 ∙ are.counted)) (subst (IsMadeOf ranks views object comm count) (sym last.1) is)
    ];
    counted = omega (arith, length-append listed (made ∷ []), are.counted);
  }

  -- Behind them the members' calls are no making.
  pub first_end : (listed : List Made) (count : ℕ) → AreFirst listed count → IsObject ranks views object comm count None → AreObjectsOf ranks views object comm listed
  first_end listed count are none = record {
    each = are.each;
    end = λ first making. none first (subst (λ (n : ℕ). IsMaking ranks views object comm n first) are.counted making);
  }

  pub first_all : (listed : List Made) (count most : ℕ) → AreFirst listed count → IsMost views object comm.members.items most → most ≤ count → AreObjectsOf ranks views object comm listed
  first_all listed count most are is less = first_end listed count are (none_made count (λ k d below. weaker (is k d below) less))

module _ (ranks : List RankCalls) (views : List RankView) (object : Object) where
  pub all_none : AreObjectsOfAll ranks views object [] []
  all_none = record { lists = []; one_each = refl; each = λ at comm list e f. absurd (cc); all = refl }

  pub all_more : (comms : List Made) (comm : Made) (listed of_comm : List Made) → AreObjectsOfAll ranks views object comms listed → AreObjectsOf ranks views object comm of_comm
      → AreObjectsOfAll ranks views object (comms ++ comm ∷ []) (listed ++ of_comm)
  all_more comms comm listed of_comm are is = record {
    lists = are.lists ++ of_comm ∷ [];
    one_each = omega (arith, length-append are.lists (of_comm ∷ []), length-append comms (comm ∷ []), are.one_each);
    each = λ at one list e f. elim (get_more comms comm at one e) [
      | inl before ↦ elim (get_more are.lists of_comm at list f) [
        | inl there ↦ are.each at one list before there
        | inr last ↦
            let within : at < length comms = slice_get_within comms at one before in
            let past : at ≡ length are.lists = last.0 in
            let same : length are.lists ≡ length comms = are.one_each in
            absurd (omega arith)
      ]
      | inr here ↦ elim (get_more are.lists of_comm at list f) [
        | inl there ↦
            let within : at < length are.lists = slice_get_within are.lists at list there in
            let past : at ≡ length comms = here.0 in
            let same : length are.lists ≡ length comms = are.one_each in
            absurd (omega arith)
        | inr last ↦ subst (λ (l : List Made). AreObjectsOf ranks views object one l) (sym last.1) (subst (λ (c : Made). AreObjectsOf ranks views object c of_comm) (sym here.1) is)
      ]
    ];
    all = ap (λ (l : List Made). l ++ of_comm) are.all
        ∙ ap (λ (l : List Made). flat_map (λ (x : List Made). x) are.lists ++ l) (sym (append-nil of_comm))
        ∙ sym (flat_map-append (λ (x : List Made). x) are.lists (of_comm ∷ []));
  }

-- windows, and then files
pub are_both : (ranks : List RankCalls) (views : List RankView) (comms windows files all : List Made) → AreObjectsOfAll ranks views objects.Window comms windows
    → AreObjectsOfAll ranks views objects.File comms files → all ≡ windows ++ files → AreObjects ranks views comms all
are_both ranks views comms windows files all are_windows are_files both = record { windows = windows; files = files; all_windows = are_windows; all_files = are_files; both = both }

-- The most calls of one member more.
pub most_more : (views : List RankView) (object : Object) (members : List Member) (i : ℕ) (d : Member) (most count more : ℕ) → i < length members
    → IsMost views object (take i members) most → count ≡ makings_count views object (get_or members i d) → most ≤ more → count ≤ more → IsMost views object (take (i + 1) members) more
most_more views object members i d most count more below are here keeps least =
    let P : Member → Type 0 = λ m. makings_count views object m ≤ more in
    rw (take_more members i d below) (All-from_slice_get P (take i members ++ get_or members i d ∷ []) (λ k x e. elim (get_more (take i members) (get_or members i d) k x e) [
      | inl before ↦
          let old : makings_count views object x ≤ most = All-slice_get (λ m. makings_count views object m ≤ most) (take i members) k x are before in
          omega arith
      | inr last ↦ subst P (sym last.1) (let now : makings_count views object (get_or members i d) ≤ more = rw here at least in now)
    ]))
