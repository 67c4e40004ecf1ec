-- That what is derived so far is right, step by step.
use Rattle.std.proofs.Common.{◌≡◌, ◌+◌, ℕ, Bool, true, false, zero, suc, ◌++◌, List, [], ◌∷◌, Option, Some, None, Vec, length, option_and_then, replicate, set, ap, ◌∙◌, sym, subst, inl, inr, refl, arith, length-append, length-set}
use Rattle.std.specs.List.{slice_get}
use Rattle.std.specs.declared.alloc.Global.{Global}
use Rattle.std.proofs.lemmas.Option.{same_Some}
use Rattle.comm_makings.specs.Derives.{Derives, kth_calls, read_to, unread}
use Rattle.comm_makings.specs.State.{AreAllDerivedGroups, AreDerived, AreNext, AreRead, IfComms, IsDerivedComm, IsDerivedGroup, IsEnded, IsMemberOf, IsNotListed, IsOfDerived, IsReadTo, IsRight, KeepsComms, KeepsDerived, NamesMembers, NoneListed, NoneListedAt, NoneStands, NoneStandsAt, dims_of, is_gained}
use Rattle.comm_makings.specs.declared.answer.Why.{Why}
use Rattle.comm_makings.specs.declared.calls.RankCalls.{RankCalls}
use Rattle.comm_makings.specs.declared.group_value.GroupValue.{GroupValue}
use Rattle.comm_makings.specs.declared.group_value.GroupValue.TheVariants as values
use Rattle.comm_makings.specs.declared.here.Here.{Here}
use Rattle.comm_makings.specs.declared.run.Gained.{Gained}
use Rattle.comm_makings.specs.declared.run.Gained.TheVariants as gains
use Rattle.comm_makings.specs.declared.state.Made.{Made}
use Rattle.comm_makings.specs.declared.state.HandleState.{HandleState}
use Rattle.comm_makings.specs.declared.state.Progress.{Progress}
use Rattle.comm_makings.specs.declared.state.Progress.TheVariants as progress
use Rattle.comm_makings.specs.declared.state.HandleState.TheVariants as standings
use Rattle.comm_makings.specs.declared.view.RankView.{RankView}
use Rattle.comm_makings.proofs.Derivations.{derived_more, derived_none}
use Rattle.comm_makings.proofs.Lists.{each_more, get_keep, get_last, get_more, get_set}

-- No handle stands for a communicator.
pub stands_set : (row : List HandleState) (handle : ℕ) (why : Why) → NoneStands row → NoneStands (set row handle (standings.Left why))
stands_set row handle why none = record {
  each = λ h place e. elim (get_set row handle (standings.Left why) h (standings.Derived place) e) [
    | inl before ↦ none.each h place before
    | inr is ↦ absurd (cc)
  ];
  inters = λ h place second e. elim (get_set row handle (standings.Left why) h (standings.Inter place second) e) [
    | inl before ↦ none.inters h place second before
    | inr is ↦ absurd (cc)
  ];
}

open_at : (count h : ℕ) (s : HandleState) → slice_get (replicate count standings.Open) h ≡ Some s → s ≡ standings.Open
open_at zero h s e = absurd (cc)
open_at (suc count) zero s e = cc
open_at (suc count) (suc h) s e = open_at count h s e

pub stands_open : (count : ℕ) → NoneStands (replicate count standings.Open)
stands_open count = record {
  each = λ h place e. let is = open_at count h (standings.Derived place) e in absurd (cc);
  inters = λ h place second e. let is = open_at count h (standings.Inter place second) e in absurd (cc);
}

pub stands_none : NoneStandsAt []
stands_none = record { each = λ rank row e. absurd (cc) }

pub stands_more : (rows : List (Vec HandleState Global)) (row : Vec HandleState Global) → NoneStandsAt rows → NoneStands row.items → NoneStandsAt (rows ++ row ∷ [])
stands_more rows row none is = record { each = each_more (λ (v : Vec HandleState Global). NoneStands v.items) rows row none.each is }

pub listed_none : NoneListed []
listed_none = record { each = λ at value e. absurd (cc) }

pub listed_more : (row : List GroupValue) (value : GroupValue) → NoneListed row → IsNotListed value → NoneListed (row ++ value ∷ [])
listed_more row value none is = record { each = each_more IsNotListed row value none.each is }

pub all_listed_none : NoneListedAt []
all_listed_none = record { each = λ rank row e. absurd (cc) }

pub all_listed_more : (rows : List (Vec GroupValue Global)) (row : Vec GroupValue Global) → NoneListedAt rows → NoneListed row.items → NoneListedAt (rows ++ row ∷ [])
all_listed_more rows row none is = record { each = each_more (λ (v : Vec GroupValue Global). NoneListed v.items) rows row none.each is }

none_at : (rows : List (Vec HandleState Global)) → NoneStandsAt rows → (rank handle place : ℕ) (o : Option (Vec HandleState Global)) → slice_get rows rank ≡ o
    → option_and_then (λ row. slice_get row.items handle) o ≡ Some (standings.Derived place) → ⊥
none_at rows none rank handle place None here e = absurd (cc)
none_at rows none rank handle place (Some row) here e = (none.each rank row here).each handle place e

none_side : (rows : List (Vec HandleState Global)) → NoneStandsAt rows → (rank handle place : ℕ) (second : Bool) (o : Option (Vec HandleState Global)) → slice_get rows rank ≡ o
    → option_and_then (λ row. slice_get row.items handle) o ≡ Some (standings.Inter place second) → ⊥
none_side rows none rank handle place second None here e = absurd (cc)
none_side rows none rank handle place second (Some row) here e = (none.each rank row here).inters handle place second e

pub keeps_same : (comms : List Made) → KeepsComms comms comms
keeps_same comms = record { each = λ at comm e. e }

pub keeps_one : (comms : List Made) (comm : Made) → KeepsComms comms (comms ++ comm ∷ [])
keeps_one comms comm = record { each = λ at one e. get_keep comms (comm ∷ []) at one e }

pub keeps_on : (old mid new : List Made) → KeepsComms old mid → KeepsComms mid new → KeepsComms old new
keeps_on old mid new first then = record { each = λ at comm e. then.each at comm (first.each at comm e) }

module _ (ranks : List RankCalls) (views : List RankView) where
  not_listed : (comms : List Made) (rank at : ℕ) (value : GroupValue) → IsNotListed value → IsDerivedGroup ranks views comms rank at value
  not_listed comms rank at values.Waits h = tt
  not_listed comms rank at values.Unknown h = tt
  not_listed comms rank at (values.Whole place) h = absurd h
  not_listed comms rank at (values.Listed list) h = absurd h

  -- before anything is derived
  pub right_first : (stand : List (Vec HandleState Global)) (rows : List (Vec GroupValue Global)) → NoneStandsAt stand → NoneListedAt rows → IsRight ranks views stand rows [] [] []
  right_first stand rows bare unlisted = record {
    comms_derive = derived_none ranks views;
    handles_named = record { each = λ rank handle place e. absurd (none_at stand bare rank handle place (slice_get stand rank) refl e) };
    groups_derive = record {
      each = λ rank row e. record { each = λ at value f. not_listed [] rank at value ((unlisted.each rank row e).each at value f) };
    };
    read = record { each = λ at k e. absurd (cc) };
    read_each = refl;
    inters_derive = record { each = λ at inter e. absurd (cc) };
    sides = record { each = λ rank handle place second e. absurd (none_side stand bare rank handle place second (slice_get stand rank) refl e) };
  }

  -- one more communicator, of which nothing is read yet
  first_unread : (comm : Made) (k : ℕ) → IsDerivedComm ranks views comm → progress.At k ≡ progress.At 0 → Derives ranks views (read_to comm.members.items (dims_of comm) k)
  first_unread comm k derived e =
      let zero_is : k ≡ 0 = cc in
      subst (λ (n : ℕ). Derives ranks views (read_to comm.members.items (dims_of comm) n)) (sym zero_is) (unread comm.members.items (dims_of comm) comm.order derived.derives)

  pub reads_kept : (old new : List Made) (at k : ℕ) → KeepsComms old new → IsReadTo ranks views old at k → IsReadTo ranks views new at k
  reads_kept old new at k keeps read = record { comm = read.comm; here = keeps.each at read.comm read.here; reads = read.reads }

  read_last : (comms : List Made) (comm : Made) (at k : ℕ) → IsDerivedComm ranks views comm → at ≡ length comms → progress.At k ≡ progress.At 0 → IsReadTo ranks views (comms ++ comm ∷ []) at k
  read_last comms comm at k derived there e = record {
    comm = comm;
    here = ap (slice_get (comms ++ comm ∷ [])) there ∙ get_last comms comm;
    reads = first_unread comm k derived e;
  }

  read_more : (comms : List Made) (next : List Progress) (comm : Made) → AreRead ranks views comms next → length next ≡ length comms → IsDerivedComm ranks views comm
      → AreRead ranks views (comms ++ comm ∷ []) (next ++ progress.At 0 ∷ [])
  read_more comms next comm read same derived = record {
    each = λ at k e. elim (get_more next (progress.At 0) at (progress.At k) e) [
      | inl before ↦ reads_kept comms (comms ++ comm ∷ []) at k (keeps_one comms comm) (read.each at k before)
      | inr is ↦ read_last comms comm at k derived (is.0 ∙ same) is.1
    ];
  }

  -- the makings of a communicator are noted
  right_noted : (stand : List (Vec HandleState Global)) (rows : List (Vec GroupValue Global)) (comms : List Made) (next : List Progress) (inters : List Made) (at : ℕ) (now : Progress)
      → IsRight ranks views stand rows comms next inters → ((k : ℕ) → now ≡ progress.At k → IsReadTo ranks views comms at k) → IsRight ranks views stand rows comms (set next at now) inters
  right_noted stand rows comms next inters at now right reads = record {
    comms_derive = right.comms_derive;
    handles_named = right.handles_named;
    groups_derive = right.groups_derive;
    read = record {
      each = λ i k e. elim (get_set next at now i (progress.At k) e) [
        | inl before ↦ right.read.each i k before
        | inr is ↦ subst (λ (j : ℕ). IsReadTo ranks views comms j k) (sym is.0) (reads k (sym is.1))
      ];
    };
    read_each = length-set next at now ∙ right.read_each;
    inters_derive = right.inters_derive;
    sides = right.sides;
  }

  read_as : (comms : List Made) (at k j : ℕ) → IsReadTo ranks views comms at k → progress.At k ≡ progress.At j → IsReadTo ranks views comms at j
  read_as comms at k j read e = let same : k ≡ j = cc in subst (IsReadTo ranks views comms at) same read

  pub right_read : (stand : List (Vec HandleState Global)) (rows : List (Vec GroupValue Global)) (comms : List Made) (next : List Progress) (inters : List Made) (at k : ℕ)
      → IsRight ranks views stand rows comms next inters → IsReadTo ranks views comms at k → IsRight ranks views stand rows comms (set next at (progress.At k)) inters
  right_read stand rows comms next inters at k right read = right_noted stand rows comms next inters at (progress.At k) right (λ j e. read_as comms at k j read e)

  pub right_over : (stand : List (Vec HandleState Global)) (rows : List (Vec GroupValue Global)) (comms : List Made) (next : List Progress) (inters : List Made) (at : ℕ)
      → IsRight ranks views stand rows comms next inters → IsRight ranks views stand rows comms (set next at progress.Over) inters
  right_over stand rows comms next inters at right = right_noted stand rows comms next inters at progress.Over right (λ j e. absurd (cc))

  pub reads_at : (comms : List Made) (next : List Progress) (at k : ℕ) → AreRead ranks views comms next → slice_get next at ≡ Some (progress.At k) → IsReadTo ranks views comms at k
  reads_at comms next at k read e = read.each at k e

  -- the calls of a parent that come next
  pub next_is : (comms : List Made) (at k : ℕ) (parent : Made) (all : List (Option Here)) → IsReadTo ranks views comms at k → slice_get comms at ≡ Some parent
      → all ≡ kth_calls ranks views k parent.members.items → AreNext ranks views parent.members.items (dims_of parent) all k
  next_is comms at k parent all read here calls =
      let same : read.comm ≡ parent = same_Some read.comm parent (sym read.here ∙ here) in
      record { calls = calls; reads = subst (λ (c : Made). Derives ranks views (read_to c.members.items (dims_of c) k)) same read.reads }

  pub gained_now : (comms : List Made) (at k : ℕ) (gained : Gained) → (is_gained gained ≡ true → IsReadTo ranks views comms at k) → gained ≡ gains.Untold → IsReadTo ranks views comms at k
  gained_now comms at k gained read is = read (ap is_gained is)

  pub gained_added : (old new : List Made) (at k : ℕ) (gained : Gained) (made : Vec Made Global) → (is_gained gained ≡ true → IsReadTo ranks views old at k) → gained ≡ gains.Comms made
      → KeepsComms old new → IsReadTo ranks views new at k
  gained_added old new at k gained made read is keeps = reads_kept old new at k keeps (read (ap is_gained is))

  -- what the making that comes next gives
  pub ended_derive : (parent : Made) (all : List (Option Here)) (k : ℕ) (gained ended : Gained) → IsOfDerived ranks views parent.members.items (dims_of parent) all gained
      → AreNext ranks views parent.members.items (dims_of parent) all k → IsEnded gained ended → IfComms (AreDerived ranks views) ended
  ended_derive parent all k gained ended of next is = by_case gained ended (of.comms k next) is
    where
      by_case : (g e : Gained) → IfComms (AreDerived ranks views) g → IsEnded g e → IfComms (AreDerived ranks views) e
      by_case (gains.Comms made) e derive same = subst (IfComms (AreDerived ranks views)) (sym same) derive
      by_case gains.Untold e derive same = subst (IfComms (AreDerived ranks views)) (sym same) tt
      by_case gains.Unsound e derive same = subst (IfComms (AreDerived ranks views)) (sym same) tt
      by_case gains.Waits (gains.Comms made) derive same = absurd (let bad : true ≡ false = same in cc)
      by_case gains.Waits gains.Untold derive same = tt
      by_case gains.Waits gains.Unsound derive same = tt
      by_case gains.Waits gains.Waits derive same = tt

  pub ended_read : (comms : List Made) (at k : ℕ) (parent : Made) (all : List (Option Here)) (gained ended : Gained) → IsOfDerived ranks views parent.members.items (dims_of parent) all gained
      → AreNext ranks views parent.members.items (dims_of parent) all k → slice_get comms at ≡ Some parent → IsEnded gained ended → is_gained ended ≡ true
      → IsReadTo ranks views comms at (k + 1)
  ended_read comms at k parent all gained ended of next here is e = record { comm = parent; here = here; reads = of.read k next (by_case gained ended is e) }
    where
      by_case : (g e : Gained) → IsEnded g e → is_gained e ≡ true → is_gained g ≡ true
      by_case (gains.Comms made) e same f = refl
      by_case gains.Untold e same f = refl
      by_case gains.Unsound e same f = ap is_gained (sym same) ∙ f
      by_case gains.Waits e same f = absurd (let bad : false ≡ true = sym same ∙ f in cc)

  group_kept : (comms more : List Made) (rank at : ℕ) (value : GroupValue) → IsDerivedGroup ranks views comms rank at value
      → IsDerivedGroup ranks views (comms ++ more) rank at value
  group_kept comms more rank at values.Waits d = tt
  group_kept comms more rank at values.Unknown d = tt
  group_kept comms more rank at (values.Whole place) d = (d.0, get_keep comms more place d.0 d.1, d.2)
  group_kept comms more rank at (values.Listed list) d = d

  -- one more communicator, which its members' handles may name
  pub right_added : (stand stands : List (Vec HandleState Global)) (rows : List (Vec GroupValue Global)) (comms : List Made) (next : List Progress) (inters : List Made) (comm : Made)
      → IsRight ranks views stand rows comms next inters → NamesMembers comm.members.items (length comms) stand stands → IsDerivedComm ranks views comm
      → IsRight ranks views stands rows (comms ++ comm ∷ []) (next ++ progress.At 0 ∷ []) inters
  right_added stand stands rows comms next inters comm right names derived = record {
    comms_derive = derived_more ranks views comms comm right.comms_derive derived;
    handles_named = record {
      each = λ rank handle place e. elim (names.each rank handle place e) [
        | inl before ↦
            let m : IsMemberOf comms place rank handle = right.handles_named.each rank handle place before in
            record { comm = m.comm; here = get_keep comms (comm ∷ []) place m.comm m.here; member = m.member }
        | inr is ↦ record {
          comm = comm;
          here = ap (slice_get (comms ++ comm ∷ [])) is.0 ∙ get_last comms comm;
          member = is.1;
        }
      ];
    };
    groups_derive = record {
      each = λ rank row e. record { each = λ at value f. group_kept comms (comm ∷ []) rank at value ((right.groups_derive.each rank row e).each at value f) };
    };
    read = read_more comms next comm right.read right.read_each derived;
    read_each = (let same : length next ≡ length comms = right.read_each in omega (arith, length-append next (progress.At 0 ∷ []), length-append comms (comm ∷ [])));
    inters_derive = right.inters_derive;
    sides = record { each = λ rank handle place second e. right.sides.each rank handle place second (names.inters rank handle place second e) };
  }

  -- one of the communicators
  pub right_comm : (stand : List (Vec HandleState Global)) (rows : List (Vec GroupValue Global)) (comms : List Made) (next : List Progress) (inters : List Made) (at : ℕ) (comm : Made)
      → IsRight ranks views stand rows comms next inters → slice_get comms at ≡ Some comm → IsDerivedComm ranks views comm
  right_comm stand rows comms next inters at comm right here = right.comms_derive.each at comm here

  -- Handles that are left out name nothing.
  pub right_left : (stand stands : List (Vec HandleState Global)) (rows : List (Vec GroupValue Global)) (comms : List Made) (next : List Progress) (inters : List Made)
      → IsRight ranks views stand rows comms next inters → KeepsDerived stand stands → IsRight ranks views stands rows comms next inters
  right_left stand stands rows comms next inters right keeps = record {
    comms_derive = right.comms_derive;
    handles_named = record { each = λ rank handle place e. right.handles_named.each rank handle place (keeps.each rank handle place e) };
    groups_derive = right.groups_derive;
    read = right.read;
    read_each = right.read_each;
    inters_derive = right.inters_derive;
    sides = record { each = λ rank handle place second e. right.sides.each rank handle place second (keeps.inters rank handle place second e) };
  }

  pub right_refreshed : (stand : List (Vec HandleState Global)) (rows new : List (Vec GroupValue Global)) (comms : List Made) (next : List Progress) (inters : List Made)
      → IsRight ranks views stand rows comms next inters → AreAllDerivedGroups ranks views comms new → IsRight ranks views stand new comms next inters
  right_refreshed stand rows new comms next inters right groups = record {
    comms_derive = right.comms_derive;
    handles_named = right.handles_named;
    groups_derive = groups;
    read = right.read;
    read_each = right.read_each;
    inters_derive = right.inters_derive;
    sides = right.sides;
  }
