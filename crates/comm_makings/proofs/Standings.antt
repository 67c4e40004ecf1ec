-- How the handles of ranks stand, as one after the other is set.
use Rattle.std.proofs.Common.{◌≡◌, ◌⊎◌, ℕ, List, Option, Some, None, Vec, option_and_then, set, ap, ◌∙◌, sym, inl, inr, refl}
use Rattle.std.specs.List.{slice_get}
use Rattle.std.specs.declared.alloc.Global.{Global}
use Rattle.comm_makings.specs.Derives.{member_with}
use Rattle.comm_makings.specs.State.{BindsMember, KeepsDerived, NamesMembers, SetsStanding, standing_at}
use Rattle.comm_makings.specs.declared.answer.Why.{Why}
use Rattle.comm_makings.specs.declared.state.Member.{Member}
use Rattle.comm_makings.specs.declared.state.HandleState.{HandleState}
use Rattle.comm_makings.specs.declared.state.HandleState.TheVariants as standings
use Rattle.comm_makings.proofs.Lists.{get_set}

abbrev handle_in : ℕ → Vec HandleState Global → Option HandleState
handle_in handle row = slice_get row.items handle

module _ (rows : List (Vec HandleState Global)) (rank : ℕ) (row changed : Vec HandleState Global) (handle : ℕ) (standing : HandleState)
    (there : slice_get rows rank ≡ Some row) (sets : changed.items ≡ set row.items handle standing) where
  in_row : (r h : ℕ) (s : HandleState) (v : Vec HandleState Global) → r ≡ rank → v ≡ changed → slice_get v.items h ≡ Some s
      → (standing_at rows r h ≡ Some s) ⊎ ((r ≡ rank) × (h ≡ handle) × (s ≡ standing))
  in_row r h s v same is e =
      let now : slice_get (set row.items handle standing) h ≡ Some s =
      ap (λ (l : List HandleState). slice_get l h) (sym sets) ∙ ap (handle_in h) (sym is) ∙ e in
      elim (get_set row.items handle standing h s now) [
        | inl before ↦ inl (ap (λ (k : ℕ). standing_at rows k h) same ∙ ap (option_and_then (handle_in h)) there ∙ before)
        | inr at ↦ inr (same, at.0, at.1)
      ]

  set_by : (r h : ℕ) (s : HandleState) (o : Option (Vec HandleState Global)) → slice_get (set rows rank changed) r ≡ o → option_and_then (handle_in h) o ≡ Some s
      → (standing_at rows r h ≡ Some s) ⊎ ((r ≡ rank) × (h ≡ handle) × (s ≡ standing))
  set_by r h s None here e = absurd (cc)
  set_by r h s (Some v) here e = elim (get_set rows rank changed r v here) [
    | inl before ↦ inl (ap (option_and_then (handle_in h)) before ∙ e)
    | inr is ↦ in_row r h s v is.0 is.1 e
  ]

  pub set_one : SetsStanding rows (set rows rank changed) rank handle standing
  set_one = record { each = λ r h s e. set_by r h s (slice_get (set rows rank changed) r) refl e }

pub set_none : (rows : List (Vec HandleState Global)) (rank handle : ℕ) (standing : HandleState) → SetsStanding rows rows rank handle standing
set_none rows rank handle standing = record { each = λ r h s e. inl e }

-- A handle that is left out stands for nothing.
pub keeps_set : (old new : List (Vec HandleState Global)) (rank handle : ℕ) (why : Why) → SetsStanding old new rank handle (standings.Left why) → KeepsDerived old new
keeps_set old new rank handle why sets = record {
  each = λ r h place e. elim (sets.each r h (standings.Derived place) e) [
    | inl before ↦ before
    | inr is ↦ absurd (cc)
  ];
  inters = λ r h place second e. elim (sets.each r h (standings.Inter place second) e) [
    | inl before ↦ before
    | inr is ↦ absurd (cc)
  ];
}

pub keeps_all : (rows : List (Vec HandleState Global)) → KeepsDerived rows rows
keeps_all rows = record { each = λ rank handle place e. e; inters = λ rank handle place second e. e }

pub keeps_more : (old mid new : List (Vec HandleState Global)) → KeepsDerived old mid → KeepsDerived mid new → KeepsDerived old new
keeps_more old mid new first then = record {
  each = λ rank handle place e. first.each rank handle place (then.each rank handle place e);
  inters = λ rank handle place second e. first.inters rank handle place second (then.inters rank handle place second e);
}

abbrev member_of : ℕ → Option ℕ → Member
member_of rank handle = record { rank = rank; handle = handle }

-- the member that has this handle
pub member_is : (member : Member) (rank handle : ℕ) → rank ≡ member.rank → member.handle ≡ Some handle → member ≡ member_with handle rank
member_is member rank handle same named = ap (member_of member.rank) named ∙ ap (member_with handle) (sym same)

-- a member's handle is bound
pub binds_set : (member : Member) (place handle : ℕ) (old new : List (Vec HandleState Global)) → SetsStanding old new member.rank handle (standings.Derived place)
    → member.handle ≡ Some handle → BindsMember member place old new
binds_set member place handle old new sets named = record {
  each = λ r h at e. elim (sets.each r h (standings.Derived at) e) [
    | inl before ↦ inl before
    | inr is ↦
        let same : at ≡ place = cc in
        inr (same, member_is member r h is.0 (named ∙ ap Some (sym is.1)))
  ];
  inters = λ r h at second e. elim (sets.each r h (standings.Inter at second) e) [
    | inl before ↦ before
    | inr is ↦ absurd (cc)
  ];
}

pub binds_none : (member : Member) (place : ℕ) (rows : List (Vec HandleState Global)) → BindsMember member place rows rows
binds_none member place rows = record { each = λ r h at e. inl e; inters = λ r h at second e. e }

pub names_none : (members : List Member) (place : ℕ) (rows : List (Vec HandleState Global)) → NamesMembers members place rows rows
names_none members place rows = record { each = λ r h at e. inl e; inters = λ r h at second e. e }

-- one more member's handle is bound
pub names_bound : (members : List Member) (place : ℕ) (old mid new : List (Vec HandleState Global)) (i : ℕ) (member : Member)
    → NamesMembers members place old mid → BindsMember member place mid new → slice_get members i ≡ Some member → NamesMembers members place old new
names_bound members place old mid new i member names binds here = record {
  each = λ r h at e. elim (binds.each r h at e) [
    | inl before ↦ names.each r h at before
    | inr is ↦ inr (is.0, (i, here ∙ ap Some is.1))
  ];
  inters = λ r h at second e. names.inters r h at second (binds.inters r h at second e);
}
