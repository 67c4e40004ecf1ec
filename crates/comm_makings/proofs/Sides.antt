-- Intercommunicators among what is derived: which handles name them, and of whose groups.
use Rattle.std.proofs.Common.{◌≡◌, ℕ, Bool, ◌++◌, List, [], ◌∷◌, Some, Vec, length, nat_le, ap, ◌∙◌, sym, subst, inl, inr}
use Rattle.std.specs.List.{slice_get}
use Rattle.std.specs.declared.alloc.Global.{Global}
use Rattle.comm_makings.specs.Intercomms.{first_size}
use Rattle.comm_makings.specs.Offering.{Answer, MakesOfInter}
use Rattle.comm_makings.specs.State.{BindsInter, IsDerivedComm, IsDerivedInter, IsRight, IsSideOf, NamesInter, SetsStanding}
use Rattle.comm_makings.specs.declared.calls.RankCalls.{RankCalls}
use Rattle.comm_makings.specs.declared.group_value.GroupValue.{GroupValue}
use Rattle.comm_makings.specs.declared.intercomms.OfInter.{OfInter}
use Rattle.comm_makings.specs.declared.intercomms.OfInter.TheVariants as made_of
use Rattle.comm_makings.specs.declared.intercomms.Offer.{Offer}
use Rattle.comm_makings.specs.declared.state.HandleState.{HandleState}
use Rattle.comm_makings.specs.declared.state.HandleState.TheVariants as standings
use Rattle.comm_makings.specs.declared.state.Made.{Made}
use Rattle.comm_makings.specs.declared.state.Member.{Member}
use Rattle.comm_makings.specs.declared.state.Progress.{Progress}
use Rattle.comm_makings.specs.declared.view.RankView.{RankView}
use Rattle.comm_makings.proofs.Lists.{each_more, get_keep, get_last}
use Rattle.comm_makings.proofs.Standings.{member_is}

-- a member's handle is bound to an intercommunicator
pub binds_inter_set : (member : Member) (place handle : ℕ) (second : Bool) (old new : List (Vec HandleState Global)) → SetsStanding old new member.rank handle (standings.Inter place second)
    → member.handle ≡ Some handle → BindsInter member place second old new
binds_inter_set member place handle second old new sets named = record {
  each = λ r h at e. elim (sets.each r h (standings.Derived at) e) [
    | inl before ↦ before
    | inr is ↦ absurd (cc)
  ];
  inters = λ r h at side e. elim (sets.each r h (standings.Inter at side) e) [
    | inl before ↦ inl before
    | inr is ↦
        let same : at ≡ place = cc in
        let sides : side ≡ second = cc in
        inr (same, sides, member_is member r h is.0 (named ∙ ap Some (sym is.1)))
  ];
}

pub binds_inter_none : (member : Member) (place : ℕ) (second : Bool) (rows : List (Vec HandleState Global)) → BindsInter member place second rows rows
binds_inter_none member place second rows = record { each = λ r h at e. e; inters = λ r h at side e. inl e }

pub names_inter_none : (members : List Member) (size place : ℕ) (rows : List (Vec HandleState Global)) → NamesInter members size place rows rows
names_inter_none members size place rows = record { each = λ r h at e. e; inters = λ r h at second e. inl e }

-- one more member's handle is bound
pub names_inter_bound : (members : List Member) (size place : ℕ) (old mid new : List (Vec HandleState Global)) (i : ℕ) (member : Member) (second : Bool)
    → NamesInter members size place old mid → BindsInter member place second mid new → slice_get members i ≡ Some member → nat_le size i ≡ second → NamesInter members size place old new
names_inter_bound members size place old mid new i member second names binds here side = record {
  each = λ r h at e. names.each r h at (binds.each r h at e);
  inters = λ r h at s e. elim (binds.inters r h at s e) [
    | inl before ↦ names.inters r h at s before
    | inr is ↦ inr (is.0, (i, here ∙ ap Some is.2, side ∙ sym is.1))
  ];
}

-- offers that answer each other, the other way round
pub answer_back : (one other : Offer) → Answer one other → Answer other one
answer_back one other a = record { there = a.back; back = a.there; bridge = sym a.bridge; tag = sym a.tag }

module _ (ranks : List RankCalls) (views : List RankView) where
  -- one more intercommunicator, which its members' handles may name
  pub right_joined : (stand stands : List (Vec HandleState Global)) (rows : List (Vec GroupValue Global)) (comms : List Made) (next : List Progress) (inters : List Made) (inter : Made)
      → IsRight ranks views stand rows comms next inters → NamesInter inter.members.items (first_size inter.members.items inter.remote_size) (length inters) stand stands
      → IsDerivedInter ranks views inter → IsRight ranks views stands rows comms next (inters ++ inter ∷ [])
  right_joined stand stands rows comms next inters inter right names derived = record {
    comms_derive = right.comms_derive;
    handles_named = record { each = λ rank handle place e. right.handles_named.each rank handle place (names.each rank handle place e) };
    groups_derive = right.groups_derive;
    read = right.read;
    read_each = right.read_each;
    inters_derive = record { each = each_more (IsDerivedInter ranks views) inters inter right.inters_derive.each derived };
    sides = record {
      each = λ rank handle place second e. elim (names.inters rank handle place second e) [
        | inl before ↦
            let side : IsSideOf inters place rank handle second = right.sides.each rank handle place second before in
            record { inter = side.inter; here = get_keep inters (inter ∷ []) place side.inter side.here; member = side.member }
        | inr is ↦ record {
          inter = inter;
          here = ap (slice_get (inters ++ inter ∷ [])) is.0 ∙ get_last inters inter;
          member = is.1;
        }
      ];
    };
  }

  -- what is made of an intercommunicator
  pub inter_made : (made : OfInter) (inter : Made) → MakesOfInter ranks views made → made ≡ made_of.Inter inter → IsDerivedInter ranks views inter
  inter_made made inter makes is = subst (MakesOfInter ranks views) is makes

  pub comm_made : (made : OfInter) (comm : Made) → MakesOfInter ranks views made → made ≡ made_of.Comm comm → IsDerivedComm ranks views comm
  comm_made made comm makes is = subst (MakesOfInter ranks views) is makes
