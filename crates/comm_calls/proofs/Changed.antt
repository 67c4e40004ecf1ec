-- What a call on communicators or groups, windows or files gives or ends, by what is read of it.
use Rattle.std.proofs.Common.{◌≡◌, ◌∙◌, ℕ, Bool, Option, Some, None, ap, codes, if◌then◌else◌, is_some, length, refl, subst, sym}
use Rattle.mpi_model.specs.declared.call.Call.{Call}
use Rattle.mpi_model.specs.declared.object.Object.{Object}
use Rattle.mpi_model.specs.declared.object.Object.TheVariants as objects
use Rattle.dumpi_text.specs.Call.{TextCall}
use Rattle.comm_makings.specs.Names.{number_given}
use Rattle.comm_makings.specs.Objects.{object_made}
use Rattle.comm_makings.specs.declared.calls.Action.{Action}
use Rattle.comm_makings.specs.declared.calls.Action.TheVariants as actions
use Rattle.comm_makings.specs.declared.calls.CommCall.{CommCall}
use Rattle.comm_calls.specs.Actions.{IsAction, IsGroup, IsMake, made_of, merged_of, object_in, other_of}
use Rattle.comm_calls.specs.Calls.{AddsCall, AddsSaid, IsCommCall, NamesCall, ReadCalls, ReadsUses, TakesCall, uses_by}
use Rattle.comm_calls.specs.Functions.{function_of}
use Rattle.comm_calls.specs.Numbers.{given_in}
use Rattle.comm_calls.specs.Parameters.{text_of}
use Rattle.comm_calls.specs.Uses.{changed_in, changed_of, changed_of_action, changed_of_call, named_but, named_of, number_returned, of_changed}
use Rattle.comm_calls.specs.declared.function.Function.{Function}
use Rattle.comm_calls.specs.declared.function.Function.TheVariants as functions
use Rattle.comm_calls.specs.declared.function.Grouper.{Grouper}
use Rattle.comm_calls.specs.declared.function.Maker.{Maker}

-- a communicator is given or ended by a number
abbrev of_comm : Option ℕ → Object × Option ℕ
of_comm number = (objects.Communicator, number)

made : (maker : Maker) (raw : TextCall) (returned : Bool) (action : Action) → IsMake maker raw action → returned ≡ is_some raw.exit → changed_of_action returned action ≡ changed_in (functions.Make maker) raw
made maker raw returned (actions.Make parent making given) is e =
    ap (λ g. of_comm (number_given returned g)) is.2 ∙ ap (λ (r : Bool). of_comm (number_given r (given_in (made_of maker raw)))) e
made maker raw returned (actions.CommRank comm rank) is e = absurd is
made maker raw returned (actions.Free comm) is e = absurd is
made maker raw returned (actions.Group group given) is e = absurd is
made maker raw returned (actions.Join local leaders given) is e = absurd is
made maker raw returned (actions.Merge comm high given) is e = absurd is
made maker raw returned (actions.GivesComm giver comm given) is e = absurd is
made maker raw returned (actions.MakeObject of parent given) is e = absurd is
made maker raw returned (actions.EndObject object number) is e = absurd is

grouped : (grouper : Grouper) (raw : TextCall) (returned : Bool) (action : Action) → IsGroup grouper raw action → changed_of_action returned action ≡ of_comm None
grouped grouper raw returned (actions.Make parent making given) is = absurd is
grouped grouper raw returned (actions.CommRank comm rank) is = absurd is
grouped grouper raw returned (actions.Free comm) is = absurd is
grouped grouper raw returned (actions.Group group given) is = refl
grouped grouper raw returned (actions.Join local leaders given) is = absurd is
grouped grouper raw returned (actions.Merge comm high given) is = absurd is
grouped grouper raw returned (actions.GivesComm giver comm given) is = absurd is
grouped grouper raw returned (actions.MakeObject of parent given) is = absurd is
grouped grouper raw returned (actions.EndObject object number) is = absurd is

by_action : (function : Function) (raw : TextCall) (returned : Bool) (action : Action) → IsAction function raw action → returned ≡ is_some raw.exit → changed_of_action returned action ≡ changed_in function raw
by_action (functions.Make maker) raw returned action is e = made maker raw returned action is e
by_action functions.Rank raw returned action is e = ap (changed_of_action returned) is
by_action functions.Free raw returned action is e = ap (changed_of_action returned) is
by_action (functions.Group grouper) raw returned action is e = grouped grouper raw returned action is
by_action functions.Join raw returned action is e = ap (changed_of_action returned) is ∙ ap (λ (r : Bool). of_comm (number_given r (given_in (text_of (codes "newintercomm") raw)))) e
by_action functions.Merge raw returned action is e = ap (changed_of_action returned) is ∙ ap (λ (r : Bool). of_comm (number_given r (given_in (merged_of raw)))) e
by_action (functions.Give giver) raw returned action is e = ap (changed_of_action returned) is ∙ ap (λ (r : Bool). of_comm (number_given r (given_in (other_of giver raw)))) e
by_action (functions.MakeObject maker) raw returned action is e =
    ap (changed_of_action returned) is ∙ ap (λ (r : Bool). (object_made maker, number_returned r (object_in (object_made maker) raw))) e
by_action (functions.EndObject object) raw returned action is e = ap (changed_of_action returned) is

-- a call that is read so gives or ends what its text says
pub changed_read : (function : Function) (place : ℕ) (raw : TextCall) (read : CommCall) → IsCommCall function place raw read → changed_of_call read ≡ changed_in function raw
changed_read function place raw read is = by_action function raw read.returned read.action is.action is.returned

-- what a call that makes, names or ends something says is added
pub comm_said : (old new : ReadCalls) (raw : TextCall) (call : Call) (function : Function) → function_of raw ≡ Some function → TakesCall function old raw new → AddsSaid old raw call new
comm_said old new raw call function is takes = record {
  calls = subst (λ (f : Option Function). AddsCall f old.place raw old.calls new.calls) (sym is) (takes.read, takes.calls, takes.is);
  uses = λ object.
      let here : ReadsUses old.place None (of_changed object (changed_in function raw)) (uses_by object old) (uses_by object new) =
      subst (λ (c : Object × Option ℕ). ReadsUses old.place None (of_changed object c) (uses_by object old) (uses_by object new)) (changed_read function old.place raw takes.read takes.is) (takes.uses object) in
      subst (λ (f : Option Function). ReadsUses old.place (named_but object f call) (of_changed object (changed_of raw f)) (uses_by object old) (uses_by object new)) (sym is) here;
  place = takes.place;
  world = takes.world;
  own = takes.own;
  size = takes.size;
}

-- no number is given or ended
none_changed : (object : Object) → of_changed object (of_comm None) ≡ None
none_changed objects.Communicator = refl
none_changed objects.Window = refl
none_changed objects.File = refl

-- what another call says is added
pub other_said : (old new : ReadCalls) (raw : TextCall) (call : Call) → function_of raw ≡ None → NamesCall old call new → AddsSaid old raw call new
other_said old new raw call is names = record {
  calls = subst (λ (f : Option Function). AddsCall f old.place raw old.calls new.calls) (sym is) names.calls;
  uses = λ object.
      let here : ReadsUses old.place (named_of object call) (of_changed object (of_comm None)) (uses_by object old) (uses_by object new) =
      subst (λ (c : Option ℕ). ReadsUses old.place (named_of object call) c (uses_by object old) (uses_by object new)) (sym (none_changed object)) (names.uses object) in
      subst (λ (f : Option Function). ReadsUses old.place (named_but object f call) (of_changed object (changed_of raw f)) (uses_by object old) (uses_by object new)) (sym is) here;
  place = names.place;
  world = names.world;
  own = names.own;
  size = names.size;
}
