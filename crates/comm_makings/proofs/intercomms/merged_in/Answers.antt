use Rattle.std.proofs.Common.{◌≡◌, ◌∙◌, ◌-◌, List, Option, All, ap, arith, drop, is_some, length, length-drop, not, refl, sym, take, true}
use Rattle.std.proofs.lemmas.List.{take_all}
use Rattle.std.proofs.lemmas.Result.{IfOk-weaker}
use Rattle.comm_makings.specs.Here.{first_of}
use Rattle.comm_makings.specs.Intercomms.{SaysHigh}
use Rattle.comm_makings.specs.Makes.{IsOneMaking}
use Rattle.comm_makings.specs.Offering.{IfMerged, IsMadeByMerge, MakesOfInter}
use Rattle.comm_makings.specs.declared.answer.MadeBy.TheVariants as functions
use Rattle.comm_makings.specs.declared.here.Here.{Here}
use Rattle.comm_makings.proofs.Joins.{merge_derives}
use Rattle.comm_makings.proofs.intercomms.merged_in.Goals as goal

pub returns : goal.returns
returns c =
    let all : List (Option Here) = c.args.all.now in
    let first : List (Option Here) = take c.args.size all in
    let second : List (Option Here) = drop c.args.size all in
    let to_end : take (length all - c.args.size) second ≡ second =
    take_all (length all - c.args.size) second (omega (arith, length-drop c.args.size all)) in
    let making : IsOneMaking functions.IntercommMerge all = c.if-not-are_one.ensures refl in
    let first_say : All (SaysHigh c.args.ranks.now c.in-Some.one) first = c.in-Some.ensures in
    let second_say : All (SaysHigh c.args.ranks.now c.in-Some-agreed_high.other) second =
    rw to_end at c.in-Some-agreed_high.ensures in
    let first_there : is_some (first_of first) ≡ true =
    ap is_some (sym c.first_of.ensures) ∙ c.is_none.ensures ∙ ap not c.if-is_none.false in
    let second_there : is_some (first_of second) ≡ true =
    ap is_some (ap first_of (sym to_end) ∙ sym c.first_of-else-is_none.ensures) ∙ c.is_none-else-is_none.ensures
    ∙ ap not c.if-is_none-2.false in
    IfOk-weaker c.merged_by.result (IfMerged (IsMadeByMerge c.args.inter.now.members.items all c.in_ok-outcome.outcome))
    (MakesOfInter c.args.ranks.now c.args.views.now)
    (λ made of. merge_derives c.args.ranks.now c.args.views.now c.args.inter.now all c.args.size c.in-Some.one
    c.in-Some-agreed_high.other c.in_ok-outcome.outcome made c.requires.inter c.requires.calls c.requires.size making
    first_there second_there first_say second_say c.in_ok-outcome.ensures of)
    c.merged_by.ensures
