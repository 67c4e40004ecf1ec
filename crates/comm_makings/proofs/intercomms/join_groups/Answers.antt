use Rattle.std.proofs.Common.{◌≡◌, ◌++◌, List, [], IfSome, Option, false, length, refl, rules, subst, sym}
use Rattle.comm_groups.specs.Groups.{intersection_of}
use Rattle.comm_makings.specs.Makes.{IsOneMaking}
use Rattle.comm_makings.specs.Offering.{IsInterOf, SayAlike}
use Rattle.comm_makings.specs.declared.answer.MadeBy.TheVariants as functions
use Rattle.comm_makings.specs.declared.here.Here.{Here}
use Rattle.comm_makings.specs.declared.state.Made.{Made}
use Rattle.comm_makings.specs.declared.state.Member.{Member}
use Rattle.comm_makings.proofs.Joins.{joined_derives}
use Rattle.comm_makings.proofs.intercomms.join_groups.Goals as goal

pub returns-in-Some-2 : goal.returns-in-Some-2
returns-in-Some-2 c =
    let first : Made = c.in-Some.first.now in
    let second : Made = c.in-Some-comm_at.second.now in
    let of_one : List (Option Here) = c.in_ok-of_one.of_one.items in
    let of_other : List (Option Here) = c.in_ok-of_other.of_other.items in
    let all : List (Option Here) = c.in_ok-all.all.items in
    let both : List Member = c.in_ok-members.members.items in
    let all_is : all ≡ of_one ++ of_other = rw c.deref.ensures.value at (rw c.deref-2.ensures.value at c.in_ok-all.ensures) in
    let both_is : both ≡ first.members.items ++ second.members.items =
    rw c.deref-5.ensures.value at (rw c.deref-6.ensures.value at c.in_ok-members.ensures) in
    let one_says : SayAlike c.args.ranks.now c.args.one of_one =
    rw c.deref-3.ensures.value at c.if-not-say_alike.ensures refl in
    let other_says : SayAlike c.args.ranks.now c.args.other of_other =
    rw c.deref-else-not-say_alike.ensures.value at c.if-not-say_alike-2.ensures refl in
    let making : IsOneMaking functions.IntercommCreate all = rw c.deref-4.ensures.value at c.if-not-are_one.ensures refl in
    let apart : intersection_of first.ranks.items second.ranks.items ≡ [] =
    c.in_ok-are_apart.ensures c.if-not-branch.false in
    let members_are : c.deref-7.result.now ≡ both = c.deref-7.ensures.value in
    let calls_are : c.deref-8.result.now ≡ all = c.deref-8.ensures.value in
    let count : c.len.result ≡ length second.members.items = search rules in
    let made : IsInterOf c.deref-7.result.now c.deref-8.result.now c.len.result false c.in-Some-2.inter =
    subst (λ (o : Option Made). IfSome o (IsInterOf c.deref-7.result.now c.deref-8.result.now c.len.result false))
    c.in-Some-2.is c.in_ok-inter.ensures in
    let of : IsInterOf both all (length second.members.items) false c.in-Some-2.inter =
    rw members_are at (rw calls_are at (rw count at made)) in
    joined_derives c.args.ranks.now c.args.views.now c.args.standings.now c.args.comms.now c.requires.comms
    c.requires.members c.args.one c.args.other first second c.in-Some-2.inter of_one of_other all both
    c.requires.one c.requires.other c.requires.answer (sym c.in-Some.ensures) (sym c.in-Some-comm_at.ensures)
    c.in_ok-of_one.ensures.calls c.in_ok-of_one.ensures.each c.in_ok-of_other.ensures.calls all_is one_says other_says
    apart making both_is of
