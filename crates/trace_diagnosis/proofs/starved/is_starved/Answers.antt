use Rattle.std.proofs.Common.{◌∙◌, ℕ, List, ap, subst, sym}
use Rattle.mpi_model.specs.declared.message.Receive.{Receive}
use Rattle.trace_ops.specs.Ops.{Ops}
use Rattle.trace_ops.specs.Order.{ArePosted}
use Rattle.trace_pair.specs.Ends.{AreLast}
use Rattle.trace_wait.specs.Ranks.{ops_of}
use Rattle.trace_diagnosis.specs.Listed.{IsFront, opened}
use Rattle.trace_diagnosis.proofs.Fronting.{posted_at}
use Rattle.trace_diagnosis.proofs.starved.is_starved.Goals as goal

pub count_before-to-requires : goal.count_before-to-requires
count_before-to-requires c = subst (λ (qs : List Receive). ArePosted qs) (sym c.receives_at-receives.ensures) (posted_at 0 c.args.ops.now c.args.q.now.at c.requires.own)

pub go_to-requires-clause-last : goal.go_to-requires-clause-last
go_to-requires-clause-last c =
    let ops = c.args.ops.now in
    let turned = c.turn_to.new.self in
    let same = ap (λ (r : ℕ). (ops_of ops r).receives) c.turn_to.ensures.rank ∙ sym c.receives_at-receives.ensures in
    subst (λ (qs : List Receive). AreLast (opened qs turned.place) turned.ends) same (c.turn_to.ensures.front ops c.args.lists.now c.requires.front).last

pub are_taken-requires : goal.are_taken-requires
are_taken-requires c =
    let ops = c.args.ops.now in
    let lists = c.args.lists.now in
    let same = c.receives_at-receives.ensures ∙ sym (ap (λ (r : ℕ). (ops_of ops r).receives) c.turn_to.ensures.rank) in
    subst (λ (os : List Ops). IsFront os lists c.go_to.new.self) (sym c.requires.reaches)
    (c.in_ok-go_to.ensures.front ops lists same (c.turn_to.ensures.front ops lists c.requires.front))
