use Rattle.std.proofs.Common.{◌∙◌, List, ap, map, sym}
use Rattle.std.specs.List.{slice_get}
use Rattle.comm_makings.specs.Here.{kth_at}
use Rattle.comm_makings.specs.declared.state.Made.{Made}
use Rattle.comm_makings.proofs.Right.{ended_derive, ended_read, next_is}
use Rattle.comm_makings.proofs.run.Run.step.Goals as goal

pub made_in-requires-clause-parent : goal.made_in-requires-clause-parent
made_in-requires-clause-parent c =
    c.requires.right.comms_derive.each c.args.at c.in-Some.parent.now (ap (λ (l : List Made). slice_get l c.args.at) (sym c.deref.ensures.value) ∙ sym c.in-Some.ensures)

pub take_gained-requires-clause-comms : goal.take_gained-requires-clause-comms
take_gained-requires-clause-comms c =
    ended_derive c.args.ranks.now c.args.views.now c.in-Some.parent.now c.deref-5.result.now c.args.k c.in_ok-made.made c.ended-gained.result c.in_ok-made.ensures
    (next_is c.args.ranks.now c.args.views.now c.args.self.now.comms.items c.args.at c.args.k c.in-Some.parent.now c.deref-5.result.now c.requires.read
    (ap (λ (l : List Made). slice_get l c.args.at) (sym c.deref.ensures.value) ∙ sym c.in-Some.ensures)
    (c.deref-5.ensures.value ∙ c.in_ok-all.ensures ∙ ap (map (kth_at c.args.ranks.now c.args.views.now c.args.k)) c.deref-2.ensures.value))
    c.ended-gained.ensures

pub take_gained-requires-clause-read : goal.take_gained-requires-clause-read
take_gained-requires-clause-read c = λ e.
    ended_read c.args.ranks.now c.args.views.now c.args.self.now.comms.items c.args.at c.args.k c.in-Some.parent.now c.deref-5.result.now c.in_ok-made.made c.ended-gained.result
    c.in_ok-made.ensures
    (next_is c.args.ranks.now c.args.views.now c.args.self.now.comms.items c.args.at c.args.k c.in-Some.parent.now c.deref-5.result.now c.requires.read
    (ap (λ (l : List Made). slice_get l c.args.at) (sym c.deref.ensures.value) ∙ sym c.in-Some.ensures)
    (c.deref-5.ensures.value ∙ c.in_ok-all.ensures ∙ ap (map (kth_at c.args.ranks.now c.args.views.now c.args.k)) c.deref-2.ensures.value))
    (ap (λ (l : List Made). slice_get l c.args.at) (sym c.deref.ensures.value) ∙ sym c.in-Some.ensures) c.ended-gained.ensures e
