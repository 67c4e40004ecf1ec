use Rattle.std.proofs.Common.{◌∙◌, List, ap, sym}
use Rattle.std.specs.List.{slice_get}
use Rattle.comm_makings.specs.declared.state.Made.{Made}
use Rattle.comm_makings.proofs.Derivations.{all_found}
use Rattle.comm_makings.proofs.by_groups.found_at.Goals as goal

pub returns : goal.returns
returns c =
    let right = rw c.deref-3.ensures.value at c.in_ok-offers.ensures in
    let found = rw c.deref-5.ensures.value at c.in_ok-found.ensures in
    all_found c.args.ranks.now c.args.views.now c.args.run.now.comms.items c.args.run.now.values.items c.in-Some.parent.now c.in_ok-offers.offers.calls.items
    c.in_ok-found.found.made.items
    (c.requires.comms_derive.each c.args.at c.in-Some.parent.now (ap (λ (l : List Made). slice_get l c.args.at) (sym c.deref.ensures.value) ∙ sym c.in-Some.ensures))
    c.requires.groups_derive right found
