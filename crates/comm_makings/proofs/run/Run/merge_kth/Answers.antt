use Rattle.std.proofs.Common.{◌∙◌, List, ap, sym}
use Rattle.std.specs.List.{slice_get}
use Rattle.comm_makings.specs.declared.state.Made.{Made}
use Rattle.comm_makings.proofs.run.Run.merge_kth.Goals as goal

pub merged_of-requires : goal.merged_of-requires
merged_of-requires c =
    c.requires.inters_derive.each c.args.at c.in-Some.inter.now (ap (λ (l : List Made). slice_get l c.args.at) (sym c.deref.ensures.value) ∙ sym c.in-Some.ensures)
