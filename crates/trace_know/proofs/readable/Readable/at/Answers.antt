use Rattle.std.proofs.Common.{◌++◌, ◌<◌, List, length, ap, sym, ◌∙◌, subst, arith}
use Rattle.std.proofs.lemmas.List.{length-append}
use Rattle.std.specs.List.{slice_get}
use Rattle.mpi_model.specs.declared.event.Event.{Event}
use Rattle.trace_know.specs.Readable.{readable_among}
use Rattle.trace_know.proofs.SoundCells.{sound-here, sound-one, sound-within}
use Rattle.trace_know.proofs.readable.Readable.at.Goals as goal

pub cell_at-requires : goal.cell_at-requires
cell_at-requires c =
    let ks = c.self.inside.front.now ++ c.self.inside.back.now in
    let lt : c.args.place < length (readable_among ks) = subst (λ (es : List Event). c.args.place < length es) (sym c.self.view_is) c.requires in
    let within = sound-within ks in
    let both = length-append c.self.inside.front.now c.self.inside.back.now in
    omega arith

pub unreachable-requires : goal.unreachable-requires
unreachable-requires c =
    let ks = c.self.inside.front.now ++ c.self.inside.back.now in
    let lt : c.args.place < length (readable_among ks) = subst (λ (es : List Event). c.args.place < length es) (sym c.self.view_is) c.requires in
    sound-one ks c.args.place c.cell_at.result.now lt c.cell_at.ensures c.in-Contradiction.is

pub returns : goal.returns
returns c =
    let ks = c.self.inside.front.now ++ c.self.inside.back.now in
    let lt : c.args.place < length (readable_among ks) = subst (λ (es : List Event). c.args.place < length es) (sym c.self.view_is) c.requires in
    ap (λ (es : List Event). slice_get es c.args.place) (sym c.self.view_is) ∙ sound-here ks c.args.place c.cell_at.result.now c.in-One.event lt c.cell_at.ensures c.in-One.is
