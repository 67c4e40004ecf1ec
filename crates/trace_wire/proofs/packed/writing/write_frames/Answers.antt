use Rattle.std.proofs.Common.{ℕ, ◌∙◌, List, take, refl, ap, slice_index_or}
use Rattle.std.specs.FinMap.{entries}
use Rattle.mpi_model.specs.Failures.{one_more}
use Rattle.trace_wire.specs.declared.packed.plan.PartSize.{PartSize}
use Rattle.trace_wire.specs.Frames.{frame}
use Rattle.trace_wire.proofs.Packing.{Next, next_part, packs_all, packs_front, packs_more, packs_none, stands_before}
use Rattle.trace_wire.proofs.Sending.{broke_off, came_out, leaves, leaves_both}
use Rattle.trace_wire.proofs.Unpacking.{packed_tells}
use Rattle.trace_wire.proofs.packed.writing.write_frames.Goals as goal

-- what stands past the last
abbrev none : PartSize
none = record { cells = 0; runs = 0; len = 0 }

pub loop-part-init : goal.loop-part-init
loop-part-init g c =
    let h = c.in-Ok.ensures.ok in
    record {
      packs = packs_none (entries c.args.knowledge.now) c.cells-cells.result c.deref-part-items.result.now _ (h.0, h.1, c.deref-part-items.ensures.value ∙ h.2) c.cells-cells.ensures;
      no_failure = refl;
      beside = leaves _;
    }

pub send_part-requires-clause-there : goal.send_part-requires-clause-there
send_part-requires-clause-there g c =
    let items : List PartSize = c.deref-part-items.result.now in
    let size : PartSize = slice_index_or items c.loop-part.part-index none in
    let p = c.loop-part.invariant.packs in
    let n : Next p.parts c.loop-part.part-index size = next_part p.parts items c.loop-part.part-index none size p.sized c.loop-part-test.true refl in
    (stands_before (entries c.args.knowledge.now) c.loop-part.cells items c.loop-part.part-index _ _ size p n).there

pub send_part-requires-clause-size : goal.send_part-requires-clause-size
send_part-requires-clause-size g c =
    let items : List PartSize = c.deref-part-items.result.now in
    let size : PartSize = slice_index_or items c.loop-part.part-index none in
    let p = c.loop-part.invariant.packs in
    let n : Next p.parts c.loop-part.part-index size = next_part p.parts items c.loop-part.part-index none size p.sized c.loop-part-test.true refl in
    (stands_before (entries c.args.knowledge.now) c.loop-part.cells items c.loop-part.part-index _ _ size p n).sized

pub returns-then-send_part-clause-err : goal.returns-then-send_part-clause-err
returns-then-send_part-clause-err g c =
    let items : List PartSize = c.deref-part-items.result.now in
    let size : PartSize = slice_index_or items c.loop-part.part-index none in
    let p = c.loop-part.invariant.packs in
    let n : Next p.parts c.loop-part.part-index size = next_part p.parts items c.loop-part.part-index none size p.sized c.loop-part-test.true refl in
    let broken = broke_off _ _ _ _ _ _ _ (frame (take size.cells c.loop-part.cells)) c.if-send_part.true c.send_part.ensures.sends in
    (packs_front (entries c.args.knowledge.now) c.loop-part.cells items c.loop-part.part-index _ _ _ size p n broken.0, broken.1 ∙ ap (λ (k : ℕ). one_more k) c.loop-part.invariant.no_failure)

pub loop-part-preserved : goal.loop-part-preserved
loop-part-preserved g c =
    let items : List PartSize = c.deref-part-items.result.now in
    let size : PartSize = slice_index_or items c.loop-part.part-index none in
    let p = c.loop-part.invariant.packs in
    let n : Next p.parts c.loop-part.part-index size = next_part p.parts items c.loop-part.part-index none size p.sized c.loop-part-test.true refl in
    let came = came_out _ _ _ _ _ _ _ (frame (take size.cells c.loop-part.cells)) c.if-send_part.false c.send_part.ensures.sends in
    record {
      packs = packs_more (entries c.args.knowledge.now) c.loop-part.cells c.send_part.new.cells items c.loop-part.part-index (g.W.Write.written c.args.writer.now) (g.W.Write.written c.loop-part.writer) (g.W.Write.written c.send_part.new.writer) size p n c.send_part.ensures.rest came.0;
      no_failure = came.1 ∙ c.loop-part.invariant.no_failure;
      beside = leaves_both _ _ _ c.loop-part.invariant.beside c.send_part.ensures.sends.beside;
    }

pub returns-clause-ok : goal.returns-clause-ok
returns-clause-ok g c = packs_all (entries c.args.knowledge.now) c.loop-part.cells c.deref-part-items.result.now c.loop-part.part-index _ _ c.loop-part.invariant.packs c.loop-part-test.false

pub returns-clause-again : goal.returns-clause-again
returns-clause-again g c = λ bytes ranks packed of.
    let laws = c.join_laws.ensures in
    packed_tells laws.cells laws.same_cells laws.unit c.args.knowledge.now bytes ranks c.in-Ok.ensures.cells packed of
