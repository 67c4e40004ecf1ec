use Rattle.std.proofs.Common.{◌≡◌, ◌∙◌, Option, Ok, refl, sym, ap, subst, arith}
use Rattle.std.specs.Prelude.{IfSome}
use Rattle.std.specs.FinMap.{entries}
use Rattle.trace_know.specs.View.{View}
use Rattle.trace_wire.specs.declared.packed.fault.PackedFault.{PackedFault}
use Rattle.trace_wire.specs.Packed.{IsOfRanks, RefusesPacked}
use Rattle.trace_wire.specs.Reading.{ReadsFrame}
use Rattle.trace_wire.proofs.Framing.{reads_more, reads_none, reads_nothing, refused_next}
use Rattle.trace_wire.proofs.Sending.{leaves, leaves_both}
use Rattle.trace_wire.proofs.packed.reading.read_frames.Goals as goal

pub loop-frame-init : goal.loop-frame-init
loop-frame-init g c = record { reads = reads_none c.args.ranks _ c.new-all.result c.new-all.ensures; no_failure = refl; beside = leaves _ }

pub returns-in-Ok-None-clause-err : goal.returns-in-Ok-None-clause-err
returns-in-Ok-None-clause-err g c =
    let was = c.loop-frame.invariant in
    let end = c.in-Ok-None.ensures.end (ap (λ o. Ok o) c.in-Ok-None.field-0-is) in
    let first : c.loop-frame.frame ≡ 0 = omega arith in
    subst (λ (f : PackedFault). RefusesPacked c.args.ranks (g.R.Read.left c.args.reader.now) (g.R.Read.failures c.args.reader.now) (g.R.Read.failures c.next_of_ranks.new.reader) f) (sym c.refused.ensures)
    (c.in-Ok-None.ensures.no_failure ∙ was.no_failure, reads_nothing c.args.ranks _ _ c.loop-frame.all c.loop-frame.frame was.reads end first)

pub returns-in-Err-clause-err : goal.returns-in-Err-clause-err
returns-in-Err-clause-err g c =
    let was = c.loop-frame.invariant in
    refused_next c.args.ranks _ _ c.loop-frame.all c.loop-frame.frame _ _ _ c.in-Err.cause was.reads was.no_failure c.in-Err.ensures.err

pub loop-frame-preserved : goal.loop-frame-preserved
loop-frame-preserved g c =
    let laws = c.join_laws.ensures in
    let was = c.loop-frame.invariant in
    let left = g.R.Read.left c.loop-frame.reader in
    let new = g.R.Read.left c.next_of_ranks.new.reader in
    let reads : ReadsFrame left new (entries c.in-Ok-Some.know) = subst (λ (o : Option View). IfSome o (λ k. ReadsFrame left new (entries k))) c.in-Ok-Some.field-0-is c.in-Ok-Some.ensures.ok in
    let of : IsOfRanks c.args.ranks c.in-Ok-Some.know = subst (λ (o : Option View). IfSome o (λ k. IsOfRanks c.args.ranks k)) c.in-Ok-Some.field-0-is c.in-Ok-Some.ensures.of in
    record {
      reads = reads_more laws.associative laws.commutative laws.cells c.args.ranks _ left new c.loop-frame.all c.in-Ok-Some.know c.in-Ok.more c.loop-frame.frame was.reads reads of c.in-Ok.ensures;
      no_failure = c.in-Ok-Some.ensures.no_failure ∙ was.no_failure;
      beside = leaves_both _ _ _ was.beside c.in-Ok-Some.ensures.beside;
    }
