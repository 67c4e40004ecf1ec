use Rattle.std.proofs.Common.{◌≡◌, ◌⊎◌, inl, inr, sym, subst}
use Rattle.trace_cluster.specs.declared.side.Side.TheVariants as sides
use Rattle.trace_know.specs.View.{View}
use Rattle.trace_node.specs.Node.{IsWithin}
use Rattle.command_runs.specs.Clusters.{IsFaultFor}
use Rattle.command_runs.specs.NodeTexts.{AreShares, RefusesBytes}
use Rattle.command_runs.specs.Packed.{RefusesFirstPacked, TellPacked}
use Rattle.command_runs.specs.Shares.{TellShares, told_to}
use Rattle.run_inputs.specs.declared.faults.fault.RunFault.TheVariants.{Memory}
use Rattle.command_runs.proofs.OwnPieces.{own_known}
use Rattle.command_runs.proofs.PackedShares.{shares_known}
use Rattle.command_runs.proofs.Runs.{handed_on}
use Rattle.command_runs.proofs.Stops.{named_one, stopped}
use Rattle.command_runs.proofs.Unread.{stopped_untold}
use Rattle.command_runs.proofs.verbs.cluster.nodes_of.Goals as goal

pub cluster-requires-clause-first : goal.cluster-requires-clause-first
cluster-requires-clause-first g c κs below =
    subst (λ (v : View). IsWithin c.args.run.now.layout.now v) (sym (c.in_ok-texts.ensures.known sides.First)) (c.in_ok-packed.ensures.within sides.First)

pub cluster-requires-clause-second : goal.cluster-requires-clause-second
cluster-requires-clause-second g c κs below =
    subst (λ (v : View). IsWithin c.args.run.now.layout.now v) (sym (c.in_ok-texts.ensures.known sides.Second)) (c.in_ok-packed.ensures.within sides.Second)

pub returns-in_err-packed-clause-err : goal.returns-in_err-packed-clause-err
returns-in_err-packed-clause-err g c =
    let file = g.O.Opener.file c.args.run.now.files.now in
    let m = c.args.run.now.manifest.now in
    let fault = c.in_err-packed.field-0.0 in
    let refuses : (fault ≡ Memory) ⊎ RefusesFirstPacked file c.args.run.now.layout.now.ranks m.packed fault = rw c.packed.ensures at c.in_err-packed.ensures.err in
    handed_on c.from_residual.result _ _ c.from_residual.ensures.1 (elim refuses [
      | inl memory ↦ inl memory
      | inr first ↦ inr (inl first)
    ])

pub returns-in_err-texts-clause-err : goal.returns-in_err-texts-clause-err
returns-in_err-texts-clause-err g c =
    let file = g.O.Opener.file c.args.run.now.files.now in
    let m = c.args.run.now.manifest.now in
    let fault = c.in_err-texts.field-0.0 in
    let tell : (view : View) × TellPacked file c.args.run.now.layout.now.ranks m.packed view = rw c.packed.ensures at c.in_ok-packed.ensures.together in
    let refuses : RefusesBytes _ file m.pieces fault = rw c.pieces-pieces.ensures at c.in_err-texts.ensures.err in
    handed_on c.from_residual-in_err-texts.result _ _ c.from_residual-in_err-texts.ensures.1 (inr (inr (tell, inl refuses)))

pub returns-in-Ok-clause-ok : goal.returns-in-Ok-clause-ok
returns-in-Ok-clause-ok g c =
    let file = g.O.Opener.file c.args.run.now.files.now in
    let l = c.args.run.now.layout.now in
    let m = c.args.run.now.manifest.now in
    let are : AreShares file m.pieces c.in_ok-texts.texts = rw c.pieces-pieces.ensures at c.in_ok-texts.ensures.ok in
    let tell : TellShares file l.ranks m.packed (told_to c.in_ok-packed.packed) = rw c.packed.ensures at c.in_ok-packed.ensures.ok in
    let known = c.in-Ok.ensures.ok in (
      known.0.layout_is,
      known.1.layout_is,
      own_known c.whole_segments.ensures file l m.pieces c.in_ok-texts.texts c.in-Ok.nodes.0 c.in-Ok.nodes.1 are known.0 known.1,
      shares_known file l m.packed c.in_ok-packed.packed c.in_ok-texts.texts c.in-Ok.nodes.0 c.in-Ok.nodes.1 tell c.in_ok-texts.ensures.known known.0 known.1,
    )

pub fault_of-requires : goal.fault_of-requires
fault_of-requires g c =
    let file = g.O.Opener.file c.args.run.now.files.now in
    record { named = named_one file c.args.run.now.layout.now c.pieces-pieces.result.now c.in_ok-texts.texts c.in-Err.fault c.in_ok-texts.ensures.ok c.in-Err.ensures.err }

pub returns-clause-err : goal.returns-clause-err
returns-clause-err g c =
    let file = g.O.Opener.file c.args.run.now.files.now in
    let l = c.args.run.now.layout.now in
    let m = c.args.run.now.manifest.now in
    let run = c.in_ok-fault_of-in-Err.field-0 in
    let are : AreShares file m.pieces c.in_ok-texts.texts = rw c.pieces-pieces.ensures at c.in_ok-texts.ensures.ok in
    let tell : (view : View) × TellPacked file l.ranks m.packed view = rw c.packed.ensures at c.in_ok-packed.ensures.together in
    let is : IsFaultFor m.pieces c.in-Err.fault run = rw c.pieces-pieces.ensures at c.in_ok-fault_of-in-Err.ensures in
    inr (inr (tell, inr (stopped c.whole_segments.ensures file l m.pieces c.in_ok-texts.texts c.in-Err.fault run are c.in-Err.ensures.err is)))

pub returns-clause-failed : goal.returns-clause-failed
returns-clause-failed g c =
    stopped_untold c.args.run.now.layout.now c.pieces-pieces.result.now _ c.in-Err.fault c.in_ok-fault_of-in-Err.field-0 c.in-Err.ensures.err c.in_ok-fault_of-in-Err.ensures
