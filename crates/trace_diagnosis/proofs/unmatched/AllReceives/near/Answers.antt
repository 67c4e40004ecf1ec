use Rattle.std.proofs.Common.{◌≡◌, ◌∙◌, ◌++◌, List, ap}
use Rattle.mpi_model.specs.declared.message.Receive.{Receive}
use Rattle.diagnosis_value.specs.declared.diagnosis.NearReceive.{NearReceive}
use Rattle.diagnosis_value.specs.declared.diagnosis.Why.TheVariants.{Idle}
use Rattle.trace_diagnosis.specs.Missed.{IsReceiveOf, nearest_receives}
use Rattle.trace_diagnosis.specs.Ways.{why_of}
use Rattle.trace_diagnosis.specs.declared.near.Way.{Way}
use Rattle.trace_diagnosis.proofs.Telling.{four_told}
use Rattle.trace_diagnosis.proofs.unmatched.AllReceives.near.Goals as goal

pub returns : goal.returns
returns c =
    let told : Way × List Receive → List NearReceive = λ t. nearest_receives (why_of t.0) c.args.m.now t.1 in
    let grown : (old new : List NearReceive) (t u : Way × List Receive) → t ≡ u → new ≡ old ++ told t → new ≡ old ++ told u = λ old new t u e p. p ∙ ap (λ v. old ++ told v) e in
    let among = c.requires in
    four_told (IsReceiveOf Idle c.args.m.now) c.new-near.result.items _ _ _ _ _ _ _ _ _ c.new-near.ensures.items
    (grown _ _ _ _ among.tag c.in_ok-push_near_receives.ensures) (grown _ _ _ _ among.comm c.in_ok-push_near_receives-2.ensures)
    (grown _ _ _ _ among.source c.in_ok-push_near_receives-3.ensures) (grown _ _ _ _ among.dest c.in_ok-push_near_receives-4.ensures) c.in_ok-push_idle.ensures
