use Rattle.std.proofs.Common.{◌≡◌, ◌∙◌, ◌++◌, List, ap}
use Rattle.mpi_model.specs.declared.message.Message.{Message}
use Rattle.mpi_model.specs.declared.message.Receive.{Receive}
use Rattle.diagnosis_value.specs.declared.diagnosis.NearMessage.{NearMessage}
use Rattle.trace_diagnosis.specs.Missed.{IsFitMessage, nearest_messages}
use Rattle.trace_diagnosis.specs.Ways.{why_of}
use Rattle.trace_diagnosis.specs.declared.near.Way.{Way}
use Rattle.trace_diagnosis.proofs.Telling.{among_table, four_told}
use Rattle.trace_diagnosis.proofs.unmatched.AllMessages.near.Goals as goal

pub returns : goal.returns
returns c =
    let told : Way × List Message × List Receive → List NearMessage = λ t. nearest_messages (why_of t.0) c.args.q.now t.1 in
    let grown : (old new : List NearMessage) (t u : Way × List Message × List Receive) → t ≡ u → new ≡ old ++ told t → new ≡ old ++ told u = λ old new t u e p. p ∙ ap (λ v. old ++ told v) e in
    let among = c.requires.tables in
    four_told (IsFitMessage c.args.q.now) c.new-near.result.items _ _ _ _ _ _ _ _ _ c.new-near.ensures.items
    (grown _ _ _ _ among.tag c.in_ok-push_near_messages.ensures) (grown _ _ _ _ among.comm c.in_ok-push_near_messages-2.ensures)
    (grown _ _ _ _ among.source c.in_ok-push_near_messages-3.ensures) (grown _ _ _ _ among.dest c.in_ok-push_near_messages-4.ensures) c.in_ok-push_fit.ensures

pub push_near_messages-requires : goal.push_near_messages-requires
push_near_messages-requires c = among_table c.args.found.now.starving.items c.args.q.now _ (ap (λ (t : Way × List Message × List Receive). t.2) c.requires.tables.tag) c.requires.among

pub push_near_messages-requires-2 : goal.push_near_messages-requires-2
push_near_messages-requires-2 c = among_table c.args.found.now.starving.items c.args.q.now _ (ap (λ (t : Way × List Message × List Receive). t.2) c.requires.tables.comm) c.requires.among

pub push_near_messages-requires-3 : goal.push_near_messages-requires-3
push_near_messages-requires-3 c = among_table c.args.found.now.starving.items c.args.q.now _ (ap (λ (t : Way × List Message × List Receive). t.2) c.requires.tables.source) c.requires.among

pub push_near_messages-requires-4 : goal.push_near_messages-requires-4
push_near_messages-requires-4 c = among_table c.args.found.now.starving.items c.args.q.now _ (ap (λ (t : Way × List Message × List Receive). t.2) c.requires.tables.dest) c.requires.among
