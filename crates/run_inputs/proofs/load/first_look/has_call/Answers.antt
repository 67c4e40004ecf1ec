use Rattle.std.proofs.Common.{rules, ◌≡◌, ◌<◌, length, true}
use Rattle.run_inputs.specs.Looks.{begins_call}
use Rattle.run_inputs.proofs.Looks.{call_at}
use Rattle.run_inputs.proofs.load.first_look.has_call.Goals as goal

pub returns-then-begins_call : goal.returns-then-begins_call
returns-then-begins_call c =
    let less : c.loop-i.i < length c.args.front.now = search rules in
    let begins : begins_call c.args.front.now c.loop-i.i ≡ true = search rules in
    call_at c.args.front.now c.loop-i.i less begins
