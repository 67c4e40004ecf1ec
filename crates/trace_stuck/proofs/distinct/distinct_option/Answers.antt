use Rattle.trace_stuck.proofs.Kept.{some_alike}
use Rattle.trace_stuck.proofs.distinct.distinct_option.Goals as goal

pub returns-in_ok-copy-in-Some : goal.returns-in_ok-copy-in-Some
returns-in_ok-copy-in-Some c = λ able. some_alike able c.in_ok-copy-in-Some.copy c.in-Some.told c.args.condition.now c.in-Some.is (c.in_ok-copy-in-Some.ensures able)
