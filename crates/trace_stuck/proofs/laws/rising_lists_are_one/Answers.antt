use Rattle.trace_stuck.proofs.Rising.{one_list}
use Rattle.trace_stuck.proofs.laws.rising_lists_are_one.Goals as goal

pub returns : goal.returns
returns c = one_list
