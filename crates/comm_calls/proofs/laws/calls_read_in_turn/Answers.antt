use Rattle.comm_calls.proofs.InTurn.{none_read, one_more_read, whole_read}
use Rattle.comm_calls.proofs.laws.calls_read_in_turn.Goals as goal

pub returns : goal.returns
returns c = record { none = none_read; one_more = one_more_read; whole = whole_read }
