use Rattle.std.proofs.Common.{◌≡◌, length}
use Rattle.comm_makings.specs.Each.{EachIs}
use Rattle.comm_makings.specs.Objects.{given_before, handle_given}
use Rattle.comm_makings.proofs.object_view.given_of.Given as goal

abbrev pub invariant-loop-call : goal.invariant-loop-call
invariant-loop-call l = record {
  count : l.count ≡ given_before l.object l.calls l.call-index;
  each : EachIs l.given.items (handle_given l.object l.calls);
  length : length l.given.items ≡ l.call-index;
}
