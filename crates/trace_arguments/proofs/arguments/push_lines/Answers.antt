use Rattle.std.proofs.Common.{List, filter, map}
use Rattle.call_arguments.specs.declared.table.Line.{Line}
use Rattle.trace_arguments.specs.Arguments.{comparison, headed, heading_of, is_told}
use Rattle.trace_arguments.proofs.Lists.{named_joins, one_more_behind}
use Rattle.trace_arguments.proofs.arguments.push_lines.Goals as goal

pub loop-line-preserved : goal.loop-line-preserved
loop-line-preserved c =
    let f = headed c.args.function in
    let told = is_told c.args.layout.now c.args.entries.now c.args.calls.now in
    let named = comparison c.args.round c.args.root in
    record {
      headings = one_more_behind (λ (ls : List Line). map f (filter told (map named ls))) (named_joins f told named) c.lines_of-lines.result.now c.loop-line.line-index _
          (map heading_of c.args.told.now.items) (map heading_of c.loop-line.told.items) _ c.loop-line-test.true c.loop-line.invariant.headings c.in_ok-push_line.ensures.headings;
      groups = λ all. c.in_ok-push_line.ensures.groups (c.loop-line.invariant.groups all);
    }
