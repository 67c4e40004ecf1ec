use Rattle.std.proofs.Common.{◌≡◌, ◌++◌, filter, map, take}
use Rattle.std.specs.Prelude.{All}
use Rattle.trace_arguments.specs.Arguments.{HasGroups, comparison, headed, heading_of, is_told}
use Rattle.trace_arguments.proofs.arguments.push_lines.Given as goal

abbrev pub invariant-loop-line : goal.invariant-loop-line
invariant-loop-line l = record {
  headings : map heading_of l.told.items ≡ map heading_of l.fn.told.items ++ map (headed l.function) (filter (is_told l.layout l.entries l.calls) (map (comparison l.round l.root) (take l.line-index l.lines)));
  groups : All (HasGroups l.layout l.entries l.calls) l.fn.told.items → All (HasGroups l.layout l.entries l.calls) l.told.items;
}
