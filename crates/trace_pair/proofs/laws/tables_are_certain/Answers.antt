use Rattle.std.proofs.Common.{refl}
use Rattle.trace_pair.specs.Table.{table_of}
use Rattle.trace_pair.proofs.Sure.{certain_table, legal_table, only_table}
use Rattle.trace_pair.proofs.laws.tables_are_certain.Goals as goal

pub returns-clause-certain : goal.returns-clause-certain
returns-clause-certain c = λ held own. certain_table held (table_of held) own refl

pub returns-clause-legal : goal.returns-clause-legal
returns-clause-legal c = λ held own all none_after. legal_table held (table_of held) own refl all none_after

pub returns-clause-only : goal.returns-clause-only
returns-clause-only c = λ held own all. only_table held (table_of held) own refl all
