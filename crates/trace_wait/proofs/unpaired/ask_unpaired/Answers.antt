use Rattle.std.proofs.Common.{◌∙◌, sym, subst, List}
use Rattle.mpi_model.specs.declared.message.Receive.{Receive}
use Rattle.trace_pair.specs.Ends.{AreLast}
use Rattle.trace_pair.specs.Table.{given_by}
use Rattle.trace_wait.proofs.Free.{has_none, has_one, last_behind, passed_paired, passed_void, put_free}
use Rattle.trace_wait.proofs.unpaired.ask_unpaired.Goals as goal

pub returns-then-is_void : goal.returns-then-is_void
returns-then-is_void c = λ before last.
    subst (λ (l : List Receive). AreLast l c.args.asked.now) (passed_void c.args.pairs.now c.args.q.now before (sym c.is_void.ensures ∙ c.if-is_void.true)) last

pub returns-then-is_given : goal.returns-then-is_given
returns-then-is_given c = λ before last.
    let q = c.args.q.now in
    let pairs = c.args.pairs.now in
    subst (λ (l : List Receive). AreLast l c.args.asked.now) (passed_paired pairs q before (has_one (given_by pairs q.name) (sym c.is_given.ensures ∙ c.if-is_given.true))) last

pub returns : goal.returns
returns c = λ before last.
    let q = c.args.q.now in
    let pairs = c.args.pairs.now in
    subst (λ (l : List Receive). AreLast l c.insert.new.self)
    (put_free pairs q before (sym c.is_void.ensures ∙ c.if-is_void.false) (has_none (given_by pairs q.name) (sym c.is_given.ensures ∙ c.if-is_given.false)))
    (last_behind before q c.insert.new.self (c.in_ok-insert.ensures.more before last))
