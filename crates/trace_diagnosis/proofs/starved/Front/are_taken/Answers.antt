use Rattle.std.proofs.Common.{◌≡◌, ◌∙◌, ℕ, List, ap, sym, take, true}
use Rattle.std.specs.List.{list_all}
use Rattle.mpi_model.specs.declared.message.Message.{Message}
use Rattle.trace_pair.specs.After.{comes_after}
use Rattle.trace_pair.specs.Ends.{may_take}
use Rattle.trace_wait.specs.Ranks.{ops_of}
use Rattle.trace_diagnosis.specs.Listed.{opened, passed_at}
use Rattle.trace_diagnosis.proofs.Fronting.{passed_next}
use Rattle.trace_diagnosis.proofs.starved.Front.are_taken.Goals as goal

pub returns-clause-front : goal.returns-clause-front
returns-clause-front c =
    let old = c.args.self.now in
    let ops = c.args.reaches.now in
    let lists = c.args.lists.now in
    let free = opened (ops_of ops old.rank).receives old.place in
    let taken = may_take (comes_after ops) free in
    let messages = c.listed-messages.result.now in
    let had : list_all taken (take c.passed_at-from.result messages) ≡ true =
    ap (λ (n : ℕ). list_all taken (take n messages)) c.passed_at-from.ensures
    ∙ ap (λ (l : List Message). list_all taken (take (passed_at old.passed c.args.pattern) l)) c.listed-messages.ensures ∙ c.requires.passed c.args.pattern in
    let first = c.first_free-first.ensures free c.requires.last had in
    record {
      last = c.requires.last;
      passed = passed_next taken lists old.passed c.insert.new.self c.args.pattern c.first_free-first.result c.in_ok-insert.ensures.updates c.requires.passed
          (ap (λ (l : List Message). list_all taken (take c.first_free-first.result l)) (sym c.listed-messages.ensures) ∙ first.0);
    }

pub returns-clause-taken : goal.returns-clause-taken
returns-clause-taken c =
    let old = c.args.self.now in
    let ops = c.args.reaches.now in
    let free = opened (ops_of ops old.rank).receives old.place in
    let taken = may_take (comes_after ops) free in
    let messages = c.listed-messages.result.now in
    let had : list_all taken (take c.passed_at-from.result messages) ≡ true =
    ap (λ (n : ℕ). list_all taken (take n messages)) c.passed_at-from.ensures
    ∙ ap (λ (l : List Message). list_all taken (take (passed_at old.passed c.args.pattern) l)) c.listed-messages.ensures ∙ c.requires.passed c.args.pattern in
    let first = c.first_free-first.ensures free c.requires.last had in
    first.1 ∙ ap (list_all taken) c.listed-messages.ensures
