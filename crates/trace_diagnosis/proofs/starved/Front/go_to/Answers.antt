use Rattle.std.proofs.Common.{List, subst, take}
use Rattle.mpi_model.specs.declared.message.Receive.{Receive}
use Rattle.trace_pair.specs.After.{comes_after}
use Rattle.trace_pair.specs.Ends.{AreLast}
use Rattle.trace_wait.specs.Ranks.{ops_of}
use Rattle.trace_diagnosis.specs.Listed.{listed, opened, passed_at}
use Rattle.trace_diagnosis.proofs.Fronting.{stay_taken}
use Rattle.trace_diagnosis.proofs.starved.Front.go_to.Goals as goal

pub returns-clause-front : goal.returns-clause-front
returns-clause-front c = λ ops lists same front.
    let old = c.args.self.now in
    record {
      last = subst (λ (qs : List Receive). AreLast (opened qs c.args.to) c.add_all_open.new.ends) same c.in_ok-add_all_open.ensures;
      passed = λ p. stay_taken (comes_after ops) (ops_of ops old.rank).receives old.place c.args.to (take (passed_at old.passed p) (listed lists p)) c.requires.order (front.passed p);
    }
