use Rattle.std.proofs.Common.{List, ap, refl}
use Rattle.std.specs.Option.{option_map}
use Rattle.trace_pair.specs.After.{comes_after}
use Rattle.trace_pair.specs.Table.{receives_of, sends_of}
use Rattle.trace_pair.specs.declared.pair.Pair.{Pair}
use Rattle.trace_pair.proofs.Searched.{find_is, pairs_are}
use Rattle.trace_pair.proofs.Sure.{pair_has}
use Rattle.trace_pair.proofs.laws.pairs_are_found.Goals as goal

pub returns-clause-apart : goal.returns-clause-apart
returns-clause-apart c = λ held own. pairs_are held own

pub returns-clause-made : goal.returns-clause-made
returns-clause-made c = λ held p i.
    let v = pair_has (comes_after held) (sends_of held) (receives_of held) p i in
    record {
      message = v.0;
      sent = v.1;
      message_is = ap (λ (x : Pair). x.message) v.5;
      receive = v.2;
      posted = v.3;
      receive_is = ap (λ (x : Pair). x.receive) v.5;
    }

pub returns-clause-found : goal.returns-clause-found
returns-clause-found c = λ pairs are p i. record {
  at_message = ap (option_map (λ (r : Pair). r.receive)) (find_is (λ r. r.message) pairs are.one_message p.message p i refl);
  at_receive = ap (option_map (λ (r : Pair). r.message)) (find_is (λ r. r.receive) pairs are.one_receive p.receive p i refl);
}
