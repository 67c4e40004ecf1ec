use Rattle.std.proofs.Common.{arith}
use Rattle.trace_pair.proofs.Fronts.{at_or_behind}
use Rattle.trace_pair.proofs.follow.last_common.Goals as goal

pub returns : goal.returns
returns c =
    let front = c.common_rounds-front.result in
    record {
      front = front;
      alike = c.common_rounds-front.ensures;
      first = λ x h. let le = at_or_behind c.args.a.now front c.requires.first x h in let e = c.earlier.ensures.first in let f = c.call_at.ensures in omega (arith, le, e, f);
      second = λ x h. let le = at_or_behind c.args.b.now front c.requires.second x h in let e = c.earlier.ensures.second in let f = c.call_at-2.ensures in omega (arith, le, e, f);
    }
