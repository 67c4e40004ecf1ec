use Rattle.std.proofs.Common.{◌∙◌, ap, cond, Option, Some}
use Rattle.std.specs.Ordering.{is_eq}
use Rattle.std.specs.Prelude.{ℕ}
use Rattle.std.specs.BTreeMap.{get}
use Rattle.trace_pair.specs.Ends.{with_end}
use Rattle.trace_pair.specs.KeyOrders.{receive_key_cmp, receive_key_of}
use Rattle.trace_pair.proofs.Latest.{last_more}
use Rattle.trace_pair.proofs.ends.Ends.insert.Goals as goal

pub returns-clause-more : goal.returns-clause-more
returns-clause-more c = λ opened s.
    let q = c.args.q.now in
    let old = c.args.self.now in
    last_more opened old s q _ c.marked-self.ensures
    (λ k. c.in_ok-insert.ensures.updates.0 k
    ∙ ap (λ (e : Option ℕ). cond (is_eq (receive_key_cmp (receive_key_of q) k)) (Some e) (get receive_key_cmp old.last k))
    (c.with_end-end.ensures ∙ ap (λ (o : Option (Option ℕ)). with_end o q.ended) (c.copied.ensures ∙ c.get.ensures.value)))
