use Rattle.std.proofs.Common.{◌≡◌, ◌∙◌, ◌++◌, ap, subst, List, get_or}
use Rattle.std.specs.List.{filter_map}
use Rattle.std.specs.Option.{option_map}
use Rattle.mpi_model.specs.declared.message.Message.{Message}
use Rattle.mpi_model.specs.declared.message.Receive.{Receive}
use Rattle.trace_ops.specs.Ops.{Ops}
use Rattle.trace_ops.specs.Order.{Has}
use Rattle.trace_pair.specs.After.{comes_after}
use Rattle.trace_pair.specs.Followed.{Indexes}
use Rattle.trace_pair.specs.Pairing.{receive_of}
use Rattle.trace_pair.specs.Table.{pair_of, postponed_name, sends_of, receives_of}
use Rattle.trace_pair.proofs.Tabled.{rows_more, has_part}
use Rattle.trace_pair.proofs.rows.Rows.of_held.Goals as goal

pub loop-own-preserved : goal.loop-own-preserved
loop-own-preserved c =
    let i = c.loop-own.own-index in
    let lt = c.loop-own-test.true in
    let held = c.args.held.now in
    let d = c.own-item.result in
    let ms = sends_of held in
    let qs = receives_of held in
    let e : c.sends.result.now ≡ (get_or held i d).sends = c.sends.ensures ∙ ap (λ (o : Ops). o.sends) c.own-item.is in
    let member : (m : Message) → Has c.sends.result.now m → Has ms m = λ m h. has_part (λ o. o.sends) held i d m lt (subst (λ (l : List Message). Has l m) e h) in
    let state = c.args.state.now in
    let some = c.sends.result.now in
    let of_pairs = subst (λ (os : List Ops). (ms : List Message) (qs : List Receive) → Indexes (comes_after os) ms qs state → ((m : Message) → Has some m → Has ms m) →
    c.add_all.new.self.pairs ≡ c.loop-own.rows.pairs ++ filter_map (λ m. option_map (pair_of m) (receive_of (comes_after os) ms qs m)) some) c.new-reaches.ensures c.in_ok-add_all.ensures.pairs in
    let of_postponed = subst (λ (os : List Ops). (ms : List Message) (qs : List Receive) → Indexes (comes_after os) ms qs state → ((m : Message) → Has some m → Has ms m) →
    c.add_all.new.self.postponed ≡ c.loop-own.rows.postponed ++ filter_map (postponed_name (comes_after os) ms qs) some) c.new-reaches.ensures c.in_ok-add_all.ensures.postponed in
    record {
      pairs = λ x. rows_more (λ o. o.sends) (λ m. option_map (pair_of m) (receive_of (comes_after held) ms qs m)) c.loop-own.rows.pairs c.add_all.new.self.pairs held i d lt (c.loop-own.invariant.pairs x)
          (of_pairs ms qs x member ∙ ap (λ (l : List Message). c.loop-own.rows.pairs ++ filter_map (λ m. option_map (pair_of m) (receive_of (comes_after held) ms qs m)) l) e);
      postponed = λ x. rows_more (λ o. o.sends) (postponed_name (comes_after held) ms qs) c.loop-own.rows.postponed c.add_all.new.self.postponed held i d lt (c.loop-own.invariant.postponed x)
          (of_postponed ms qs x member ∙ ap (λ (l : List Message). c.loop-own.rows.postponed ++ filter_map (postponed_name (comes_after held) ms qs) l) e);
    }
