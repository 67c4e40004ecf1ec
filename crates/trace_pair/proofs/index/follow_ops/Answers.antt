use Rattle.std.specs.List.{All}
use Rattle.std.proofs.lemmas.List.Elements.{All-set}
use Rattle.std.proofs.Common.{◌<◌, ℕ, List, subst, sym, ◌∙◌, get_or}
use Rattle.trace_ops.specs.Ops.{Ops, no_ops}
use Rattle.trace_pair.specs.After.{comes_after}
use Rattle.trace_pair.specs.Calls.{IsSingle}
use Rattle.trace_pair.specs.Followed.{Adds, Drops}
use Rattle.trace_pair.specs.Fronts.{AreFronts}
use Rattle.trace_pair.specs.Reach.{AreReachesOf, IsCommunicating}
use Rattle.trace_pair.specs.declared.reach.RankReach.{RankReach}
use Rattle.trace_pair.proofs.Afterwards.{length_zip}
use Rattle.trace_pair.proofs.Switched.{set_moves}
use Rattle.trace_pair.proofs.index.follow_ops.Goals as goal

pub renew_rank-requires-clause-rank : goal.renew_rank-requires-clause-rank
renew_rank-requires-clause-rank c =
    let is = c.requires.followed in
    subst (λ (n : ℕ). c.args.rank < n) (length_zip IsCommunicating c.args.held.now.items c.args.state.table.items is.table) c.requires.rank

pub add_calls-requires-clause-table : goal.add_calls-requires-clause-table
add_calls-requires-clause-table c =
    let is = c.requires.followed in
    subst (λ (t : List RankReach). AreReachesOf c.deref-2.result.now t) (sym c.deref-3.ensures.value)
    (subst (λ (l : List Ops). AreReachesOf l c.renew_rank.new.table.items) (sym (c.deref-2.ensures.value ∙ c.put_ops.ensures)) (c.in_ok-renew_rank.ensures c.args.held.now.items is.table))

pub returns-clause-state : goal.returns-clause-state
returns-clause-state c =
    let held = c.args.held.now.items in
    let n = c.args.rank in
    let f = c.in_ok-fronts.fronts in
    let state = c.args.state in
    let is = c.requires.followed in
    let fronts = subst (λ (h : List Ops). AreFronts (get_or h n no_ops) c.args.ops f) c.deref.ensures.value c.in_ok-fronts.ensures.fronts in
    let drops = subst (λ (h : List Ops). Drops (get_or h n no_ops) f state.sets c.drop_calls.new.state) c.deref.ensures.value c.in_ok-fronts.ensures.state in
    let adds = subst (λ (h : List Ops). Adds (comes_after h) (get_or h n no_ops) f c.drop_calls.new.state c.add_calls.new.state) c.deref-2.ensures.value c.in_ok-add_calls.ensures in
    record {
      single = subst (λ (h : List Ops). All IsSingle h) (sym c.put_ops.ensures) (All-set IsSingle held n c.args.ops c.requires.single is.single);
      sets = set_moves held c.put_ops.new.held.items n c.args.ops f c.requires.held c.requires.own c.requires.rank c.put_ops.ensures fronts is.single c.requires.single state.sets c.drop_calls.new.state c.add_calls.new.state drops adds is.sets;
      table = subst (λ (l : List Ops). AreReachesOf l c.renew_rank.new.table.items) (sym c.put_ops.ensures) (c.in_ok-renew_rank.ensures held is.table);
    }
