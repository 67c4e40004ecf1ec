use Rattle.std.proofs.Common.{◌≡◌, ℕ, List, [], cond, subst, sym, ap, ◌∙◌}
use Rattle.std.specs.Ordering.{is_eq}
use Rattle.std.specs.Prelude.{slice_set}
use Rattle.trace_pair.specs.ByKey.{by_key}
use Rattle.trace_pair.specs.Waiting.{Keyed, from_waiting, places_at, sole_or_first}
use Rattle.trace_pair.proofs.Keyed.{changed_at, lent, none_at_key, none_passed, none_told, rows_written, stands_at_key}
use Rattle.trace_pair.proofs.by_key.PlacesByKey.sole_at.Goals as goal

pub returns-in_default-clause-sole : goal.returns-in_default-clause-sole
returns-in_default-clause-sole g c =
    none_told c.args.plain c.args.messages.now c.args.takers.now _
    (subst (λ (l : Keyed g.row.K.Denot). places_at g.K.Ord.cmp l c.args.key.now ≡ []) c.self.view_is (none_at_key g.K.Ord.cmp c.self.inside.rows.items c.self.inside.index c.args.key.now c.in_default.ensures.told))

pub returns-in_default-clause-left : goal.returns-in_default-clause-left
returns-in_default-clause-left g c =
    let cmp = g.K.Ord.cmp in
    let ts = c.args.takers.now in
    subst (λ (l : Keyed g.row.K.Denot). (k : g.row.K.Denot) → places_at cmp l k ≡ cond (is_eq (cmp c.args.key.now k)) (from_waiting ts (places_at cmp l k)) (places_at cmp l k)) c.self.view_is
    (none_passed g.met.K.Ord.total ts c.self.inside.rows.items c.self.inside.index c.args.key.now c.in_default.ensures.told)

pub invariant_of-self : goal.invariant_of-self
invariant_of-self g c =
    let rows = c.self.inside.rows.items in
    let told = sym c.in-Some.ensures.told in
    rows_written g.met.K.Ord.total rows c.self.inside.index c.self.invariant c.args.key.now c.in-Some.row told c.index_mut.result.now c.sole_in.new.row
    (lent g.met.K.Ord.total rows c.self.inside.index c.self.invariant c.args.key.now c.in-Some.row told c.index_mut.result.now c.index_mut.ensures.value) c.sole_in.ensures.key

pub returns-clause-sole : goal.returns-clause-sole
returns-clause-sole g c =
    let rows = c.self.inside.rows.items in
    let ts = c.args.takers.now in
    let told = sym c.in-Some.ensures.told in
    let stood = lent g.met.K.Ord.total rows c.self.inside.index c.self.invariant c.args.key.now c.in-Some.row told c.index_mut.result.now c.index_mut.ensures.value in
    c.sole_in.ensures.sole ∙ ap (λ (l : List ℕ). sole_or_first c.args.plain c.args.messages.now ts (from_waiting ts l))
    (stands_at_key g.met.K.Ord.total rows c.self.inside.index c.self.invariant c.args.key.now c.in-Some.row told c.index_mut.result.now stood ∙ ap (λ (l : Keyed g.row.K.Denot). places_at g.K.Ord.cmp l c.args.key.now) c.self.view_is)

pub returns-clause-left : goal.returns-clause-left
returns-clause-left g c =
    let cmp = g.K.Ord.cmp in
    let rows = c.self.inside.rows.items in
    let ts = c.args.takers.now in
    let told = sym c.in-Some.ensures.told in
    let stood = lent g.met.K.Ord.total rows c.self.inside.index c.self.invariant c.args.key.now c.in-Some.row told c.index_mut.result.now c.index_mut.ensures.value in
    subst
    (λ (old : Keyed g.row.K.Denot). (k : g.row.K.Denot) → places_at cmp (by_key (slice_set rows c.in-Some.row c.sole_in.new.row) c.self.inside.index) k ≡ cond (is_eq (cmp c.args.key.now k)) (from_waiting ts (places_at cmp old k)) (places_at cmp old k))
    c.self.view_is
    (changed_at g.met.K.Ord.total rows c.self.inside.index c.self.invariant c.args.key.now c.in-Some.row told c.index_mut.result.now c.sole_in.new.row stood (λ (l : List ℕ). from_waiting ts l) c.sole_in.ensures.left)
