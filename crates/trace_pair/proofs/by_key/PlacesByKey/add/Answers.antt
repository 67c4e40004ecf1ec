use Rattle.std.proofs.Common.{◌≡◌, ◌++◌, ◌∷◌, [], ℕ, List, cond, subst, sym}
use Rattle.std.specs.Ordering.{is_eq}
use Rattle.std.specs.Prelude.{slice_set}
use Rattle.trace_pair.specs.ByKey.{HasNoRow, by_key}
use Rattle.trace_pair.specs.Waiting.{Keyed, places_at}
use Rattle.trace_pair.proofs.Keyed.{changed_at, free_at_key, lent, on_ok, rows_written}
use Rattle.trace_pair.proofs.by_key.PlacesByKey.add.Goals as goal

pub put_first-requires : goal.put_first-requires
put_first-requires g c =
    subst (λ (l : Keyed g.row.K.Denot). HasNoRow g.K.Ord.cmp l c.args.key) c.self.view_is (free_at_key g.K.Ord.cmp c.self.inside.rows.items c.self.inside.index c.args.key c.in_default.ensures.told)

pub invariant_of-self : goal.invariant_of-self
invariant_of-self g c =
    let rows = c.self.inside.rows.items in
    let told = sym c.in-Some.ensures.told in
    rows_written g.met.K.Ord.total rows c.self.inside.index c.self.invariant c.args.key c.in-Some.row told c.index_mut.result.now c.push_in.new.row
    (lent g.met.K.Ord.total rows c.self.inside.index c.self.invariant c.args.key c.in-Some.row told c.index_mut.result.now c.index_mut.ensures.value) c.push_in.ensures.key

pub returns : goal.returns
returns g c =
    let cmp = g.K.Ord.cmp in
    let rows = c.self.inside.rows.items in
    let told = sym c.in-Some.ensures.told in
    let stood = lent g.met.K.Ord.total rows c.self.inside.index c.self.invariant c.args.key c.in-Some.row told c.index_mut.result.now c.index_mut.ensures.value in
    on_ok c.push_in.result
    (λ pushed. subst
    (λ (old : Keyed g.row.K.Denot). (k : g.row.K.Denot) → places_at cmp (by_key (slice_set rows c.in-Some.row c.push_in.new.row) c.self.inside.index) k ≡ cond (is_eq (cmp c.args.key k)) (places_at cmp old k ++ c.args.place ∷ []) (places_at cmp old k))
    c.self.view_is
    (changed_at g.met.K.Ord.total rows c.self.inside.index c.self.invariant c.args.key c.in-Some.row told c.index_mut.result.now c.push_in.new.row stood (λ (l : List ℕ). l ++ c.args.place ∷ []) pushed))
    c.push_in.ensures.pushed
