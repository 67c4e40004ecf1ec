use Rattle.std.proofs.Common.{◌≡◌, ◌++◌, ◌∷◌, [], cond, subst, sym}
use Rattle.std.specs.Ordering.{is_eq}
use Rattle.trace_pair.specs.ByKey.{HasNoRow, by_key}
use Rattle.trace_pair.specs.Waiting.{Keyed, places_at}
use Rattle.trace_pair.proofs.Keyed.{free_in_index, put_at_key}
use Rattle.trace_pair.proofs.by_key.PlacesByKey.put_first.Goals as goal

pub put_row-requires-clause-free : goal.put_row-requires-clause-free
put_row-requires-clause-free g c =
    free_in_index g.K.Ord.cmp c.self.inside.rows.items c.self.inside.index c.args.key (subst (λ (l : Keyed g.row.K.Denot). HasNoRow g.K.Ord.cmp l c.args.key) (sym c.self.view_is) c.requires)

pub returns : goal.returns
returns g c =
    let cmp = g.K.Ord.cmp in
    let none = free_in_index cmp c.self.inside.rows.items c.self.inside.index c.args.key (subst (λ (l : Keyed g.row.K.Denot). HasNoRow cmp l c.args.key) (sym c.self.view_is) c.requires) in
    subst
    (λ (old : Keyed g.row.K.Denot). (k : g.row.K.Denot) → places_at cmp (by_key c.put_row.new.rows.items c.put_row.new.index) k ≡ cond (is_eq (cmp c.args.key k)) (places_at cmp old k ++ c.args.place ∷ []) (places_at cmp old k))
    c.self.view_is
    (put_at_key g.met.K.Ord.total c.self.inside.rows.items c.self.inside.index c.self.invariant (record { key = c.args.key; places = c.in_ok-places.places }) c.put_row.new.rows.items c.put_row.new.index none c.in_ok-put_row.ensures.put c.args.place c.in_ok-places.ensures)
