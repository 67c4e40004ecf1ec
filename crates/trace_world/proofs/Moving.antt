-- One node among the nodes of a world joins more, is refreshed or starts anew.
use Rattle.std.proofs.Common.{◌≡◌, ◌<◌, ℕ, zero, suc, Bool, true, false, Ok, Err, OnOk, OnErr, Some, Result, List, [], ◌∷◌, length, get_or, set, refl, sym, ap, ◌∙◌, ◌≤◌, ◌+◌, ◌≢◌, arith, ⊎_elim, ◌⊎◌}
use Rattle.std.specs.Prelude.{slice_set, slice_index_or, replicate}
use Rattle.std.specs.List.{slice_get}
use Rattle.std.specs.Option.{option_map}
use Rattle.std.specs.FinMap.{empty}
use Rattle.std.proofs.lemmas.List.{map-set, length-set, get_or-replicate}
use Rattle.std.proofs.lemmas.List as lists
use Rattle.std.proofs.lemmas.Option.{slice_get-map, slice_get-get_or}
use Rattle.std.proofs.Math.Seq.{map-set_same}
use Rattle.mpi_model.specs.Layouts.{Parts}
use Rattle.trace_know.specs.View.{View, join}
use Rattle.trace_node.specs.Node.{Held, held}
use Rattle.trace_world.specs.declared.step.WorldFault.{WorldFault}
use Rattle.trace_world.specs.declared.step.WorldFault.TheVariants.{NoNode, NoMail, EmptyInbox, Rank, FrameLength, Stale, NodeCount, Memory}
use Rattle.trace_world.specs.Shows.{knows}
use Rattle.trace_world.specs.Moves.{Holds, Joined, SameKnown, joined}
use Rattle.trace_world.specs.Refusals.{stale, is_done, NoneStaler}
use Rattle.trace_world.specs.Worlds.{layouts}

pub joins : (nodes : List Held) (node : ℕ) (old new : Held) (more : View) (is_stale : Bool) → node < length nodes → old ≡ get_or nodes node old → new ≡ held old.layout (join old.know more) is_stale
    → Joined nodes node more is_stale (slice_set nodes node new)
joins nodes node old new more is_stale lt is e = record {
  knows =
      map-set (λ (n : Held). n.know) nodes node new
      ∙ ap (set (knows nodes) node) (ap (λ (n : Held). n.know) e ∙ ap (λ k. join k more) (ap (λ (n : Held). n.know) is ∙ sym (lists.get_or-map (λ (n : Held). n.know) nodes node old empty lt)));
  stale = map-set (λ (n : Held). n.is_stale) nodes node new ∙ ap (set (stale nodes) node) (ap (λ (n : Held). n.is_stale) e);
  layouts = map-set_same (λ (n : Held). n.layout) nodes node new old (ap (λ (n : Held). n.layout) e ∙ ap (λ (n : Held). n.layout) is);
}

-- whether a node has an answer, among the nodes
pub stale_at : (nodes : List Held) (node : ℕ) (old : Held) → node < length nodes → old ≡ get_or nodes node old → old.is_stale ≡ false → slice_index_or (stale nodes) node true ≡ false
stale_at nodes node old lt is fresh = lists.get_or-map (λ (n : Held). n.is_stale) nodes node old true lt ∙ ap (λ (n : Held). n.is_stale) (sym is) ∙ fresh

-- the layout of a node, among the nodes
pub layout_at : (nodes : List Held) (node : ℕ) (old : Held) → node < length nodes → old ≡ get_or nodes node old → slice_get (layouts nodes) node ≡ Some old.layout
layout_at nodes node old lt is = slice_get-map (λ (n : Held). n.layout) nodes node ∙ ap (option_map (λ (n : Held). n.layout)) (slice_get-get_or nodes node old lt) ∙ ap (λ (n : Held). Some n.layout) (sym is)

-- where a step was done, its node has joined more
pub learned : (old new : List Held) (node : ℕ) (more : View) (result : Result (Unit {0}) WorldFault) → Holds old node more result new → is_done result ≡ true → knows new ≡ joined (knows old) node more
learned old new node more (Ok x) h d = h.1.knows
learned old new node more (Err Memory) h d = let x : false ≡ true = d in absurd (cc)
learned old new node more (Err Stale) h d = absurd h
learned old new node more (Err NoNode) h d = absurd h
learned old new node more (Err NoMail) h d = absurd h
learned old new node more (Err EmptyInbox) h d = absurd h
learned old new node more (Err Rank) h d = absurd h
learned old new node more (Err FrameLength) h d = absurd h
learned old new node more (Err NodeCount) h d = absurd h

-- a node that has an answer, or none, in the place of one
pub answers_now : (nodes : List Held) (node : ℕ) (new : Held) (is_stale : Bool) → new.is_stale ≡ is_stale → stale (slice_set nodes node new) ≡ slice_set (stale nodes) node is_stale
answers_now nodes node new is_stale e = map-set (λ (n : Held). n.is_stale) nodes node new ∙ ap (λ b. set (stale nodes) node b) e

-- a node that made its answer, or had no memory for it, knows the same
pub caught : {E : Type 0} (r : Result (Unit {0}) E) (old new : Held) → OnOk r (new ≡ held old.layout old.know false) → OnErr r (new ≡ held old.layout old.know true) → (new.know ≡ old.know) × (new.layout ≡ old.layout)
caught (Ok x) old new ok err = (ap (λ (n : Held). n.know) ok, ap (λ (n : Held). n.layout) ok)
caught (Err x) old new ok err = (ap (λ (n : Held). n.know) err, ap (λ (n : Held). n.layout) err)

pub caught_ok : {E : Type 0} (r : Result (Unit {0}) E) (nodes : List Held) (node : ℕ) (old new : Held) → OnOk r (new ≡ held old.layout old.know false) → OnOk r (stale (slice_set nodes node new) ≡ slice_set (stale nodes) node false)
caught_ok (Ok x) nodes node old new ok = answers_now nodes node new false (ap (λ (n : Held). n.is_stale) ok)
caught_ok (Err x) nodes node old new ok = ok

pub caught_err : {E : Type 0} (r : Result (Unit {0}) E) (nodes : List Held) (node : ℕ) (old new : Held) → OnErr r (new ≡ held old.layout old.know true) → OnErr r (stale (slice_set nodes node new) ≡ slice_set (stale nodes) node true)
caught_err (Ok x) nodes node old new err = err
caught_err (Err x) nodes node old new err = answers_now nodes node new true (ap (λ (n : Held). n.is_stale) err)

-- each node is of the one layout
pub of_layout : (layout : Parts) (nodes : List Held) (node : ℕ) (old : Held) → layouts nodes ≡ replicate (length nodes) layout → node < length nodes → old ≡ get_or nodes node old → old.layout ≡ layout
of_layout layout nodes node old one lt is =
    ap (λ (n : Held). n.layout) is ∙ sym (lists.get_or-map (λ (n : Held). n.layout) nodes node old layout lt) ∙ ap (λ l. get_or l node layout) one ∙ get_or-replicate (length nodes) node layout layout lt

-- another node of the one layout in the place of one
pub layouts_set : (layout : Parts) (nodes : List Held) (node : ℕ) (new : Held) → layouts nodes ≡ replicate (length nodes) layout → node < length nodes → new.layout ≡ layout
    → layouts (slice_set nodes node new) ≡ replicate (length (slice_set nodes node new)) layout
layouts_set layout nodes node new one lt e =
    map-set_same (λ (n : Held). n.layout) nodes node new new (e ∙ sym (of_layout layout nodes node (get_or nodes node new) one lt (lists.get_or_default nodes node new (get_or nodes node new) lt)))
    ∙ one ∙ ap (λ n. replicate n layout) (sym (length-set nodes node new))

-- what a node knows, among the nodes
pub know_at : (nodes : List Held) (node : ℕ) (old : Held) → node < length nodes → old ≡ get_or nodes node old → old.know ≡ slice_index_or (knows nodes) node empty
know_at nodes node old lt is = ap (λ (n : Held). n.know) is ∙ sym (lists.get_or-map (λ (n : Held). n.know) nodes node old empty lt)

-- a node that knows the same in the place of one
pub known_still : (nodes : List Held) (node : ℕ) (old new : Held) → old ≡ get_or nodes node old → new.know ≡ old.know → knows (slice_set nodes node new) ≡ knows nodes
known_still nodes node old new is e = map-set_same (λ (n : Held). n.know) nodes node new old (e ∙ ap (λ (n : Held). n.know) is)

-- a node of the same layout in the place of one
pub laid_still : (nodes : List Held) (node : ℕ) (old new : Held) → old ≡ get_or nodes node old → new.layout ≡ old.layout → layouts (slice_set nodes node new) ≡ layouts nodes
laid_still nodes node old new is e = map-set_same (λ (n : Held). n.layout) nodes node new old (e ∙ ap (λ (n : Held). n.layout) is)

-- a node that is as new in the place of one
pub renewed_knows : (nodes : List Held) (node : ℕ) (new : Held) (layout : Parts) → new ≡ held layout empty false → knows (slice_set nodes node new) ≡ slice_set (knows nodes) node empty
renewed_knows nodes node new layout e = map-set (λ (n : Held). n.know) nodes node new ∙ ap (λ (n : Held). set (knows nodes) node n.know) e

-- a false in the place of something leaves each false that was there
set_false : (xs : List Bool) (node i : ℕ) → slice_index_or xs i false ≡ false → slice_index_or (slice_set xs node false) i false ≡ false
set_false [] node i e = e
set_false (x ∷ xs) zero zero e = refl
set_false (x ∷ xs) zero (suc i) e = e
set_false (x ∷ xs) (suc node) zero e = e
set_false (x ∷ xs) (suc node) (suc i) e = set_false xs node i e

pub renewed_stale : (nodes : List Held) (node : ℕ) (new : Held) (layout : Parts) → new ≡ held layout empty false → NoneStaler nodes (slice_set nodes node new)
renewed_stale nodes node new layout e i fresh =
    ap (λ l. slice_index_or l i false) (map-set (λ (n : Held). n.is_stale) nodes node new ∙ ap (λ (n : Held). set (stale nodes) node n.is_stale) e) ∙ set_false (stale nodes) node i fresh

-- ---- each node makes its answer in turn

-- The first of the nodes have their answers, and all know what they knew.
pub record CaughtTo (old new : List Held) (done : ℕ) : Type 0 where
  pub same : SameKnown old new
  pub fresh : (i : ℕ) → i < done → slice_index_or (stale new) i false ≡ false

-- a false is where it was put
put_false : (xs : List Bool) (node : ℕ) → slice_index_or (slice_set xs node false) node false ≡ false
put_false [] node = refl
put_false (x ∷ xs) zero = refl
put_false (x ∷ xs) (suc node) = put_false xs node

-- a place below the next one is the last one, or below it
last_or_below : (i done : ℕ) → i < done + 1 → (i ≡ done) ⊎ (i < done)
last_or_below i done lt = grind (arith, lt)

pub same_known : (a b c : List Held) → SameKnown a b → SameKnown b c → SameKnown a c
same_known a b c f g = record { knows = g.knows ∙ f.knows; layouts = g.layouts ∙ f.layouts; count = g.count ∙ f.count }

-- one more has its answer
pub catches_next : (old mid new : List Held) (done : ℕ) → CaughtTo old mid done → SameKnown mid new → stale new ≡ slice_set (stale mid) done false → CaughtTo old new (done + 1)
catches_next old mid new done so_far same e = record {
  same = same_known old mid new so_far.same same;
  fresh = λ i lt. ap (λ l. slice_index_or l i false) e ∙ ⊎_elim (λ (is : i ≡ done). ap (λ j. slice_index_or (slice_set (stale mid) done false) j false) is ∙ put_false (stale mid) done) (λ (below : i < done). set_false (stale mid) done i (so_far.fresh i below)) (last_or_below i done lt);
}

-- a place is below, or past the end
below_or_past : (i n : ℕ) → (i < n) ⊎ (n ≤ i)
below_or_past i n = grind arith

-- all have their answers
pub caught_all : (old new : List Held) (done : ℕ) → CaughtTo old new done → length new ≤ done → (i : ℕ) → slice_index_or (stale new) i false ≡ false
caught_all old new done c le i = ⊎_elim (λ (lt : i < done). c.fresh i lt) (λ (past : done ≤ i). lists.get_or_past (stale new) i false (omega (arith, past, le, lists.length-map new (λ (n : Held). n.is_stale)))) (below_or_past i done)
