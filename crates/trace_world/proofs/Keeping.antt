-- What holds of every world stays after each step.
use Rattle.std.proofs.Common.{◌≡◌, ◌≢◌, ◌⊎◌, Ok, Err, false, OnOk, IfErr, zero, suc, ◌<◌, ◌≤◌, ℕ, subst, List, [], ◌∷◌, ◌++◌, length, map, drop, get_or, set, refl, sym, ap, ◌∙◌, arith, ⊎_elim, inl, inr}
use Rattle.std.specs.Prelude.{slice_set, slice_index_or, Result, replicate}
use Rattle.std.specs.FinMap.{empty, entries}
use Rattle.std.proofs.lemmas.Bool.{cases_order}
use Rattle.std.proofs.lemmas.List.{get_or-set_same, get_or-set_other, length-append, length-map, length-set, length-replicate}
use Rattle.std.proofs.Math.ListN.{get_or-append}
use Rattle.std.proofs.Math.Seq.{get_or-append_seam}
use Rattle.mpi_model.specs.Layouts.{Parts}
use Rattle.trace_know.specs.Segment.{PlacedEvents}
use Rattle.trace_world.specs.Schedule.{at, opening}
use Rattle.trace_know.specs.View.{View}
use Rattle.trace_node.specs.Node.{Held, held, IsWithin}
use Rattle.trace_wire.specs.Frames.{frame_of, HasFrame}
use Rattle.trace_world.specs.declared.step.WorldFault.{WorldFault}
use Rattle.trace_world.specs.declared.step.WorldFault.TheVariants.{Memory}
use Rattle.trace_world.proofs.Following.{OneFrameLaw}
use Rattle.trace_world.proofs.Moving.{layouts_set}
use Rattle.trace_world.specs.Shows.{most_nodes, Shows, world_state, knows, knowledge_of}
use Rattle.trace_world.specs.Refusals.{stale}
use Rattle.trace_world.specs.Worlds.{AreWithin, IsWithinFrame, IsWorld, layouts}

-- two numbers are equal or not
pub same_or_not : (i j : ℕ) → (i ≡ j) ⊎ (i ≢ j)
same_or_not i j =
    ⊎_elim (λ (e : i ≡ j). inl e)
    (λ (h : (i < j) ⊎ (j < i)). ⊎_elim (λ (lt : i < j). inr (λ e. omega (arith, lt, e))) (λ (gt : j < i). inr (λ e. omega (arith, gt, e))) h)
    (cases_order i j)

pub within-append : (layout : Parts) (segments : List PlacedEvents) (segment : PlacedEvents) → AreWithin layout segments → segment.rank < layout.ranks → AreWithin layout (segments ++ segment ∷ [])
within-append layout [] segment h lt = (lt, tt)
within-append layout (s ∷ segments) segment h lt = (h.0, within-append layout segments segment h.1 lt)

pub within-drop : (layout : Parts) (segments : List PlacedEvents) → AreWithin layout segments → AreWithin layout (drop 1 segments)
within-drop layout [] h = h
within-drop layout (s ∷ segments) h = h.1

pub within-front : (layout : Parts) (segments : List PlacedEvents) (segment : PlacedEvents) → segments ≡ segment ∷ drop 1 segments → AreWithin layout segments → segment.rank < layout.ranks
within-front layout segments segment e h = (subst (AreWithin layout) e h).0

-- one inbox has changed
pub within-set : (layout : Parts) (inboxes : List (List PlacedEvents)) (node : ℕ) (new : List PlacedEvents) → node < length inboxes → ((i : ℕ) → AreWithin layout (at inboxes i)) → AreWithin layout new
    → (i : ℕ) → AreWithin layout (at (slice_set inboxes node new) i)
within-set layout inboxes node new lt h there i =
    ⊎_elim
    (λ (e : i ≡ node). subst (AreWithin layout) (sym (ap (λ j. get_or (set inboxes node new) j []) e ∙ get_or-set_same inboxes node new [] lt)) there)
    (λ (n : i ≢ node). subst (AreWithin layout) (sym (get_or-set_other inboxes node i new [] n)) (h i))
    (same_or_not i node)

-- one mail more
pub mailed-append : (layout : Parts) (mails : List (List ℕ)) (mail : List ℕ) → ((i : ℕ) → i < length mails → IsWithinFrame layout (slice_index_or mails i [])) → IsWithinFrame layout mail
    → (i : ℕ) → i < length (mails ++ mail ∷ []) → IsWithinFrame layout (slice_index_or (mails ++ mail ∷ []) i [])
mailed-append layout mails mail h last i lt =
    ⊎_elim
    (λ (e : i ≡ length mails). subst (IsWithinFrame layout) (sym (ap (λ j. get_or (mails ++ mail ∷ []) j []) e ∙ get_or-append_seam mails mail [] [])) last)
    (λ (n : i ≢ length mails).
    let below : i < length mails = omega (arith, n, lt, length-append mails (mail ∷ [])) in
    subst (IsWithinFrame layout) (sym (get_or-append mails (mail ∷ []) [] i below)) (h i below))
    (same_or_not i (length mails))

-- a segment posted, or not for want of memory
pub post_keeps : (layout : Parts) (nodes : List Held) (inboxes inboxes' : List (List PlacedEvents)) (mails : List (List ℕ)) (node : ℕ) (segment : PlacedEvents) (result : Result (Unit {0}) WorldFault)
    → IsWorld layout nodes inboxes mails → node < length nodes → segment.rank < layout.ranks → OnOk result (inboxes' ≡ slice_set inboxes node (at inboxes node ++ segment ∷ []))
    → IfErr result (λ fault. (fault ≡ Memory) × (inboxes' ≡ inboxes)) → IsWorld layout nodes inboxes' mails
post_keeps layout nodes inboxes inboxes' mails node segment (Ok x) w lt within e f =
    subst (λ l. IsWorld layout nodes l mails) (sym e) (record {
      some = w.some;
      few = w.few;
      one_layout = w.one_layout;
      mailed = w.mailed;
      each = length-set inboxes node (at inboxes node ++ segment ∷ []) ∙ w.each;
      posted = within-set layout inboxes node (at inboxes node ++ segment ∷ []) (omega (arith, lt, w.each)) w.posted (within-append layout (at inboxes node) segment (w.posted node) within);
    })
post_keeps layout nodes inboxes inboxes' mails node segment (Err fault) w lt within e f = subst (λ l. IsWorld layout nodes l mails) (sym f.1) w

-- a mail added, or not for want of memory
pub ship_keeps : OneFrameLaw → (layout : Parts) (nodes : List Held) (inboxes : List (List PlacedEvents)) (mails mails' : List (List ℕ)) (mail : List ℕ) (know : View) (result : Result (Unit {0}) WorldFault)
    → IsWorld layout nodes inboxes mails → mail ≡ frame_of know → HasFrame (entries know) → IsWithin layout know → OnOk result (mails' ≡ mails ++ mail ∷ [])
    → IfErr result (λ fault. (fault ≡ Memory) × (mails' ≡ mails)) → IsWorld layout nodes inboxes mails'
ship_keeps one layout nodes inboxes mails mails' mail know (Ok x) w is framed within e f =
    subst (λ l. IsWorld layout nodes inboxes l) (sym e) (record {
      some = w.some;
      few = w.few;
      one_layout = w.one_layout;
      each = w.each;
      posted = w.posted;
      mailed = mailed-append layout mails mail w.mailed (λ view same there. subst (IsWithin layout) (one know view framed there (sym is ∙ same)) within);
    })
ship_keeps one layout nodes inboxes mails mails' mail know (Err fault) w is framed within e f = subst (λ l. IsWorld layout nodes inboxes l) (sym f.1) w

-- another node of the layout in the place of one
pub node_keeps : (layout : Parts) (nodes : List Held) (inboxes : List (List PlacedEvents)) (mails : List (List ℕ)) (node : ℕ) (new : Held) → IsWorld layout nodes inboxes mails → node < length nodes → new.layout ≡ layout
    → IsWorld layout (slice_set nodes node new) inboxes mails
node_keeps layout nodes inboxes mails node new w lt e = record {
  some = omega (arith, w.some, length-set nodes node new);
  few = omega (arith, w.few, length-set nodes node new);
  each = w.each ∙ sym (length-set nodes node new);
  one_layout = layouts_set layout nodes node new w.one_layout lt e;
  posted = w.posted;
  mailed = w.mailed;
}

-- an emptied inbox
pub clear_keeps : (layout : Parts) (nodes : List Held) (inboxes : List (List PlacedEvents)) (mails : List (List ℕ)) (node : ℕ) → IsWorld layout nodes inboxes mails → node < length inboxes
    → IsWorld layout nodes (slice_set inboxes node []) mails
clear_keeps layout nodes inboxes mails node w lt = record {
  some = w.some;
  few = w.few;
  one_layout = w.one_layout;
  mailed = w.mailed;
  each = length-set inboxes node [] ∙ w.each;
  posted = within-set layout inboxes node [] lt w.posted tt;
}

-- nothing lies in empty inboxes
none_at : (layout : Parts) (n i : ℕ) → AreWithin layout (at (replicate n []) i)
none_at layout zero i = tt
none_at layout (suc n) zero = tt
none_at layout (suc n) (suc i) = none_at layout n i

-- of equal things each tells the same
map-replicate : {A B : Type 0} (f : A → B) (n : ℕ) (x : A) → map f (replicate n x) ≡ replicate n (f x)
map-replicate f zero x = refl
map-replicate f (suc n) x = ap (λ l. f x ∷ l) (map-replicate f n x)

-- nodes that are all new, with empty inboxes and no mail
pub opens : (layout : Parts) (nodes : ℕ) (new : Held) → 0 < nodes → nodes ≤ most_nodes → new.layout ≡ layout → IsWorld layout (replicate nodes new) (replicate nodes []) []
opens layout nodes new some few e = record {
  some = subst (λ n. 0 < n) (sym (length-replicate nodes new)) some;
  few = subst (λ n. n ≤ most_nodes) (sym (length-replicate nodes new)) few;
  each = length-replicate nodes [] ∙ sym (length-replicate nodes new);
  one_layout = map-replicate (λ (n : Held). n.layout) nodes new ∙ ap (replicate nodes) e ∙ ap (λ n. replicate n layout) (sym (length-replicate nodes new));
  posted = λ i. none_at layout nodes i;
  mailed = λ i lt. absurd (omega (arith, lt));
}

-- a world of new nodes
pub opened : (layout : Parts) (nodes : ℕ) (ns : List Held) (inboxes : List (List PlacedEvents)) (mails : List (List ℕ)) → 0 < nodes → nodes ≤ most_nodes → ns ≡ replicate nodes (held layout empty false) → inboxes ≡ replicate nodes [] → mails ≡ []
    → IsWorld layout ns inboxes mails
opened layout nodes ns inboxes mails some few e f g =
    subst (λ l. IsWorld layout l inboxes mails) (sym e) (subst (λ l. IsWorld layout (replicate nodes (held layout empty false)) l mails) (sym f) (subst (λ l. IsWorld layout (replicate nodes (held layout empty false)) (replicate nodes []) l) (sym g) (opens layout nodes (held layout empty false) some few refl)))

-- it shows the opening state
pub opening_shown : (layout : Parts) (nodes : ℕ) (ns : List Held) (inboxes : List (List PlacedEvents)) (mails : List (List ℕ)) → ns ≡ replicate nodes (held layout empty false) → inboxes ≡ replicate nodes [] → mails ≡ []
    → Shows (world_state layout ns inboxes mails) (opening nodes)
opening_shown layout nodes ns inboxes mails e f g = record {
  knowledge = ap knows e ∙ map-replicate (λ (n : Held). n.know) nodes (held layout empty false) ∙ sym (map-replicate knowledge_of nodes []);
  inboxes = f;
  mails = g;
  framed = tt;
}

-- each of them has an answer
pub opening_fresh : (layout : Parts) (nodes : ℕ) (ns : List Held) → ns ≡ replicate nodes (held layout empty false) → stale ns ≡ replicate nodes false
opening_fresh layout nodes ns e = ap stale e ∙ map-replicate (λ (n : Held). n.is_stale) nodes (held layout empty false)

-- nodes of the same layouts in the places of others
pub laid_keeps : (layout : Parts) (old new : List Held) (inboxes : List (List PlacedEvents)) (mails : List (List ℕ)) → layouts new ≡ layouts old → IsWorld layout old inboxes mails → IsWorld layout new inboxes mails
laid_keeps layout old new inboxes mails e w =
    let count : length new ≡ length old = sym (length-map new (λ (n : Held). n.layout)) ∙ ap (λ (l : List Parts). length l) e ∙ length-map old (λ (n : Held). n.layout) in
    record {
      some = omega (arith, w.some, count);
      few = omega (arith, w.few, count);
      each = w.each ∙ sym count;
      one_layout = e ∙ w.one_layout ∙ ap (λ n. replicate n layout) (sym count);
      posted = w.posted;
      mailed = w.mailed;
    }

-- an inbox without its front
pub pop_keeps : (layout : Parts) (nodes : List Held) (inboxes inboxes' : List (List PlacedEvents)) (mails : List (List ℕ)) (node : ℕ) → node < length nodes → inboxes' ≡ slice_set inboxes node (drop 1 (at inboxes node))
    → IsWorld layout nodes inboxes mails → IsWorld layout nodes inboxes' mails
pop_keeps layout nodes inboxes inboxes' mails node lt e w =
    subst (λ l. IsWorld layout nodes l mails) (sym e) (record {
      some = w.some;
      few = w.few;
      one_layout = w.one_layout;
      mailed = w.mailed;
      each = length-set inboxes node (drop 1 (at inboxes node)) ∙ w.each;
      posted = within-set layout inboxes node (drop 1 (at inboxes node)) (omega (arith, lt, w.each)) w.posted (within-drop layout (at inboxes node) (w.posted node));
    })
