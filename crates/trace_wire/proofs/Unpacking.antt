-- What is packed tells all that is known.
use Rattle.std.proofs.Common.{◌≡◌, ℕ, ◌<◌, Bool, false, cond, List, [], ◌∷◌, ◌++◌, length, Option, Some, None, refl, sym, ap, subst, ◌∙◌, inl, inr, ◌⊎◌, arith}
use Rattle.std.specs.Prelude.{IsSome}
use Rattle.std.specs.Ordering.{eq_by_cmp, is_eq}
use Rattle.std.specs.FinMap.{empty, entries, entries-insert, find, get-entries, get-from_entries, put}
use Rattle.std.specs.List.{All}
use Rattle.std.proofs.lemmas.List.Concat.{flat_map-cons}
use Rattle.std.proofs.lemmas.List.Elements.{All-cons, All-nil}
use Rattle.trace_know.specs.declared.cell.Known.{Known}
use Rattle.trace_know.specs.Cell.{join_cell}
use Rattle.trace_know.specs.View.{View, cell, join, kept, place_cmp}
use Rattle.trace_wire.specs.declared.version.Version.TheVariants.{Two}
use Rattle.trace_wire.specs.Cells.{AreCells, Entry}
use Rattle.trace_wire.specs.Frames.{HasFrameAs, frame}
use Rattle.trace_wire.specs.Packed.{AreParts, Framed, GoIn, IsOfRanks, IsPacked, IsSound, TellsPacked, all_bytes, framed_bytes, frames_of, told_by}
use Rattle.trace_wire.proofs.FormLaws.{chosen}
use Rattle.trace_wire.proofs.LastCells.{Before, before_then, entries_none, equal, exact_places, is_before, less, places_total}

-- ---- cells in order

cells_none : (before : Option (ℕ × ℕ)) (es : List Entry) → AreCells before es → AreCells None es
cells_none before [] h = tt
cells_none before (e ∷ es) h = (refl, h.1, h.2)

front_cells : (before : Option (ℕ × ℕ)) (es fs : List Entry) → AreCells before (es ++ fs) → AreCells before es
front_cells before [] fs h = tt
front_cells before (e ∷ es) fs h = (h.0, h.1, front_cells (Some e.0) es fs h.2)

back_cells : (before : Option (ℕ × ℕ)) (es fs : List Entry) → AreCells before (es ++ fs) → AreCells None fs
back_cells before [] fs h = cells_none before fs h
back_cells before (e ∷ es) fs h = back_cells (Some e.0) es fs h.2

-- a place before all cells
none_past : (here before : ℕ × ℕ) (es : List Entry) → (here ≡ before) ⊎ Before here before → AreCells (Some before) es → find place_cmp here es ≡ None
none_past here before [] at h = refl
none_past here before (e ∷ es) at h =
    let one : Before before e.0 = is_before before e.0 h.0 in
    let first : Before here e.0 = elim at [ inl is ↦ subst (λ (q : ℕ × ℕ). Before q e.0) (sym is) one | inr b ↦ before_then here before e.0 b one ] in
    let apart : eq_by_cmp place_cmp here e.0 ≡ false = ap is_eq (less here e.0 first) in
    ap (λ (b : Bool). cond b (Some e.1) (find place_cmp here es)) apart ∙ none_past here e.0 es (inr first) h.2

join_none : (k : Known) (o : Option Known) → o ≡ None → join_cell (Some k) o ≡ Some k
join_none k None e = refl
join_none k (Some x) e = absurd cc

behind : (here before : ℕ × ℕ) (es fs : List Entry) → (here ≡ before) ⊎ Before here before → AreCells (Some before) (es ++ fs) → find place_cmp here fs ≡ None
behind here before [] fs at h = none_past here before fs at h
behind here before (e ∷ es) fs at h =
    let one : Before before e.0 = is_before before e.0 h.0 in
    let first : Before here e.0 = elim at [ inl is ↦ subst (λ (q : ℕ × ℕ). Before q e.0) (sym is) one | inr b ↦ before_then here before e.0 b one ] in
    behind here e.0 es fs (inr first) h.2

none_behind : (here : ℕ × ℕ) (es fs : List Entry) → AreCells (Some here) (es ++ fs) → find place_cmp here fs ≡ None
none_behind here es fs h = behind here here es fs (inl refl) h

-- both parts of cells in order have what all have
find_both : (q : ℕ × ℕ) (before : Option (ℕ × ℕ)) (es fs : List Entry) → AreCells before (es ++ fs) → join_cell (find place_cmp q es) (find place_cmp q fs) ≡ find place_cmp q (es ++ fs)
find_both q before [] fs h = refl
find_both q before (e ∷ es) fs h = elim (chosen (eq_by_cmp place_cmp q e.0) (Some e.1) (find place_cmp q es) (find place_cmp q (e ∷ es)) refl) [
  | inl p ↦
      let at : q ≡ e.0 = exact_places q e.0 (equal _ p.0) in
      let rest : find place_cmp q fs ≡ None = ap (λ (x : ℕ × ℕ). find place_cmp x fs) at ∙ none_behind e.0 es fs h.2 in
      ap (λ (o : Option Known). join_cell o (find place_cmp q fs)) (sym p.1) ∙ join_none e.1 (find place_cmp q fs) rest ∙ sym (ap (λ (b : Bool). cond b (Some e.1) (find place_cmp q (es ++ fs))) p.0)
  | inr p ↦
      ap (λ (o : Option Known). join_cell o (find place_cmp q fs)) (sym p.1) ∙ find_both q (Some e.0) es fs h.2 ∙ sym (ap (λ (b : Bool). cond b (Some e.1) (find place_cmp q (es ++ fs))) p.0)
]

put_first : (e : Entry) (es : List Entry) → AreCells (Some e.0) es → put place_cmp e.0 e.1 es ≡ e ∷ es
put_first e [] h = refl
put_first e (f ∷ es) h = rw (less e.0 f.0 (is_before e.0 f.0 h.0)) refl

pub entries_kept : (before : Option (ℕ × ℕ)) (es : List Entry) → AreCells before es → entries (kept es) ≡ es
entries_kept before [] h = entries_none
entries_kept before (e ∷ es) h =
    entries-insert places_total (kept es) e.0 e.1 ∙ ap (λ (l : List Entry). put place_cmp e.0 e.1 l) (entries_kept (Some e.0) es h.2) ∙ put_first e es h.2

cell_kept : (es : List Entry) (rank place : ℕ) → cell (kept es) rank place ≡ find place_cmp (rank, place) es
cell_kept es rank place = get-from_entries places_total es (rank, place)

some_first : (a b : Option Known) → IsSome a → IsSome (join_cell a b)
some_first None b h = absurd cc
some_first (Some a) None h = refl
some_first (Some a) (Some b) h = refl

some_second : (a b : Option Known) → IsSome b → IsSome (join_cell a b)
some_second None b h = h
some_second (Some a) None h = refl
some_second (Some a) (Some b) h = refl

-- ---- parts

module _ (cells : (a b : View) (rank place : ℕ) → cell (join a b) rank place ≡ join_cell (cell a rank place) (cell b rank place)) (same_cells : (a b : View) → ((rank place : ℕ) → cell a rank place ≡ cell b rank place) → a ≡ b) (unit : (a : View) → join a empty ≡ a) where
  kept_both : (es fs : List Entry) → AreCells None (es ++ fs) → join (kept es) (kept fs) ≡ kept (es ++ fs)
  kept_both es fs h = same_cells (join (kept es) (kept fs)) (kept (es ++ fs)) (λ rank place.
      cells (kept es) (kept fs) rank place
      ∙ ap (λ (o : Option Known). join_cell o (cell (kept fs) rank place)) (cell_kept es rank place)
      ∙ ap (λ (o : Option Known). join_cell (find place_cmp (rank, place) es) o) (cell_kept fs rank place)
      ∙ find_both (rank, place) None es fs h ∙ sym (cell_kept (es ++ fs) rank place))

  kept_entries : (v : View) → kept (entries v) ≡ v
  kept_entries v = same_cells (kept (entries v)) v (λ rank place. cell_kept (entries v) rank place ∙ sym (get-entries v (rank, place)))

  first_ranks : (ranks : ℕ) (a b : View) → IsOfRanks ranks (join a b) → IsOfRanks ranks a
  first_ranks ranks a b h = λ rank place some. h rank place (subst (λ (o : Option Known). IsSome o) (sym (cells a b rank place)) (some_first (cell a rank place) (cell b rank place) some))

  second_ranks : (ranks : ℕ) (a b : View) → IsOfRanks ranks (join a b) → IsOfRanks ranks b
  second_ranks ranks a b h = λ rank place some. h rank place (subst (λ (o : Option Known). IsSome o) (sym (cells a b rank place)) (some_second (cell a rank place) (cell b rank place) some))

  -- what the frames of parts tell
  record Told (ranks : ℕ) (es : List Entry) (parts : List (List Entry)) : Type 0 where
    frames : List Framed
    some : 0 < length frames
    sound : All (IsSound ranks) frames
    bytes : frames_of parts ≡ all_bytes frames
    told : kept es ≡ told_by frames

  part_sound : (ranks : ℕ) (part : List Entry) → AreCells None part → GoIn part → IsOfRanks ranks (kept part) → IsSound ranks (Two, kept part)
  part_sound ranks part h fits of = (subst (λ (l : List Entry). HasFrameAs Two l) (sym (entries_kept None part h)) (h, fits), of)

  part_bytes : (part : List Entry) → AreCells None part → frame part ≡ framed_bytes (Two, kept part)
  part_bytes part h = ap (λ (l : List Entry). frame l) (sym (entries_kept None part h))

  told_parts : (ranks : ℕ) (es : List Entry) (parts : List (List Entry)) → AreCells None es → IsOfRanks ranks (kept es) → AreParts es parts → Told ranks es parts
  told_parts ranks es [] h of cut = absurd cut
  told_parts ranks es (p ∷ []) h of cut =
      let f : Framed = (Two, kept p) in
      let hp : AreCells None p = subst (λ (l : List Entry). AreCells None l) cut.0 h in
      let op : IsOfRanks ranks (kept p) = subst (λ (l : List Entry). IsOfRanks ranks (kept l)) cut.0 of in
      record {
        frames = f ∷ [];
        some = omega arith;
        sound = All-cons (IsSound ranks) f [] (part_sound ranks p hp cut.1 op) (All-nil (IsSound ranks));
        bytes = ap (λ (l : List ℕ). l ++ []) (part_bytes p hp);
        told = ap (λ (l : List Entry). kept l) cut.0 ∙ sym (unit (kept p));
      }
  told_parts ranks es (p ∷ q ∷ ps) h of cut =
      let rest = cut.1.0 in
      let is : es ≡ p ++ rest = cut.1.1 in
      let f : Framed = (Two, kept p) in
      let all : AreCells None (p ++ rest) = subst (λ (l : List Entry). AreCells None l) is h in
      let hp : AreCells None p = front_cells None p rest all in
      let hr : AreCells None rest = back_cells None p rest all in
      let both : kept es ≡ join (kept p) (kept rest) = ap (λ (l : List Entry). kept l) is ∙ sym (kept_both p rest all) in
      let ob : IsOfRanks ranks (join (kept p) (kept rest)) = subst (λ (v : View). IsOfRanks ranks v) both of in
      let t = told_parts ranks rest (q ∷ ps) hr (second_ranks ranks (kept p) (kept rest) ob) cut.1.3 in
      record {
        frames = f ∷ t.frames;
        some = omega arith;
        sound = All-cons (IsSound ranks) f t.frames (part_sound ranks p hp cut.0 (first_ranks ranks (kept p) (kept rest) ob)) t.sound;
        bytes = flat_map-cons frame p (q ∷ ps) ∙ ap (λ (l : List ℕ). l ++ frames_of (q ∷ ps)) (part_bytes p hp) ∙ ap (λ (l : List ℕ). framed_bytes f ++ l) t.bytes ∙ sym (flat_map-cons framed_bytes f t.frames);
        told = both ∙ ap (λ (v : View). join (kept p) v) t.told;
      }

  pub packed_tells : (view : View) (bytes : List ℕ) (ranks : ℕ) → AreCells None (entries view) → IsPacked view bytes → IsOfRanks ranks view → TellsPacked ranks bytes view
  packed_tells view bytes ranks h packed of =
      let same = kept_entries view in
      let t = told_parts ranks (entries view) packed.0 h (subst (λ (v : View). IsOfRanks ranks v) (sym same) of) packed.1 in
      (t.frames, t.some, t.sound, packed.2 ∙ t.bytes, sym same ∙ t.told)
