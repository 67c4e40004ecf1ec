-- Frames of parts, written one after another.
use Rattle.std.proofs.Common.{◌≡◌, ℕ, zero, suc, ◌+◌, ◌<◌, ◌≤◌, List, [], ◌∷◌, ◌++◌, length, map, take, drop, get_or, Option, refl, sym, ap, subst, ◌∙◌, append_assoc, append-nil, length-append, arith}
use Rattle.std.specs.List.{flat_map}
use Rattle.std.specs.Io.KnownBytes.{Appends}
use Rattle.std.proofs.KnownBytes.{Appends-nil, Appends-trans}
use Rattle.std.proofs.lemmas.List.Concat.{flat_map-cons}
use Rattle.trace_wire.specs.declared.packed.plan.PartSize.{PartSize}
use Rattle.trace_wire.specs.Cells.{Entry}
use Rattle.trace_wire.specs.Frames.{frame}
use Rattle.trace_wire.specs.Packed.{AreParts, frames_of}
use Rattle.trace_wire.specs.Planning.{size_of}
use Rattle.trace_wire.specs.Writing.{WritesFront}

-- the cells of parts
abbrev pub cells_of : List (List Entry) → List Entry
cells_of parts = flat_map (λ part. part) parts

parts_whole : (es : List Entry) (parts : List (List Entry)) → AreParts es parts → es ≡ cells_of parts
parts_whole es [] h = absurd h
parts_whole es (p ∷ []) h = h.0 ∙ sym (append-nil p)
parts_whole es (p ∷ q ∷ ps) h = h.1.1 ∙ ap (λ (l : List Entry). p ++ l) (parts_whole h.1.0 (q ∷ ps) h.1.3)

-- So many frames were written, and those of the others are still to come.
pub record Packs (all : List Entry) (plan : List PartSize) (i : ℕ) (cells : List Entry) (old now : Option (List ℕ)) : Type 0 where
  pub parts : List (List Entry)
  pub cut : AreParts all parts
  pub sized : plan ≡ map size_of parts
  pub rest : cells ≡ cells_of (drop i parts)
  pub front : List ℕ
  pub bytes : frames_of parts ≡ front ++ frames_of (drop i parts)
  pub out : Appends old now front

pub packs_none : (all cells : List Entry) (plan : List PartSize) (old : Option (List ℕ)) → (parts : List (List Entry)) × AreParts all parts × (plan ≡ map size_of parts) → cells ≡ all → Packs all plan 0 cells old old
packs_none all cells plan old h is = record {
  parts = h.0;
  cut = h.1;
  sized = h.2;
  rest = is ∙ parts_whole all h.0 h.1;
  front = [];
  bytes = refl;
  out = Appends-nil old;
}

-- the part of a number
pub record Next (parts : List (List Entry)) (i : ℕ) (size : PartSize) : Type 0 where
  pub part : List Entry
  pub is : drop i parts ≡ part ∷ drop (i + 1) parts
  pub sized : size ≡ size_of part

next_in : (parts : List (List Entry)) (i : ℕ) (d : PartSize) → i < length (map size_of parts) → Next parts i (get_or (map size_of parts) i d)
next_in [] i d lt = absurd (omega (arith, lt))
next_in (p ∷ parts) zero d lt = record { part = p; is = refl; sized = refl }
next_in (p ∷ parts) (suc i) d lt =
    let n = next_in parts i d (omega (arith, lt)) in
    let next : suc (i + 1) ≡ suc i + 1 = omega arith in
    record { part = n.part; is = n.is ∙ ap (λ (k : ℕ). n.part ∷ drop k (p ∷ parts)) next; sized = n.sized }

pub next_part : (parts : List (List Entry)) (plan : List PartSize) (i : ℕ) (d size : PartSize) → plan ≡ map size_of parts → i < length plan → size ≡ get_or plan i d → Next parts i size
next_part parts plan i d size is lt e =
    subst (λ (s : PartSize). Next parts i s) (sym (e ∙ ap (λ (l : List PartSize). get_or l i d) is)) (next_in parts i d (subst (λ (l : List PartSize). i < length l) is lt))

front_is : (xs ys : List Entry) → take (length xs) (xs ++ ys) ≡ xs
front_is [] ys = refl
front_is (x ∷ xs) ys = ap (λ (l : List Entry). x ∷ l) (front_is xs ys)

rest_is : (xs ys : List Entry) → drop (length xs) (xs ++ ys) ≡ ys
rest_is [] ys = refl
rest_is (x ∷ xs) ys = rest_is xs ys

-- where a walk stands before a part
pub record Stands (cells : List Entry) (size : PartSize) (part rest : List Entry) : Type 0 where
  pub front : take size.cells cells ≡ part
  pub others : drop size.cells cells ≡ rest
  pub there : size.cells ≤ length cells
  pub sized : size ≡ size_of (take size.cells cells)

stands : (cells : List Entry) (size : PartSize) (part rest : List Entry) → cells ≡ part ++ rest → size ≡ size_of part → Stands cells size part rest
stands cells size part rest is e =
    let count : size.cells ≡ length part = ap (λ (s : PartSize). s.cells) e in
    let front : take size.cells cells ≡ part = ap (λ (n : ℕ). take n cells) count ∙ ap (λ (l : List Entry). take (length part) l) is ∙ front_is part rest in
    record {
      front = front;
      others = ap (λ (n : ℕ). drop n cells) count ∙ ap (λ (l : List Entry). drop (length part) l) is ∙ rest_is part rest;
      there = omega (arith, count, ap (λ (l : List Entry). length l) is, length-append part rest);
      sized = e ∙ ap size_of (sym front);
    }

pub stands_before : (all cells : List Entry) (plan : List PartSize) (i : ℕ) (old now : Option (List ℕ)) (size : PartSize) (p : Packs all plan i cells old now) (n : Next p.parts i size) → Stands cells size n.part (cells_of (drop (i + 1) p.parts))
stands_before all cells plan i old now size p n =
    stands cells size n.part (cells_of (drop (i + 1) p.parts)) (p.rest ∙ ap (λ (l : List (List Entry)). cells_of l) n.is ∙ flat_map-cons (λ part. part) n.part (drop (i + 1) p.parts)) n.sized

frames_next : (all cells : List Entry) (plan : List PartSize) (i : ℕ) (old now : Option (List ℕ)) (size : PartSize) (p : Packs all plan i cells old now) (n : Next p.parts i size) → frames_of p.parts ≡ p.front ++ (frame n.part ++ frames_of (drop (i + 1) p.parts))
frames_next all cells plan i old now size p n = p.bytes ∙ ap (λ (l : List (List Entry)). p.front ++ frames_of l) n.is ∙ ap (λ (l : List ℕ). p.front ++ l) (flat_map-cons frame n.part (drop (i + 1) p.parts))

-- the frame of the next part was written
pub packs_more : (all cells rest : List Entry) (plan : List PartSize) (i : ℕ) (old now new : Option (List ℕ)) (size : PartSize) (p : Packs all plan i cells old now) (n : Next p.parts i size) → rest ≡ drop size.cells cells → Appends now new (frame (take size.cells cells)) → Packs all plan (i + 1) rest old new
packs_more all cells rest plan i old now new size p n is out =
    let s = stands_before all cells plan i old now size p n in
    record {
      parts = p.parts;
      cut = p.cut;
      sized = p.sized;
      rest = is ∙ s.others;
      front = p.front ++ frame n.part;
      bytes = frames_next all cells plan i old now size p n ∙ sym (append_assoc p.front (frame n.part) (frames_of (drop (i + 1) p.parts)));
      out = Appends-trans old now new p.front (frame n.part) p.out (subst (λ (l : List Entry). Appends now new (frame l)) s.front out);
    }

drop_all : (parts : List (List Entry)) (i : ℕ) → length parts ≤ i → drop i parts ≡ []
drop_all [] zero le = refl
drop_all [] (suc i) le = refl
drop_all (p ∷ parts) zero le = absurd (omega (arith, le))
drop_all (p ∷ parts) (suc i) le = drop_all parts i (omega (arith, le))

count_sizes : (parts : List (List Entry)) → length (map size_of parts) ≡ length parts
count_sizes [] = refl
count_sizes (p ∷ parts) = ap suc (count_sizes parts)

-- all were written
pub packs_all : (all cells : List Entry) (plan : List PartSize) (i : ℕ) (old now : Option (List ℕ)) → Packs all plan i cells old now → length plan ≤ i → (bytes : List ℕ) × ((parts : List (List Entry)) × AreParts all parts × (bytes ≡ frames_of parts)) × Appends old now bytes
packs_all all cells plan i old now p le =
    let many : length p.parts ≤ i = omega (arith, le, ap (λ (l : List PartSize). length l) p.sized, count_sizes p.parts) in
    (p.front, (p.parts, p.cut, sym (p.bytes ∙ ap (λ (l : List (List Entry)). p.front ++ frames_of l) (drop_all p.parts i many) ∙ append-nil p.front)), p.out)

take_some : (n : ℕ) (xs ys : List ℕ) → n < length xs → take n (xs ++ ys) ≡ take n xs
take_some n [] ys lt = absurd (omega (arith, lt))
take_some zero (x ∷ xs) ys lt = refl
take_some (suc n) (x ∷ xs) ys lt = ap (λ (l : List ℕ). x ∷ l) (take_some n xs ys (omega (arith, lt)))

take_within : (m n : ℕ) (front xs ys : List ℕ) → m ≡ length front + n → n < length xs → take m (front ++ (xs ++ ys)) ≡ front ++ take n xs
take_within m n [] xs ys is lt = let e : m ≡ n = omega (arith, is) in ap (λ (k : ℕ). take k (xs ++ ys)) e ∙ take_some n xs ys lt
take_within zero n (f ∷ front) xs ys is lt = absurd (omega (arith, is))
take_within (suc m) n (f ∷ front) xs ys is lt = ap (λ (l : List ℕ). f ∷ l) (take_within m n front xs ys (omega (arith, is)) lt)

writes_within : (old now new : Option (List ℕ)) (front bytes more : List ℕ) → Appends old now front → WritesFront now new bytes → WritesFront old new (front ++ (bytes ++ more))
writes_within old now new front bytes more out h =
    (length front + h.0, omega (arith, length-append front (bytes ++ more), length-append bytes more, h.1), subst (λ (l : List ℕ). Appends old new l) (sym (take_within (length front + h.0) h.0 front bytes more refl h.1)) (Appends-trans old now new front (take h.0 bytes) out h.2))

-- the device failed in a frame
pub packs_front : (all cells : List Entry) (plan : List PartSize) (i : ℕ) (old now new : Option (List ℕ)) (size : PartSize) (p : Packs all plan i cells old now) (n : Next p.parts i size) → WritesFront now new (frame (take size.cells cells))
    → (bytes : List ℕ) × ((parts : List (List Entry)) × AreParts all parts × (bytes ≡ frames_of parts)) × WritesFront old new bytes
packs_front all cells plan i old now new size p n h =
    let s = stands_before all cells plan i old now size p n in
    let rest = frames_of (drop (i + 1) p.parts) in
    (p.front ++ (frame n.part ++ rest), (p.parts, p.cut, sym (frames_next all cells plan i old now size p n)), writes_within old now new p.front (frame n.part) rest p.out (subst (λ (l : List Entry). WritesFront now new (frame l)) s.front h))
