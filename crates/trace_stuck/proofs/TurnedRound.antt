-- Edges that are turned round, node by node.
use Rattle.std.proofs.Common.{◌≡◌, ℕ, ◌+◌, ◌<◌, ◌≤◌, Bool, true, false, ◌&&◌, List, [], ◌∷◌, ◌⊎◌, inl, inr, ⊎_elim, refl, sym, ◌∙◌, ap, subst, arith, length, Vec, Global}
use Rattle.std.specs.Prelude.{nat_lt}
use Rattle.trace_stuck.specs.Graph.{edge}
use Rattle.trace_stuck.specs.Named.{NotesAll, at_rank}
use Rattle.trace_stuck.specs.Release.{among}
use Rattle.trace_stuck.proofs.Flagged.{at_past, below_or_past}
use Rattle.trace_stuck.proofs.Spreading.{edge_in, in_edge}

-- The edges of the nodes below `done`, and no others, are noted where they go.
pub record IsTurnedBelow (edges : List (Vec ℕ Global)) (done : ℕ) (turned : List (Vec ℕ Global)) : Type 0 where
  pub noted : (x s : ℕ) → x < done → s < length edges → among (at_rank edges x) s ≡ true → among (at_rank turned s) x ≡ true
  pub only : (s x : ℕ) → among (at_rank turned s) x ≡ true → (x < done) × (among (at_rank edges x) s ≡ true)

nobody : (s : ℕ) → among [] s ≡ true → ⊥
nobody s h = cc

pub turned_none : (edges turned : List (Vec ℕ Global)) → ((s : ℕ) → at_rank turned s ≡ []) → IsTurnedBelow edges 0 turned
turned_none edges turned none = record {
  noted = λ x s lt. absurd (omega arith);
  only = λ s x h. absurd (nobody x (subst (λ (l : List ℕ). among l x ≡ true) (none s) h));
}

-- the edges of one node more
pub turned_more : (edges before after : List (Vec ℕ Global)) (r : ℕ) (nodes : List ℕ) → nodes ≡ at_rank edges r → length before ≡ length edges → NotesAll before after nodes r →
    IsTurnedBelow edges r before → IsTurnedBelow edges (r + 1) after
turned_more edges before after r nodes own len n b = record {
  noted = λ x s lt below h. ⊎_elim
      (λ (l : x < r). n.kept s x (b.noted x s l below h))
      (λ (e : r ≡ x). subst (λ (u : ℕ). among (at_rank after s) u ≡ true) e
      (n.noted s (omega (arith, below, len))
      (subst (λ (l : List ℕ). among l s ≡ true) (sym own) (subst (λ (u : ℕ). among (at_rank edges u) s ≡ true) (sym e) h))))
      (split x r lt);
  only = λ s x h. ⊎_elim
      (λ (i : among (at_rank before s) x ≡ true). let p = b.only s x i in (omega (arith, p.0), p.1))
      (λ (i : (r ≡ x) × (among nodes s ≡ true)).
      (omega (arith, i.0), subst (λ (u : ℕ). among (at_rank edges u) s ≡ true) i.0 (subst (λ (l : List ℕ). among l s ≡ true) own i.1)))
      (n.only s x h);
}
  where
    split : (x n : ℕ) → x < n + 1 → (x < n) ⊎ (n ≡ x)
    split x n lt = grind arith

both_ways : (a b : Bool) → (a ≡ true → b ≡ true) → (b ≡ true → a ≡ true) → a ≡ b
both_ways true b h k = sym (h refl)
both_ways false true h k = k refl
both_ways false false h k = refl

-- a node that lists another is there
pub lists_there : (lists : List (Vec ℕ Global)) (x s : ℕ) → among (at_rank lists x) s ≡ true → x < length lists
lists_there lists x s h = ⊎_elim
    (λ (lt : x < length lists). lt)
    (λ (past : length lists ≤ x). absurd (nobody s (subst (λ (l : List ℕ). among l s ≡ true) (at_past lists x past) h)))
    (below_or_past x (length lists))

-- all nodes were gone through
pub turned_all : (edges turned : List (Vec ℕ Global)) → length turned ≡ length edges → IsTurnedBelow edges (length edges) turned → (r s : ℕ) → edge turned s r ≡ edge edges r s
turned_all edges turned len b r s = both_ways (edge turned s r) (edge edges r s)
    (λ h. let p = edge_in turned s r h in
    in_edge edges r s (omega (arith, lists_there turned s r p.1, len)) (b.only s r p.1).1)
    (λ h. let p = edge_in edges r s h in
    let lt = lists_there edges r s p.1 in
    in_edge turned s r (omega (arith, lt, len)) (b.noted r s lt p.0 p.1))
