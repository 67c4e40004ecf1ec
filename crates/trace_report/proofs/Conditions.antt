-- The text of a list of conditions, part by part.
use Rattle.std.proofs.Common.{take, get_or, length, arith, ◌≡◌, ◌<◌, ◌+◌, ℕ, zero, suc, List, [], ◌∷◌, ◌++◌, map, sym, ◌∙◌, ap, append_assoc, append-nil}
use Rattle.trace_report.proofs.Each.{take_next, map_push}
use Rattle.trace_stuck.specs.Shape.{Wait, waits_of}
use Rattle.trace_report.specs.Waits.{WaitWords, wait_text, parts_text, more_text, part_text}

more_push : (words : WaitWords) (ws : List Wait) (w : Wait) → more_text words (waits_of (ws ++ w ∷ [])) ≡ more_text words (waits_of ws) ++ (words.between ++ wait_text words w)
more_push words [] w = append-nil (words.between ++ wait_text words w)
more_push words (v ∷ ws) w = ap (λ (l : List ℕ). words.between ++ wait_text words v ++ l) (more_push words ws w) ∙ sym (append_assoc (words.between ++ wait_text words v) (more_text words (waits_of ws)) (words.between ++ wait_text words w))

parts_first : (words : WaitWords) (w : Wait) → parts_text words (waits_of (w ∷ [])) ≡ wait_text words w
parts_first words w = append-nil (wait_text words w)

parts_push : (words : WaitWords) (v : Wait) (ws : List Wait) (w : Wait) → parts_text words (waits_of ((v ∷ ws) ++ w ∷ [])) ≡ parts_text words (waits_of (v ∷ ws)) ++ (words.between ++ wait_text words w)
parts_push words v ws w = ap (λ (l : List ℕ). wait_text words v ++ l) (more_push words ws w) ∙ sym (append_assoc (wait_text words v) (more_text words (waits_of ws)) (words.between ++ wait_text words w))

module _ (words : WaitWords) {X : Type 0} (f : X → Wait) where
  parts_at : (xs : List X) (i : ℕ) (x : X) → i < length xs → parts_text words (waits_of (map f (take i xs) ++ f x ∷ [])) ≡ parts_text words (waits_of (map f (take i xs))) ++ part_text words i (f x)
  parts_at [] i x h = absurd (omega (arith, h))
  parts_at (y ∷ ys) zero x h = parts_first words (f x)
  parts_at (y ∷ ys) (suc i) x h = parts_push words (f y) (map f (take i ys)) (f x)

  -- one part more
  pub parts_next : (xs : List X) (i : ℕ) (d x : X) → i < length xs → x ≡ get_or xs i d →
      parts_text words (waits_of (map f (take (i + 1) xs))) ≡ parts_text words (waits_of (map f (take i xs))) ++ part_text words i (f x)
  parts_next xs i d x h e =
      ap (λ (l : List X). parts_text words (waits_of (map f l))) (take_next xs i d x h e)
      ∙ ap (λ (l : List Wait). parts_text words (waits_of l)) (map_push f (take i xs) x) ∙ parts_at xs i x h
