use Rattle.std.proofs.Common.{◌≡◌, ◌≤◌, ℕ, Option, Some, None, List, refl, ap, arith, Vec, Global}
use Rattle.trace_stuck.specs.Graph.{label_at}
use Rattle.trace_stuck.specs.Hearts.{IsHeartOf}
use Rattle.trace_stuck.proofs.laws.hearts_are_one.Goals as goal

one_heart : (edges : List (Vec ℕ Global)) (r : ℕ) (o p : Option ℕ) → IsHeartOf edges r o → IsHeartOf edges r p → o ≡ p
one_heart edges r None None h k = refl
one_heart edges r None (Some n) h k = absurd (h k.0)
one_heart edges r (Some m) None h k = absurd (k h.0)
one_heart edges r (Some m) (Some n) h k = ap (λ (l : ℕ). Some l) (same m n (h.2 n k.1) (k.2 m h.1))
  where
    same : (m n : ℕ) → m ≤ n → n ≤ m → m ≡ n
    same m n a b = omega arith

pub returns : goal.returns
returns c = λ edges one other h k r. one_heart edges r (label_at one r) (label_at other r) (h r) (k r)
