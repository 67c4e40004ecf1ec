-- Requests by their numbers, one more at the front.
use Rattle.std.proofs.Common.{◌≡◌, ℕ, ℤ, ◌+◌, ◌<◌, Bool, true, false, List, ◌∷◌, Option, Some, drop, get_or, refl, sym, ◌∙◌, ap, length}
use Rattle.std.specs.Prelude.{cond, if◌then◌else◌}
use Rattle.std.specs.List.{find}
use Rattle.std.specs.Option.{option_map}
use Rattle.std.specs.Ordering.{int_eq}
use Rattle.std.proofs.lemmas.List.{drop_more}
use Rattle.mpi_model.specs.declared.event.OpName.{OpName}
use Rattle.trace_wait.specs.Requests.{posted_in}

-- the request at the front, then the others
front : (a : ℤ × OpName) (rest : List (ℤ × OpName)) (x : ℤ) → (if int_eq a.0 x then Some a.1 else posted_in rest x) ≡ posted_in (a ∷ rest) x
front a rest x = by (int_eq a.0 x)
  where
    by : (b : Bool) → (if b then Some a.1 else posted_in rest x) ≡ option_map (λ a. a.1) (cond b (Some a) (find (λ a. int_eq a.0 x) rest))
    by true = refl
    by false = refl

-- one request more towards the front
pub posted_more : (active : List (ℤ × OpName)) (n m : ℕ) (d : ℤ × OpName) (x : ℤ) (before after : Option OpName) → n < length active → m ≡ n + 1 →
    after ≡ (if int_eq (get_or active n d).0 x then Some (get_or active n d).1 else before) → before ≡ posted_in (drop m active) x → after ≡ posted_in (drop n active) x
posted_more active n m d x before after lt e h k =
    let a = get_or active n d in
    let rest : drop n active ≡ a ∷ drop m active = drop_more active n d lt ∙ ap (λ (s : ℕ). a ∷ drop s active) (sym e) in
    h ∙ ap (λ (o : Option OpName). if int_eq a.0 x then Some a.1 else o) k ∙ front a (drop m active) x
    ∙ ap (λ (l : List (ℤ × OpName)). posted_in l x) (sym rest)
