-- What the next rank did, behind what those before it did.
use Rattle.std.proofs.Common.{◌≡◌, ℕ, ◌+◌, List, [], ◌∷◌, ◌++◌, arith, length, refl, subst, sym}
use Rattle.trace_ops.specs.Ops.{AreOwn, IsOwn, Ops}
use Rattle.std.proofs.lemmas.List.{length-append}
use Rattle.command_runs.specs.Tables.{HoldsRanks}

own_more : (first count : ℕ) (ops : List Ops) (o : Ops) → AreOwn first ops → first + length ops ≡ count → IsOwn count o → AreOwn first (ops ++ o ∷ [])
own_more first count [] o own e is = let f : count ≡ first = omega (arith, e) in (subst (λ (n : ℕ). IsOwn n o) f is, tt)
own_more first count (p ∷ ops) o own e is = (own.0, own_more (first + 1) count ops o own.1 (omega (arith, e)) is)

pub one_more : (count : ℕ) (ops : List Ops) (o : Ops) → HoldsRanks count ops → IsOwn count o → HoldsRanks (count + 1) (ops ++ o ∷ [])
one_more count ops o holds is = (omega (arith, length-append ops (o ∷ []), holds.0), own_more 0 count ops o holds.1 (omega (arith, holds.0)) is)

pub none_yet : (ops : List Ops) → ops ≡ [] → HoldsRanks 0 ops
none_yet ops none = subst (λ (l : List Ops). HoldsRanks 0 l) (sym none) (refl, tt)
