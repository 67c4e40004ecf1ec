use Rattle.std.proofs.Common.{◌<◌, ℕ, List, String, Global, get_or, length, map, string_bytes, subst, sym}
use Rattle.text_layouts.specs.Names.{IsByDigits, IsOrder, numbers_of}
use Rattle.text_layouts.specs.declared.order.Order.{Order}
use Rattle.run_inputs.proofs.Ordered.{placed}
use Rattle.run_inputs.proofs.load.prepared.by_rank.Goals as goal

pub placed-requires : goal.placed-requires
placed-requires c =
    let names = c.in_ok-names.names.items in
    let order : IsOrder (numbers_of (map string_bytes names)) c.in_ok-order_of.field-0 =
    subst (λ (ns : List (String Global)). IsOrder (numbers_of (map string_bytes ns)) c.in_ok-order_of.field-0) c.deref.ensures.value c.in_ok-order_of.ensures in
    let digits : IsByDigits (numbers_of (map string_bytes names)) c.in-Digits.places.items =
    subst (λ (o : Order). IsOrder (numbers_of (map string_bytes names)) o) c.in-Digits.is order in
    subst (λ (ps : List ℕ). (k d : ℕ) → k < length ps → get_or ps k d < length c.deref-in-Digits.result.now) (sym c.deref-in-Digits-2.ensures.value)
    (subst (λ (ns : List (String Global)). (k d : ℕ) → k < length c.in-Digits.places.items → get_or c.in-Digits.places.items k d < length ns) (sym c.deref-in-Digits.ensures.value)
    (placed names c.in-Digits.places.items digits))
