-- Rows of collective calls, one call or one rank more.
use Rattle.std.proofs.Common.{◌≡◌, ℕ, zero, suc, ◌+◌, ◌<◌, List, [], ◌∷◌, ◌++◌, take, get_or, refl, sym, ◌∙◌, ap, subst, length}
use Rattle.std.specs.Prelude.{◌==◌}
use Rattle.std.proofs.lemmas.List.{take_more}
use Rattle.std.proofs.lemmas.List.Elements.{filter-append}
use Rattle.trace_ops.specs.declared.entered.Entered.{Entered}
use Rattle.trace_ops.specs.Ops.{Ops}
use Rattle.trace_wait.specs.Ranks.{ops_of}
use Rattle.trace_wait.specs.Rounds.{on_comm}
use Rattle.trace_wait.specs.Entries.{Row, IsRowOf, AreRows, listed_at}

-- one call more
pub row_more : (c : ℕ) (es : List Entered) (i : ℕ) (x : Entered) (now after : List Entered) → i < length es → x ≡ get_or es i x → now ≡ on_comm c (take i es) →
    after ≡ now ++ on_comm c (x ∷ []) → after ≡ on_comm c (take (i + 1) es)
row_more c es i x now after lt is h e =
    let grown : take (i + 1) es ≡ take i es ++ x ∷ [] = take_more es i x lt ∙ ap (λ (y : Entered). take i es ++ y ∷ []) (sym is) in
    e ∙ ap (λ (l : List Entered). l ++ on_comm c (x ∷ [])) h ∙ sym (filter-append (λ e. e.comm == c) (take i es) (x ∷ [])) ∙ ap (on_comm c) (sym grown)

rows_push : (rows : List Row) (ops : List Ops) (row : Row) (o : Ops) → AreRows rows ops → IsRowOf row o.rounds → AreRows (rows ++ row ∷ []) (ops ++ o ∷ [])
rows_push [] [] row o h k = (k, tt)
rows_push (x ∷ rows) (p ∷ ops) row o h k = (h.0, rows_push rows ops row o h.1 k)
rows_push [] (p ∷ ops) row o h k = absurd h
rows_push (x ∷ rows) [] row o h k = absurd h

-- one rank more
pub rows_more : (rows after : List Row) (ops : List Ops) (i : ℕ) (o : Ops) (row : Row) → i < length ops → o ≡ get_or ops i o → after ≡ rows ++ row ∷ [] →
    AreRows rows (take i ops) → IsRowOf row o.rounds → AreRows after (take (i + 1) ops)
rows_more rows after ops i o row lt at e h k =
    let grown : take (i + 1) ops ≡ take i ops ++ o ∷ [] = take_more ops i o lt ∙ ap (λ (p : Ops). take i ops ++ p ∷ []) (sym at) in
    subst (λ (rs : List Row). AreRows rs (take (i + 1) ops)) (sym e) (subst (AreRows (rows ++ row ∷ [])) (sym grown) (rows_push rows (take i ops) row o h k))

-- the calls of a rank on a communicator
pub listed_is : (rows : List Row) (ops : List Ops) (r c : ℕ) → AreRows rows ops → listed_at rows r c ≡ on_comm c (ops_of ops r).rounds
listed_is [] [] r c h = refl
listed_is (row ∷ rows) (o ∷ ops) zero c h = h.0 c
listed_is (row ∷ rows) (o ∷ ops) (suc r) c h = listed_is rows ops r c h.1
listed_is [] (o ∷ ops) r c h = absurd h
listed_is (row ∷ rows) [] r c h = absurd h
