-- Two lists of rising runs whose last runs go over, one after another, to a list that falls.
use Rattle.std.proofs.Common.{◌≡◌, ℕ, ◌+◌, ◌-◌, ◌<◌, ◌≤◌, List, [], ◌∷◌, ◌++◌, length, reverse, slice_index_or, refl, sym, ap, subst, ◌∙◌, append_assoc, append-nil, arith}
use Rattle.std.proofs.lemmas.List.{get_or_append_left, get_or_at, get_or_default, length_push, reverse-append}
use Rattle.trace_know.specs.declared.run.Run.{Run}
use Rattle.trace_know.specs.Patches.{Covers, IsMerging, LastIsBehind, LastIsReached, of_all}
use Rattle.trace_know.specs.Runs.{of_run, of_runs, start_of, end_of, Above, last_end, last_of}
use Rattle.trace_know.specs.View.{View, join}
use Rattle.trace_know.proofs.Covering.{held-more, member}
use Rattle.trace_know.proofs.Joins.{empty-join, join-assoc, join-comm}
use Rattle.trace_know.proofs.Order.{lower}

-- ---- the order

pub above-first : (low : ℕ) (rs up : List Run) → Above low (rs ++ up) → Above low rs
above-first low [] up a = tt
above-first low (r ∷ rs) up a = (a.0, a.1, above-first (end_of r) rs up a.2)

above-rest : (low : ℕ) (rs up : List Run) → Above low (rs ++ up) → Above (last_end low rs) up
above-rest low [] up a = a
above-rest low (r ∷ rs) up a = above-rest (end_of r) rs up a.2

above-both : (low : ℕ) (rs up : List Run) → Above low rs → Above (last_end low rs) up → Above low (rs ++ up)
above-both low [] up a b = b
above-both low (r ∷ rs) up a b = (a.0, a.1, above-both (end_of r) rs up a.2 b)

above-without : (low : ℕ) (rs up : List Run) (x : Run) → Above low (rs ++ x ∷ up) → Above low (rs ++ up)
above-without low [] up x a = let first = a.0 in lower (end_of x) low up (omega arith) a.2
above-without low (r ∷ rs) up x a = (a.0, a.1, above-without (end_of r) rs up x a.2)

-- the last run of one list, behind the other list too
above-among : (rs ps up : List Run) (x : Run) → Above 0 (rs ++ x ∷ up) → Above 0 (ps ++ up) → last_end 0 ps < start_of x → Above 0 (ps ++ x ∷ up)
above-among rs ps up x a b behind = let over = above-rest 0 rs (x ∷ up) a in above-both 0 ps (x ∷ up) (above-first 0 ps up b) (behind, over.1, over.2)

-- ---- the view

of-both : (rs up : List Run) → of_runs (rs ++ up) ≡ join (of_runs rs) (of_runs up)
of-both [] up = sym (empty-join (of_runs up))
of-both (r ∷ rs) up = ap (join (of_run r)) (of-both rs up) ∙ sym (join-assoc (of_run r) (of_runs rs) (of_runs up))

to-front : (ps up : List Run) (x : Run) → of_runs (ps ++ x ∷ up) ≡ join (of_run x) (of_runs (ps ++ up))
to-front [] up x = refl
to-front (p ∷ ps) up x =
    let rest = of_runs (ps ++ up) in
    ap (join (of_run p)) (to-front ps up x) ∙ sym (join-assoc (of_run p) (of_run x) rest) ∙ ap (λ (v : View). join v rest) (join-comm (of_run p) (of_run x)) ∙ join-assoc (of_run x) (of_run p) rest

moved-view : (rs ps up : List Run) (x : Run) → of_runs (rs ++ (ps ++ x ∷ up)) ≡ of_runs (rs ++ x ∷ [] ++ (ps ++ up))
moved-view [] ps up x = to-front ps up x
moved-view (r ∷ rs) ps up x = ap (join (of_run r)) (moved-view rs ps up x)

dropped-view : (rs ps up : List Run) (x : Run) → join (of_runs ps) (of_run x) ≡ of_runs ps → of_runs (rs ++ (ps ++ up)) ≡ of_runs (rs ++ x ∷ [] ++ (ps ++ up))
dropped-view [] ps up x has =
    let all = of-both ps up in
    all ∙ sym (held-more (of_runs ps) (of_runs up) x has) ∙ ap (λ (v : View). join v (of_run x)) (sym all) ∙ join-comm (of_runs (ps ++ up)) (of_run x)
dropped-view (r ∷ rs) ps up x has = ap (join (of_run r)) (dropped-view rs ps up x has)

-- ---- what a patch covers

covers-fewer : (ps rs : List Run) (x : Run) → Covers ps (rs ++ x ∷ []) → Covers ps rs
covers-fewer ps rs x c = λ i j d e k l s t.
    let more = length_push rs x in
    let same : slice_index_or (rs ++ x ∷ []) i d ≡ slice_index_or rs i d = get_or_append_left rs (x ∷ []) d i k in
    subst (λ (r : Run). join (of_run (slice_index_or ps j e)) (of_run r) ≡ of_run (slice_index_or ps j e)) same
    (c i j d e (omega arith) l (subst (λ (r : Run). start_of r ≤ end_of (slice_index_or ps j e)) (sym same) s) (subst (λ (r : Run). start_of (slice_index_or ps j e) ≤ end_of r) (sym same) t))

covers-less : (ps rs : List Run) (x : Run) → Covers (ps ++ x ∷ []) rs → Covers ps rs
covers-less ps rs x c = λ i j d e k l s t.
    let more = length_push ps x in
    let same : slice_index_or (ps ++ x ∷ []) j e ≡ slice_index_or ps j e = get_or_append_left ps (x ∷ []) e j l in
    subst (λ (p : Run). join (of_run p) (of_run (slice_index_or rs i d)) ≡ of_run p) same
    (c i j d e k (omega arith) (subst (λ (p : Run). start_of (slice_index_or rs i d) ≤ end_of p) (sym same) s) (subst (λ (p : Run). start_of p ≤ end_of (slice_index_or rs i d)) (sym same) t))

-- ---- a step: what holds goes on holding, and the lists tell what they told

pub record Steps (rs ps fs rs' ps' fs' : List Run) : Type 0 where
  pub merging : IsMerging rs' ps' fs'
  pub view : of_all rs' ps' fs' ≡ of_all rs ps fs

last-of : (rs : List Run) (x d : Run) → last_of (rs ++ x ∷ []) d ≡ x
last-of rs x d = let more = length_push rs x in get_or_at rs x [] d (length (rs ++ x ∷ []) - 1) (omega arith)

-- what falls, read from behind, begins with the run that went over
risen : (fs : List Run) (x : Run) → reverse (fs ++ x ∷ []) ≡ x ∷ reverse fs
risen fs x = reverse-append fs (x ∷ [])

runs-last : (rs ps fs : List Run) (x : Run) → IsMerging (rs ++ x ∷ []) ps fs → LastIsBehind (rs ++ x ∷ []) ps → Steps (rs ++ x ∷ []) ps fs rs ps (fs ++ x ∷ [])
runs-last rs ps fs x m last =
    let up = reverse fs in
    let over : Above 0 (rs ++ x ∷ up) = subst (Above 0) (append_assoc rs (x ∷ []) up) m.before_runs in
    let behind : last_end 0 ps < start_of x = subst (λ (r : Run). last_end 0 ps < start_of r) (last-of rs x x) (last.behind x) in
    record {
      merging = record {
        before_runs = subst (λ us. Above 0 (rs ++ us)) (sym (risen fs x)) over;
        before_patch = subst (λ us. Above 0 (ps ++ us)) (sym (risen fs x)) (above-among rs ps up x over m.before_patch behind);
        covers = covers-fewer ps rs x m.covers;
      };
      view = ap (λ us. of_runs (rs ++ (ps ++ us))) (risen fs x) ∙ moved-view rs ps up x;
    }

patch-last : (rs ps fs : List Run) (x : Run) → IsMerging rs (ps ++ x ∷ []) fs → LastIsBehind (ps ++ x ∷ []) rs → Steps rs (ps ++ x ∷ []) fs rs ps (fs ++ x ∷ [])
patch-last rs ps fs x m last =
    let up = reverse fs in
    let over : Above 0 (ps ++ x ∷ up) = subst (Above 0) (append_assoc ps (x ∷ []) up) m.before_patch in
    let behind : last_end 0 rs < start_of x = subst (λ (r : Run). last_end 0 rs < start_of r) (last-of ps x x) (last.behind x) in
    record {
      merging = record {
        before_runs = subst (λ us. Above 0 (rs ++ us)) (sym (risen fs x)) (above-among ps rs up x over m.before_runs behind);
        before_patch = subst (λ us. Above 0 (ps ++ us)) (sym (risen fs x)) over;
        covers = covers-less ps rs x m.covers;
      };
      view = ap (λ us. of_runs (rs ++ (ps ++ us))) (risen fs x) ∙ ap (λ us. of_runs (rs ++ us)) (sym (append_assoc ps (x ∷ []) up));
    }

-- where neither last run is behind the other list, both lists have one, and each ends no earlier than the other begins
pub record LastsMeet (rs ps : List Run) : Type 0 where
  pub runs : LastIsReached ps rs
  pub patch : LastIsReached rs ps

pub lasts-meet : (rs ps : List Run) → 0 < length rs + length ps → (0 < length rs → LastIsReached rs ps) → (0 < length ps → LastIsReached ps rs) → LastsMeet rs ps
lasts-meet [] [] h f g = absurd (omega arith)
lasts-meet [] (p ∷ ps) h f g = absurd (let none = (g (omega arith)).some in omega arith)
lasts-meet (r ∷ rs) ps h f g = let reached = f (omega arith) in record { patch = reached; runs = g reached.some }

-- the patch has all that a run has which the last of the patch touches
patch-has : (rs ps : List Run) (x : Run) → Covers ps (rs ++ x ∷ []) → LastIsReached ps (rs ++ x ∷ []) → LastIsReached (rs ++ x ∷ []) ps → join (of_runs ps) (of_run x) ≡ of_runs ps
patch-has rs ps x c one other =
    let all = rs ++ x ∷ [] in
    let p = last_of ps x in
    let some_run = one.some in
    let some_patch = other.some in
    let is : p ≡ slice_index_or ps (length ps - 1) p = get_or_default ps (length ps - 1) x p (omega arith) in
    let own = member ps (length ps - 1) p (omega arith) is in
    let has : join (of_run p) (of_run x) ≡ of_run p = subst (λ (r : Run). join (of_run p) (of_run r) ≡ of_run p) (last-of rs x x)
    (c (length all - 1) (length ps - 1) x x (omega arith) (omega arith) (other.reached x x) (one.reached x x)) in
    ap (λ (v : View). join v (of_run x)) (sym own) ∙ join-assoc (of_runs ps) (of_run p) (of_run x) ∙ ap (join (of_runs ps)) has ∙ own

runs-less : (rs ps fs : List Run) (x : Run) → IsMerging (rs ++ x ∷ []) ps fs → LastsMeet (rs ++ x ∷ []) ps → Steps (rs ++ x ∷ []) ps fs rs ps fs
runs-less rs ps fs x m meet =
    let up = reverse fs in
    record {
      merging = record {
        before_runs = above-without 0 rs up x (subst (Above 0) (append_assoc rs (x ∷ []) up) m.before_runs);
        before_patch = m.before_patch;
        covers = covers-fewer ps rs x m.covers;
      };
      view = dropped-view rs ps up x (patch-has rs ps x m.covers meet.runs meet.patch);
    }

-- ---- the steps as the code takes them

pub runs-over : {rs ps fs rs' fs' : List Run} (x : Run) → rs ≡ rs' ++ x ∷ [] → fs' ≡ fs ++ x ∷ [] → IsMerging rs ps fs → LastIsBehind rs ps → Steps rs ps fs rs' ps fs'
runs-over {rs} {ps} {fs} {rs'} {fs'} x is more m last =
    subst (λ gs. Steps rs ps fs rs' ps gs) (sym more) (subst (λ qs. Steps qs ps fs rs' ps (fs ++ x ∷ [])) (sym is)
    (runs-last rs' ps fs x (subst (λ qs. IsMerging qs ps fs) is m) (subst (λ qs. LastIsBehind qs ps) is last)))

pub patch-over : {rs ps fs ps' fs' : List Run} (x : Run) → ps ≡ ps' ++ x ∷ [] → fs' ≡ fs ++ x ∷ [] → IsMerging rs ps fs → LastIsBehind ps rs → Steps rs ps fs rs ps' fs'
patch-over {rs} {ps} {fs} {ps'} {fs'} x is more m last =
    subst (λ gs. Steps rs ps fs rs ps' gs) (sym more) (subst (λ qs. Steps rs qs fs rs ps' (fs ++ x ∷ [])) (sym is)
    (patch-last rs ps' fs x (subst (λ qs. IsMerging rs qs fs) is m) (subst (λ qs. LastIsBehind qs rs) is last)))

pub run-dropped : {rs ps fs rs' : List Run} (x : Run) → rs ≡ rs' ++ x ∷ [] → IsMerging rs ps fs → LastsMeet rs ps → Steps rs ps fs rs' ps fs
run-dropped {rs} {ps} {fs} {rs'} x is m meet =
    subst (λ qs. Steps qs ps fs rs' ps fs) (sym is) (runs-less rs' ps fs x (subst (λ qs. IsMerging qs ps fs) is m) (subst (λ qs. LastsMeet qs ps) is meet))

-- ---- before the first step

pub none-over : (rs ps fs : List Run) → fs ≡ [] → Above 0 rs → Above 0 ps → Covers ps rs → IsMerging rs ps fs
none-over rs ps fs none a b c = record {
  before_runs = subst (Above 0) (sym (append-nil rs) ∙ ap (λ gs. rs ++ reverse gs) (sym none)) a;
  before_patch = subst (Above 0) (sym (append-nil ps) ∙ ap (λ gs. ps ++ reverse gs) (sym none)) b;
  covers = c;
}

pub none-told : (rs ps fs : List Run) → fs ≡ [] → of_all rs ps fs ≡ join (of_runs rs) (of_runs ps)
none-told rs ps fs none = ap (λ gs. of_runs (rs ++ (ps ++ reverse gs))) none ∙ ap (λ qs. of_runs (rs ++ qs)) (append-nil ps) ∙ of-both rs ps
