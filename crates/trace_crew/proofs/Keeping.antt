-- Each step keeps the rule of the queue.
use Rattle.std.proofs.Common.{◌≡◌, ◌≢◌, ◌⊎◌, ℕ, zero, suc, true, false, cond, Option, Some, None, List, [], ◌∷◌, ◌++◌, length, set, sym, refl, ap, ◌∙◌, subst, ⊎_elim, inl, inr, append_assoc}
use Rattle.std.proofs.lemmas.List.{append-nil}
use Rattle.std.proofs.lemmas.List.Elements.{filter-append}
use mathlib.Core.Option.{some, some-ne-none, some-injective}
use lib.ListN.{get_elem?}
use Rattle.crossbeam_channel.specs.Fifo.{Pushes, Pops, Forks, Merges, Learns}
use Rattle.atomic_table.proofs.Lists.{at_set}
use Rattle.trace_crew.specs.declared.queue.item.Worker.{Worker}
use Rattle.trace_crew.specs.declared.queue.item.Worker.TheVariants.{First, Second}
use Rattle.trace_crew.specs.declared.queue.item.WorkerPost.{WorkerPost}
use Rattle.trace_crew.specs.declared.queue.rule.WorkerStanding.{WorkerStanding}
use Rattle.trace_crew.specs.declared.queue.rule.WorkerStanding.TheVariants.{Unmade, Running, Joined}
use Rattle.trace_crew.specs.declared.queue.rule.Desk.{Desk}
use Rattle.trace_crew.specs.declared.queue.rule.SeatView.{SeatView}
use Rattle.trace_crew.specs.declared.queue.rule.SeatView.TheVariants.{Owner, Poster, Spent}
use Rattle.trace_crew.specs.Views.{is_from, of, desk, standing, with_standing, after_post, after_take, after_make, after_join}
use Rattle.trace_crew.specs.Rule.{Knows, Fits, InOrder, AreAllOf, Arrived}

-- two workers are one or are told apart
which : (u w : Worker) → (u ≡ w) ⊎ ((u ≢ w) × (is_from u w ≡ false))
which First First = inl refl
which First Second = inr ((λ e. cc), refl)
which Second First = inr ((λ e. cc), refl)
which Second Second = inl refl

itself : (w : Worker) → is_from w w ≡ true
itself First = refl
itself Second = refl

-- one item, as its worker and as another sees it
own_item : (w : Worker) (x : WorkerPost) → x.from ≡ w → of w (x ∷ []) ≡ x ∷ []
own_item w x e = ap (λ b. cond b (x ∷ []) []) (ap (is_from w) e ∙ itself w)

other_item : (u w : Worker) (x : WorkerPost) → x.from ≡ w → is_from u w ≡ false → of u (x ∷ []) ≡ []
other_item u w x e n = ap (λ b. cond b (x ∷ []) []) (ap (is_from u) e ∙ n)

abbrev AllFit : (ℕ → SeatView → Type 0) → List SeatView → Type 0
AllFit F views = (pass : ℕ) (v : SeatView) → get_elem? views pass ≡ some v → F pass v

fit_set : (F : ℕ → SeatView → Type 0) (views : List SeatView) (pass : ℕ) (w : SeatView) → F pass w → ((j : ℕ) (u : SeatView) → j ≢ pass → get_elem? views j ≡ some u → F j u) → AllFit F (set views pass w)
fit_set F views pass w mine others j u e =
    ⊎_elim (λ (x : (j ≡ pass) × (w ≡ u)). subst (λ (y : ℕ × SeatView). F y.0 y.1) (λ i. (sym x.0 i, x.1 i)) mine)
    (λ (x : (j ≢ pass) × (get_elem? views j ≡ some u)). others j u x.0 x.1) (at_set views pass j w u e)

at_end : (l : List SeatView) (a b : SeatView) (j : ℕ) → get_elem? (l ++ a ∷ []) j ≡ some b → (get_elem? l j ≡ some b) ⊎ ((j ≡ length l) × (a ≡ b))
at_end [] a b zero e = inr (refl, some-injective a b e)
at_end [] a b (suc j) e = absurd (some-ne-none b (sym e))
at_end (x ∷ xs) a b zero e = inl e
at_end (x ∷ xs) a b (suc j) e = ⊎_elim (λ h. inl h) (λ (h : (j ≡ length xs) × (a ≡ b)). inr (ap suc h.0, h.1)) (at_end xs a b j e)

-- The rule holds of an empty queue whose owner has taken nothing.
pub begins : InOrder [] (Owner (desk [] Unmade Unmade) ∷ [])
begins = (0, [], (λ w. None), (λ w. []), (λ w. refl), fit_set (Fits 0 [] (λ w. None) (λ w. [])) (Owner (desk [] Unmade Unmade) ∷ []) 0 (Owner (desk [] Unmade Unmade)) (refl, refl, none) others)
  where
    none : (w : Worker) → Knows None [] (standing (desk [] Unmade Unmade) w)
    none First = (refl, refl)
    none Second = (refl, refl)

    others : (j : ℕ) (u : SeatView) → j ≢ 0 → get_elem? (Owner (desk [] Unmade Unmade) ∷ []) j ≡ some u → Fits 0 [] (λ w. None) (λ w. []) j u
    others zero u n e = absurd (n refl)
    others (suc j) u n e = absurd (some-ne-none u (sym e))

-- What the owner knows of a worker outlives a post of one that has a seat.
knows_post : (seat : Option ℕ) (pass : ℕ) (u w : Worker) (posted : List WorkerPost) (x : WorkerPost) (s : WorkerStanding) → x.from ≡ w → (u ≡ w → seat ≡ Some pass) → Knows seat posted s → Knows seat (posted ++ of u (x ∷ [])) s
knows_post seat pass u w posted x Unmade e at k = (k.0, ⊎_elim (λ (y : u ≡ w). absurd (let h = at y in let g = k.0 in cc)) (λ (y : (u ≢ w) × (is_from u w ≡ false)). ap (λ l. posted ++ l) (other_item u w x e y.1) ∙ append-nil posted ∙ k.1) (which u w))
knows_post seat pass u w posted x Running e at k = tt
knows_post seat pass u w posted x (Joined all) e at k = (k.0, ⊎_elim (λ (y : u ≡ w). absurd (let h = at y in let g = k.0 in cc)) (λ (y : (u ≢ w) × (is_from u w ≡ false)). k.1 ∙ sym (ap (λ l. posted ++ l) (other_item u w x e y.1) ∙ append-nil posted)) (which u w))

-- What fits before a post by w fits after it, at each other pass.
fits_post : (owner : ℕ) (taken : List WorkerPost) (seat : Worker → Option ℕ) (posted : Worker → List WorkerPost) (pass : ℕ) (w : Worker) (x : WorkerPost) (j : ℕ) (u : SeatView)
    → x.from ≡ w → seat w ≡ Some pass → j ≢ pass → Fits owner taken seat posted j u → Fits owner taken seat (λ v. posted v ++ of v (x ∷ [])) j u
fits_post owner taken seat posted pass w x j (Owner d) e at n f = (f.0, f.1, λ v. knows_post (seat v) pass v w (posted v) x (standing d v) e (λ y. ap seat y ∙ at) (f.2 v))
fits_post owner taken seat posted pass w x j (Poster v all) e at n f =
    (f.0, ⊎_elim (λ (y : v ≡ w). absurd (n (let h = ap seat y ∙ at in let g = f.0 in cc))) (λ (y : (v ≢ w) × (is_from v w ≡ false)). f.1 ∙ sym (ap (λ l. posted v ++ l) (other_item v w x e y.1) ∙ append-nil (posted v))) (which v w))
fits_post owner taken seat posted pass w x j Spent e at n f = tt

-- A worker's post keeps the rule.
pub posts : (n pass : ℕ) (w : Worker) (all : List WorkerPost) (x : WorkerPost) → x.from ≡ w → Pushes InOrder n pass (Poster w all) x (λ u. u ≡ Poster w (all ++ x ∷ []))
posts n pass w all x e items views room h at =
    let mine = h.5 pass (Poster w all) at in
    let posted : Worker → List WorkerPost = λ v. h.3 v ++ of v (x ∷ []) in (
      Poster w (all ++ x ∷ []),
      (
        h.0,
        h.1,
        h.2,
        posted,
        (λ v. ap (of v) (sym (append_assoc h.1 items (x ∷ []))) ∙ filter-append (λ (i : WorkerPost). is_from v i.from) (h.1 ++ items) (x ∷ []) ∙ ap (λ l. l ++ of v (x ∷ [])) (h.4 v)),
        fit_set (Fits h.0 h.1 h.2 posted) views pass (Poster w (all ++ x ∷ [])) (mine.0, ap (λ l. l ++ x ∷ []) mine.1 ∙ ap (λ l. h.3 w ++ l) (sym (own_item w x e)))
            (λ j u other f. fits_post h.0 h.1 h.2 h.3 pass w x j u e mine.0 other (h.5 j u f)),
      ),
      refl,
    )

-- What fits before the owner takes fits after it, at each other pass.
fits_take : (owner : ℕ) (taken more : List WorkerPost) (seat : Worker → Option ℕ) (posted : Worker → List WorkerPost) (j : ℕ) (u : SeatView) → j ≢ owner → Fits owner taken seat posted j u → Fits owner more seat posted j u
fits_take owner taken more seat posted j (Owner d) n f = absurd (n f.0)
fits_take owner taken more seat posted j (Poster w all) n f = f
fits_take owner taken more seat posted j Spent n f = tt

-- A receive by the owner keeps the rule.
pub takes : (pass : ℕ) (d : Desk) → Pops InOrder pass (Owner d) (λ x u. u ≡ Owner (desk (d.taken ++ x ∷ []) d.first d.second))
takes pass d x items views h at =
    let mine = h.5 pass (Owner d) at in
    let more = h.1 ++ x ∷ [] in
    let after = desk (d.taken ++ x ∷ []) d.first d.second in (
      Owner after,
      (
        h.0,
        more,
        h.2,
        h.3,
        (λ w. ap (of w) (append_assoc h.1 (x ∷ []) items) ∙ h.4 w),
        fit_set (Fits h.0 more h.2 h.3) views pass (Owner after) (mine.0, ap (λ l. l ++ x ∷ []) mine.1, same d (d.taken ++ x ∷ []) h.2 h.3 mine.2)
            (λ j u other f. fits_take h.0 h.1 more h.2 h.3 j u (λ y. other (y ∙ sym mine.0)) (h.5 j u f)),
      ),
      refl,
    )
  where
    same : (d : Desk) (more : List WorkerPost) (seat : Worker → Option ℕ) (posted : Worker → List WorkerPost) → ((w : Worker) → Knows (seat w) (posted w) (standing d w)) → (w : Worker) → Knows (seat w) (posted w) (standing (desk more d.first d.second) w)
    same d more seat posted k First = k First
    same d more seat posted k Second = k Second

-- What the owner learns: of a worker that was joined, taken and held are all that it posted.
arrived : (taken : List WorkerPost) (seat : Option ℕ) (posted : List WorkerPost) (w : Worker) (items : List WorkerPost) (s : WorkerStanding) → of w (taken ++ items) ≡ posted → Knows seat posted s → AreAllOf w (taken ++ items) s
arrived taken seat posted w items Unmade e k = tt
arrived taken seat posted w items Running e k = tt
arrived taken seat posted w items (Joined all) e k = e ∙ sym k.1

pub learns : (pass : ℕ) (d : Desk) → Learns InOrder pass (Owner d) (Arrived (Owner d))
learns pass d items views h at =
    let mine = h.5 pass (Owner d) at in
    let is : (w : Worker) → of w (d.taken ++ items) ≡ h.3 w = λ w. ap (λ l. of w (l ++ items)) mine.1 ∙ h.4 w in
    (arrived d.taken (h.2 First) (h.3 First) First items d.first (is First) (mine.2 First), arrived d.taken (h.2 Second) (h.3 Second) Second items d.second (is Second) (mine.2 Second))

-- a seat given to one worker
abbrev seat_at : (Worker → Option ℕ) → Worker → Option ℕ → Worker → Option ℕ
seat_at seat w s u = cond (is_from u w) s (seat u)

seat_here : (seat : Worker → Option ℕ) (w : Worker) (s : Option ℕ) → seat_at seat w s w ≡ s
seat_here seat w s = ap (λ b. cond b s (seat w)) (itself w)

seat_else : (seat : Worker → Option ℕ) (u w : Worker) (s : Option ℕ) → is_from u w ≡ false → seat_at seat w s u ≡ seat u
seat_else seat u w s n = ap (λ b. cond b s (seat u)) n

-- how the others stand when one changes
stands_else : (d : Desk) (u w : Worker) (s : WorkerStanding) → is_from u w ≡ false → standing (with_standing d w s) u ≡ standing d u
stands_else d First First s n = absurd (cc)
stands_else d First Second s n = refl
stands_else d Second First s n = refl
stands_else d Second Second s n = absurd (cc)

stands_here : (d : Desk) (w : Worker) (s : WorkerStanding) → standing (with_standing d w s) w ≡ s
stands_here d First s = refl
stands_here d Second s = refl

taken_same : (d : Desk) (w : Worker) (s : WorkerStanding) → (with_standing d w s).taken ≡ d.taken
taken_same d First s = refl
taken_same d Second s = refl

-- The owner's knowledge after one worker stands otherwise and has another seat.
knows_set : (d : Desk) (w : Worker) (s : WorkerStanding) (at : Option ℕ) (seat : Worker → Option ℕ) (posted : Worker → List WorkerPost) → Knows at (posted w) s
    → ((u : Worker) → Knows (seat u) (posted u) (standing d u)) → (u : Worker) → Knows (seat_at seat w at u) (posted u) (standing (with_standing d w s) u)
knows_set d w s at seat posted now k u = ⊎_elim
    (λ (y : u ≡ w). subst (λ (v : Worker). Knows (seat_at seat w at v) (posted v) (standing (with_standing d w s) v)) (sym y) (subst (λ (p : Option ℕ × WorkerStanding). Knows p.0 (posted w) p.1) (λ i. (sym (seat_here seat w at) i, sym (stands_here d w s) i)) now))
    (λ (y : (u ≢ w) × (is_from u w ≡ false)). subst (λ (p : Option ℕ × WorkerStanding). Knows p.0 (posted u) p.1) (λ i. (sym (seat_else seat u w at y.1) i, sym (stands_else d u w s y.1) i)) (k u))
    (which u w)

-- Other passes keep what fits them when a worker that none of them is gets another seat.
fits_seat : (owner : ℕ) (taken : List WorkerPost) (seat : Worker → Option ℕ) (posted : Worker → List WorkerPost) (w : Worker) (at : Option ℕ) (j : ℕ) (u : SeatView)
    → j ≢ owner → (seat w ≡ Some j → ⊥) → Fits owner taken seat posted j u → Fits owner taken (seat_at seat w at) posted j u
fits_seat owner taken seat posted w at j (Owner d) n free f = absurd (n f.0)
fits_seat owner taken seat posted w at j (Poster v all) n free f =
    (⊎_elim (λ (y : v ≡ w). absurd (free (ap seat (sym y) ∙ f.0))) (λ (y : (v ≢ w) × (is_from v w ≡ false)). seat_else seat v w at y.1 ∙ f.0) (which v w), f.1)
fits_seat owner taken seat posted w at j Spent n free f = tt

unmade : (seat : Option ℕ) (posted : List WorkerPost) (s : WorkerStanding) → s ≡ Unmade → Knows seat posted s → (seat ≡ None) × (posted ≡ [])
unmade seat posted s e k = subst (Knows seat posted) e k

-- Making a worker keeps the rule.
pub makes : (pass : ℕ) (d : Desk) (w : Worker) → standing d w ≡ Unmade → Forks InOrder pass (Owner d) (Owner (with_standing d w Running)) (Poster w [])
makes pass d w new items views h at =
    let mine = h.5 pass (Owner d) at in
    let left = Owner (with_standing d w Running) in
    let none = unmade (h.2 w) (h.3 w) (standing d w) new (mine.2 w) in
    let vs = set views pass left in
    let n : Option ℕ = Some (length vs) in
    let seat : Worker → Option ℕ = seat_at h.2 w n in
    let F : ℕ → SeatView → Type 0 = Fits h.0 h.1 seat h.3 in
    let old : AllFit F vs = fit_set F views pass left (mine.0, taken_same d w Running ∙ mine.1, knows_set d w Running n h.2 h.3 tt mine.2)
    (λ j u other f. fits_seat h.0 h.1 h.2 h.3 w n j u (λ y. other (y ∙ sym mine.0)) (λ y. let z = none.0 in cc) (h.5 j u f)) in (
      h.0,
      h.1,
      seat,
      h.3,
      h.4,
      λ j u f. ⊎_elim (λ (y : get_elem? vs j ≡ some u). old j u y)
          (λ (y : (j ≡ length vs) × (Poster w [] ≡ u)). subst (λ (p : ℕ × SeatView). F p.0 p.1) (λ i. (sym y.0 i, y.1 i)) (seat_here h.2 w n, sym none.1)) (at_end vs (Poster w []) u j f),
    )

-- Joining a worker keeps the rule.
pub joins : (pass : ℕ) (d : Desk) (other : ℕ) (w : Worker) (all : List WorkerPost) → Merges InOrder pass (Owner d) other (Poster w all) (Owner (with_standing d w (Joined all))) Spent
joins pass d other w all items views h at two at' =
    let mine = h.5 pass (Owner d) at in
    let both = Owner (with_standing d w (Joined all)) in
    let vs = set views pass both in
    let was : get_elem? views other ≡ some (Poster w all) = ⊎_elim (λ (y : (other ≡ pass) × (both ≡ Poster w all)). absurd (two y.0)) (λ (y : (other ≢ pass) × (get_elem? views other ≡ some (Poster w all))). y.1) (at_set views pass other both (Poster w all) at') in
    let theirs = h.5 other (Poster w all) was in
    let seat : Worker → Option ℕ = seat_at h.2 w None in
    let F : ℕ → SeatView → Type 0 = Fits h.0 h.1 seat h.3 in
    let G : ℕ → SeatView → Type 0 = λ j u. j ≢ other → F j u in
    let now : AllFit G vs = fit_set G views pass both (λ _. (mine.0, taken_same d w (Joined all) ∙ mine.1, knows_set d w (Joined all) None h.2 h.3 (refl, theirs.1) mine.2))
    (λ j u apart f. λ away. fits_seat h.0 h.1 h.2 h.3 w None j u (λ y. apart (y ∙ sym mine.0)) (λ y. away (let z = theirs.0 in cc)) (h.5 j u f)) in
    (h.0, h.1, seat, h.3, h.4, fit_set F vs other Spent tt (λ j u apart f. now j u f apart))

-- The same of a view that is known by an equation, as the calls ask for them.
pub can_post : (n pass : ℕ) (v : SeatView) (w : Worker) (all : List WorkerPost) (x : WorkerPost) → v ≡ Poster w all → x.from ≡ w → Pushes InOrder n pass v x (λ u. u ≡ after_post v x) × Learns InOrder pass v (λ items. Unit {0})
can_post n pass v w all x is e =
    let P : SeatView → Type 0 = λ y. Pushes InOrder n pass y x (λ u. u ≡ after_post y x) × Learns InOrder pass y (λ items. Unit {0}) in
    subst P (sym is) (posts n pass w all x e, λ items views h at. tt)

pub can_take : (pass : ℕ) (v : SeatView) (d : Desk) → v ≡ Owner d → Pops InOrder pass v (λ x u. u ≡ after_take v x) × Learns InOrder pass v (Arrived v)
can_take pass v d is =
    let P : SeatView → Type 0 = λ y. Pops InOrder pass y (λ x u. u ≡ after_take y x) × Learns InOrder pass y (Arrived y) in
    subst P (sym is) (takes pass d, learns pass d)

pub can_make : (pass : ℕ) (v : SeatView) (d : Desk) (w : Worker) → v ≡ Owner d → standing d w ≡ Unmade → Forks InOrder pass v (after_make w v) (Poster w [])
can_make pass v d w is new =
    let P : SeatView → Type 0 = λ y. Forks InOrder pass y (after_make w y) (Poster w []) in
    subst P (sym is) (makes pass d w new)

pub can_join : (pass : ℕ) (v : SeatView) (d : Desk) (other : ℕ) (u : SeatView) (w : Worker) (all : List WorkerPost) → v ≡ Owner d → u ≡ Poster w all → Merges InOrder pass v other u (after_join v u) Spent
can_join pass v d other u w all is are =
    let P : SeatView × SeatView → Type 0 = λ p. Merges InOrder pass p.0 other p.1 (after_join p.0 p.1) Spent in
    subst P (λ i. (sym is i, sym are i)) (joins pass d other w all)
