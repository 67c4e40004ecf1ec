-- A message that comes after a receive does so in every continuation, and only an end that comes changes what does.
use Rattle.std.proofs.Common.{subst, ◌≡◌, ℕ, zero, suc, ◌+◌, ◌<◌, ◌≤◌, Bool, true, false, ◌&&◌, ◌||◌, List, [], ◌∷◌, ◌++◌, inl, inr, ⊎_elim, sym, refl, ◌∙◌, ap, arith, length, take, drop, get_or, eqb, ltb, cond, Option, Some, None}
use Rattle.std.specs.Prelude.{nat_le, is_some}
use Rattle.std.specs.List.{AllZip, list_any, flat_map}
use Rattle.std.proofs.lemmas.Bool.Decides.{nat_tests}
use Rattle.std.proofs.lemmas.List.{get_or_past, take-append-drop}
use Rattle.std.proofs.lemmas.List.Elements.{AllZip-get_or}
use Rattle.mpi_model.specs.declared.event.OpName.{OpName}
use Rattle.mpi_model.specs.declared.message.Message.{Message}
use Rattle.mpi_model.specs.declared.message.Receive.{Receive}
use Rattle.mpi_model.specs.Fit.{envelopes_fit}
use Rattle.trace_ops.specs.declared.entered.Entered.{Entered}
use Rattle.trace_ops.specs.Ops.{Ops, no_ops, IsOwn, AreOwn, Grows, SameSend, TellsMore}
use Rattle.trace_ops.specs.Order.{Has, AreEntered}
use Rattle.trace_ops.specs.Round.{is_barrier}
use Rattle.trace_pair.specs.After.{communicating, communications, entered_before, is_left, is_own, is_after, comes_after}
use Rattle.trace_pair.specs.Ends.{IsLastFor, NoneHides, SomeHides, ends_by}
use Rattle.trace_pair.specs.Table.{sends_of, receives_of}
use Rattle.trace_pair.proofs.Communicating.{grows_kept, kept_rise}
use Rattle.trace_pair.proofs.Fitting.{envelopes_at}
use Rattle.trace_pair.proofs.Obeyed.{and_true, any_found, any_of, both, either, or_left, or_right}
use Rattle.trace_pair.proofs.Ranks.{has_left, has_right, has_either}

-- collective calls that come at or behind a call don't count before it
pub none_entered : (comm call : ℕ) (xs : List Entered) → ((x : Entered) → Has xs x → call ≤ x.call) → entered_before comm call xs ≡ 0
none_entered comm call [] h = refl
none_entered comm call (x ∷ xs) h =
    let le = h x (inl refl) in
    let e : ltb x.call call ≡ false = grind (arith, nat_tests) in
    elim (eqb x.comm comm) as (λ b. cond (b && ltb x.call call) (suc (entered_before comm call xs)) (entered_before comm call xs) ≡ 0) [
      | true ↦ ap (λ b. cond b (suc (entered_before comm call xs)) (entered_before comm call xs)) e ∙ none_entered comm call xs (λ y i. h y (inr i))
      | false ↦ none_entered comm call xs (λ y i. h y (inr i))
    ]

pub entered_more : (comm call : ℕ) (xs ys : List Entered) → ((x : Entered) → Has ys x → call ≤ x.call) → entered_before comm call (xs ++ ys) ≡ entered_before comm call xs
entered_more comm call [] ys h = none_entered comm call ys h
entered_more comm call (x ∷ xs) ys h = ap (λ n. cond (eqb x.comm comm && ltb x.call call) (suc n) n) (entered_more comm call xs ys h)

-- no rank without ops enters a Barrier
none_left : (sender : Ops) (m : Message) (e : ℕ) (rounds : List Entered) → list_any (is_left sender no_ops m e) rounds ≡ false
none_left sender m e [] = refl
none_left sender m e (b ∷ rounds) =
    let a1 = is_barrier b in let a2 = ltb b.call m.name.call in let a3 = list_any (λ c. eqb c b.comm) sender.comms in
    ap (λ v. v || list_any (is_left sender no_ops m e) rounds) (never (a1 && a2 && a3) (nat_le (entered_before b.comm e []) (entered_before b.comm b.call sender.rounds)))
    ∙ none_left sender m e rounds
  where
    never : (x y : Bool) → (x && false && y) ≡ false
    never true y = refl
    never false y = refl

-- where the receiver's rank isn't among those that are held, only its own messages come after its receives
pub no_receiver : (held : List Ops) (m : Message) (at e : ℕ) → length held ≤ at → is_own m at e ≡ false → false ≡ is_after (get_or held m.from no_ops) (get_or held at no_ops) m at (Some e)
no_receiver held m at e le own =
    let s = get_or held m.from no_ops in
    let r = get_or_past held at no_ops le in
    let t = communicating s in
    sym (ap (λ v. v || list_any (is_left t (communicating (get_or held at no_ops)) m e) t.rounds) own ∙ ap (λ (o : Ops). list_any (is_left t (communicating o) m e) t.rounds) r ∙ none_left t m e t.rounds)

-- before a call no more were entered than before a later one
entered_fewer : (comm x y : ℕ) (xs : List Entered) → x ≤ y → entered_before comm x xs ≤ entered_before comm y xs
entered_fewer comm x y [] le = omega arith
entered_fewer comm x y (e ∷ xs) le =
    let more = entered_fewer comm x y xs le in
    elim (eqb e.comm comm) as (λ b. cond (b && ltb e.call x) (suc (entered_before comm x xs)) (entered_before comm x xs) ≤ cond (b && ltb e.call y) (suc (entered_before comm y xs)) (entered_before comm y xs)) [
      | true ↦ by (ltb e.call x) (ltb e.call y) refl refl more
      | false ↦ more
    ]
  where
    by : (b d : Bool) → ltb e.call x ≡ b → ltb e.call y ≡ d → entered_before comm x xs ≤ entered_before comm y xs →
        cond b (suc (entered_before comm x xs)) (entered_before comm x xs) ≤ cond d (suc (entered_before comm y xs)) (entered_before comm y xs)
    by true true h k more = omega arith
    by true false h k more = absurd (let lt : e.call < x = grind (arith, nat_tests) in let ge : y ≤ e.call = grind (arith, nat_tests) in omega arith)
    by false true h k more = omega arith
    by false false h k more = more

-- What comes after a receive comes after all that ended no later.
pub sooner : (sender receiver : Ops) (m : Message) (at : ℕ) (a b : Option ℕ) → ends_by a b ≡ true → is_after sender receiver m at b ≡ true → is_after sender receiver m at a ≡ true
sooner sender receiver m at a None h g = absurd (cc)
sooner sender receiver m at None (Some y) h g = absurd (cc)
sooner sender receiver m at (Some x) (Some y) h g =
    let le : x ≤ y = grind (arith, nat_tests) in
    let behind = list_any (is_left (communicating sender) (communicating receiver) m x) (communications sender.rounds) in
    ⊎_elim
    (λ (o : is_own m at y ≡ true).
    let p = both (eqb m.from at) (ltb y m.name.call) o in
    let lt : ltb x m.name.call ≡ true = let t = p.1 in grind (arith, nat_tests) in
    or_left (is_own m at x) behind (and_true (eqb m.from at) (ltb x m.name.call) p.0 lt))
    (λ (l : list_any (is_left (communicating sender) (communicating receiver) m y) (communications sender.rounds) ≡ true).
    let w = any_found (is_left (communicating sender) (communicating receiver) m y) (communications sender.rounds) l in
    let q = w.0 in
    let a1 = is_barrier q in let a2 = ltb q.call m.name.call in
    let a3 = list_any (λ c. eqb c q.comm) sender.comms in let a4 = list_any (λ c. eqb c q.comm) receiver.comms in
    let few = both (a1 && a2 && a3 && a4) (nat_le (entered_before q.comm y (communications receiver.rounds)) (entered_before q.comm q.call (communications sender.rounds))) w.2 in
    let t = few.1 in
    let fewer = entered_fewer q.comm x y (communications receiver.rounds) le in
    let still : nat_le (entered_before q.comm x (communications receiver.rounds)) (entered_before q.comm q.call (communications sender.rounds)) ≡ true = grind (arith, nat_tests) in
    or_right (is_own m at x) behind
    (any_of (is_left (communicating sender) (communicating receiver) m x) (communications sender.rounds) q w.1 (and_true (a1 && a2 && a3 && a4) (nat_le (entered_before q.comm x (communications receiver.rounds)) (entered_before q.comm q.call (communications sender.rounds))) few.0 still)))
    (either (is_own m at y) (list_any (is_left (communicating sender) (communicating receiver) m y) (communications sender.rounds)) g)

entered_across : (xs ys : List Entered) (x y : Entered) → AreEntered (xs ++ ys) → Has xs x → Has ys y → ltb x.call y.call ≡ true
entered_across [] ys x y o i j = absurd i
entered_across (z ∷ xs) ys x y o i j =
    ⊎_elim (λ (e : x ≡ z). subst (λ (w : Entered). ltb w.call y.call ≡ true) (sym e) (o.0 y (has_right xs ys y j))) (λ k. entered_across xs ys x y o.1 k j) i

-- what a longer list counts before a call, where what comes isn't before it
entered_same : (comm call : ℕ) (old new : List Entered) → take (length old) new ≡ old → ((x : Entered) → Has (drop (length old) new) x → call ≤ x.call) → entered_before comm call new ≡ entered_before comm call old
entered_same comm call old new e h =
    ap (λ (l : List Entered). entered_before comm call l) (sym (take-append-drop (length old) new))
    ∙ entered_more comm call (take (length old) new) (drop (length old) new) h
    ∙ ap (λ (l : List Entered). entered_before comm call l) e

-- Where the receive that ends last of those whose envelopes fit may have taken the message, some may; where that one
-- may not, none may.
module _ (held : List Ops) (opened : List Receive) (m : Message) (e : Option ℕ) (last : IsLastFor opened m (Some e)) where
  at_its_rank : (u : Receive) → envelopes_fit m u ≡ true → comes_after held m u ≡ is_after (get_or held m.from no_ops) (get_or held m.to no_ops) m m.to u.ended
  at_its_rank u f = ap (λ x. is_after (get_or held m.from no_ops) (get_or held x no_ops) m x u.ended) (sym (envelopes_at m u f))

  pub some_hides : is_after (get_or held m.from no_ops) (get_or held m.to no_ops) m m.to e ≡ false → SomeHides (comes_after held) opened m
  some_hides h =
      let w = last.0 in
      (w.0, w.1, w.2, at_its_rank w.0 w.2 ∙ ap (λ o. is_after (get_or held m.from no_ops) (get_or held m.to no_ops) m m.to o) w.3 ∙ h)

  pub none_hides : is_after (get_or held m.from no_ops) (get_or held m.to no_ops) m m.to e ≡ true → NoneHides (comes_after held) opened m
  none_hides h u i f = at_its_rank u f ∙ sooner (get_or held m.from no_ops) (get_or held m.to no_ops) m m.to u.ended e (last.1 u i f) h

module _ (so sn ro rn : Ops) (grows : Grows so sn) (grows_too : Grows ro rn) (entered : AreEntered sn.rounds) (m n : Message) (same : SameSend m n) (e : ℕ)
    (later : (x : Entered) → Has (drop (length ro.rounds) rn.rounds) x → e ≤ x.call) where
  held_on : (b : Entered) → Has so.rounds b → Has sn.rounds b
  held_on b i =
      let k = length so.rounds in
      subst (λ (l : List Entered). Has l b) (take-append-drop k sn.rounds) (has_left (take k sn.rounds) (drop k sn.rounds) b (subst (λ (l : List Entered). Has l b) (sym grows.rounds) i))

  behind : (b : Entered) → Has so.rounds b → (x : Entered) → Has (drop (length so.rounds) sn.rounds) x → b.call ≤ x.call
  behind b i x j =
      let k = length so.rounds in
      let o = subst (λ (l : List Entered). AreEntered l) (sym (take-append-drop k sn.rounds)) entered in
      let t = entered_across (take k sn.rounds) (drop k sn.rounds) b x o (subst (λ (l : List Entered). Has l b) (sym grows.rounds) i) j in
      grind (arith, nat_tests)

  left_same : (b : Entered) → Has so.rounds b → is_left sn rn n e b ≡ is_left so ro m e b
  left_same b i =
      let f : List ℕ → List ℕ → ℕ → ℕ → ℕ → Bool = λ cs cr call r s. is_barrier b && ltb b.call call && list_any (λ c. eqb c b.comm) cs && list_any (λ c. eqb c b.comm) cr && nat_le r s in
      let nr = entered_before b.comm e rn.rounds in let ns = entered_before b.comm b.call sn.rounds in
      let or = entered_before b.comm e ro.rounds in
      ap (λ cs. f cs rn.comms n.name.call nr ns) grows.comms
      ∙ ap (λ cr. f so.comms cr n.name.call nr ns) grows_too.comms
      ∙ ap (λ (x : OpName). f so.comms ro.comms x.call nr ns) same.name
      ∙ ap (λ r. f so.comms ro.comms m.name.call r ns) (entered_same b.comm e ro.rounds rn.rounds grows_too.rounds later)
      ∙ ap (λ s. f so.comms ro.comms m.name.call or s) (entered_same b.comm b.call so.rounds sn.rounds grows.rounds (behind b i))

  pub after_still : list_any (is_left so ro m e) so.rounds ≡ true → list_any (is_left sn rn n e) sn.rounds ≡ true
  after_still h =
      let w = any_found (is_left so ro m e) so.rounds h in
      any_of (is_left sn rn n e) sn.rounds w.0 (held_on w.0 w.1) (left_same w.0 w.1 ∙ w.2)

  -- a barrier that came stands behind the message
  pub after_before : ((x : Entered) → Has (drop (length so.rounds) sn.rounds) x → m.name.call ≤ x.call) → list_any (is_left sn rn n e) sn.rounds ≡ true → list_any (is_left so ro m e) so.rounds ≡ true
  after_before not_before h =
      let k = length so.rounds in
      let w = any_found (is_left sn rn n e) sn.rounds h in
      let b = w.0 in
      let i = subst (λ (l : List Entered). Has l b) (sym (take-append-drop k sn.rounds)) w.1 in
      ⊎_elim
      (λ (x : Has (take k sn.rounds) b).
      let y = subst (λ (l : List Entered). Has l b) grows.rounds x in
      any_of (is_left so ro m e) so.rounds b y (sym (left_same b y) ∙ w.2))
      (λ (x : Has (drop k sn.rounds) b).
      let le = not_before b x in
      let a1 = is_barrier b in let a2 = ltb b.call n.name.call in
      let a3 = list_any (λ c. eqb c b.comm) sn.comms in let a4 = list_any (λ c. eqb c b.comm) rn.comms in
      let a5 = nat_le (entered_before b.comm e rn.rounds) (entered_before b.comm b.call sn.rounds) in
      let lt = (both a1 a2 (both (a1 && a2) a3 (both (a1 && a2 && a3) a4 (both (a1 && a2 && a3 && a4) a5 w.2).0).0).0).1 in
      let lt' = subst (λ (x : OpName). ltb b.call x.call ≡ true) same.name lt in
      let gt : b.call < m.name.call = grind (arith, nat_tests) in absurd (omega arith))
      (has_either (take k sn.rounds) (drop k sn.rounds) b i)

-- what a rank sends itself stays behind the end of a receive
own_same : (m n : Message) (at e : ℕ) → SameSend m n → is_own n at e ≡ is_own m at e
own_same m n at e s = ap (λ x. eqb x at && ltb e n.name.call) s.from ∙ ap (λ (x : OpName). eqb m.from at && ltb e x.call) s.name

-- the rank of a call, and its ops
module _ {X : Type 0} (part : Ops → List X) (rank : X → ℕ) (own : (r : ℕ) (o : Ops) (x : X) → IsOwn r o → Has (part o) x → rank x ≡ r) where
  held_by : (os : List Ops) (first : ℕ) (x : X) → AreOwn first os → Has (flat_map part os) x → (i : ℕ) × (rank x ≡ first + i) × (i < length os) × Has (part (get_or os i no_ops)) x
  held_by [] first x a h = absurd h
  held_by (o ∷ os) first x a h =
      ⊎_elim (λ (j : Has (part o) x). let e = own first o x a.0 j in (0, omega arith, omega arith, j))
      (λ (j : Has (flat_map part os) x). let w = held_by os (first + 1) x a.1 j in let e = w.1 in let l = w.2 in (suc w.0, omega arith, omega arith, w.3))
      (has_either (part o) (flat_map part os) x h)

  pub held_at : (os : List Ops) (x : X) → AreOwn 0 os → Has (flat_map part os) x → (rank x < length os) × Has (part (get_or os (rank x) no_ops)) x
  held_at os x a h =
      let w = held_by os 0 x a h in
      let e : w.0 ≡ rank x = let d = w.1 in omega arith in
      (subst (λ i. i < length os) e w.2, subst (λ i. Has (part (get_or os i no_ops)) x) e w.3)

own_at : (os : List Ops) (first i : ℕ) → i < length os → AreOwn first os → AreEntered (get_or os i no_ops).rounds
own_at [] first i lt a = absurd (omega arith)
own_at (o ∷ os) first zero lt a = a.0.rounds_rise
own_at (o ∷ os) first (suc i) lt a = own_at os (first + 1) i (omega arith) a.1

pub length_zip : {X Y : Type 0} (R : X → Y → Type 0) (xs : List X) (ys : List Y) → AllZip R xs ys → length xs ≡ length ys
length_zip R [] [] z = refl
length_zip R [] (y ∷ ys) z = absurd z
length_zip R (x ∷ xs) [] z = absurd z
length_zip R (x ∷ xs) (y ∷ ys) z = ap (λ n. suc n) (length_zip R xs ys z.1)

module _ (held more : List Ops) (own : AreOwn 0 held) (own_more : AreOwn 0 more) (grows : AllZip Grows held more) where
  pub stays_after : (m n : Message) (q r : Receive) → Has (sends_of held) m → SameSend m n → Has (receives_of held) q → TellsMore q r → comes_after held m q ≡ true → comes_after more n r ≡ true
  stays_after m n q r i s j t h =
      elim q.ended as (λ o. q.ended ≡ o → is_after (get_or held m.from no_ops) (get_or held q.at no_ops) m q.at o ≡ true → comes_after more n r ≡ true) [
        | None ↦ λ _ h. absurd (cc)
        | Some e ↦ λ is h.
            let a = held_at (λ o. o.sends) (λ m. m.from) (λ r o m w. w.sent_from m) held m own i in
            let b = held_at (λ o. o.receives) (λ q. q.at) (λ r o q w. w.posted_at q) held q own j in
            let g = grows_kept (get_or held m.from no_ops) (get_or more m.from no_ops) (AllZip-get_or Grows held more m.from no_ops no_ops grows a.0) in
            let g' = grows_kept (get_or held q.at no_ops) (get_or more q.at no_ops) (AllZip-get_or Grows held more q.at no_ops no_ops grows b.0) in
            let len = length_zip Grows held more grows in
            let u = kept_rise (get_or more m.from no_ops).rounds (own_at more 0 m.from (subst (λ n. m.from < n) len a.0) own_more) in
            let before = list_any (is_left (communicating (get_or held m.from no_ops)) (communicating (get_or held q.at no_ops)) m e) (communications (get_or held m.from no_ops).rounds) in
            let now = list_any (is_left (communicating (get_or more m.from no_ops)) (communicating (get_or more q.at no_ops)) n e) (communications (get_or more m.from no_ops).rounds) in
            let k : is_after (get_or more m.from no_ops) (get_or more q.at no_ops) n q.at (Some e) ≡ true = ⊎_elim
            (λ (x : is_own m q.at e ≡ true). or_left (is_own n q.at e) now (own_same m n q.at e s ∙ x))
            (λ (x : before ≡ true). or_right (is_own n q.at e) now
            (after_still (communicating (get_or held m.from no_ops)) (communicating (get_or more m.from no_ops)) (communicating (get_or held q.at no_ops)) (communicating (get_or more q.at no_ops)) g g' u m n s e (λ x y. let lt = g'.behind_ends q e x b.1 is y in omega arith) x))
            (either (is_own m q.at e) before h) in
            let known : is_some q.ended ≡ true = ap (λ o. is_some o) is in
            let ends : r.ended ≡ Some e = t.ended known ∙ is in
            subst (λ x. is_after (get_or more x no_ops) (get_or more r.at no_ops) n r.at r.ended ≡ true) (sym s.from)
            (subst (λ x. is_after (get_or more m.from no_ops) (get_or more x no_ops) n x r.ended ≡ true) (sym t.at)
            (subst (λ o. is_after (get_or more m.from no_ops) (get_or more q.at no_ops) n q.at o ≡ true) (sym ends) k))
      ] refl h

  -- and nothing else comes after a receive that ended as it had
  pub was_after : (m n : Message) (q r : Receive) → Has (sends_of held) m → SameSend m n → Has (receives_of held) q → TellsMore q r → r.ended ≡ q.ended → comes_after more n r ≡ true → comes_after held m q ≡ true
  was_after m n q r i s j t ends h =
      let h' : is_after (get_or more m.from no_ops) (get_or more q.at no_ops) n q.at q.ended ≡ true =
      subst (λ x. is_after (get_or more x no_ops) (get_or more q.at no_ops) n q.at q.ended ≡ true) s.from
      (subst (λ x. is_after (get_or more n.from no_ops) (get_or more x no_ops) n x q.ended ≡ true) t.at
      (subst (λ o. is_after (get_or more n.from no_ops) (get_or more r.at no_ops) n r.at o ≡ true) ends h)) in
      elim q.ended as (λ o. q.ended ≡ o → is_after (get_or more m.from no_ops) (get_or more q.at no_ops) n q.at o ≡ true → is_after (get_or held m.from no_ops) (get_or held q.at no_ops) m q.at o ≡ true) [
        | None ↦ λ _ h. absurd (cc)
        | Some e ↦ λ is h.
            let a = held_at (λ o. o.sends) (λ m. m.from) (λ r o m w. w.sent_from m) held m own i in
            let b = held_at (λ o. o.receives) (λ q. q.at) (λ r o q w. w.posted_at q) held q own j in
            let g = grows_kept (get_or held m.from no_ops) (get_or more m.from no_ops) (AllZip-get_or Grows held more m.from no_ops no_ops grows a.0) in
            let g' = grows_kept (get_or held q.at no_ops) (get_or more q.at no_ops) (AllZip-get_or Grows held more q.at no_ops no_ops grows b.0) in
            let len = length_zip Grows held more grows in
            let u = kept_rise (get_or more m.from no_ops).rounds (own_at more 0 m.from (subst (λ n. m.from < n) len a.0) own_more) in
            let before = list_any (is_left (communicating (get_or held m.from no_ops)) (communicating (get_or held q.at no_ops)) m e) (communications (get_or held m.from no_ops).rounds) in
            let now = list_any (is_left (communicating (get_or more m.from no_ops)) (communicating (get_or more q.at no_ops)) n e) (communications (get_or more m.from no_ops).rounds) in
            ⊎_elim
            (λ (x : is_own n q.at e ≡ true). or_left (is_own m q.at e) before (sym (own_same m n q.at e s) ∙ x))
            (λ (x : now ≡ true). or_right (is_own m q.at e) before
            (after_before (communicating (get_or held m.from no_ops)) (communicating (get_or more m.from no_ops)) (communicating (get_or held q.at no_ops)) (communicating (get_or more q.at no_ops)) g g' u m n s e (λ x y. let lt = g'.behind_ends q e x b.1 is y in omega arith) (λ x y. let lt = g.behind_sends m x a.1 y in omega arith) x))
            (either (is_own n q.at e) now h)
      ] refl h'
