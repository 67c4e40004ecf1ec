-- An index whose rank did other calls: what comes after what is as it was among the calls that stay.
use Rattle.std.proofs.Common.{subst, ◌≡◌, ◌≢◌, ℕ, zero, suc, ◌<◌, ◌≤◌, Bool, true, false, ◌&&◌, ◌||◌, List, [], ◌∷◌, ◌++◌, inl, inr, ⊎_elim, sym, refl, ◌∙◌, ap, arith, ◌⊎◌, length, take, drop, get_or, set, eqb, ltb, cond, Option, Some, None}
use Rattle.std.specs.Prelude.{nat_le}
use Rattle.std.specs.List.{All, AllZip, list_any}
use Rattle.std.proofs.lemmas.Bool.Decides.{nat_tests}
use Rattle.std.proofs.lemmas.List.Elements.{All-get_or}
use Rattle.std.proofs.lemmas.List.{get_or_default, get_or-set_same, get_or-set_other, take-append-drop}
use Rattle.std.proofs.Math.Seq.{drop-length}
use Rattle.mpi_model.specs.declared.message.Message.{Message}
use Rattle.mpi_model.specs.declared.message.Receive.{Receive}
use Rattle.mpi_model.specs.Fit.{fits}
use Rattle.trace_ops.specs.declared.entered.Entered.{Entered}
use Rattle.trace_ops.specs.Ops.{Ops, no_ops, IsOwn, AreOwn}
use Rattle.trace_ops.specs.Order.{AreEntered, Has}
use Rattle.trace_ops.specs.Round.{is_barrier}
use Rattle.trace_pair.specs.After.{communicating, entered_before, is_left, is_own, is_after, comes_after}
use Rattle.trace_pair.specs.Calls.{between, IsSingle}
use Rattle.trace_pair.specs.Fronts.{AreAsBefore, AreFronts, AreOneBefore, IsAlike, IsEndedBy}
use Rattle.trace_pair.specs.Followed.{Adds, Drops, Follows, Indexes}
use Rattle.trace_pair.specs.Pairing.{After, Paired}
use Rattle.trace_pair.specs.Table.{sends_of, receives_of}
use Rattle.trace_pair.specs.declared.follow.Fronts.{Fronts}
use Rattle.trace_pair.specs.declared.matched.Matched.{Matched}
use Rattle.trace_pair.proofs.Communicating.{one_before_kept}
use Rattle.trace_pair.proofs.Afterwards.{entered_more}
use Rattle.trace_pair.proofs.Holding.{same_sets}
use Rattle.trace_pair.proofs.Local.{same_pairs}
use Rattle.trace_pair.proofs.Obeyed.{any_found, any_of, both}
use Rattle.trace_pair.proofs.Ranked.{above, below, is_posting_by_call, is_sequence, own_at, split, split_set}
use Rattle.trace_pair.proofs.Ranks.{has_either, has_left}

-- ---- pairs where the same comes after the same

module _ (ms : List Message) (qs : List Receive) (one other : After) (agree : (m : Message) (q : Receive) → Has ms m → Has qs q → fits m q ≡ true → one m q ≡ other m q) where
  to : (m : Message) (q : Receive) → Has ms m → Paired one ms qs m q → Paired other ms qs m q
  to = same_pairs ms qs one other agree

  back : (m : Message) (q : Receive) → Has ms m → Paired other ms qs m q → Paired one ms qs m q
  back = same_pairs ms qs other one (λ m q i j f. sym (agree m q i j f))

  pub switched : (state : Matched) → Indexes one ms qs state → Indexes other ms qs state
  switched state held = record {
    sets = same_sets (Paired one ms qs) ms qs state.waiting state.free state.opened state.couples held.sets (Paired other ms qs) (λ m q i j h. to m q i h) (λ m q i j h. back m q i h);
    sent_alone = held.sent_alone;
    posted_alone = held.posted_alone;
  }

-- ---- collective calls that differ only behind a call

zip_self : (xs : List Entered) → AllZip IsAlike xs xs
zip_self [] = tt
zip_self (x ∷ xs) = (record { comm = refl; call = refl; barrier = refl; counted = refl }, zip_self xs)

zip_turned : (xs ys : List Entered) → AllZip IsAlike xs ys → AllZip IsAlike ys xs
zip_turned [] [] z = tt
zip_turned [] (y ∷ ys) z = absurd z
zip_turned (x ∷ xs) [] z = absurd z
zip_turned (x ∷ xs) (y ∷ ys) z = (record { comm = sym z.0.comm; call = sym z.0.call; barrier = sym z.0.barrier; counted = sym z.0.counted }, zip_turned xs ys z.1)

zip_found : (xs ys : List Entered) → AllZip IsAlike xs ys → (x : Entered) → Has xs x → (y : Entered) × Has ys y × IsAlike x y
zip_found [] ys z x i = absurd i
zip_found (d ∷ xs) [] z x i = absurd z
zip_found (d ∷ xs) (y ∷ ys) z x i =
    ⊎_elim (λ (e : x ≡ d). (y, inl refl, subst (λ (w : Entered). IsAlike w y) (sym e) z.0)) (λ (j : Has xs x). let w = zip_found xs ys z.1 x j in (w.0, inr w.1, w.2)) i

entered_alike : (comm call : ℕ) (xs ys : List Entered) → AllZip IsAlike xs ys → entered_before comm call xs ≡ entered_before comm call ys
entered_alike comm call [] [] z = refl
entered_alike comm call [] (y ∷ ys) z = absurd z
entered_alike comm call (x ∷ xs) [] z = absurd z
entered_alike comm call (x ∷ xs) (y ∷ ys) z =
    ap (λ (c : ℕ). cond (eqb c comm && ltb x.call call) (suc (entered_before comm call xs)) (entered_before comm call xs)) z.0.comm
    ∙ ap (λ (k : ℕ). cond (eqb y.comm comm && ltb k call) (suc (entered_before comm call xs)) (entered_before comm call xs)) z.0.call
    ∙ ap (λ (n : ℕ). cond (eqb y.comm comm && ltb y.call call) (suc n) n) (entered_alike comm call xs ys z.1)

one_before_self : (last : ℕ) (a : List Entered) → AreOneBefore last a a
one_before_self last a = record {
  front = length a;
  alike = zip_self (take (length a) a);
  first = λ x i. absurd (subst (λ (l : List Entered). Has l x) (drop-length a) i);
  second = λ x i. absurd (subst (λ (l : List Entered). Has l x) (drop-length a) i);
}

turned : (last : ℕ) (a b : List Entered) → AreOneBefore last a b → AreOneBefore last b a
turned last a b o = record { front = o.front; alike = zip_turned (take o.front a) (take o.front b) o.alike; first = o.second; second = o.first }

entered_front : (comm call last k : ℕ) (a : List Entered) → call ≤ last → ((x : Entered) → Has (drop k a) x → last ≤ x.call) → entered_before comm call a ≡ entered_before comm call (take k a)
entered_front comm call last k a le h =
    ap (λ (l : List Entered). entered_before comm call l) (sym (take-append-drop k a))
    ∙ entered_more comm call (take k a) (drop k a) (λ x i. let l = h x i in omega (arith, l))

pub entered_same : (comm call last : ℕ) (a b : List Entered) → AreOneBefore last a b → call ≤ last → entered_before comm call a ≡ entered_before comm call b
entered_same comm call last a b o le =
    entered_front comm call last o.front a le o.first ∙ entered_alike comm call (take o.front a) (take o.front b) o.alike ∙ sym (entered_front comm call last o.front b le o.second)

-- The ops of a rank are as they were up to the call.
record AreAlike (last : ℕ) (s t : Ops) : Type 0 where
  comms : s.comms ≡ t.comms
  rounds : AreOneBefore last s.rounds t.rounds

alike_self : (last : ℕ) (s : Ops) → AreAlike last s s
alike_self last s = record { comms = refl; rounds = one_before_self last s.rounds }

-- and so are their communications
alike_kept : (last : ℕ) (s t : Ops) → AreAlike last s t → AreAlike last (communicating s) (communicating t)
alike_kept last s t a = record { comms = a.comms; rounds = one_before_kept last s.rounds t.rounds a.rounds }

alike_back : (last : ℕ) (s t : Ops) → AreAlike last s t → AreAlike last t s
alike_back last s t a = record { comms = sym a.comms; rounds = turned last s.rounds t.rounds a.rounds }

module _ (s t r u : Ops) (m : Message) (e x y : ℕ) (senders : AreAlike x s t) (receivers : AreAlike y r u) (sent : m.name.call ≤ x) (ended : e ≤ y) where
  left_same : (b : Entered) → b.call < m.name.call → is_left s r m e b ≡ is_left t u m e b
  left_same b lt =
      let f : List ℕ → List ℕ → ℕ → ℕ → Bool = λ cs cr p q. is_barrier b && ltb b.call m.name.call && list_any (λ c. eqb c b.comm) cs && list_any (λ c. eqb c b.comm) cr && nat_le p q in
      ap (λ cs. f cs r.comms (entered_before b.comm e r.rounds) (entered_before b.comm b.call s.rounds)) senders.comms
      ∙ ap (λ cr. f t.comms cr (entered_before b.comm e r.rounds) (entered_before b.comm b.call s.rounds)) receivers.comms
      ∙ ap (λ p. f t.comms u.comms p (entered_before b.comm b.call s.rounds)) (entered_same b.comm e y r.rounds u.rounds receivers.rounds ended)
      ∙ ap (λ q. f t.comms u.comms (entered_before b.comm e u.rounds) q) (entered_same b.comm b.call x s.rounds t.rounds senders.rounds (omega (arith, lt, sent)))

  left_alike : (b d : Entered) → IsAlike b d → is_left t u m e b ≡ is_left t u m e d
  left_alike b d w =
      let g : Bool → ℕ → ℕ → Bool = λ k x c. k && ltb x m.name.call && list_any (λ y. eqb y c) t.comms && list_any (λ y. eqb y c) u.comms && nat_le (entered_before c e u.rounds) (entered_before c x t.rounds) in
      ap (λ (k : Bool). g k b.call b.comm) w.barrier ∙ ap (λ (x : ℕ). g (is_barrier d) x b.comm) w.call ∙ ap (λ (c : ℕ). g (is_barrier d) d.call c) w.comm

  barrier_before : (b : Entered) → is_left s r m e b ≡ true → b.call < m.name.call
  barrier_before b h =
      let a1 = is_barrier b in let a2 = ltb b.call m.name.call in
      let a3 = list_any (λ c. eqb c b.comm) s.comms in let a4 = list_any (λ c. eqb c b.comm) r.comms in
      let a5 = nat_le (entered_before b.comm e r.rounds) (entered_before b.comm b.call s.rounds) in
      let lt = (both a1 a2 (both (a1 && a2) a3 (both (a1 && a2 && a3) a4 (both (a1 && a2 && a3 && a4) a5 h).0).0).0).1 in grind (arith, nat_tests)

  left_still : list_any (is_left s r m e) s.rounds ≡ true → list_any (is_left t u m e) t.rounds ≡ true
  left_still h =
      let w = any_found (is_left s r m e) s.rounds h in
      let b = w.0 in
      let lt = barrier_before b w.2 in
      let o = senders.rounds in
      ⊎_elim
      (λ (i : Has (take o.front s.rounds) b).
      let v = zip_found (take o.front s.rounds) (take o.front t.rounds) o.alike b i in
      let j = has_left (take o.front t.rounds) (drop o.front t.rounds) v.0 v.1 in
      any_of (is_left t u m e) t.rounds v.0 (subst (λ (l : List Entered). Has l v.0) (take-append-drop o.front t.rounds) j) (sym (left_alike b v.0 v.2) ∙ sym (left_same b lt) ∙ w.2))
      (λ (i : Has (drop o.front s.rounds) b). let le = o.first b i in absurd (omega (arith, le, lt, sent)))
      (has_either (take o.front s.rounds) (drop o.front s.rounds) b (subst (λ (l : List Entered). Has l b) (sym (take-append-drop o.front s.rounds)) w.1))

same_tests : (a b : Bool) → (a ≡ true → b ≡ true) → (b ≡ true → a ≡ true) → a ≡ b
same_tests true b f g = sym (f refl)
same_tests false true f g = absurd (let x = g refl in cc)
same_tests false false f g = refl

-- what comes after a receive is the same
after_same : (s t r u : Ops) (m : Message) (at x y : ℕ) (ended : Option ℕ) → AreAlike x s t → AreAlike y r u → m.name.call ≤ x → ((e : ℕ) → ended ≡ Some e → e ≤ y) → is_after s r m at ended ≡ is_after t u m at ended
after_same s t r u m at x y None a b sent within = refl
after_same s t r u m at x y (Some e) a b sent within =
    let s' = communicating s in let t' = communicating t in let r' = communicating r in let u' = communicating u in
    let a' = alike_kept x s t a in let b' = alike_kept y r u b in
    ap (λ v. is_own m at e || v) (same_tests (list_any (is_left s' r' m e) s'.rounds) (list_any (is_left t' u' m e) t'.rounds)
    (left_still s' t' r' u' m e x y a' b' sent (within e refl))
    (left_still t' s' u' r' m e x y (alike_back x s' t' a') (alike_back y r' u' b') sent (within e refl)))

-- ---- one rank among all

module _ (held : List Ops) (i : ℕ) (n : Ops) (f : Fronts) (own : AreOwn 0 held) (own_new : IsOwn i n) (lt : i < length held) (fronts : AreFronts (get_or held i no_ops) n f) where
  abbrev old : Ops
  old = get_or held i no_ops

  abbrev pub kept_sends : List Message
  kept_sends = between (sends_of (take i held)) (take f.sends n.sends) (sends_of (drop (suc i) held))

  abbrev pub kept_receives : List Receive
  kept_receives = between (receives_of (take i held)) (take f.receives n.receives) (receives_of (drop (suc i) held))

  -- a message that stays is of another rank, or one of those of this rank that stay
  sender_of : (m : Message) → Has kept_sends m → (m.from ≢ i) ⊎ ((m.from ≡ i) × Has (take f.sends n.sends) m)
  sender_of m h =
      ⊎_elim
      (λ (j : Has (sends_of (take i held) ++ take f.sends n.sends) m). ⊎_elim
      (λ (k : Has (sends_of (take i held)) m). let b = below (λ o. o.sends) (λ m. m.from) (λ r o m w. w.sent_from m) held 0 i m own k in inl (λ e. absurd (omega (arith, b, e))))
      (λ (k : Has (take f.sends n.sends) m).
      let w = subst (λ (l : List Message). Has l m) (take-append-drop f.sends n.sends) (has_left (take f.sends n.sends) (drop f.sends n.sends) m k) in
      inr (own_new.sent_from m w, k)) (has_either (sends_of (take i held)) (take f.sends n.sends) m j))
      (λ (k : Has (sends_of (drop (suc i) held)) m). let a = above (λ o. o.sends) (λ m. m.from) (λ r o m w. w.sent_from m) held 0 i m own k in inl (λ e. absurd (omega (arith, a, e))))
      (has_either (sends_of (take i held) ++ take f.sends n.sends) (sends_of (drop (suc i) held)) m h)

  receiver_of : (q : Receive) → Has kept_receives q → (q.at ≢ i) ⊎ ((q.at ≡ i) × Has (take f.receives n.receives) q)
  receiver_of q h =
      ⊎_elim
      (λ (j : Has (receives_of (take i held) ++ take f.receives n.receives) q). ⊎_elim
      (λ (k : Has (receives_of (take i held)) q). let b = below (λ o. o.receives) (λ q. q.at) (λ r o q w. w.posted_at q) held 0 i q own k in inl (λ e. absurd (omega (arith, b, e))))
      (λ (k : Has (take f.receives n.receives) q).
      let w = subst (λ (l : List Receive). Has l q) (take-append-drop f.receives n.receives) (has_left (take f.receives n.receives) (drop f.receives n.receives) q k) in
      inr (own_new.posted_at q w, k)) (has_either (receives_of (take i held)) (take f.receives n.receives) q j))
      (λ (k : Has (receives_of (drop (suc i) held)) q). let a = above (λ o. o.receives) (λ q. q.at) (λ r o q w. w.posted_at q) held 0 i q own k in inl (λ e. absurd (omega (arith, a, e))))
      (has_either (receives_of (take i held) ++ take f.receives n.receives) (receives_of (drop (suc i) held)) q h)

  -- the ops of another rank are what they were
  other_rank : (last j : ℕ) → j ≢ i → AreAlike last (get_or held j no_ops) (get_or (set held i n) j no_ops)
  other_rank last j apart = subst (λ (o : Ops). AreAlike last (get_or held j no_ops) o) (sym (get_or-set_other held i j n no_ops apart)) (alike_self last (get_or held j no_ops))

  this_rank : (a : AreAsBefore old n f) → AreAlike a.last (get_or held i no_ops) (get_or (set held i n) i no_ops)
  this_rank a = subst (λ (o : Ops). AreAlike a.last old o) (sym (get_or-set_same held i n no_ops lt)) (record { comms = sym a.comms; rounds = a.rounds })

  none_in : {X : Type 0} (xs : List X) (k : ℕ) (x : X) → k ≡ 0 → Has (take k xs) x → ⊥
  none_in xs zero x e h = h
  none_in xs (suc k) x e h = absurd (omega (arith, e))

  -- of a message and of a receive: how far the ops of its rank are what they were
  sender_alike : (m : Message) → Has kept_sends m → (x : ℕ) × AreAlike x (get_or held m.from no_ops) (get_or (set held i n) m.from no_ops) × (m.name.call ≤ x)
  sender_alike m h =
      ⊎_elim (λ (apart : m.from ≢ i). (m.name.call, other_rank m.name.call m.from apart, omega arith))
      (λ (w : (m.from ≡ i) × Has (take f.sends n.sends) m).
      ⊎_elim (λ (z : (f.sends ≡ 0) × (f.receives ≡ 0)). absurd (none_in n.sends f.sends m z.0 w.1))
      (λ (a : AreAsBefore old n f). (
        a.last,
        subst (λ (r : ℕ). AreAlike a.last (get_or held r no_ops) (get_or (set held i n) r no_ops)) (sym w.0) (this_rank a),
        a.sends m (subst (λ (l : List Message). Has l m) (sym fronts.same_sends) w.1),
      ))
      fronts.as_before)
      (sender_of m h)

  receiver_alike : (q : Receive) → Has kept_receives q → (y : ℕ) × AreAlike y (get_or held q.at no_ops) (get_or (set held i n) q.at no_ops) × IsEndedBy q y
  receiver_alike q h =
      ⊎_elim (λ (apart : q.at ≢ i). by q.ended refl apart)
      (λ (w : (q.at ≡ i) × Has (take f.receives n.receives) q).
      ⊎_elim (λ (z : (f.sends ≡ 0) × (f.receives ≡ 0)). absurd (none_in n.receives f.receives q z.1 w.1))
      (λ (a : AreAsBefore old n f). (
        a.last,
        subst (λ (r : ℕ). AreAlike a.last (get_or held r no_ops) (get_or (set held i n) r no_ops)) (sym w.0) (this_rank a),
        a.receives q (subst (λ (l : List Receive). Has l q) (sym fronts.same_receives) w.1),
      ))
      fronts.as_before)
      (receiver_of q h)
    where
      by : (o : Option ℕ) → o ≡ q.ended → q.at ≢ i → (y : ℕ) × AreAlike y (get_or held q.at no_ops) (get_or (set held i n) q.at no_ops) × IsEndedBy q y
      by None e apart = (0, other_rank 0 q.at apart, λ k g. let c : None ≡ Some k = e ∙ g in absurd (cc))
      by (Some d) e apart = (d, other_rank d q.at apart, λ k g. let c : Some d ≡ Some k = e ∙ g in let j : d ≡ k = cc in omega (arith, j))

  pub agree : (m : Message) (q : Receive) → Has kept_sends m → Has kept_receives q → fits m q ≡ true → comes_after held m q ≡ comes_after (set held i n) m q
  agree m q im iq fit =
      let s = sender_alike m im in
      let r = receiver_alike q iq in
      after_same (get_or held m.from no_ops) (get_or (set held i n) m.from no_ops) (get_or held q.at no_ops) (get_or (set held i n) q.at no_ops) m q.at s.0 r.0 q.ended s.1 r.1 s.2 r.2

-- The state goes from the calls that were held to those that come: what doesn't stay is taken back, and the rest is
-- added.
module _ (held : List Ops) (i : ℕ) (n : Ops) (f : Fronts) (own : AreOwn 0 held) (own_new : IsOwn i n) (singles : All IsSingle held) (single : IsSingle n) (lt : i < length held) (fronts : AreFronts (get_or held i no_ops) n f) (s0 s1 s2 : Matched) where
  abbrev was : Ops
  was = get_or held i no_ops

  abbrev all : List Ops
  all = set held i n

  abbrev first_sends : List Message
  first_sends = sends_of (take i held)

  abbrev last_sends : List Message
  last_sends = sends_of (drop (suc i) held)

  abbrev first_receives : List Receive
  first_receives = receives_of (take i held)

  abbrev last_receives : List Receive
  last_receives = receives_of (drop (suc i) held)

  pub set_follows : Drops was f s0 s1 → Adds (comes_after all) n f s1 s2 → Follows held s0 → Follows all s2
  set_follows drops adds x =
      let o : IsOwn i was = subst (λ (r : ℕ). IsOwn r was) (omega arith) (own_at held 0 i no_ops lt own) in
      let alone = All-get_or IsSingle held i no_ops lt singles in
      let old = comes_after held in
      let new = comes_after all in
      let x' : Indexes old (between first_sends was.sends last_sends) (between first_receives was.receives last_receives) s0 =
      subst (λ (qs : List Receive). Indexes old (between first_sends was.sends last_sends) qs s0) (split (λ o. o.receives) held i no_ops lt)
      (subst (λ (ms : List Message). Indexes old ms (receives_of held) s0) (split (λ o. o.sends) held i no_ops lt) x) in
      let y = drops old first_sends last_sends first_receives last_receives (is_sequence held i was own o alone) (is_posting_by_call held i was own o alone) x' in
      let y' : Indexes old (kept_sends held i n f own own_new lt fronts) (kept_receives held i n f own own_new lt fronts) s1 =
      subst (λ (l : List Message). Indexes old (between first_sends l last_sends) (kept_receives held i n f own own_new lt fronts) s1) fronts.same_sends
      (subst (λ (l : List Receive). Indexes old (between first_sends (take f.sends was.sends) last_sends) (between first_receives l last_receives) s1) fronts.same_receives y) in
      let z = switched (kept_sends held i n f own own_new lt fronts) (kept_receives held i n f own own_new lt fronts) old new (agree held i n f own own_new lt fronts) s1 y' in
      let w = adds first_sends last_sends first_receives last_receives (is_sequence held i n own own_new single) (is_posting_by_call held i n own own_new single) z in
      subst (λ (ms : List Message). Indexes new ms (receives_of all) s2) (sym (split_set (λ o. o.sends) held i n lt))
      (subst (λ (qs : List Receive). Indexes new (between first_sends n.sends last_sends) qs s2) (sym (split_set (λ o. o.receives) held i n lt)) w)

-- the collective calls of a rank that is held rise
pub entered_at : (held : List Ops) (i : ℕ) (d : Ops) → i < length held → AreOwn 0 held → d ≡ get_or held i d → AreEntered d.rounds
entered_at held i d lt own e = subst (λ (o : Ops). AreEntered o.rounds) (sym e) (own_at held 0 i d lt own).rounds_rise

-- what stands at the place, whatever would stand for none
pub at_place : (held : List Ops) (i : ℕ) (d : Ops) → i < length held → d ≡ get_or held i d → d ≡ get_or held i no_ops
at_place held i d lt e = e ∙ get_or_default held i d no_ops lt

-- the same of the ops that are all ranks' then
module _ (held all : List Ops) (i : ℕ) (n : Ops) (f : Fronts) (own : AreOwn 0 held) (own_new : IsOwn i n) (lt : i < length held) (is : all ≡ set held i n) (fronts : AreFronts (get_or held i no_ops) n f) where
  put : get_or all i no_ops ≡ n
  put = ap (λ (l : List Ops). get_or l i no_ops) is ∙ get_or-set_same held i n no_ops lt

  pub set_moves : All IsSingle held → IsSingle n → (s0 s1 s2 : Matched) → Drops (get_or held i no_ops) f s0 s1 → Adds (comes_after all) (get_or all i no_ops) f s1 s2 → Follows held s0 → Follows all s2
  set_moves singles single s0 s1 s2 drops adds x =
      let adds' : Adds (comes_after (set held i n)) n f s1 s2 = subst (λ (l : List Ops). Adds (comes_after l) n f s1 s2) is (subst (λ (o : Ops). Adds (comes_after all) o f s1 s2) put adds) in
      subst (λ (l : List Ops). Follows l s2) (sym is) (set_follows held i n f own own_new singles single lt fronts s0 s1 s2 drops adds' x)
