-- Messages and receives each of a call of one part, as one comes or goes.
use Rattle.std.proofs.Common.{◌≡◌, List, [], ◌∷◌, ⊎_elim, sym, ◌∙◌, ap, inl, inr, refl, arith}
use Rattle.mpi_model.specs.declared.event.OpName.{OpName}
use Rattle.mpi_model.specs.declared.message.Message.{Message}
use Rattle.mpi_model.specs.declared.message.Receive.{Receive}
use Rattle.trace_ops.specs.Order.{Has}
use Rattle.trace_pair.specs.Calls.{AddsMessage, AddsReceives, AreApart, ArePostedApart, AreSentAlone, ArePostedAlone}
use Rattle.trace_pair.specs.Sets.{AddsTo}
use Rattle.trace_pair.proofs.Alone.{the_one}
use Rattle.trace_pair.proofs.Obeyed.{before_lt, posted_lt}

-- ---- messages

pub sent_apart : (ms : List Message) → AreSentAlone ms → AreApart ms
sent_apart ms alone m n i j e = alone m n i j (ap (λ (o : OpName). o.rank) e) (ap (λ (o : OpName). o.call) e)

pub fewer_sent_alone : (ms more : List Message) → ((n : Message) → Has ms n → Has more n) → AreSentAlone more → AreSentAlone ms
fewer_sent_alone ms more old alone m n i j e f = alone m n (old m i) (old n j) e f

module _ (ms more : List Message) (m : Message) (adds : AddsMessage ms more m) where
  pub absent_sent : Has ms m → ⊥
  absent_sent i = let lt = before_lt m m (adds.behind m i refl) in absurd (omega arith)

  pub one_sent : AddsTo ms more m
  one_sent = record { keeps = adds.old; added = adds.new; cases = adds.cases }

  -- what was there isn't of the new call
  old_call : (n k : Message) → Has ms n → k ≡ m → n.from ≡ k.from → n.name.call ≡ k.name.call → ⊥
  old_call n k i d e f =
      let lt = before_lt m n (adds.behind n i (e ∙ ap (λ (x : Message). x.from) d)) in
      let g : n.name.call ≡ m.name.call = f ∙ ap (λ (x : Message). x.name.call) d in
      omega (arith, lt, g)

  pub more_sent_alone : AreSentAlone ms → AreSentAlone more
  more_sent_alone alone a b i j e f =
      ⊎_elim
      (λ (k : Has ms a). ⊎_elim (λ (l : Has ms b). alone a b k l e f) (λ (l : b ≡ m). absurd (old_call a b k l e f)) (adds.cases b j))
      (λ (k : a ≡ m). ⊎_elim (λ (l : Has ms b). absurd (old_call b a l k (sym e) (sym f))) (λ (l : b ≡ m). k ∙ sym l) (adds.cases b j))
      (adds.cases a i)

-- ---- receives

pub posted_apart : (qs : List Receive) → ArePostedAlone qs → ArePostedApart qs
posted_apart qs alone q r i j e = alone q r i j (ap (λ (o : OpName). o.rank) e) (ap (λ (o : OpName). o.call) e)

pub fewer_posted_alone : (qs more : List Receive) → ((r : Receive) → Has qs r → Has more r) → ArePostedAlone more → ArePostedAlone qs
fewer_posted_alone qs more old alone q r i j e f = alone q r (old q i) (old r j) e f

module _ (qs more : List Receive) (q : Receive) (adds : AddsReceives qs more (q ∷ [])) where
  pub absent_posted : Has qs q → ⊥
  absent_posted i = let lt = posted_lt q q (adds.behind q q i (inl refl) refl) in absurd (omega arith)

  pub one_posted : AddsTo qs more q
  one_posted = record { keeps = adds.old; added = adds.new q (inl refl); cases = λ r i. ⊎_elim (λ (k : Has qs r). inl k) (λ (k : Has (q ∷ []) r). inr (the_one q r k)) (adds.cases r i) }

  old_post : (r k : Receive) → Has qs r → k ≡ q → r.at ≡ k.at → r.name.call ≡ k.name.call → ⊥
  old_post r k i d e f =
      let lt = posted_lt q r (adds.behind r q i (inl refl) (e ∙ ap (λ (x : Receive). x.at) d)) in
      let g : r.name.call ≡ q.name.call = f ∙ ap (λ (x : Receive). x.name.call) d in
      omega (arith, lt, g)

  pub more_posted_alone : ArePostedAlone qs → ArePostedAlone more
  more_posted_alone alone a b i j e f =
      ⊎_elim
      (λ (k : Has qs a). ⊎_elim (λ (l : Has qs b). alone a b k l e f) (λ (l : Has (q ∷ []) b). absurd (old_post a b k (the_one q b l) e f)) (adds.cases b j))
      (λ (k : Has (q ∷ []) a). ⊎_elim (λ (l : Has qs b). absurd (old_post b a l (the_one q a k) (sym e) (sym f))) (λ (l : Has (q ∷ []) b). the_one q a k ∙ sym (the_one q b l)) (adds.cases b j))
      (adds.cases a i)
