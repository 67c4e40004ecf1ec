-- The nodes that a world shows, and the text of their answers.
use Rattle.std.proofs.Common.{◌≡◌, ◌∙◌, ◌+◌, ◌<◌, ◌≤◌, ◌++◌, ◌∷◌, [], ℕ, zero, suc, List, Option, Some, None, Bool, false, ap, ap₂, sym, refl, subst, map, length, take, arith, append_assoc, append-nil, OnErr, Result, Ok, Err}
use Rattle.std.specs.Prelude.{replicate, slice_index_or}
use Rattle.std.specs.Io.KnownBytes.{Appends}
use Rattle.std.specs.List.{slice_get}
use Rattle.std.proofs.Math.Seq.{take-append-add}
use Rattle.std.proofs.lemmas.List.{length-append, length-take-le, take_more, take-append-le}
use Rattle.std.proofs.lemmas.Option.{get_or_from_slice_get, slice_get_within}
use Rattle.mpi_model.specs.Layouts.{Parts}
use Rattle.trace_know.specs.Segment.{PlacedEvents}
use Rattle.trace_know.specs.View.{View}
use Rattle.trace_node.specs.Answer.{Answered, IsAnswer}
use Rattle.trace_node.specs.Node.{Held, held}
use Rattle.trace_world.specs.Refusals.{NoneStaler, stale}
use Rattle.trace_world.specs.Shows.{knowledge_of, knows}
use Rattle.trace_world.specs.Worlds.{layouts}
use Rattle.command_runs.specs.Replays.{AreAnswers, IsTextOf, NoneStale, node_text, node_texts}
use Rattle.run_inputs.specs.Writing.{AppendsFront}

-- ---- what the nodes hold

held_is : (node : Held) (l : Parts) (view : View) → node.layout ≡ l → node.know ≡ view → node.is_stale ≡ false → node ≡ held l view false
held_is node l view layout know fresh =
    ap (λ (p : Parts). held p node.know node.is_stale) layout ∙ ap (λ (v : View). held l v node.is_stale) know ∙ ap (λ (b : Bool). held l view b) fresh

-- nodes of one layout that know this, none of them stale
pub all_held : (l : Parts) (nodes : List Held) (reached : List (List PlacedEvents)) → knows nodes ≡ map knowledge_of reached
    → layouts nodes ≡ replicate (length nodes) l → NoneStale nodes → nodes ≡ map (λ r. held l (knowledge_of r) false) reached
all_held l [] [] k o f = refl
all_held l [] (r ∷ rs) k o f = absurd (cc k)
all_held l (n ∷ ns) [] k o f = absurd (cc k)
all_held l (n ∷ ns) (r ∷ rs) k o f =
    let know : n.know ≡ knowledge_of r = cc k in
    let layout : n.layout ≡ l = cc o in
    let knows_more : knows ns ≡ map knowledge_of rs = cc k in
    let layouts_more : layouts ns ≡ replicate (length ns) l = cc o in
    let first : n ≡ held l (knowledge_of r) false = held_is n l (knowledge_of r) layout know (f 0) in
    let rest : ns ≡ map (λ s. held l (knowledge_of s) false) rs = all_held l ns rs knows_more layouts_more (λ i. f (suc i)) in
    ap₂ (λ (h : Held) (hs : List Held). h ∷ hs) first rest

none_of : (n i : ℕ) → slice_index_or (replicate n false) i false ≡ false
none_of zero i = refl
none_of (suc n) zero = refl
none_of (suc n) (suc i) = none_of n i

-- new nodes have their answers, and those that came of them too
pub still_fresh : (old new : List Held) (count : ℕ) → stale old ≡ replicate count false → NoneStaler old new → NoneStale new
still_fresh old new count fresh kept i =
    kept i (ap (λ (flags : List Bool). slice_index_or flags i false) fresh ∙ none_of count i)

-- one node among others
pub fresh_at : (nodes : List Held) (i : ℕ) (node : Held) → NoneStale nodes → slice_get nodes i ≡ Some node → node.is_stale ≡ false
fresh_at [] i node f e = absurd (cc e)
fresh_at (n ∷ ns) zero node f e = let is : n ≡ node = cc e in subst (λ (h : Held). h.is_stale ≡ false) is (f 0)
fresh_at (n ∷ ns) (suc i) node f e = fresh_at ns i node (λ k. f (suc k)) e

-- past the last node there is none
pub at_end : (nodes : List Held) (i : ℕ) → slice_get nodes i ≡ None → take i nodes ≡ nodes
at_end [] zero e = refl
at_end [] (suc i) e = refl
at_end (n ∷ ns) zero e = absurd (cc e)
at_end (n ∷ ns) (suc i) e = ap (λ (hs : List Held). n ∷ hs) (at_end ns i e)

-- ---- bytes that grow

pub on_err : {T E P : Type 0} (r : Result T E) → P → OnErr r P
on_err (Ok done) p = tt
on_err (Err e) p = p

pub appends_both : (a b c : Option (List ℕ)) (xs ys : List ℕ) → Appends a b xs → Appends b c ys → Appends a c (xs ++ ys)
appends_both None b c xs ys p q = tt
appends_both (Some x) None c xs ys p q = absurd p
appends_both (Some x) (Some y) None xs ys p q = absurd q
appends_both (Some x) (Some y) (Some z) xs ys p q = q ∙ ap (λ (bs : List ℕ). bs ++ ys) p ∙ append_assoc x xs ys

pub appends_none : (a : Option (List ℕ)) → Appends a a []
appends_none None = tt
appends_none (Some x) = sym (append-nil x)

-- a text, and then the front of another
pub front_after : (a b c : Option (List ℕ)) (xs ys : List ℕ) → Appends a b xs → AppendsFront b c ys → AppendsFront a c (xs ++ ys)
front_after a b c xs ys p q =
    let total : length (xs ++ ys) ≡ length xs + length ys = length-append xs ys in (
      length xs + q.0,
      omega (arith, total, q.1),
      subst (λ (bs : List ℕ). Appends a c bs) (sym (take-append-add xs ys q.0)) (appends_both a b c xs (take q.0 ys) p q.2),
    )

-- the front of a text is one of a longer text
pub front_before : (a b : Option (List ℕ)) (xs ys : List ℕ) → AppendsFront a b xs → AppendsFront a b (xs ++ ys)
front_before a b xs ys q =
    let total : length (xs ++ ys) ≡ length xs + length ys = length-append xs ys in
    let within : q.0 ≤ length xs = omega (arith, q.1) in (
      q.0,
      omega (arith, total, q.1),
      subst (λ (bs : List ℕ). Appends a b bs) (sym (take-append-le q.0 xs ys within)) q.2,
    )

-- ---- the text of nodes

answers_more : (nodes : List Held) (node : Held) (answers : List Answered) (answer : Answered) → AreAnswers nodes answers
    → IsAnswer node.layout node.know answer → AreAnswers (nodes ++ node ∷ []) (answers ++ answer ∷ [])
answers_more [] node [] answer are is = (is, tt)
answers_more [] node (a ∷ rest) answer are is = absurd are
answers_more (n ∷ ns) node [] answer are is = absurd are
answers_more (n ∷ ns) node (a ∷ rest) answer are is = (are.0, answers_more ns node rest answer are.1 is)

one_each : (nodes : List Held) (answers : List Answered) → AreAnswers nodes answers → length answers ≡ length nodes
one_each [] [] are = refl
one_each [] (a ∷ rest) are = absurd are
one_each (n ∷ ns) [] are = absurd are
one_each (n ∷ ns) (a ∷ rest) are = ap suc (one_each ns rest are.1)

texts_more : (first n : ℕ) (answers : List Answered) (answer : Answered) → n ≡ first + length answers
    → node_texts first (answers ++ answer ∷ []) ≡ node_texts first answers ++ node_text n answer
texts_more first n [] answer e =
    let same : n ≡ first = omega (arith, e) in
    append-nil (node_text first answer) ∙ ap (λ (k : ℕ). node_text k answer) (sym same)
texts_more first n (a ∷ rest) answer e =
    let next : n ≡ suc first + length rest = omega (arith, e) in
    ap (λ (bs : List ℕ). node_text first a ++ bs) (texts_more (suc first) n rest answer next)
    ∙ sym (append_assoc (node_text first a) (node_texts (suc first) rest) (node_text n answer))

-- one node more
pub text_more : (nodes : List Held) (i : ℕ) (node : Held) (answer : Answered) (text : List ℕ) → slice_get nodes i ≡ Some node
    → IsTextOf (take i nodes) text → IsAnswer node.layout node.know answer → IsTextOf (take (i + 1) nodes) (text ++ node_text i answer)
text_more nodes i node answer text at t is =
    let below : i < length nodes = slice_get_within nodes i node at in
    let count : length (take i nodes) ≡ i = length-take-le i nodes (omega (arith, below)) in
    let each = one_each (take i nodes) t.0 t.1 in
    let number : i ≡ 0 + length t.0 = omega (arith, each, count) in
    let more : take (i + 1) nodes ≡ take i nodes ++ node ∷ [] =
    take_more nodes i node below ∙ ap (λ (n : Held). take i nodes ++ n ∷ []) (get_or_from_slice_get nodes i node node at) in (
      t.0 ++ answer ∷ [],
      subst (λ (ns : List Held). AreAnswers ns (t.0 ++ answer ∷ [])) (sym more) (answers_more (take i nodes) node t.0 answer t.1 is),
      ap (λ (bs : List ℕ). bs ++ node_text i answer) t.2 ∙ sym (texts_more 0 i t.0 answer number),
    )
