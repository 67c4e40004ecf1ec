-- What is noted of the mails that a node has joined stays true.
use Rattle.std.proofs.Common.{◌≡◌, ◌≢◌, ◌⊎◌, ◌<◌, ◌+◌, ℕ, true, false, Result, Ok, Err, List, [], ◌∷◌, ◌++◌, length, get_or, set, OnOk, IfErr, refl, sym, ap, ◌∙◌, arith, subst, ⊎_elim}
use Rattle.std.specs.Prelude.{slice_set, slice_index_or}
use Rattle.std.specs.FinMap.{empty, entries}
use Rattle.std.proofs.lemmas.List.{get_or-set_same, get_or-set_other, length-append, length-map, length-set, set-get_or}
use Rattle.std.proofs.Math.ListN.{get_or-append}
use Rattle.std.proofs.Math.Seq.{get_or-append_seam}
use Rattle.trace_know.specs.View.{View, join}
use Rattle.trace_node.specs.Node.{Held}
use Rattle.trace_wire.specs.Frames.{frame_of, HasFrame}
use Rattle.trace_world.proofs.Following.{OneFrameLaw}
use Rattle.trace_world.proofs.Keeping.{same_or_not}
use Rattle.trace_world.specs.Heard.{AreHeard, AreUnheard, IsHeard, has}
use Rattle.trace_world.specs.Moves.{Holds, joined}
use Rattle.trace_world.specs.Shows.{knows}
use Rattle.trace_world.specs.declared.heard.Heard.{Heard}
use Rattle.trace_world.specs.declared.step.WorldFault.{WorldFault}
use Rattle.trace_world.specs.declared.step.WorldFault.TheVariants.{NoNode, NoMail, EmptyInbox, Rank, FrameLength, Stale, NodeCount, Memory}

-- what `join_laws` tells of joins
pub record JoinLaws : Type 0 where
  pub associative : (a b c : View) → join (join a b) c ≡ join a (join b c)
  pub commutative : (a b : View) → join a b ≡ join b a
  pub idempotent : (a : View) → join a a ≡ a

-- who knows what a mail tells knows it with more, too
heard_with : JoinLaws → (mails : List (List ℕ)) (know more : View) (mail : ℕ) → IsHeard mails know mail → IsHeard mails (join know more) mail
heard_with laws mails know more mail h =
    (h.0, λ view is framed. laws.associative know more view ∙ ap (join know) (laws.commutative more view) ∙ sym (laws.associative know view more) ∙ ap (λ k. join k more) (h.1 view is framed))

-- who joined what a mail tells knows it
heard_now : JoinLaws → OneFrameLaw → (mails : List (List ℕ)) (know more : View) (mail : ℕ) → mail < length mails → slice_index_or mails mail [] ≡ frame_of more → HasFrame (entries more) → IsHeard mails (join know more) mail
heard_now laws one mails know more mail lt is framed =
    (lt, λ view told there. ap (join (join know more)) (sym (one more view framed there (sym is ∙ told))) ∙ laws.associative know more more ∙ ap (join know) (laws.idempotent more))

-- nodes that know as many views are as many
as_many : (old new : List Held) (known : List View) → knows new ≡ known → length known ≡ length old → length new ≡ length old
as_many old new known e n = sym (length-map new (λ (h : Held). h.know)) ∙ ap (λ (l : List View). length l) e ∙ n

count_of : (old : List Held) → length (knows old) ≡ length old
count_of old = length-map old (λ (h : Held). h.know)

-- the nodes know what they knew
pub same_heard : (old new : List Held) (mails : List (List ℕ)) (heard : List Heard) → knows new ≡ knows old → AreHeard old mails heard → AreHeard new mails heard
same_heard old new mails heard e a = record {
  each = a.each ∙ sym (as_many old new (knows old) e (count_of old));
  known = λ node mail other lt there. subst (λ (k : List View). IsHeard mails (slice_index_or k node empty) mail) (sym e) (a.known node mail other lt there);
}

-- one node joined more
pub joins_heard : JoinLaws → (old new : List Held) (mails : List (List ℕ)) (heard : List Heard) (node : ℕ) (more : View) → node < length old → knows new ≡ joined (knows old) node more → AreHeard old mails heard → AreHeard new mails heard
joins_heard laws old new mails heard node more inside e a =
    let now : View = join (slice_index_or (knows old) node empty) more in
    record {
      each = a.each ∙ sym (as_many old new (joined (knows old) node more) e (length-set (knows old) node now ∙ count_of old));
      known = λ i mail other lt there.
          let before : IsHeard mails (slice_index_or (knows old) i empty) mail = a.known i mail other lt there in
          subst (λ (k : List View). IsHeard mails (slice_index_or k i empty) mail) (sym e) (⊎_elim
          (λ (is : i ≡ node).
          subst (λ (v : View). IsHeard mails v mail)
          (sym (ap (λ j. get_or (set (knows old) node now) j empty) is ∙ get_or-set_same (knows old) node now empty (omega (arith, inside, count_of old))))
          (heard_with laws mails (slice_index_or (knows old) node empty) more mail (subst (λ j. IsHeard mails (slice_index_or (knows old) j empty) mail) is before)))
          (λ (not : i ≢ node). subst (λ (v : View). IsHeard mails v mail) (sym (get_or-set_other (knows old) node i now empty not)) before)
          (same_or_not i node));
    }

-- one node was given more
pub holds_heard : JoinLaws → (old new : List Held) (mails : List (List ℕ)) (heard : List Heard) (node : ℕ) (more : View) (result : Result (Unit {0}) WorldFault) → node < length old → Holds old node more result new → AreHeard old mails heard → AreHeard new mails heard
holds_heard laws old new mails heard node more (Ok x) inside h a = joins_heard laws old new mails heard node more inside h.1.knows a
holds_heard laws old new mails heard node more (Err Memory) inside h a = subst (λ (ns : List Held). AreHeard ns mails heard) (sym h) a
holds_heard laws old new mails heard node more (Err Stale) inside h a = absurd h
holds_heard laws old new mails heard node more (Err NoNode) inside h a = absurd h
holds_heard laws old new mails heard node more (Err NoMail) inside h a = absurd h
holds_heard laws old new mails heard node more (Err EmptyInbox) inside h a = absurd h
holds_heard laws old new mails heard node more (Err Rank) inside h a = absurd h
holds_heard laws old new mails heard node more (Err FrameLength) inside h a = absurd h
holds_heard laws old new mails heard node more (Err NodeCount) inside h a = absurd h

-- one mail more
pub ships_heard : (nodes : List Held) (mails mails' : List (List ℕ)) (heard : List Heard) (mail : List ℕ) → mails' ≡ mails ++ mail ∷ [] → AreHeard nodes mails heard → AreHeard nodes mails' heard
ships_heard nodes mails mails' heard mail e a = subst (λ l. AreHeard nodes l heard) (sym e) (record {
  each = a.each;
  known = λ node number other lt there.
      let h : IsHeard mails (slice_index_or (knows nodes) node empty) number = a.known node number other lt there in
      (omega (arith, h.0, length-append mails (mail ∷ [])), λ view is framed. h.1 view (sym (get_or-append mails (mail ∷ []) [] number h.0) ∙ is) framed);
})

-- of one node nothing is noted any more, and it knows what it may
pub renews_heard : (old new : List Held) (mails : List (List ℕ)) (heard heard' : List Heard) (node : ℕ) (fresh : Heard) (now : View) → node < length old → knows new ≡ slice_set (knows old) node now → heard' ≡ slice_set heard node fresh
    → ((mail : ℕ) → has fresh mail ≡ false) → AreHeard old mails heard → AreHeard new mails heard'
renews_heard old new mails heard heard' node fresh now inside e f none a = subst (λ l. AreHeard new mails l) (sym f) (record {
  each = length-set heard node fresh ∙ a.each ∙ sym (as_many old new (slice_set (knows old) node now) e (length-set (knows old) node now ∙ count_of old));
  known = λ i mail other lt there. ⊎_elim
      (λ (is : i ≡ node).
      let same : slice_index_or (slice_set heard node fresh) i other ≡ fresh = ap (λ j. get_or (set heard node fresh) j other) is ∙ get_or-set_same heard node fresh other (omega (arith, inside, a.each)) in
      let no : false ≡ true = sym (none mail) ∙ sym (ap (λ (h : Heard). has h mail) same) ∙ there in
      absurd (cc))
      (λ (not : i ≢ node).
      let before : IsHeard mails (slice_index_or (knows old) i empty) mail = a.known i mail other (omega (arith, lt, length-set heard node fresh)) (sym (ap (λ (h : Heard). has h mail) (get_or-set_other heard node i fresh other not)) ∙ there) in
      subst (λ (k : List View). IsHeard mails (slice_index_or k i empty) mail) (sym e) (subst (λ (v : View). IsHeard mails v mail) (sym (get_or-set_other (knows old) node i now empty not)) before))
      (same_or_not i node);
})

-- a mail that a node knows was noted of it
notes_heard : (nodes : List Held) (mails : List (List ℕ)) (heard heard' : List Heard) (node mail : ℕ) (before noted : Heard) → node < length heard → heard' ≡ slice_set heard node noted → before ≡ slice_index_or heard node before
    → ((other : ℕ) → has noted other ≡ true → (other ≡ mail) ⊎ (has before other ≡ true)) → IsHeard mails (slice_index_or (knows nodes) node empty) mail → AreHeard nodes mails heard → AreHeard nodes mails heard'
notes_heard nodes mails heard heard' node mail before noted inside f was adds now a = subst (λ l. AreHeard nodes mails l) (sym f) (record {
  each = length-set heard node noted ∙ a.each;
  known = λ i number other lt there. ⊎_elim
      (λ (is : i ≡ node).
      let same : slice_index_or (slice_set heard node noted) i other ≡ noted = ap (λ j. get_or (set heard node noted) j other) is ∙ get_or-set_same heard node noted other inside in
      subst (λ j. IsHeard mails (slice_index_or (knows nodes) j empty) number) (sym is) (⊎_elim
      (λ (it : number ≡ mail). subst (λ n. IsHeard mails (slice_index_or (knows nodes) node empty) n) (sym it) now)
      (λ (old : has before number ≡ true). a.known node number before inside (sym (ap (λ (h : Heard). has h number) was) ∙ old))
      (adds number (sym (ap (λ (h : Heard). has h number) same) ∙ there))))
      (λ (not : i ≢ node). a.known i number other (omega (arith, lt, length-set heard node noted)) (sym (ap (λ (h : Heard). has h number) (get_or-set_other heard node i noted other not)) ∙ there))
      (same_or_not i node);
})

-- a mail that a node joined was noted of it
pub delivers_heard : JoinLaws → OneFrameLaw → (old new : List Held) (mails : List (List ℕ)) (heard heard' : List Heard) (node mail : ℕ) (more : View) (before noted : Heard) → node < length old → mail < length mails
    → slice_index_or mails mail [] ≡ frame_of more → HasFrame (entries more) → knows new ≡ joined (knows old) node more → heard' ≡ slice_set heard node noted → before ≡ slice_index_or heard node before
    → ((other : ℕ) → has noted other ≡ true → (other ≡ mail) ⊎ (has before other ≡ true)) → AreHeard old mails heard → AreHeard new mails heard'
delivers_heard laws one old new mails heard heard' node mail more before noted inside lt is framed e f was adds a =
    let now : View = join (slice_index_or (knows old) node empty) more in
    let joined_now : slice_index_or (knows new) node empty ≡ now = ap (λ (k : List View). slice_index_or k node empty) e ∙ get_or-set_same (knows old) node now empty (omega (arith, inside, count_of old)) in
    notes_heard new mails heard heard' node mail before noted (omega (arith, inside, a.each)) f was adds
    (subst (λ (v : View). IsHeard mails v mail) (sym joined_now) (heard_now laws one mails (slice_index_or (knows old) node empty) more mail lt is framed))
    (joins_heard laws old new mails heard node more inside e a)

-- a mail that is noted of a node tells it nothing
pub nothing_new : (nodes : List Held) (mails : List (List ℕ)) (heard : List Heard) (node mail : ℕ) (noted : Heard) (view : View) → AreHeard nodes mails heard → node < length nodes → noted ≡ slice_index_or heard node noted → has noted mail ≡ true
    → slice_index_or mails mail [] ≡ frame_of view → HasFrame (entries view) → knows nodes ≡ joined (knows nodes) node view
nothing_new nodes mails heard node mail noted view a inside is there told framed =
    let h : IsHeard mails (slice_index_or (knows nodes) node empty) mail = a.known node mail noted (omega (arith, inside, a.each)) (sym (ap (λ (x : Heard). has x mail) is) ∙ there) in
    sym (set-get_or (knows nodes) node empty) ∙ ap (set (knows nodes) node) (sym (h.1 view told framed))

-- ---- worlds of which nothing is noted

pub none_heard : (heard : List Heard) → heard ≡ [] → AreUnheard 0 heard
none_heard heard e = record {
  each = ap (λ (l : List Heard). length l) e;
  none = λ node mail other lt. absurd (omega (arith, lt, ap (λ (l : List Heard). length l) e));
}

-- one node more
pub one_unheard : (count : ℕ) (heard heard' : List Heard) (fresh : Heard) → heard' ≡ heard ++ fresh ∷ [] → ((mail : ℕ) → has fresh mail ≡ false) → AreUnheard count heard → AreUnheard (count + 1) heard'
one_unheard count heard heard' fresh e none a = subst (AreUnheard (count + 1)) (sym e) (record {
  each = omega (arith, a.each, length-append heard (fresh ∷ []));
  none = λ node mail other lt. ⊎_elim
      (λ (is : node ≡ length heard). ap (λ (h : Heard). has h mail) (ap (λ j. get_or (heard ++ fresh ∷ []) j other) is ∙ get_or-append_seam heard fresh [] other) ∙ none mail)
      (λ (not : node ≢ length heard).
      let below : node < length heard = omega (arith, not, lt, length-append heard (fresh ∷ [])) in
      ap (λ (h : Heard). has h mail) (get_or-append heard (fresh ∷ []) other node below) ∙ a.none node mail other below)
      (same_or_not node (length heard));
})

pub unheard : (nodes : List Held) (mails : List (List ℕ)) (heard : List Heard) (count : ℕ) → count ≡ length nodes → AreUnheard count heard → AreHeard nodes mails heard
unheard nodes mails heard count e a = record {
  each = a.each ∙ e;
  known = λ node mail other lt there. let no : false ≡ true = sym (a.none node mail other lt) ∙ there in absurd (cc);
}

-- a mail added, or not for want of memory
pub sent_heard : (nodes : List Held) (mails mails' : List (List ℕ)) (heard : List Heard) (mail : List ℕ) (result : Result (Unit {0}) WorldFault) → OnOk result (mails' ≡ mails ++ mail ∷ [])
    → IfErr result (λ fault. (fault ≡ Memory) × (mails' ≡ mails)) → AreHeard nodes mails heard → AreHeard nodes mails' heard
sent_heard nodes mails mails' heard mail (Ok x) e f a = ships_heard nodes mails mails' heard mail e a
sent_heard nodes mails mails' heard mail (Err fault) e f a = subst (λ l. AreHeard nodes l heard) (sym f.1) a
