-- By which keys receives and messages find each other.
use Rattle.std.proofs.Common.{◌≡◌, ◌∙◌, ◌==◌, ◌&&◌, ◌||◌, ◌++◌, ◌<◌, ◌≤◌, ◌+◌, ℕ, Bool, true, false, not, Option, Some, None, List, [], take, length, get_or, refl, sym, ap, append_assoc, subst, take_all, All, Contains}
use Rattle.std.proofs.lemmas.List.Elements.{All-more}
use Rattle.std.specs.Option.{option_map}
use Rattle.mpi_model.specs.Fit.{admits}
use Rattle.mpi_model.specs.declared.message.Message.{Message}
use Rattle.mpi_model.specs.declared.message.Receive.{Receive}
use Rattle.trace_wait.specs.Patterns.{Pattern, same_option}
use Rattle.trace_diagnosis.specs.Near.{is_near, names, names_other}
use Rattle.trace_diagnosis.specs.Places.{first_of, first_places}
use Rattle.trace_diagnosis.specs.Fewest.{only_if}
use Rattle.trace_diagnosis.specs.Shelves.{MakesKey, PutsThing, has_key, others_at}
use Rattle.trace_diagnosis.specs.Ways.{AreMessages, AreReceives, MakesAsked, PutsMessage, PutsReceive, comm_place, dest_place, has_place, is_asked, lies, lies_from, meets, names_source, names_tag, place_for, place_of, source_place, stands, stands_at, stands_from, tag_place, why_of}
use Rattle.trace_diagnosis.specs.declared.near.Place.{Place}
use Rattle.trace_diagnosis.specs.declared.shelf.Shelf.{Shelf}
use Rattle.trace_diagnosis.specs.declared.near.Way.{Way}
use Rattle.trace_diagnosis.specs.declared.near.Way.TheVariants.{Tag, Comm, Source, Dest}
use Rattle.trace_diagnosis.proofs.Alike.{flipped, meets_flipped}
use Rattle.trace_diagnosis.proofs.Fewest.{cut_front}
use Rattle.trace_diagnosis.proofs.Shelving.{again}
use Rattle.trace_diagnosis.proofs.Joining.{first_of_places, first_places_agree, first_places_more, first_places_none}

-- two ways to name the source, and two to name the tag
four_ways : (a b s t u v d : Bool) →
    (((a && b && s && u && d) || (a && b && s && v && d)) || ((a && b && t && u && d) || (a && b && t && v && d))) ≡ (a && b && (s || t) && (u || v) && d)
four_ways false b s t u v d = refl
four_ways true false s t u v d = refl
four_ways true true true true true true true = refl
four_ways true true true true true true false = refl
four_ways true true true true true false true = refl
four_ways true true true true true false false = refl
four_ways true true true true false true true = refl
four_ways true true true true false true false = refl
four_ways true true true true false false true = refl
four_ways true true true true false false false = refl
four_ways true true true false true true true = refl
four_ways true true true false true true false = refl
four_ways true true true false true false true = refl
four_ways true true true false true false false = refl
four_ways true true true false false true true = refl
four_ways true true true false false true false = refl
four_ways true true true false false false true = refl
four_ways true true true false false false false = refl
four_ways true true false true true true true = refl
four_ways true true false true true true false = refl
four_ways true true false true true false true = refl
four_ways true true false true true false false = refl
four_ways true true false true false true true = refl
four_ways true true false true false true false = refl
four_ways true true false true false false true = refl
four_ways true true false true false false false = refl
four_ways true true false false true true true = refl
four_ways true true false false true true false = refl
four_ways true true false false true false true = refl
four_ways true true false false true false false = refl
four_ways true true false false false true true = refl
four_ways true true false false false true false = refl
four_ways true true false false false false true = refl
four_ways true true false false false false false = refl

and_true : (a : Bool) → (a && true) ≡ a
and_true true = refl
and_true false = refl

and_false : (a : Bool) → (a && false) ≡ false
and_false true = refl
and_false false = refl

named_ways : (o : Option ℕ) (n : ℕ) → (same_option o None || same_option o (Some n)) ≡ admits o n
named_ways None n = refl
named_ways (Some a) n = refl

ends : (a a' b b' s s' u u' d d' : Bool) → a ≡ a' → b ≡ b' → s ≡ s' → u ≡ u' → d ≡ d' → (a && b && s && u && d) ≡ (a' && b' && s' && u' && d')
ends a a' b b' s s' u u' d d' e f g h k =
    ap (λ x. x && b && s && u && d) e ∙ ap (λ x. a' && x && s && u && d) f ∙ ap (λ x. a' && b' && x && u && d) g ∙ ap (λ x. a' && b' && s' && x && d) h ∙ ap (λ x. a' && b' && s' && u' && x) k

tag_order : (a b s d : Bool) → (a && b && s && true && d) ≡ (a && b && s && d)
tag_order a b s d = ap (λ x. x && d) (and_true (a && b && s))

comm_order : (b s u d : Bool) → (b && true && s && u && d) ≡ (d && b && s && u)
comm_order true true true true = refl
comm_order true true true false = refl
comm_order true true false true = refl
comm_order true true false false = refl
comm_order true false true true = refl
comm_order true false true false = refl
comm_order true false false true = refl
comm_order true false false false = refl
comm_order false true true true = refl
comm_order false true true false = refl
comm_order false true false true = refl
comm_order false true false false = refl
comm_order false false true true = refl
comm_order false false true false = refl
comm_order false false false true = refl
comm_order false false false false = refl

source_order : (a b u d : Bool) → (a && b && true && u && d) ≡ (a && b && d && u)
source_order true true true true = refl
source_order true true true false = refl
source_order true true false true = refl
source_order true true false false = refl
source_order true false true true = refl
source_order true false true false = refl
source_order true false false true = refl
source_order true false false false = refl
source_order false true true true = refl
source_order false true true false = refl
source_order false true false true = refl
source_order false true false false = refl
source_order false false true true = refl
source_order false false true false = refl
source_order false false false true = refl
source_order false false false false = refl

dest_order : (a b u d : Bool) → (a && b && true && u && d) ≡ (a && d && b && u)
dest_order true true true true = refl
dest_order true true true false = refl
dest_order true true false true = refl
dest_order true true false false = refl
dest_order true false true true = refl
dest_order true false true false = refl
dest_order true false false true = refl
dest_order true false false false = refl
dest_order false true true true = refl
dest_order false true true false = refl
dest_order false true false true = refl
dest_order false true false false = refl
dest_order false false true true = refl
dest_order false false true false = refl
dest_order false false false true = refl
dest_order false false false false = refl

-- The receives at the four keys of a message are its near misses.
abbrev at_four : Way → Message → Option Place → Bool
at_four w m o =
    (stands_at o (place_for w m None None) || stands_at o (place_for w m None (Some m.tag)))
    || (stands_at o (place_for w m (Some m.from) None) || stands_at o (place_for w m (Some m.from) (Some m.tag)))

tag_near : (m : Message) (q : Receive) (o : Option ℕ) →
    at_four Tag m (option_map (tag_place q) o) ≡ ((m.comm == q.comm) && (m.to == q.at) && admits q.source m.from && names_other o m.tag)
tag_near m q None = sym (and_false ((m.comm == q.comm) && (m.to == q.at) && admits q.source m.from))
tag_near m q (Some tag) =
    four_ways (q.comm == m.comm) (q.at == m.to) (same_option q.source None) (same_option q.source (Some m.from)) true true (not (tag == m.tag))
    ∙ ends _ _ _ _ _ _ _ _ _ _ (flipped q.comm m.comm) (flipped q.at m.to) (named_ways q.source m.from) refl refl
    ∙ tag_order (m.comm == q.comm) (m.to == q.at) (admits q.source m.from) (not (tag == m.tag))

comm_near : (m : Message) (q : Receive) →
    at_four Comm m (Some (comm_place q)) ≡ (not (m.comm == q.comm) && (m.to == q.at) && admits q.source m.from && admits q.tag m.tag)
comm_near m q =
    four_ways (q.at == m.to) true (same_option q.source None) (same_option q.source (Some m.from)) (same_option q.tag None) (same_option q.tag (Some m.tag)) (not (q.comm == m.comm))
    ∙ ends _ _ _ _ _ _ _ _ _ _ (flipped q.at m.to) refl (named_ways q.source m.from) (named_ways q.tag m.tag) (ap not (flipped q.comm m.comm))
    ∙ comm_order (m.to == q.at) (admits q.source m.from) (admits q.tag m.tag) (not (m.comm == q.comm))

source_near : (m : Message) (q : Receive) (o : Option ℕ) →
    at_four Source m (option_map (source_place q) o) ≡ ((m.comm == q.comm) && (m.to == q.at) && names_other o m.from && admits q.tag m.tag)
source_near m q None = sym (ap (λ x. x && admits q.tag m.tag) (and_false ((m.comm == q.comm) && (m.to == q.at))))
source_near m q (Some source) =
    four_ways (q.comm == m.comm) (q.at == m.to) true true (same_option q.tag None) (same_option q.tag (Some m.tag)) (not (source == m.from))
    ∙ ends _ _ _ _ _ _ _ _ _ _ (flipped q.comm m.comm) (flipped q.at m.to) refl (named_ways q.tag m.tag) refl
    ∙ source_order (m.comm == q.comm) (m.to == q.at) (admits q.tag m.tag) (not (source == m.from))

dest_near : (m : Message) (q : Receive) (o : Option ℕ) →
    at_four Dest m (option_map (dest_place q) o) ≡ ((m.comm == q.comm) && not (m.to == q.at) && names o m.from && admits q.tag m.tag)
dest_near m q None = sym (ap (λ x. x && admits q.tag m.tag) (and_false ((m.comm == q.comm) && not (m.to == q.at))))
dest_near m q (Some source) =
    four_ways (q.comm == m.comm) (source == m.from) true true (same_option q.tag None) (same_option q.tag (Some m.tag)) (not (q.at == m.to))
    ∙ ends _ _ _ _ _ _ _ _ _ _ (flipped q.comm m.comm) refl refl (named_ways q.tag m.tag) (ap not (flipped q.at m.to))
    ∙ dest_order (m.comm == q.comm) (source == m.from) (admits q.tag m.tag) (not (m.to == q.at))

pub near_is : (w : Way) (m : Message) (q : Receive) → at_four w m (place_of w q) ≡ is_near (why_of w) m q
near_is Tag m q = tag_near m q q.tag
near_is Comm m q = comm_near m q
near_is Source m q = source_near m q q.source
near_is Dest m q = dest_near m q q.source

-- and so are the messages at the key of a receive
either_same : (a b c d a' b' c' d' : Bool) → a ≡ a' → b ≡ b' → c ≡ c' → d ≡ d' → ((a || b) || (c || d)) ≡ ((a' || b') || (c' || d'))
either_same a b c d a' b' c' d' e f g h = ap (λ x. (x || b) || (c || d)) e ∙ ap (λ x. (a' || x) || (c || d)) f ∙ ap (λ x. (a' || b') || (x || d)) g ∙ ap (λ x. (a' || b') || (c' || x)) h

pub lies_is : (w : Way) (m : Message) (q : Receive) (o : Place) → place_of w q ≡ Some o → lies w o m ≡ is_near (why_of w) m q
lies_is w m q o e =
    either_same _ _ _ _ _ _ _ _ (meets_flipped (place_for w m None None) o) (meets_flipped (place_for w m None (Some m.tag)) o) (meets_flipped (place_for w m (Some m.from) None) o) (meets_flipped (place_for w m (Some m.from) (Some m.tag)) o)
    ∙ ap (at_four w m) (sym e) ∙ near_is w m q

pub no_place : (w : Way) (m : Message) (q : Receive) → place_of w q ≡ None → is_near (why_of w) m q ≡ false
no_place w m q e = sym (near_is w m q) ∙ ap (at_four w m) e

-- ---- receives

pub receive_passed : (w : Way) (q : Receive) (place : ℕ) (shelf : Shelf) → place_of w q ≡ None → PutsReceive w q place shelf shelf
receive_passed w q place shelf none = λ p. again shelf p.key p.value ∙ ap (λ (o : Option Place). take 3 (others_at shelf p.key p.value ++ only_if (stands_at o p) place)) (sym none)

module _ (w : Way) (q : Receive) (o : Place) (is : place_of w q ≡ Some o) where
  pub receive_put : (place : ℕ) (old middle new : Shelf) → MakesKey o.key old middle → PutsThing o.key o.value place middle new → PutsReceive w q place old new
  receive_put place old middle new made put = λ p.
      put.more p.key p.value (ap (λ b. b || has_key middle p.key) made.there) ∙ ap (λ (l : List ℕ). take 3 (l ++ only_if (meets o p) place)) (made.same p.key p.value)
      ∙ ap (λ (x : Option Place). take 3 (others_at old p.key p.value ++ only_if (stands_at x p) place)) (sym is)

  pub asked_made : (old new : Shelf) → MakesKey o.key old new → MakesAsked w q old new
  asked_made old new made = record { there = ap (has_place new) is ∙ made.there; kept = made.kept; same = made.same }

pub asked_passed : (w : Way) (q : Receive) (shelf : Shelf) → place_of w q ≡ None → MakesAsked w q shelf shelf
asked_passed w q shelf none = record { there = ap (has_place shelf) none; kept = λ k has. has; same = λ k v. refl }

-- ---- messages

-- one of two keys that are not both the place's
one_of : (a b : Bool) (place : ℕ) → (a && b) ≡ false → (only_if a place ++ only_if b place) ≡ only_if (a || b) place
one_of true true place e = absurd (cc (e))
one_of true false place e = refl
one_of false b place e = refl

pub both_put : (f g : Place → Bool) → ((o : Place) → (f o && g o) ≡ false) → (place : ℕ) (old middle new : Shelf) → PutsMessage f place old middle → PutsMessage g place middle new → PutsMessage (λ o. f o || g o) place old new
both_put f g apart place old middle new first second = record {
  kept = λ k. second.kept k ∙ first.kept k;
  more = λ o has.
      second.more o (first.kept o.key ∙ has) ∙ ap (λ (l : List ℕ). take 3 (l ++ only_if (g o) place)) (first.more o has)
      ∙ cut_front 3 (others_at old o.key o.value ++ only_if (f o) place) (only_if (g o) place)
      ∙ ap (take 3) (append_assoc (others_at old o.key o.value) (only_if (f o) place) (only_if (g o) place))
      ∙ ap (λ (l : List ℕ). take 3 (others_at old o.key o.value ++ l)) (one_of (f o) (g o) place (apart o));
}

pub put_as : (f g : Place → Bool) → ((o : Place) → f o ≡ g o) → (place : ℕ) (old new : Shelf) → PutsMessage f place old new → PutsMessage g place old new
put_as f g same place old new puts = record {
  kept = puts.kept;
  more = λ o has. puts.more o has ∙ ap (λ (b : Bool). take 3 (others_at old o.key o.value ++ only_if b place)) (same o);
}

or_same : (a : Bool) → a ≡ (a || a)
or_same true = refl
or_same false = refl

-- the keys of a message that don't name the tag, or the source
pub without_tag : (w : Way) (m : Message) (source : Option ℕ) (o : Place) → names_tag w ≡ false → meets (place_for w m source None) o ≡ lies_from w m source o
without_tag Tag m source o e = or_same (meets (place_for Tag m source None) o)
without_tag Comm m source o e = absurd (cc (e))
without_tag Source m source o e = absurd (cc (e))
without_tag Dest m source o e = absurd (cc (e))

pub without_source : (w : Way) (m : Message) (o : Place) → names_source w ≡ false → lies_from w m None o ≡ lies w o m
without_source Tag m o e = absurd (cc (e))
without_source Comm m o e = absurd (cc (e))
without_source Source m o e = or_same (lies_from Source m None o)
without_source Dest m o e = or_same (lies_from Dest m None o)

-- the parts of two places that meet
abbrev alike : Place → Place → Bool
alike p o = (p.key.0 == o.key.0) && (p.key.1 == o.key.1)

abbrev alike_source : Place → Place → Bool
alike_source p o = (p.key.0 == o.key.0) && (p.key.1 == o.key.1) && same_option p.key.2 o.key.2

abbrev alike_tag : Place → Place → Bool
alike_tag p o = same_option p.key.3 o.key.3

abbrev differs : Place → Place → Bool
differs p o = not (p.value == o.value)

-- keys that name the tag are other ones than those that don't
last_apart : (a b : Bool) (t : ℕ) (d e : Bool) (o : Option ℕ) → ((a && same_option None o && d) && (b && same_option (Some t) o && e)) ≡ false
last_apart a b t d e None = ap (λ x. (a && true && d) && x) (ap (λ x. x && e) (and_false b)) ∙ and_false (a && true && d)
last_apart a b t d e (Some n) = ap (λ x. x && (b && same_option (Some t) (Some n) && e)) (ap (λ x. x && d) (and_false a))

tag_apart : (m : Message) (p r o : Place) → ((alike_source p o && same_option None o.key.3 && differs p o) && (alike_source r o && same_option (Some m.tag) o.key.3 && differs r o)) ≡ false
tag_apart m p r o = last_apart (alike_source p o) (alike_source r o) m.tag (differs p o) (differs r o) o.key.3

pub tags_apart : (w : Way) (m : Message) (source : Option ℕ) (o : Place) → names_tag w ≡ true → (meets (place_for w m source None) o && meets (place_for w m source (Some m.tag)) o) ≡ false
tags_apart Tag m source o e = absurd (cc (e))
tags_apart Comm m source o e = tag_apart m (place_for Comm m source None) (place_for Comm m source (Some m.tag)) o
tags_apart Source m source o e = tag_apart m (place_for Source m source None) (place_for Source m source (Some m.tag)) o
tags_apart Dest m source o e = tag_apart m (place_for Dest m source None) (place_for Dest m source (Some m.tag)) o

-- the same of the source
some_apart : (a b : Bool) (f : ℕ) (t u v x d e g h : Bool) (o : Option ℕ) →
    (((a && same_option None o && t && d) || (a && same_option None o && u && e)) && ((b && same_option (Some f) o && v && g) || (b && same_option (Some f) o && x && h))) ≡ false
some_apart a b f t u v x d e g h None =
    ap (λ z. (((a && true && t && d) || (a && true && u && e)) && ((z && v && g) || (z && x && h)))) (and_false b) ∙ and_false ((a && true && t && d) || (a && true && u && e))
some_apart a b f t u v x d e g h (Some n) =
    ap (λ z. (((z && t && d) || (z && u && e)) && ((b && same_option (Some f) (Some n) && v && g) || (b && same_option (Some f) (Some n) && x && h)))) (and_false a)

source_apart : (m : Message) (p q r s o : Place) →
    (((alike p o && same_option None o.key.2 && alike_tag p o && differs p o) || (alike p o && same_option None o.key.2 && alike_tag q o && differs q o))
    && ((alike r o && same_option (Some m.from) o.key.2 && alike_tag r o && differs r o) || (alike r o && same_option (Some m.from) o.key.2 && alike_tag s o && differs s o))) ≡ false
source_apart m p q r s o =
    some_apart (alike p o) (alike r o) m.from (alike_tag p o) (alike_tag q o) (alike_tag r o) (alike_tag s o) (differs p o) (differs q o) (differs r o) (differs s o) o.key.2

pub sources_apart : (w : Way) (m : Message) (o : Place) → names_source w ≡ true → (lies_from w m None o && lies_from w m (Some m.from) o) ≡ false
sources_apart Tag m o e = source_apart m (place_for Tag m None None) (place_for Tag m None (Some m.tag)) (place_for Tag m (Some m.from) None) (place_for Tag m (Some m.from) (Some m.tag)) o
sources_apart Comm m o e = source_apart m (place_for Comm m None None) (place_for Comm m None (Some m.tag)) (place_for Comm m (Some m.from) None) (place_for Comm m (Some m.from) (Some m.tag)) o
sources_apart Source m o e = absurd (cc (e))
sources_apart Dest m o e = absurd (cc (e))

or_last : (a b : Bool) → b ≡ true → (a || b) ≡ true
or_last true b e = refl
or_last false b e = e

pub thing_as_message : (p : Place) (place : ℕ) (old new : Shelf) → PutsThing p.key p.value place old new → PutsMessage (meets p) place old new
thing_as_message p place old new puts = record { kept = puts.kept; more = λ o has. puts.more o.key o.value (or_last (has_key old p.key) (has_key old o.key) has) }

-- ---- one more of a list

pub receives_more : (w : Way) (xs : List Receive) (i : ℕ) (q : Receive) (old new : Shelf) → i < length xs → q ≡ get_or xs i q → AreReceives w (take i xs) old → PutsReceive w q i old new → AreReceives w (take (i + 1) xs) new
receives_more w xs i q old new lt is are puts = λ p. first_places_more (stands w p) xs i q _ _ lt is (are p) (puts p)

pub messages_more : (w : Way) (xs : List Message) (i : ℕ) (m : Message) (old new : Shelf) → i < length xs → m ≡ get_or xs i m → AreMessages w (take i xs) old
    → PutsMessage (λ o. lies w o m) i old new → AreMessages w (take (i + 1) xs) new
messages_more w xs i m old new lt is are puts =
    λ o has. let was : has_key old o.key ≡ true = sym (puts.kept o.key) ∙ has in first_places_more (lies w o) xs i m _ _ lt is (are o was) (puts.more o was)

still_asked : (old new : Shelf) → ((k : Pattern) → has_key old k ≡ true → has_key new k ≡ true) → (o : Option Place) → has_place old o ≡ true → has_place new o ≡ true
still_asked old new kept None h = refl
still_asked old new kept (Some p) h = kept p.key h

pub asked_more : (w : Way) (xs : List Receive) (i : ℕ) (q : Receive) (old new : Shelf) → i < length xs → q ≡ get_or xs i q → All (λ r. is_asked w old r ≡ true) (take i xs) → MakesAsked w q old new
    → All (λ r. is_asked w new r ≡ true) (take (i + 1) xs)
asked_more w xs i q old new lt is asked makes =
    All-more (λ r. is_asked w new r ≡ true) xs i q lt (λ k d l. still_asked old new makes.kept (place_of w (get_or (take i xs) k d)) (asked k d l))
    (subst (λ r. is_asked w new r ≡ true) is makes.there)

-- and all of it
pub receives_all : (w : Way) (xs : List Receive) (i : ℕ) (shelf : Shelf) → length xs ≤ i → AreReceives w (take i xs) shelf → AreReceives w xs shelf
receives_all w xs i shelf le are = subst (λ (l : List Receive). AreReceives w l shelf) (take_all i xs le) are

pub messages_all : (w : Way) (xs : List Message) (i : ℕ) (shelf : Shelf) → length xs ≤ i → AreMessages w (take i xs) shelf → AreMessages w xs shelf
messages_all w xs i shelf le are = subst (λ (l : List Message). AreMessages w l shelf) (take_all i xs le) are

pub asked_all : (w : Way) (xs : List Receive) (i : ℕ) (shelf : Shelf) → length xs ≤ i → All (λ r. is_asked w shelf r ≡ true) (take i xs) → All (λ r. is_asked w shelf r ≡ true) xs
asked_all w xs i shelf le asked = subst (λ (l : List Receive). All (λ r. is_asked w shelf r ≡ true) l) (take_all i xs le) asked

pub asked_kept : (w : Way) (xs : List Receive) (old new : Shelf) → ((k : Pattern) → has_key new k ≡ has_key old k) → All (λ r. is_asked w old r ≡ true) xs → All (λ r. is_asked w new r ≡ true) xs
asked_kept w xs old new kept asked = λ k d lt. still_asked old new (λ key has. kept key ∙ has) (place_of w (get_or xs k d)) (asked k d lt)

-- ---- what is found

pub asked_here : (w : Way) (shelf : Shelf) (xs : List Receive) (q : Receive) (o : Place) → All (λ r. is_asked w shelf r ≡ true) xs → Contains xs q → place_of w q ≡ Some o → has_key shelf o.key ≡ true
asked_here w shelf xs q o asked has is =
    let here : is_asked w shelf q ≡ true = subst (λ r. is_asked w shelf r ≡ true) has.2 (asked has.0 q has.1) in
    sym (ap (has_place shelf) is) ∙ here

pub messages_found : (w : Way) (shelf : Shelf) (messages : List Message) (xs : List Receive) (q : Receive) (o : Place) (found : List ℕ) → AreMessages w messages shelf → All (λ r. is_asked w shelf r ≡ true) xs → Contains xs q
    → place_of w q ≡ Some o → found ≡ others_at shelf o.key o.value → found ≡ first_places (λ m. is_near (why_of w) m q) messages
messages_found w shelf messages xs q o found are asked has is e =
    e ∙ are o (asked_here w shelf xs q o asked has is) ∙ first_places_agree (lies w o) (λ m. is_near (why_of w) m q) (λ m. lies_is w m q o is) messages

pub none_found : (w : Way) (messages : List Message) (q : Receive) (found : List ℕ) → place_of w q ≡ None → found ≡ [] → found ≡ first_places (λ m. is_near (why_of w) m q) messages
none_found w messages q found none e = e ∙ sym (first_places_none (λ m. is_near (why_of w) m q) (λ m. no_place w m q none) messages)

pub receives_found : (w : Way) (m : Message) (receives : List Receive) (any named found : List ℕ) → found ≡ first_of 3 any named → any ≡ first_places (stands_from w m None) receives → named ≡ first_places (stands_from w m (Some m.from)) receives
    → found ≡ first_places (is_near (why_of w) m) receives
receives_found w m receives any named found e a b =
    first_of_places (stands_from w m None) (stands_from w m (Some m.from)) receives any named found e a b
    ∙ first_places_agree (λ q. stands_from w m None q || stands_from w m (Some m.from) q) (is_near (why_of w) m) (λ q. near_is w m q) receives
