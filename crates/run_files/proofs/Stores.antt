-- Files that are kept and taken away again.
use Rattle.std.proofs.Common.{◌≡◌, ◌≢◌, ◌∙◌, ◌⊎◌, ◌+◌, ◌-◌, ◌^◌, ◌≤◌, min, arith, ℕ, List, Option, Some, None, inl, inr, ap, sym, subst}
use Rattle.std.specs.Str.{bytes_eq}
use Rattle.std.proofs.Math.Nat.{le-min, min-le_left, min-le_right}
use Rattle.std.proofs.lemmas.Bool.{cases_Bool, false≢true}
use Rattle.std.proofs.lemmas.Slice.Eq.{bytes_eq-Decides}
use Rattle.mpi_model.specs.Failures.{HasFailed}
use Rattle.run_files.specs.Stores.{Adds, AddsBoth, AreDistinct, File, Files, Goes, HasBoth, LeavesSpares, LeftOfAdding, LeftOfReplacing, MayLack, Moves, RefusesAdding, RefusesReplacing, Removes, RemovesBoth, Same, fault_of_adding, fault_of_spares}
use Rattle.run_files.specs.declared.store.PutFault.{PutFault}
use Rattle.run_files.specs.declared.store.PutFault.TheVariants as puts
use Rattle.run_files.specs.declared.store.StoreFault.{StoreFault}
use Rattle.run_files.specs.declared.store.StoreFault.TheVariants as stores
use Rattle.run_files.specs.declared.store.Which.{Which}
use Rattle.run_files.specs.declared.store.Which.TheVariants as sides

-- one change, and then another
abbrev pub Then : (Files → Files → Type 0) → (Files → Files → Type 0) → Files → Files → Type 0
Then A B old now = (mid : Files) × A old mid × B mid now

then_on : (A B : Files → Files → Type 0) (one : Files) (mid new : Option Files) → (now : Files) × (mid ≡ Some now) × A one now → Goes B mid new
    → (now : Files) × (new ≡ Some now) × Then A B one now
then_on A B one mid new (front, is, a) b =
    let c : Goes B (Some front) new = subst (λ (m : Option Files). Goes B m new) is b in
    (c.0, c.1, (front, a, c.2))

-- two changes of a store, one after another
pub both_go : (A B : Files → Files → Type 0) (old mid new : Option Files) → Goes A old mid → Goes B mid new → Goes (Then A B) old new
both_go A B None mid new a b = tt
both_go A B (Some one) mid new a b = then_on A B one mid new a b

weaker : (A B : Files → Files → Type 0) (one : Files) (new : Option Files) → ((now : Files) → A one now → B one now)
    → (now : Files) × (new ≡ Some now) × A one now → (now : Files) × (new ≡ Some now) × B one now
weaker A B one new h (now, is, a) = (now, is, h now a)

pub goes_weaker : (A B : Files → Files → Type 0) (old new : Option Files) → ((one now : Files) → A one now → B one now) → Goes A old new → Goes B old new
goes_weaker A B None new h a = tt
goes_weaker A B (Some one) new h a = weaker A B one new (h one) a

-- a name is this one or not
pub same_name : (one other : List ℕ) → (one ≡ other) ⊎ (one ≢ other)
same_name one other = elim (cases_Bool (bytes_eq one other)) [
  | inl e ↦ inl ((bytes_eq-Decides one other).0 e)
  | inr n ↦ inr (λ e. false≢true (sym n ∙ (bytes_eq-Decides one other).1 e))
]

-- a file that was kept and taken away again
back_at : (path bytes : List ℕ) (old one two now : Files) → Adds path bytes old one → Same one two → Removes path two now → (name : List ℕ) → name ≡ path ⊎ name ≢ path → now name ≡ old name
back_at path bytes old one two now adds same removes name (inl e) =
    subst (λ (n : List ℕ). now n ≡ old n) (sym e) (removes.absent ∙ sym adds.absent)
back_at path bytes old one two now adds same removes name (inr n) = removes.others name n ∙ same name ∙ adds.others name n

pub taken_back : (path bytes : List ℕ) (old one two now : Option Files) → Goes (Adds path bytes) old one → Goes Same one two → Goes (Removes path) two now → Goes Same old now
taken_back path bytes old one two now a b c =
    goes_weaker (Then (Then (Adds path bytes) Same) (Removes path)) Same old now
    (λ before after h. λ name. back_at path bytes before h.1.0 h.0 after h.1.1 h.1.2 h.2 name (same_name name path))
    (both_go (Then (Adds path bytes) Same) (Removes path) old two now (both_go (Adds path bytes) Same old one two a b) c)

-- two files that were kept and taken away again
gone_at : (one other : File) (old two three now : Files) → AddsBoth one other old two → Same two three → RemovesBoth one.name other.name three now → (name : List ℕ)
    → name ≡ one.name ⊎ name ≢ one.name → name ≡ other.name ⊎ name ≢ other.name → now name ≡ old name
gone_at one other old two three now adds same removes name (inl e) other_or = subst (λ (n : List ℕ). now n ≡ old n) (sym e) (removes.absent.0 ∙ sym adds.none_was.0)
gone_at one other old two three now adds same removes name (inr n) (inl e) = subst (λ (n : List ℕ). now n ≡ old n) (sym e) (removes.absent.1 ∙ sym adds.none_was.1)
gone_at one other old two three now adds same removes name (inr n) (inr m) = removes.others name n m ∙ same name ∙ adds.both.others name n m

pub both_taken_back : (one other : File) (old two three now : Option Files) → Goes (AddsBoth one other) old two → Goes Same two three → Goes (RemovesBoth one.name other.name) three now → Goes Same old now
both_taken_back one other old two three now a b c =
    goes_weaker (Then (Then (AddsBoth one other) Same) (RemovesBoth one.name other.name)) Same old now
    (λ before after h. λ name. gone_at one other before h.1.0 h.0 after h.1.1 h.1.2 h.2 name (same_name name one.name) (same_name name other.name))
    (both_go (Then (AddsBoth one other) Same) (RemovesBoth one.name other.name) old three now (both_go (AddsBoth one other) Same old two three a b) c)

-- two files under spare names that got their own

flipped : {one other : List ℕ} → one ≢ other → other ≢ one
flipped h = λ e. h (sym e)

-- what no name but those of the two files tells
spare_at : (a b : List ℕ) (spare other_spare : File) (old mid two now : Files) → AreDistinct a b spare.name other_spare.name
    → AddsBoth spare other_spare old mid → Moves spare.name a mid two → Moves other_spare.name b two now
    → (name : List ℕ) → name ≢ a → name ≢ b → name ≡ spare.name ⊎ name ≢ spare.name → name ≡ other_spare.name ⊎ name ≢ other_spare.name → now name ≡ old name
spare_at a b spare other_spare old mid two now apart adds first second name n m (inl e) other_or =
    subst (λ (k : List ℕ). now k ≡ old k) (sym e)
    (second.others spare.name apart.third (flipped apart.second.0) ∙ first.absent (flipped apart.first.1) ∙ sym adds.none_was.0)
spare_at a b spare other_spare old mid two now apart adds first second name n m (inr k) (inl e) =
    subst (λ (k : List ℕ). now k ≡ old k) (sym e) (second.absent (flipped apart.second.1) ∙ sym adds.none_was.1)
spare_at a b spare other_spare old mid two now apart adds first second name n m (inr k) (inr l) =
    second.others name l m ∙ first.others name k n ∙ adds.both.others name k l

pub replaced_now : (one other spare other_spare : File) → spare.bytes ≡ one.bytes → other_spare.bytes ≡ other.bytes
    → AreDistinct one.name other.name spare.name other_spare.name → (old mid two now : Files)
    → AddsBoth spare other_spare old mid → Moves spare.name one.name mid two → Moves other_spare.name other.name two now
    → HasBoth one other old now
replaced_now one other spare other_spare same same' apart old mid two now adds first second = record {
  one_there = second.others one.name apart.first.2 apart.first.0 ∙ first.there ∙ adds.both.one_there ∙ ap Some same;
  other_there = second.there ∙ first.others other_spare.name (flipped apart.third) (flipped apart.first.2) ∙ adds.both.other_there ∙ ap Some same';
  others = λ name n m. spare_at one.name other.name spare other_spare old mid two now apart adds first second name n m
      (same_name name spare.name) (same_name name other_spare.name);
}

pub replaced : (one other spare other_spare : File) → spare.bytes ≡ one.bytes → other_spare.bytes ≡ other.bytes
    → AreDistinct one.name other.name spare.name other_spare.name → (old mid two now : Option Files)
    → Goes (AddsBoth spare other_spare) old mid → Goes (Moves spare.name one.name) mid two → Goes (Moves other_spare.name other.name) two now
    → Goes (HasBoth one other) old now
replaced one other spare other_spare same same' apart old mid two now adds first second =
    let Adding : Files → Files → Type 0 = AddsBoth spare other_spare in
    let First : Files → Files → Type 0 = Moves spare.name one.name in
    let Second : Files → Files → Type 0 = Moves other_spare.name other.name in
    goes_weaker (Then (Then Adding First) Second) (HasBoth one other) old now
    (λ before after h. replaced_now one other spare other_spare same same' apart before h.1.0 h.0 after h.1.1 h.1.2 h.2)
    (both_go (Then Adding First) Second old two now (both_go Adding First old mid two adds first) second)

-- a failure after some that were counted before
pub has_failed : (old mid now : ℕ) → old ≤ mid → HasFailed mid now → HasFailed old now
has_failed old mid now le failed =
    let more : min (old + 1) (2 ^ 64 - 1) ≤ min (mid + 1) (2 ^ 64 - 1) =
    le-min (grind (arith, min-le_left (old + 1) (2 ^ 64 - 1))) (min-le_right (old + 1) (2 ^ 64 - 1)) in
    grind (arith, more, failed)

-- spare files that aren't added
pub spares_refused : (one other spare other_spare : List ℕ) (files : Option Files) (failed : Type 0) (fault : PutFault) → AreDistinct one other spare other_spare
    → RefusesAdding spare other_spare files failed fault → RefusesReplacing one other spare other_spare files failed (fault_of_spares fault)
spares_refused one other spare other_spare files failed puts.Memory apart h = tt
spares_refused one other spare other_spare files failed puts.OneName apart h = λ _. apart.third h
spares_refused one other spare other_spare files failed (puts.There which) apart h = h
spares_refused one other spare other_spare files failed (puts.SpareThere which) apart h = absurd h
spares_refused one other spare other_spare files failed (puts.Failed which) apart h = h
spares_refused one other spare other_spare files failed (puts.Half which) apart h = h

-- what is left where a file wasn't added, and the one before it was taken away again
pub nothing_left : (one : File) (fault : StoreFault) (which : Which) (old now : Option Files) → Goes Same old now → Goes (LeftOfAdding one (fault_of_adding fault which)) old now
nothing_left one stores.There which old now h = h
nothing_left one stores.Failed which old now h = h

-- the first of two spare files is gone or left, where the store didn't take both away
first_left : (one : List ℕ) (bytes : List ℕ) (mid two now : Files) → mid one ≡ Some bytes → Same mid two → (now one ≡ None) ⊎ (now one ≡ two one) → (now one ≡ None) ⊎ (now one ≡ Some bytes)
first_left one bytes mid two now there same (inl gone) = inl gone
first_left one bytes mid two now there same (inr left) = inr (left ∙ same one ∙ there)

spares_left_now : (spare other_spare : File) → spare.name ≢ other_spare.name → (old mid two now : Files)
    → AddsBoth spare other_spare old mid → Same mid two → MayLack spare.name two now → LeavesSpares spare other_spare old now
spares_left_now spare other_spare apart old mid two now adds same lacks = record {
  none_was = adds.none_was;
  first = first_left spare.name spare.bytes mid two now adds.both.one_there same lacks.first;
  second = lacks.others other_spare.name (flipped apart) ∙ same other_spare.name ∙ adds.both.other_there;
  others = λ name n m. lacks.others name n ∙ same name ∙ adds.both.others name n m;
}

pub spares_left : (spare other_spare : File) → spare.name ≢ other_spare.name → (old mid two now : Option Files)
    → Goes (AddsBoth spare other_spare) old mid → Goes Same mid two → Goes (MayLack spare.name) two now → Goes (LeavesSpares spare other_spare) old now
spares_left spare other_spare apart old mid two now adds same lacks =
    let Adding : Files → Files → Type 0 = AddsBoth spare other_spare in
    goes_weaker (Then (Then Adding Same) (MayLack spare.name)) (LeavesSpares spare other_spare) old now
    (λ before after h. spares_left_now spare other_spare apart before h.1.0 h.0 after h.1.1 h.1.2 h.2)
    (both_go (Then Adding Same) (MayLack spare.name) old two now (both_go Adding Same old mid two adds same) lacks)

-- what is left where two spare files weren't added
pub spares_unadded : (one spare other_spare : File) (fault : PutFault) (old now : Option Files)
    → Goes (LeftOfAdding spare fault) old now → Goes (LeftOfReplacing one spare other_spare (fault_of_spares fault)) old now
spares_unadded one spare other_spare puts.Memory old now h = h
spares_unadded one spare other_spare puts.OneName old now h = h
spares_unadded one spare other_spare (puts.There which) old now h = h
spares_unadded one spare other_spare (puts.SpareThere which) old now h = h
spares_unadded one spare other_spare (puts.Failed which) old now h = h
spares_unadded one spare other_spare (puts.Half sides.First) old now h =
    goes_weaker (LeftOfAdding spare (puts.Half sides.First)) (LeftOfReplacing one spare other_spare (puts.Half sides.First)) old now (λ before after none. absurd none) h
spares_unadded one spare other_spare (puts.Half sides.Second) old now h =
    goes_weaker (LeftOfAdding spare (puts.Half sides.Second)) (LeftOfReplacing one spare other_spare (puts.Half sides.Second)) old now (λ before after adds. inl adds) h
