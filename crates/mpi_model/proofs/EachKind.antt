-- What holds of each kind: it has its number, and a test that all of them pass.
use Rattle.std.proofs.Common.{◌≡◌, ◌<◌, ◌&&◌, ◌∙◌, ◌+◌, ◌==◌, ℕ, zero, suc, Bool, true, false, List, [], ◌∷◌, Some, ap, refl, sym, subst}
use Rattle.std.specs.Prelude.{IsTrue, ◌↔◌, slice_get}
use Rattle.std.proofs.lemmas.Option.{slice_get_within}
use Rattle.std.specs.List.{list_all}
use Rattle.std.proofs.lemmas.Grind.{common_steps}
use Rattle.std.proofs.Common.{arith}
use Rattle.mpi_model.specs.declared.kind.Kind.{Kind}
use Rattle.mpi_model.specs.declared.kind.Kind.TheVariants as kinds
use Rattle.mpi_model.specs.Kinds.{all_kinds, kind_number, kind_of}
use Rattle.mpi_model.specs.AllKinds.{HaveNumbers, TestsEach}

-- the kind at the place of its number
pub again : (k : Kind) → slice_get all_kinds (kind_number k) ≡ Some k
unfolding all_kinds kind_number
again kinds.Barrier = refl
again kinds.Bcast = refl
again kinds.Scatter = refl
again kinds.Gather = refl
again kinds.Reduce = refl
again kinds.Allreduce = refl
again kinds.Allgather = refl
again kinds.Alltoall = refl
again kinds.Scan = refl
again kinds.Exscan = refl
again kinds.ReduceScatterBlock = refl
again kinds.ReduceScatter = refl
again kinds.Allgatherv = refl
again kinds.Alltoallv = refl
again kinds.Alltoallw = refl
again kinds.Gatherv = refl
again kinds.Scatterv = refl
again kinds.CommSplit = refl
again kinds.CommSplitType = refl
again kinds.DistGraphCreate = refl
again kinds.CommDup = refl
again kinds.CommDupWithInfo = refl
again kinds.CommCreate = refl
again kinds.CommFree = refl
again kinds.CommDisconnect = refl
again kinds.CartCreate = refl
again kinds.GraphCreate = refl
again kinds.DistGraphCreateAdjacent = refl
again kinds.CartSub = refl
again kinds.IntercommCreate = refl
again kinds.CommSpawn = refl
again kinds.CommSpawnMultiple = refl
again kinds.CommAccept = refl
again kinds.CommConnect = refl
again kinds.WinCreate = refl
again kinds.WinAllocate = refl
again kinds.WinAllocateShared = refl
again kinds.WinCreateDynamic = refl
again kinds.FileOpen = refl
again kinds.NeighborAllgather = refl
again kinds.NeighborAllgatherv = refl
again kinds.NeighborAlltoall = refl
again kinds.NeighborAlltoallv = refl
again kinds.NeighborAlltoallw = refl
again kinds.WinFence = refl
again kinds.WinFree = refl
again kinds.FileClose = refl
again kinds.FileSetView = refl
again kinds.FileSetSize = refl
again kinds.FilePreallocate = refl
again kinds.FileSync = refl
again kinds.FileSetAtomicity = refl
again kinds.FileSeekShared = refl
again kinds.FileReadAll = refl
again kinds.FileReadAtAll = refl
again kinds.FileReadOrdered = refl
again kinds.FileWriteAll = refl
again kinds.FileWriteAtAll = refl
again kinds.FileWriteOrdered = refl
again kinds.FileReadAllBegin = refl
again kinds.FileReadAtAllBegin = refl
again kinds.FileReadOrderedBegin = refl
again kinds.FileWriteAllBegin = refl
again kinds.FileWriteAtAllBegin = refl
again kinds.FileWriteOrderedBegin = refl
again kinds.FileReadAllEnd = refl
again kinds.FileReadAtAllEnd = refl
again kinds.FileReadOrderedEnd = refl
again kinds.FileWriteAllEnd = refl
again kinds.FileWriteAtAllEnd = refl
again kinds.FileWriteOrderedEnd = refl
again kinds.CommSetInfo = refl
again kinds.WinSetInfo = refl
again kinds.FileSetInfo = refl
again kinds.IntercommMerge = refl

some_is : {X : Type 0} (x y : X) → Some x ≡ Some y → x ≡ y
some_is x y h = cc

-- kinds of one number are one kind
pub one_kind : (a b : Kind) → kind_number a ≡ kind_number b → a ≡ b
one_kind a b h = some_is a b (sym (again a) ∙ ap (slice_get all_kinds) h ∙ again b)

both : (a b : Bool) → (a && b) ≡ true → (a ≡ true) × (b ≡ true)
both true b h = (refl, h)
both false b h = cc

passes : {X : Type 0} (test : X → Bool) (xs : List X) (i : ℕ) (x : X) → list_all test xs ≡ true → slice_get xs i ≡ Some x → test x ≡ true
passes test [] i x all here = cc
passes test (y ∷ ys) zero x all here = subst (λ z. test z ≡ true) (some_is y x here) (both (test y) (list_all test ys) all).0
passes test (y ∷ ys) (suc i) x all here = passes test ys i x (both (test y) (list_all test ys) all).1 here

pub tests_each : TestsEach
tests_each test all kind = passes test all_kinds (kind_number kind) kind all (again kind)

-- the numbers of these kinds are first, first + 1, and so on
abbrev counts : ℕ → List Kind → Bool
counts first [] = true
counts first (k ∷ ks) = (kind_number k == first) && counts (first + 1) ks

same_number : (a b : ℕ) → (a == b) ≡ true → a ≡ b
same_number a b h = grind (arith, common_steps)

place_of : (first : ℕ) (ks : List Kind) (n : ℕ) (k : Kind) → counts first ks ≡ true → slice_get ks n ≡ Some k → kind_number k ≡ first + n
place_of first [] n k h here = cc
place_of first (j ∷ js) zero k h here =
    let number = same_number (kind_number j) first (both (kind_number j == first) (counts (first + 1) js) h).0 in
    ap kind_number (sym (some_is j k here)) ∙ omega (arith, number)
place_of first (j ∷ js) (suc n) k h here =
    let later = place_of (first + 1) js n k (both (kind_number j == first) (counts (first + 1) js) h).1 here in
    omega (arith, later)

counts_all : counts 0 all_kinds ≡ true
unfolding all_kinds kind_number
counts_all = refl

below : (kind : Kind) → kind_number kind < 75
unfolding all_kinds
below kind = slice_get_within all_kinds (kind_number kind) kind (again kind)

pub have_numbers : HaveNumbers
unfolding kind_of
have_numbers = record {
  again = again;
  back = λ n kind here. let place = place_of 0 all_kinds n kind counts_all here in omega (arith, place);
  below = below;
}

itself : (n : ℕ) → (n == n) ≡ true
itself n = grind (arith, common_steps)

-- the test of two kinds by their numbers
pub kinds_agree : (a b : Kind) (m n : ℕ) → m ≡ kind_number a → n ≡ kind_number b → IsTrue (m == n) ↔ (a ≡ b)
kinds_agree a b m n of_a of_b = (
  λ h. one_kind a b (sym of_a ∙ same_number m n h ∙ of_b),
  λ h. ap (λ (k : ℕ). m == k) (of_b ∙ ap kind_number (sym h) ∙ sym of_a) ∙ itself m,
)
