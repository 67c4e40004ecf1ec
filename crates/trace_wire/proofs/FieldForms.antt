-- The laws of an event's fields.
use Rattle.std.proofs.Common.{◌≡◌, ℕ, zero, suc, ◌+◌, ◌^◌, ◌<◌, ◌≤◌, ◌==◌, ◌&&◌, ◌∙◌, Bool, true, false, not, cond, ltb, eqb, List, [], ◌∷◌, Option, Some, None, refl, sym, ap, subst, arith, inl, inr}
use Rattle.std.specs.Prelude.{ℤ, pos, negsuc, nat_le, slice_get}
use Rattle.std.proofs.lemmas.Option.{slice_get_within}
use Rattle.std.specs.Int.{w32, w64, cast_signed, cast_unsigned}
use Rattle.std.proofs.lemmas.Bool.{ltb-true, eqb-true}
use Rattle.std.proofs.lemmas.Bool.Decides.{nat_tests}
use Rattle.std.proofs.lemmas.Int.{ints, to_z-of_z, of_z-to_z}
use Rattle.mpi_model.specs.Times.{latest, IsTimes}
use Rattle.mpi_model.specs.Ranges.{IsTold, IsAskedTag, IsComm, IsSource, IsNamed, IsTarget, IsRootOf, IsNamedAs, IsCollective, IsIcollective, IsProbe, CollectiveCall}
use Rattle.mpi_model.specs.Kinds.{all_kinds, has_nonblocking, kind_number, kind_of, object_number, row}
use Rattle.mpi_model.specs.declared.object.Object.{Object}
use Rattle.mpi_model.specs.declared.object.Object.TheVariants.{Communicator, Window, File}
use Rattle.mpi_model.specs.declared.envelope.Peer.{Peer}
use Rattle.mpi_model.specs.declared.envelope.Peer.TheVariants as peers
use Rattle.mpi_model.specs.declared.envelope.CommRef.{CommRef}
use Rattle.mpi_model.specs.declared.envelope.CommRef.TheVariants as comms
use Rattle.mpi_model.specs.declared.envelope.Mode.{Mode}
use Rattle.mpi_model.specs.declared.envelope.Mode.TheVariants as modes
use Rattle.mpi_model.specs.declared.kind.Kind.{Kind}
use Rattle.mpi_model.specs.declared.kind.Kind.TheVariants as kinds
use Rattle.mpi_model.specs.declared.envelope.Envelope.{Envelope}
use Rattle.mpi_model.specs.declared.told.Told.{Told}
use Rattle.mpi_model.specs.declared.told.Told.TheVariants as tolds
use Rattle.trace_wire.specs.Forms.{◌>>=◌, number, byte, mapped, guarded, pair, small, marked, signed, small_of, marked_of, marked_code}
use Rattle.trace_wire.specs.Fields.{peer_code, peer_of, told_code, told_of, comm_code, comm_of, mode_code, mode_of, flag_code, flag_of, peer, told, comm, mode, kind, flag, moment, stamp, envelope, named, send_envelope, same_comm, exchange, rooted, named_as, gathering, is_barrier, ibarrier, igathering, probe}
use Rattle.mpi_model.specs.Events.{IsSigned, IsSent, IsReceived, IsExchanged}
use Rattle.trace_wire.proofs.FormLaws.{IsForm, wide32, wide64, number_form, byte_form, mapped_form, pair_form, guarded_form, record_form, refit, chosen, choose, no_value, some_is, bind_some}

-- ---- numbers below 2 ^ 31, and marks

small_is : (n m : ℕ) → small_of n ≡ Some m → (n ≡ m) × (m < 2 ^ 31)
small_is n m e = elim (chosen (ltb n (2 ^ 31)) (Some n) None (Some m) e) [
  | inl p ↦ (some_is n m p.1, subst (λ k. k < 2 ^ 31) (some_is n m p.1) (ltb-true n (2 ^ 31) p.0))
  | inr p ↦ no_value _ m p.1
]

small_again : (n : ℕ) → n < 2 ^ 31 → small_of n ≡ Some n
small_again n lt = grind (arith, nat_tests)

pub small_form : IsForm small (λ n. n < 2 ^ 31)
small_form = mapped_form (number w32) (λ n. n) small_of (λ n. n < 2 ^ 32) (λ n. n < 2 ^ 31) (number_form w32 (2 ^ 32) wide32) (record {
  back = λ n m lt e. let p = small_is n m e in (sym p.0, p.1);
  again = λ n lt. small_again n lt;
  fits = λ n lt. omega arith;
})

-- a number, made into a value
small_made : {A : Type 0} (P : ℕ → A → Type 0) (make : ℕ → A) (n : ℕ) (a : A) → ((m : ℕ) → m < 2 ^ 31 → P m (make m)) → (small_of n >>= λ m. Some (make m)) ≡ Some a → P n a
small_made {A} P make n a one e =
    let p = bind_some (small_of n) (λ m. Some (make m)) a e in
    let q = small_is n p.0 p.1 in
    subst (λ (k : ℕ). P k a) (sym q.0) (subst (λ (b : A). P p.0 b) (some_is (make p.0) a p.2) (one p.0 q.1))

unmarked : (mark n : ℕ) → 2 ^ 31 ≤ mark → n < 2 ^ 31 → eqb n mark ≡ false
unmarked mark n le lt = grind (arith, nat_tests)

marked_back : (n : ℕ) (o : Option ℕ) → marked_of n ≡ Some o → (marked_code o ≡ n) × IsAskedTag o
marked_back n o e = choose (λ (k : ℕ). (marked_code o ≡ k) × IsAskedTag o) n 4294967295 _ _ o e
    (λ h. subst (λ (p : Option ℕ). (marked_code p ≡ 4294967295) × IsAskedTag p) (some_is None o h) (refl, tt))
    (λ h. small_made (λ (k : ℕ) (p : Option ℕ). (marked_code p ≡ k) × IsAskedTag p) (λ m. Some m) n o (λ m lt. (refl, lt)) h)

marked_again : (o : Option ℕ) → IsAskedTag o → marked_of (marked_code o) ≡ Some o
marked_again None fits = refl
marked_again (Some n) fits = rw (unmarked 4294967295 n (omega arith) fits, small_again n fits) refl

marked_fits : (o : Option ℕ) → IsAskedTag o → marked_code o < 2 ^ 32
marked_fits None fits = omega arith
marked_fits (Some n) fits = omega arith

pub marked_form : IsForm marked IsAskedTag
marked_form = mapped_form (number w32) marked_code marked_of (λ n. n < 2 ^ 32) IsAskedTag (number_form w32 (2 ^ 32) wide32) (record {
  back = λ n o lt e. marked_back n o e;
  again = marked_again;
  fits = marked_fits;
})

told_back : (n : ℕ) (t : Told) → told_of n ≡ Some t → (told_code t ≡ n) × IsTold t
told_back n t e = choose (λ (k : ℕ). (told_code t ≡ k) × IsTold t) n 4294967295 _ _ t e
    (λ h. subst (λ (q : Told). (told_code q ≡ 4294967295) × IsTold q) (some_is tolds.Nothing t h) (refl, tt))
    (λ e1. choose (λ (k : ℕ). (told_code t ≡ k) × IsTold t) n 4294967294 _ _ t e1
    (λ h. subst (λ (q : Told). (told_code q ≡ 4294967294) × IsTold q) (some_is tolds.Cancelled t h) (refl, tt))
    (λ h. small_made (λ (k : ℕ) (q : Told). (told_code q ≡ k) × IsTold q) (λ m. tolds.Source m) n t (λ m lt. (refl, lt)) h))

told_again : (t : Told) → IsTold t → told_of (told_code t) ≡ Some t
told_again tolds.Nothing fits = refl
told_again tolds.Cancelled fits = refl
told_again (tolds.Source n) fits = rw (unmarked 4294967295 n (omega arith) fits, unmarked 4294967294 n (omega arith) fits, small_again n fits) refl

told_fits : (t : Told) → IsTold t → told_code t < 2 ^ 32
told_fits tolds.Nothing fits = omega arith
told_fits tolds.Cancelled fits = omega arith
told_fits (tolds.Source n) fits = omega arith

pub told_form : IsForm told IsTold
told_form = mapped_form (number w32) told_code told_of (λ n. n < 2 ^ 32) IsTold (number_form w32 (2 ^ 32) wide32) (record {
  back = λ n t lt e. told_back n t e;
  again = told_again;
  fits = told_fits;
})

peer_back : (n : ℕ) (p : Peer) → peer_of n ≡ Some p → (peer_code p ≡ n) × IsSource p
peer_back n p e = choose (λ (k : ℕ). (peer_code p ≡ k) × IsSource p) n 4294967295 _ _ p e
    (λ h. subst (λ (q : Peer). (peer_code q ≡ 4294967295) × IsSource q) (some_is peers.Any p h) (refl, tt))
    (λ e1. choose (λ (k : ℕ). (peer_code p ≡ k) × IsSource p) n 4294967294 _ _ p e1
    (λ h. subst (λ (q : Peer). (peer_code q ≡ 4294967294) × IsSource q) (some_is peers.Null p h) (refl, tt))
    (λ h. small_made (λ (k : ℕ) (q : Peer). (peer_code q ≡ k) × IsSource q) (λ m. peers.Rank m) n p (λ m lt. (refl, lt)) h))

peer_again : (p : Peer) → IsSource p → peer_of (peer_code p) ≡ Some p
peer_again peers.Any fits = refl
peer_again peers.Null fits = refl
peer_again (peers.Rank n) fits = rw (unmarked 4294967295 n (omega arith) fits, unmarked 4294967294 n (omega arith) fits, small_again n fits) refl

peer_fits : (p : Peer) → IsSource p → peer_code p < 2 ^ 32
peer_fits peers.Any fits = omega arith
peer_fits peers.Null fits = omega arith
peer_fits (peers.Rank n) fits = omega arith

pub peer_form : IsForm peer IsSource
peer_form = mapped_form (number w32) peer_code peer_of (λ n. n < 2 ^ 32) IsSource (number_form w32 (2 ^ 32) wide32) (record {
  back = λ n o lt e. peer_back n o e;
  again = peer_again;
  fits = peer_fits;
})

comm_back : (n : ℕ) (o : CommRef) → comm_of n ≡ Some o → (comm_code o ≡ n) × IsComm o
comm_back n o e = choose (λ (k : ℕ). (comm_code o ≡ k) × IsComm o) n 4294967295 _ _ o e
    (λ h. subst (λ (p : CommRef). (comm_code p ≡ 4294967295) × IsComm p) (some_is comms.World o h) (refl, tt))
    (λ h. small_made (λ (k : ℕ) (p : CommRef). (comm_code p ≡ k) × IsComm p) (λ m. comms.Id m) n o (λ m lt. (refl, lt)) h)

comm_again : (o : CommRef) → IsComm o → comm_of (comm_code o) ≡ Some o
comm_again comms.World fits = refl
comm_again (comms.Id n) fits = rw (unmarked 4294967295 n (omega arith) fits, small_again n fits) refl

comm_fits : (o : CommRef) → IsComm o → comm_code o < 2 ^ 32
comm_fits comms.World fits = omega arith
comm_fits (comms.Id n) fits = omega arith

pub comm_form : IsForm comm IsComm
comm_form = mapped_form (number w32) comm_code comm_of (λ n. n < 2 ^ 32) IsComm (number_form w32 (2 ^ 32) wide32) (record {
  back = λ n o lt e. comm_back n o e;
  again = comm_again;
  fits = comm_fits;
})

-- ---- one of a few values

-- a value of a chain of codes is the first, or one of the rest
step : {A : Type 0} (code : A → ℕ) (n k : ℕ) (x : A) (r : Option A) (y : A) → code x ≡ k → cond (eqb n k) (Some x) r ≡ Some y → (r ≡ Some y → code y ≡ n) → code y ≡ n
step {A} code n k x r y is e other = choose (λ (m : ℕ). code y ≡ m) n k (Some x) r y e (λ h. subst (λ (z : A). code z ≡ k) (some_is x y h) is) other

mode_back : (n : ℕ) (m : Mode) → mode_of n ≡ Some m → mode_code m ≡ n
mode_back n m e =
    step mode_code n 0 modes.Standard _ m refl e (λ e1.
    step mode_code n 1 modes.Synchronous _ m refl e1 (λ e2.
    step mode_code n 2 modes.Buffered _ m refl e2 (λ e3.
    step mode_code n 3 modes.Ready _ m refl e3 (no_value _ m))))

mode_again : (m : Mode) → mode_of (mode_code m) ≡ Some m
mode_again modes.Standard = refl
mode_again modes.Synchronous = refl
mode_again modes.Buffered = refl
mode_again modes.Ready = refl

mode_fits : (m : Mode) → mode_code m < 256
mode_fits modes.Standard = omega arith
mode_fits modes.Synchronous = omega arith
mode_fits modes.Buffered = omega arith
mode_fits modes.Ready = omega arith

-- the form of a few values, each of which has a byte
few_form : {A : Type 0} (code : A → ℕ) (of : ℕ → Option A) → ((n : ℕ) (a : A) → of n ≡ Some a → code a ≡ n) → ((a : A) → of (code a) ≡ Some a) → ((a : A) → code a < 256) → IsForm (mapped byte code of) (λ _. Unit {0})
few_form {A} code of back again fits = mapped_form byte code of (λ n. n < 256) (λ _. Unit {0}) byte_form (record {
  back = λ n a lt e. (back n a e, tt);
  again = λ a ok. again a;
  fits = λ a ok. fits a;
})

pub mode_form : IsForm mode (λ _. Unit {0})
mode_form = few_form mode_code mode_of mode_back mode_again mode_fits

-- the kind at the place of its number
kind_place : (m : Kind) → slice_get all_kinds (kind_number m) ≡ Some m
unfolding all_kinds kind_number
kind_place kinds.Barrier = refl
kind_place kinds.Bcast = refl
kind_place kinds.Scatter = refl
kind_place kinds.Gather = refl
kind_place kinds.Reduce = refl
kind_place kinds.Allreduce = refl
kind_place kinds.Allgather = refl
kind_place kinds.Alltoall = refl
kind_place kinds.Scan = refl
kind_place kinds.Exscan = refl
kind_place kinds.ReduceScatterBlock = refl
kind_place kinds.ReduceScatter = refl
kind_place kinds.Allgatherv = refl
kind_place kinds.Alltoallv = refl
kind_place kinds.Alltoallw = refl
kind_place kinds.Gatherv = refl
kind_place kinds.Scatterv = refl
kind_place kinds.CommSplit = refl
kind_place kinds.CommSplitType = refl
kind_place kinds.DistGraphCreate = refl
kind_place kinds.CommDup = refl
kind_place kinds.CommDupWithInfo = refl
kind_place kinds.CommCreate = refl
kind_place kinds.CommFree = refl
kind_place kinds.CommDisconnect = refl
kind_place kinds.CartCreate = refl
kind_place kinds.GraphCreate = refl
kind_place kinds.DistGraphCreateAdjacent = refl
kind_place kinds.CartSub = refl
kind_place kinds.IntercommCreate = refl
kind_place kinds.CommSpawn = refl
kind_place kinds.CommSpawnMultiple = refl
kind_place kinds.CommAccept = refl
kind_place kinds.CommConnect = refl
kind_place kinds.WinCreate = refl
kind_place kinds.WinAllocate = refl
kind_place kinds.WinAllocateShared = refl
kind_place kinds.WinCreateDynamic = refl
kind_place kinds.FileOpen = refl
kind_place kinds.NeighborAllgather = refl
kind_place kinds.NeighborAllgatherv = refl
kind_place kinds.NeighborAlltoall = refl
kind_place kinds.NeighborAlltoallv = refl
kind_place kinds.NeighborAlltoallw = refl
kind_place kinds.WinFence = refl
kind_place kinds.WinFree = refl
kind_place kinds.FileClose = refl
kind_place kinds.FileSetView = refl
kind_place kinds.FileSetSize = refl
kind_place kinds.FilePreallocate = refl
kind_place kinds.FileSync = refl
kind_place kinds.FileSetAtomicity = refl
kind_place kinds.FileSeekShared = refl
kind_place kinds.FileReadAll = refl
kind_place kinds.FileReadAtAll = refl
kind_place kinds.FileReadOrdered = refl
kind_place kinds.FileWriteAll = refl
kind_place kinds.FileWriteAtAll = refl
kind_place kinds.FileWriteOrdered = refl
kind_place kinds.FileReadAllBegin = refl
kind_place kinds.FileReadAtAllBegin = refl
kind_place kinds.FileReadOrderedBegin = refl
kind_place kinds.FileWriteAllBegin = refl
kind_place kinds.FileWriteAtAllBegin = refl
kind_place kinds.FileWriteOrderedBegin = refl
kind_place kinds.FileReadAllEnd = refl
kind_place kinds.FileReadAtAllEnd = refl
kind_place kinds.FileReadOrderedEnd = refl
kind_place kinds.FileWriteAllEnd = refl
kind_place kinds.FileWriteAtAllEnd = refl
kind_place kinds.FileWriteOrderedEnd = refl
kind_place kinds.CommSetInfo = refl
kind_place kinds.WinSetInfo = refl
kind_place kinds.FileSetInfo = refl
kind_place kinds.IntercommMerge = refl

-- the numbers of these kinds are first, first + 1, and so on
abbrev counts : ℕ → List Kind → Bool
counts first [] = true
counts first (m ∷ ms) = eqb (kind_number m) first && counts (first + 1) ms

counts_all : counts 0 all_kinds ≡ true
unfolding all_kinds kind_number
counts_all = refl

both : (a b : Bool) → (a && b) ≡ true → (a ≡ true) × (b ≡ true)
both true b h = (refl, h)
both false b h = absurd cc

number_at : (first : ℕ) (ms : List Kind) (n : ℕ) (m : Kind) → counts first ms ≡ true → slice_get ms n ≡ Some m → kind_number m ≡ first + n
number_at first [] n m h here = absurd (no_value _ m here)
number_at first (j ∷ js) zero m h here =
    let number = eqb-true (kind_number j) first (both (eqb (kind_number j) first) (counts (first + 1) js) h).0 in
    ap kind_number (sym (some_is j m here)) ∙ omega (arith, number)
number_at first (j ∷ js) (suc n) m h here =
    let later = number_at (first + 1) js n m (both (eqb (kind_number j) first) (counts (first + 1) js) h).1 here in
    omega (arith, later)

kind_back : (n : ℕ) (m : Kind) → kind_of n ≡ Some m → kind_number m ≡ n
unfolding kind_of
kind_back n m e = let place = number_at 0 all_kinds n m counts_all e in omega (arith, place)

kind_again : (m : Kind) → kind_of (kind_number m) ≡ Some m
unfolding kind_of
kind_again m = kind_place m

kind_below : (m : Kind) → kind_number m < 75
unfolding all_kinds
kind_below m = slice_get_within all_kinds (kind_number m) m (kind_place m)

kind_fits : (m : Kind) → kind_number m < 256
kind_fits m = omega (arith, kind_below m)

pub kind_form : IsForm kind (λ _. Unit {0})
kind_form = few_form kind_number kind_of kind_back kind_again kind_fits

flag_back : (n : ℕ) (b : Bool) → flag_of n ≡ Some b → flag_code b ≡ n
flag_back n b e = step flag_code n 0 false _ b refl e (λ e1. step flag_code n 1 true _ b refl e1 (no_value _ b))

flag_again : (b : Bool) → flag_of (flag_code b) ≡ Some b
flag_again false = refl
flag_again true = refl

flag_fits : (b : Bool) → flag_code b < 256
flag_fits false = omega arith
flag_fits true = omega arith

pub flag_form : IsForm flag (λ _. Unit {0})
flag_form = few_form flag_code flag_of flag_back flag_again flag_fits

-- ---- records

signed_back : (n : ℕ) (z : ℤ) → n < 2 ^ 64 → cast_signed w64 n ≡ z → (cast_unsigned w64 z ≡ n) × IsSigned z
signed_back n z lt e = subst (λ (y : ℤ). (cast_unsigned w64 y ≡ n) × IsSigned y) e (of_z-to_z w64 n lt, omega (arith, ints))

signed_small : (z : ℤ) → IsSigned z → cast_unsigned w64 z < 2 ^ 64
signed_small (pos n) fits = omega arith
signed_small (negsuc n) fits = omega arith

pub signed_form : IsForm signed IsSigned
signed_form = mapped_form (number w64) (cast_unsigned w64) (λ n. Some (cast_signed w64 n)) (λ n. n < 2 ^ 64) IsSigned (number_form w64 (2 ^ 64) wide64) (record {
  back = λ n z lt e. signed_back n z lt (some_is (cast_signed w64 n) z e);
  again = λ z fits. ap (λ (y : ℤ). Some y) (to_z-of_z w64 z fits);
  fits = λ z fits. signed_small z fits;
})

moment_is : (n : ℕ) → (n < 2 ^ 64) × (nat_le n latest ≡ true) → n ≤ latest
moment_is n h = grind (arith, nat_tests, h)

moment_has : (n : ℕ) → n ≤ latest → (n < 2 ^ 64) × (nat_le n latest ≡ true)
moment_has n h = (omega arith, grind (arith, nat_tests))

moment_form : IsForm moment (λ n. n ≤ latest)
moment_form = refit moment _ (λ n. n ≤ latest) moment_is moment_has (guarded_form (number w64) (λ n. nat_le n latest) (λ n. n < 2 ^ 64) (number_form w64 (2 ^ 64) wide64))

pub stamp_form : IsForm stamp IsTimes
stamp_form = record_form (pair moment moment) (λ t. (t.wall, t.cpu)) (λ x. record { wall = x.0; cpu = x.1 }) _ IsTimes (λ a. refl) (λ b. refl) (λ a fits. (fits.0, fits.1)) (λ b fits. (fits.0, fits.1)) (pair_form moment moment _ _ moment_form moment_form)

pub envelope_form : IsForm envelope IsReceived
envelope_form = record_form (pair peer (pair marked (pair comm (pair small signed)))) _ (λ x. record { peer = x.0; tag = x.1.0; comm = x.1.1.0; count = x.1.1.1.0; datatype = x.1.1.1.1 }) _ IsReceived (λ a. refl) (λ b. refl)
    (λ a fits. ((fits.0, fits.1.0, fits.1.1.0, fits.1.1.1.0), fits.1.1.1.1))
    (λ b fits. (fits.0.0, (fits.0.1, (fits.0.2, (fits.0.3, fits.1)))))
    (pair_form peer _ _ _ peer_form (pair_form marked _ _ _ marked_form (pair_form comm _ _ _ comm_form (pair_form small signed _ _ small_form signed_form))))

-- the peer and the tag of a send, as those of a receive
sent : (p : Peer) (t : Option ℕ) → IsSource p → IsAskedTag t → named p t ≡ true → IsTarget p × IsNamed t
sent peers.Any t a b h = absurd cc
sent peers.Null None a b h = absurd cc
sent peers.Null (Some n) a b h = (tt, b)
sent (peers.Rank r) None a b h = absurd cc
sent (peers.Rank r) (Some n) a b h = (a, b)

received : (p : Peer) (t : Option ℕ) → IsTarget p → IsNamed t → IsSource p × IsAskedTag t × (named p t ≡ true)
received peers.Any t a b = absurd a
received peers.Null None a b = absurd b
received peers.Null (Some n) a b = (tt, b, refl)
received (peers.Rank r) None a b = absurd b
received (peers.Rank r) (Some n) a b = (a, b, refl)

rooted_there : (k : Kind) (r : Option ℕ) → IsAskedTag r → rooted k r ≡ true → IsRootOf k r
rooted_there k None f h = tt
rooted_there k (Some n) f h = (h, f)

rooted_here : (k : Kind) (r : Option ℕ) → IsRootOf k r → IsAskedTag r × (rooted k r ≡ true)
rooted_here k None f = (tt, refl)
rooted_here k (Some n) f = (f.1, f.0)

-- a sort of the number of communicators is that of communicators
communicator_is : (object : Object) → (object_number object == object_number Communicator) ≡ true → object ≡ Communicator
communicator_is Communicator h = refl
communicator_is Window h = absurd cc
communicator_is File h = absurd cc

named_there : (object : Object) (c : CommRef) → named_as object c ≡ true → IsNamedAs object c
named_there object comms.World h = communicator_is object h
named_there object (comms.Id n) h = tt

named_here : (object : Object) (c : CommRef) → IsNamedAs object c → named_as object c ≡ true
named_here object comms.World f = ap (λ (o : Object). object_number o == object_number Communicator) f
named_here object (comms.Id n) f = refl

and_true : (a b : Bool) → a ≡ true → b ≡ true → (a && b) ≡ true
and_true true b h k = k
and_true false b h k = h

-- A send names its peer and its tag.
send_there : (e : Envelope) → IsReceived e × (named e.peer e.tag ≡ true) → IsSent e
send_there e h = let p = sent e.peer e.tag h.0.0.0 h.0.0.1 h.1 in ((p.0, p.1, h.0.0.2, h.0.0.3), h.0.1)

send_here : (e : Envelope) → IsSent e → IsReceived e × (named e.peer e.tag ≡ true)
send_here e h = let p = received e.peer e.tag h.0.0 h.0.1 in (((p.0, p.1, h.0.2, h.0.3), h.1), p.2)

pub send_form : IsForm send_envelope IsSent
send_form = refit send_envelope _ IsSent send_there send_here (guarded_form envelope (λ e. named e.peer e.tag) IsReceived envelope_form)

comms_are : (a b : CommRef) → same_comm a b ≡ true → a ≡ b
comms_are comms.World comms.World h = refl
comms_are (comms.Id m) (comms.Id n) h = ap (λ (k : ℕ). comms.Id k) (eqb-true m n h)
comms_are comms.World (comms.Id n) h = absurd cc
comms_are (comms.Id n) comms.World h = absurd cc

comm_same : (a : CommRef) → same_comm a a ≡ true
comm_same comms.World = refl
comm_same (comms.Id n) = grind (arith, nat_tests)

pub exchange_form : IsForm exchange IsExchanged
exchange_form = record_form (guarded (pair send_envelope envelope) (λ x. same_comm x.0.comm x.1.comm)) (λ b. (b.send, b.receive)) (λ x. record { send = x.0; receive = x.1 }) _ IsExchanged (λ a. refl) (λ b. refl)
    (λ a fits. ((fits.0.0.0, fits.0.1.0, comms_are a.0.comm a.1.comm fits.1), fits.0.0.1, fits.0.1.1))
    (λ b fits. (((fits.0.0, fits.1), (fits.0.1, fits.2)), subst (λ (c : CommRef). same_comm b.send.comm c ≡ true) fits.0.2 (comm_same b.send.comm)))
    (guarded_form (pair send_envelope envelope) (λ x. same_comm x.0.comm x.1.comm) _ (pair_form send_envelope envelope _ _ send_form envelope_form))

pub gathering_form : IsForm gathering IsCollective
gathering_form = record_form (guarded (pair kind (pair marked comm)) (λ x. rooted x.0 x.1.0 && named_as (row x.0).object x.1.1)) (λ g. (g.kind, (g.root, g.comm))) (λ x. record { kind = x.0; root = x.1.0; comm = x.1.1 }) _ IsCollective (λ a. refl) (λ b. refl)
    (λ a fits. let h = both (rooted a.0 a.1.0) (named_as (row a.0).object a.1.1) fits.1 in (rooted_there a.0 a.1.0 fits.0.1.0 h.0, fits.0.1.1, named_there (row a.0).object a.1.1 h.1))
    (λ b fits. let r = rooted_here b.kind b.root fits.0 in ((tt, (r.0, fits.1)), and_true (rooted b.kind b.root) (named_as (row b.kind).object b.comm) r.1 (named_here (row b.kind).object b.comm fits.2)))
    (guarded_form (pair kind (pair marked comm)) (λ x. rooted x.0 x.1.0 && named_as (row x.0).object x.1.1) _ (pair_form kind (pair marked comm) _ _ kind_form (pair_form marked comm _ _ marked_form comm_form)))

-- MPI_Ibarrier
abbrev pub IsIbarrier : CollectiveCall → Type 0
IsIbarrier g = IsIcollective g × (is_barrier g.kind ≡ true)

-- kinds of one number are one kind
one_kind : (a b : Kind) → kind_number a ≡ kind_number b → a ≡ b
one_kind a b h = some_is a b (sym (kind_place a) ∙ ap (slice_get all_kinds) h ∙ kind_place b)

no_root : (r : Option ℕ) → IsRootOf kinds.Barrier r → r ≡ None
unfolding row
no_root None f = refl
no_root (Some n) f = absurd (let e : false ≡ true = f.0 in cc)

is_sound : (c : CommRef) → IsComm c → IsIcollective (record { kind = kinds.Barrier; root = None; comm = c })
unfolding row
is_sound comms.World fits = ((tt, fits, refl), refl)
is_sound (comms.Id n) fits = ((tt, fits, tt), refl)

-- only Barrier has its number, and it has no root
no_more : (k : Kind) (r : Option ℕ) (c : CommRef) → IsRootOf k r → is_barrier k ≡ true → ◌≡◌ {A = Option CollectiveCall} (Some (record { kind = kinds.Barrier; root = None; comm = c })) (Some (record { kind = k; root = r; comm = c }))
no_more k r c f h =
    let is : kinds.Barrier ≡ k = sym (one_kind k kinds.Barrier (eqb-true (kind_number k) (kind_number kinds.Barrier) h)) in
    let none = no_root r (subst (λ (j : Kind). IsRootOf j r) (sym is) f) in
    ap (λ (j : Kind). Some (record { kind = j; root = None; comm = c })) is ∙ ap (λ (o : Option ℕ). Some (record { kind = k; root = o; comm = c })) (sym none)

itself : (n : ℕ) → (n == n) ≡ true
itself n = grind (arith, nat_tests)

pub ibarrier_form : IsForm ibarrier IsIbarrier
ibarrier_form = mapped_form comm (λ g. g.comm) (λ c. Some (record { kind = kinds.Barrier; root = None; comm = c })) IsComm IsIbarrier comm_form (record {
  back = λ c g fits e. subst (λ (h : CollectiveCall). (h.comm ≡ c) × IsIbarrier h) (some_is _ g e) (refl, (is_sound c fits, itself (kind_number kinds.Barrier)));
  again = λ g fits. no_more g.kind g.root g.comm fits.0.0.0 fits.1;
  fits = λ g fits. fits.0.0.1;
})

-- every other nonblocking call
abbrev pub IsOtherCall : CollectiveCall → Type 0
IsOtherCall g = IsIcollective g × (not (is_barrier g.kind) ≡ true)

other_there : (g : CollectiveCall) → IsCollective g × ((not (is_barrier g.kind) && has_nonblocking g.kind) ≡ true) → IsOtherCall g
other_there g h = let p = both (not (is_barrier g.kind)) (has_nonblocking g.kind) h.1 in ((h.0, p.1), p.0)

other_here : (g : CollectiveCall) → IsOtherCall g → IsCollective g × ((not (is_barrier g.kind) && has_nonblocking g.kind) ≡ true)
other_here g h = (h.0.0, and_true (not (is_barrier g.kind)) (has_nonblocking g.kind) h.1 h.0.1)

pub igathering_form : IsForm igathering IsOtherCall
igathering_form = refit igathering _ IsOtherCall other_there other_here (guarded_form gathering (λ g. not (is_barrier g.kind) && has_nonblocking g.kind) IsCollective gathering_form)

pub probe_form : IsForm probe IsProbe
probe_form = record_form (pair peer (pair marked comm)) (λ e. (e.source, (e.tag, e.comm))) (λ x. record { source = x.0; tag = x.1.0; comm = x.1.1 }) _ IsProbe (λ a. refl) (λ b. refl)
    (λ a fits. (fits.0, fits.1.0, fits.1.1))
    (λ b fits. (fits.0, (fits.1, fits.2)))
    (pair_form peer (pair marked comm) _ _ peer_form (pair_form marked comm _ _ marked_form comm_form))
