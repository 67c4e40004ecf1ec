-- Each node of a cluster knows its own pieces.
use Rattle.std.proofs.Common.{◌≡◌, ◌∷◌, [], ℕ, List, Option, Bool, true, false, refl, subst}
use Rattle.std.specs.List.{All}
use Rattle.std.proofs.lemmas.List.Elements.{All-cons, All-head, All-nil, All-tail}
use Rattle.mpi_model.specs.Layouts.{Parts}
use Rattle.dumpi_calls.specs.Whole.{SegmentsTellAll}
use Rattle.trace_know.specs.Trace.{Trace, facts_of_all, view_of}
use Rattle.trace_know.specs.View.{View, IsBelow}
use Rattle.trace_node.specs.Node.{Held}
use Rattle.trace_cluster.specs.declared.side.Side.{Side}
use Rattle.trace_cluster.specs.declared.side.Side.TheVariants as sides
use Rattle.trace_crew.specs.declared.queue.item.Worker.{Worker}
use Rattle.trace_crew.specs.declared.queue.item.Worker.TheVariants as workers
use Rattle.trace_crew.specs.declared.piece.TextPiece.{TextPiece}
use Rattle.trace_crew.specs.Views.{is_from}
use Rattle.trace_cluster.specs.Clustered.{KnowsOwn, KnowsPiece}
use Rattle.run_files.specs.Manifests.{PieceParts}
use Rattle.command_runs.specs.Clusters.{IsKnownTo, known_by}
use Rattle.command_runs.specs.Pieces.{TellsFacts}
use Rattle.command_runs.specs.NodeTexts.{AreShares, AreTextsOf, is_share, is_side, share_of, side_of, worker_of}
use Rattle.command_runs.specs.declared.pieces.node_texts.AllTexts.{AllTexts}
use Rattle.command_runs.proofs.GivenFacts.{facts_given}

-- all that the piece tells is known
abbrev pub IsToldTo : (List ℕ → Option (List ℕ)) → View → PieceParts → Type 0
IsToldTo file know piece = (facts : Trace) × TellsFacts (file piece.file) piece.rank piece.first facts × IsBelow (view_of facts) know

told_each : SegmentsTellAll → (file : List ℕ → Option (List ℕ)) (know : View) (pieces : List PieceParts) (texts : List TextPiece)
    → AreTextsOf file pieces texts → All (KnowsPiece know) texts → All (IsToldTo file know) pieces
told_each tells file know [] texts are all = All-nil (IsToldTo file know)
told_each tells file know (p ∷ ps) texts are all =
    let both : All (KnowsPiece know) (are.0 ∷ are.1) = subst (λ (ts : List TextPiece). All (KnowsPiece know) ts) are.4 all in
    let first : KnowsPiece know are.0 = All-head (KnowsPiece know) are.0 are.1 both in
    All-cons (IsToldTo file know) p ps (facts_of_all first.0, facts_given tells file p are.0 first.0 are.2 first.1, first.2)
    (told_each tells file know ps are.1 are.3 (All-tail (KnowsPiece know) are.0 are.1 both))

-- ---- all shares are all pieces

side_itself : (node : Side) → is_side node node ≡ true
side_itself sides.First = refl
side_itself sides.Second = refl

worker_itself : (worker : Worker) → is_from worker worker ≡ true
worker_itself workers.First = refl
worker_itself workers.Second = refl

head_share : (P : PieceParts → Type 0) (p : PieceParts) (ps : List PieceParts) → All P (share_of (side_of p.node) (worker_of p.worker) (p ∷ ps)) → P p
head_share P p ps all =
    let mine : is_share (side_of p.node) (worker_of p.worker) p ≡ true = rw (side_itself (side_of p.node), worker_itself (worker_of p.worker)) refl in
    let first : share_of (side_of p.node) (worker_of p.worker) (p ∷ ps) ≡ p ∷ share_of (side_of p.node) (worker_of p.worker) ps = rw mine refl in
    All-head P p (share_of (side_of p.node) (worker_of p.worker) ps) (subst (λ (qs : List PieceParts). All P qs) first all)

tail_share : (P : PieceParts → Type 0) (node : Side) (worker : Worker) (p : PieceParts) (ps : List PieceParts) → All P (share_of node worker (p ∷ ps)) → All P (share_of node worker ps)
tail_share P node worker p ps all = step (is_share node worker p) refl
  where
    step : (mine : Bool) → is_share node worker p ≡ mine → All P (share_of node worker ps)
    step true e =
        let more : share_of node worker (p ∷ ps) ≡ p ∷ share_of node worker ps = rw e refl in
        All-tail P p (share_of node worker ps) (subst (λ (qs : List PieceParts). All P qs) more all)
    step false e =
        let less : share_of node worker (p ∷ ps) ≡ share_of node worker ps = rw e refl in
        subst (λ (qs : List PieceParts). All P qs) less all

all_shares : (P : Side → PieceParts → Type 0) (pieces : List PieceParts) → ((node : Side) (worker : Worker) → All (P node) (share_of node worker pieces))
    → All (λ (p : PieceParts). P (side_of p.node) p) pieces
all_shares P [] h = All-nil (λ (p : PieceParts). P (side_of p.node) p)
all_shares P (p ∷ ps) h = All-cons (λ (q : PieceParts). P (side_of q.node) q) p ps
    (head_share (P (side_of p.node)) p ps (h (side_of p.node) (worker_of p.worker)))
    (all_shares P ps (λ node worker. tail_share (P node) node worker p ps (h node worker)))

-- Both nodes know their own pieces.
pub own_known : SegmentsTellAll → (file : List ℕ → Option (List ℕ)) (l : Parts) (pieces : List PieceParts) (texts : AllTexts) (one other : Held)
    → AreShares file pieces texts → KnowsOwn l texts.first one → KnowsOwn l texts.second other → All (IsKnownTo file one other) pieces
own_known tells file l pieces texts one other are first second =
    all_shares (λ node. IsToldTo file (known_by one other node)) pieces each
  where
    each : (node : Side) (worker : Worker) → All (IsToldTo file (known_by one other node)) (share_of node worker pieces)
    each sides.First workers.First = told_each tells file one.know (share_of sides.First workers.First pieces) texts.first.first.items (are sides.First workers.First) first.first
    each sides.First workers.Second = told_each tells file one.know (share_of sides.First workers.Second pieces) texts.first.second.items (are sides.First workers.Second) first.second
    each sides.Second workers.First = told_each tells file other.know (share_of sides.Second workers.First pieces) texts.second.first.items (are sides.Second workers.First) second.first
    each sides.Second workers.Second = told_each tells file other.know (share_of sides.Second workers.Second pieces) texts.second.second.items (are sides.Second workers.Second) second.second
