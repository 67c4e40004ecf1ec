-- What the packed files of two nodes tell, one file more.
use Rattle.std.proofs.Common.{◌≡◌, ◌∙◌, ◌++◌, ◌∷◌, [], ℕ, List, Option, Bool, true, false, cond, ap, sym, subst}
use Rattle.std.specs.FinMap.{empty}
use Rattle.std.proofs.lemmas.List.{append-nil}
use Rattle.std.proofs.lemmas.List.Elements.{filter-append}
use Rattle.mpi_model.specs.Layouts.{Parts}
use Rattle.trace_cluster.specs.Clustered.{KnowsOwn}
use Rattle.trace_cluster.specs.declared.side.Side.{Side}
use Rattle.trace_cluster.specs.declared.side.Side.TheVariants as sides
use Rattle.trace_know.specs.View.{View, IsBelow, join}
use Rattle.trace_node.specs.Node.{Held}
use Rattle.trace_wire.specs.Packed.{IsOfRanks, Unpacks}
use Rattle.run_files.specs.Manifests.{PackedParts}
use Rattle.command_runs.specs.Clusters.{known_by}
use Rattle.command_runs.specs.Packed.{TellPacked}
use Rattle.command_runs.specs.Shares.{KnowsShare, TellShares, packed_share_of, so_far, told_to}
use Rattle.command_runs.specs.NodeTexts.{is_side, known_in, side_of}
use Rattle.command_runs.specs.declared.pieces.shares.PackedShares.{PackedShares}
use Rattle.command_runs.specs.declared.pieces.shares.SoFar.{SoFar}
use Rattle.command_runs.specs.declared.pieces.node_texts.AllTexts.{AllTexts}
use Rattle.command_runs.proofs.Unpacking.{Associates, Commutes, of_both, packed_more}
use Rattle.command_runs.proofs.Within.{JoinsCells}

-- those of a share, where the file is one of it or is not
share_grown : Associates → Commutes → (file : List ℕ → Option (List ℕ)) (ranks : ℕ) (mine : Bool) (packed : List PackedParts) (piece : PackedParts) (view own new : View)
    → TellPacked file ranks packed view → Unpacks ranks (file piece.file) own → new ≡ cond mine (join view own) view
    → TellPacked file ranks (packed ++ cond mine (piece ∷ []) []) new
share_grown associative commutative file ranks true packed piece view own new h tells e = packed_more associative commutative file ranks packed piece view own new h tells e
share_grown associative commutative file ranks false packed piece view own new h tells e =
    subst (λ (ps : List PackedParts). TellPacked file ranks ps new) (sym (append-nil packed)) (subst (λ (v : View). TellPacked file ranks packed v) (sym e) h)

-- what a file more tells each node
abbrev pub Takes : PackedParts → View → (Side → View) → (Side → View) → Type 0
Takes piece own old new = (node : Side) → new node ≡ cond (is_side node (side_of piece.node)) (join (old node) own) (old node)

pub shares_more : Associates → Commutes → (file : List ℕ → Option (List ℕ)) (ranks : ℕ) (front packed : List PackedParts) (piece : PackedParts) (old new : Side → View) (own : View)
    → packed ≡ front ++ piece ∷ [] → TellShares file ranks front old → Unpacks ranks (file piece.file) own → Takes piece own old new → TellShares file ranks packed new
shares_more associative commutative file ranks front packed piece old new own e tell tells takes node =
    let mine : Bool = is_side node (side_of piece.node) in
    let cut : packed_share_of node packed ≡ packed_share_of node front ++ cond mine (piece ∷ []) [] =
    ap (packed_share_of node) e ∙ filter-append (λ (p : PackedParts). is_side node (side_of p.node)) front (piece ∷ []) in
    subst (λ (ps : List PackedParts). TellPacked file ranks ps (new node)) (sym cut)
    (share_grown associative commutative file ranks mine (packed_share_of node front) piece (old node) own (new node) (tell node) tells (takes node))

-- nothing was told yet
pub none_shared : (file : List ℕ → Option (List ℕ)) (ranks : ℕ) (told : Side → View) → ((node : Side) → told node ≡ empty) → TellShares file ranks [] told
none_shared file ranks told e node = e node

-- all of ranks below a number
abbrev pub AreOfRanks : ℕ → (Side → View) → Type 0
AreOfRanks ranks told = (node : Side) → IsOfRanks ranks (told node)

grown_of : JoinsCells → (ranks : ℕ) (mine : Bool) (view own new : View) → IsOfRanks ranks view → IsOfRanks ranks own → new ≡ cond mine (join view own) view → IsOfRanks ranks new
grown_of cells ranks true view own new one other e = subst (λ (v : View). IsOfRanks ranks v) (sym e) (of_both cells ranks view own one other)
grown_of cells ranks false view own new one other e = subst (λ (v : View). IsOfRanks ranks v) (sym e) one

pub all_of : JoinsCells → (ranks : ℕ) (piece : PackedParts) (old new : Side → View) (own : View) → AreOfRanks ranks old → IsOfRanks ranks own → Takes piece own old new → AreOfRanks ranks new
all_of cells ranks piece old new own are of takes node = grown_of cells ranks (is_side node (side_of piece.node)) (old node) own (new node) (are node) of (takes node)

-- what both nodes were told so far is their share
pub shares_are : (told : SoFar) (shares : PackedShares) → shares.first ≡ told.first → shares.second ≡ told.second → (node : Side) → told_to shares node ≡ so_far told node
shares_are told shares one other sides.First = one
shares_are told shares one other sides.Second = other

-- what is equal tells the same
pub shares_same : (file : List ℕ → Option (List ℕ)) (ranks : ℕ) (packed : List PackedParts) (told same : Side → View) → ((node : Side) → same node ≡ told node)
    → TellShares file ranks packed told → TellShares file ranks packed same
shares_same file ranks packed told same e tell node = subst (λ (v : View). TellPacked file ranks (packed_share_of node packed) v) (sym (e node)) (tell node)

-- ---- the nodes of a cluster

-- Each node knows what its packed files tell.
pub shares_known : (file : List ℕ → Option (List ℕ)) (l : Parts) (packed : List PackedParts) (shares : PackedShares) (texts : AllTexts) (one other : Held)
    → TellShares file l.ranks packed (told_to shares) → ((node : Side) → known_in texts node ≡ told_to shares node) → KnowsOwn l texts.first one → KnowsOwn l texts.second other
    → (node : Side) → KnowsShare file l.ranks packed node (known_by one other node)
shares_known file l packed shares texts one other tell same first second sides.First =
    (shares.first, tell sides.First, subst (λ (v : View). IsBelow v one.know) (same sides.First) first.told)
shares_known file l packed shares texts one other tell same first second sides.Second =
    (shares.second, tell sides.Second, subst (λ (v : View). IsBelow v other.know) (same sides.Second) second.told)
