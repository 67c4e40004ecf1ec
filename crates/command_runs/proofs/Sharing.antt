-- The texts of pieces, one piece more.
use Rattle.std.proofs.Common.{◌≡◌, ◌∙◌, ◌++◌, ◌∷◌, [], ℕ, List, Option, Bool, true, false, cond, ap, sym, refl, subst}
use Rattle.std.proofs.lemmas.List.{append-nil}
use Rattle.std.proofs.lemmas.List.Elements.{filter-append}
use Rattle.trace_cluster.specs.declared.side.Side.{Side}
use Rattle.trace_crew.specs.declared.queue.item.Worker.{Worker}
use Rattle.trace_crew.specs.declared.piece.TextPiece.{TextPiece}
use Rattle.run_files.specs.Manifests.{PieceParts}
use Rattle.command_runs.specs.NodeTexts.{AreShares, AreTextsOf, IsTextOf, is_share, share_in, share_of}
use Rattle.command_runs.specs.declared.pieces.node_texts.AllTexts.{AllTexts}

texts_more : (file : List ℕ → Option (List ℕ)) (pieces : List PieceParts) (piece : PieceParts) (texts : List TextPiece) (text : TextPiece)
    → AreTextsOf file pieces texts → IsTextOf file piece text → AreTextsOf file (pieces ++ piece ∷ []) (texts ++ text ∷ [])
texts_more file [] piece texts text e is = (text, [], is, refl, ap (λ (ts : List TextPiece). ts ++ text ∷ []) e)
texts_more file (p ∷ ps) piece texts text t is =
    (t.0, t.1 ++ text ∷ [], t.2, texts_more file ps piece t.1 text t.3 is, ap (λ (ts : List TextPiece). ts ++ text ∷ []) t.4)

-- those of a share, where the piece is one of it or is not
share_grown : (file : List ℕ → Option (List ℕ)) (mine : Bool) (pieces : List PieceParts) (piece : PieceParts) (texts : List TextPiece) (text : TextPiece)
    → AreTextsOf file pieces texts → IsTextOf file piece text
    → AreTextsOf file (pieces ++ cond mine (piece ∷ []) []) (texts ++ cond mine (text ∷ []) [])
share_grown file true pieces piece texts text are is = texts_more file pieces piece texts text are is
share_grown file false pieces piece texts text are is =
    subst (λ (ps : List PieceParts). AreTextsOf file ps (texts ++ [])) (sym (append-nil pieces))
    (subst (λ (ts : List TextPiece). AreTextsOf file pieces ts) (sym (append-nil texts)) are)

-- what one piece more adds to each share
abbrev pub Adds : PieceParts → TextPiece → AllTexts → AllTexts → Type 0
Adds piece text old new = (node : Side) (worker : Worker) → share_in new node worker
    ≡ share_in old node worker ++ cond (is_share node worker piece) (text ∷ []) []

pub shares_more : (file : List ℕ → Option (List ℕ)) (front pieces : List PieceParts) (piece : PieceParts) (old new : AllTexts) (text : TextPiece)
    → pieces ≡ front ++ piece ∷ [] → AreShares file front old → IsTextOf file piece text → Adds piece text old new → AreShares file pieces new
shares_more file front pieces piece old new text e are is adds node worker =
    let test : PieceParts → Bool = is_share node worker in
    let cut : share_of node worker pieces ≡ share_of node worker front ++ cond (test piece) (piece ∷ []) [] =
    ap (share_of node worker) e ∙ filter-append test front (piece ∷ []) in
    subst (λ (ps : List PieceParts). AreTextsOf file ps (share_in new node worker)) (sym cut)
    (subst (λ (ts : List TextPiece). AreTextsOf file (share_of node worker front ++ cond (test piece) (piece ∷ []) []) ts) (sym (adds node worker))
    (share_grown file (test piece) (share_of node worker front) piece (share_in old node worker) text (are node worker) is))
