use Rattle.std.proofs.Common.{arith, ◌≡◌, ◌∙◌, ◌+◌, ◌<◌, ◌++◌, ◌∷◌, [], ℕ, List, ap, sym, subst, inr, length, take}
use Rattle.std.specs.List.{All}
use Rattle.std.proofs.Math.Seq.{take-length}
use Rattle.std.proofs.lemmas.List.Elements.{All-append, All-cons, All-nil}
use Rattle.std.proofs.lemmas.List.{take_more}
use Rattle.trace_crew.specs.declared.piece.TextPiece.{TextPiece}
use Rattle.run_files.specs.Manifests.{PieceParts}
use Rattle.run_inputs.specs.Files.{IsFile}
use Rattle.run_inputs.specs.Inputs.{RefusesFile}
use Rattle.command_runs.proofs.Sharing.{Adds, shares_more}
use Rattle.command_runs.proofs.Traces.{begins}
use Rattle.command_runs.proofs.Unread.{file_untold, fits}
use Rattle.command_runs.specs.NodeTexts.{AreShares, WasRead}
use Rattle.run_inputs.specs.declared.load.whole.TheConstants.{LONGEST_PIECE}
use Rattle.command_runs.proofs.Runs.{handed_on}
use Rattle.command_runs.proofs.pieces.node_texts.texts_of_all.Goals as goal

pub loop-piece-preserved : goal.loop-piece-preserved
loop-piece-preserved g c =
    let file = g.O.Opener.file c.args.files.now in
    let below : c.loop-piece.piece-index < length c.args.pieces.now = omega arith in
    let more : take (c.loop-piece.piece-index + 1) c.args.pieces.now ≡ take c.loop-piece.piece-index c.args.pieces.now ++ c.piece-item.result ∷ [] =
    take_more c.args.pieces.now c.loop-piece.piece-index c.piece-item.result below
    ∙ ap (λ (p : PieceParts). take c.loop-piece.piece-index c.args.pieces.now ++ p ∷ []) (sym c.piece-item.is) in
    let text : TextPiece = record { rank = c.rank-rank.result; first = c.first-first.result; text = c.in_ok-text.text } in
    let bytes : IsFile (file c.piece-item.result.file) c.in_ok-text.text.items = rw c.file.ensures at c.in_ok-text.ensures.ok in
    let adds : Adds c.piece-item.result text c.loop-piece.texts c.add.new.self = rw (c.side_of.ensures, c.node.ensures, c.worker_of.ensures) at c.in_ok-add.ensures.shares in
    record {
      shares = shares_more file (take c.loop-piece.piece-index c.args.pieces.now) (take (c.loop-piece.piece-index + 1) c.args.pieces.now) c.piece-item.result
          c.loop-piece.texts c.add.new.self text more c.loop-piece.invariant.shares (c.rank-rank.ensures, c.first-first.ensures, bytes) adds;
      known = λ node. c.in_ok-add.ensures.known node ∙ c.loop-piece.invariant.known node;
      read = subst (λ (ps : List PieceParts). All (WasRead file) ps) (sym more)
          (All-append (WasRead file) (take c.loop-piece.piece-index c.args.pieces.now) (c.piece-item.result ∷ []) c.loop-piece.invariant.read
          (All-cons (WasRead file) c.piece-item.result [] (fits LONGEST_PIECE (file c.piece-item.result.file) c.in_ok-text.text.items bytes c.in_ok-text.ensures.limit) (All-nil (WasRead file))));
    }

pub returns-in_err-text-clause-err : goal.returns-in_err-text-clause-err
returns-in_err-text-clause-err g c =
    let file = g.O.Opener.file c.args.files.now in
    let below : c.loop-piece.piece-index < length c.args.pieces.now = omega arith in
    let more : take (c.loop-piece.piece-index + 1) c.args.pieces.now ≡ take c.loop-piece.piece-index c.args.pieces.now ++ c.piece-item.result ∷ [] =
    take_more c.args.pieces.now c.loop-piece.piece-index c.piece-item.result below
    ∙ ap (λ (p : PieceParts). take c.loop-piece.piece-index c.args.pieces.now ++ p ∷ []) (sym c.piece-item.is) in
    let refuses : RefusesFile LONGEST_PIECE _ c.piece-item.result.file (file c.piece-item.result.file) c.in_err-text.field-0.0 = rw c.file.ensures at c.in_err-text.ensures.err in
    handed_on c.from_residual.result _ _ c.from_residual.ensures.1
    (inr (take c.loop-piece.piece-index c.args.pieces.now, c.piece-item.result, begins c.args.pieces.now c.loop-piece.piece-index c.piece-item.result more, c.loop-piece.invariant.read, refuses))

pub returns-clause-ok : goal.returns-clause-ok
returns-clause-ok g c =
    let file = g.O.Opener.file c.args.files.now in
    let end : c.loop-piece.piece-index ≡ length c.args.pieces.now = omega arith in
    let all : take c.loop-piece.piece-index c.args.pieces.now ≡ c.args.pieces.now =
    ap (λ (n : ℕ). take n c.args.pieces.now) end ∙ take-length c.args.pieces.now in
    subst (λ (ps : List PieceParts). AreShares file ps c.loop-piece.texts) all c.loop-piece.invariant.shares

pub returns-in_err-text-clause-failed : goal.returns-in_err-text-clause-failed
returns-in_err-text-clause-failed g c = handed_on c.from_residual.result _ _ c.from_residual.ensures.1 (file_untold _ _ _ _ c.in_err-text.field-0.0 c.in_err-text.ensures.err)
