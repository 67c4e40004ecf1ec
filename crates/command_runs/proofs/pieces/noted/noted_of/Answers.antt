use Rattle.std.proofs.Common.{rules, refl, arith, ◌≡◌, ◌∙◌, ◌+◌, ◌<◌, ◌++◌, ◌∷◌, [], ℕ, List, None, Some, ap, sym, subst, inl, inr, length, take}
use Rattle.std.proofs.Math.Seq.{take-length}
use Rattle.std.proofs.lemmas.List.{take_more}
use Rattle.trace_know.specs.Trace.{view_of}
use Rattle.trace_know.specs.View.{join}
use Rattle.run_files.specs.Manifests.{PieceParts}
use Rattle.text_notes.specs.Words.{NoteParts}
use Rattle.command_runs.specs.Notes.{AreNotesOf}
use Rattle.command_runs.specs.Notes.{IsNoteOf}
use Rattle.command_runs.specs.Pieces.{AreFactsOf, RefusesPiece, TellsFacts, facts_of_piece}
use Rattle.command_runs.proofs.Notes.{notes_more}
use Rattle.std.specs.List.{All}
use Rattle.command_runs.specs.Traces.{IsFirstStranger, IsInside, IsKnown}
use Rattle.command_runs.proofs.ReadAhead.{here}
use Rattle.command_runs.proofs.Traces.{IsOutside, begins, known_more, outside_later}
use Rattle.command_runs.proofs.Within.{within_more, within_nothing}
use Rattle.command_runs.proofs.Runs.{handed_on, want_untold}
use Rattle.command_runs.proofs.pieces.noted.noted_of.Goals as goal

pub loop-piece-init : goal.loop-piece-init
loop-piece-init g c = record {
  listed = search rules;
  files = search rules;
  standing = refl;
  known = ([], refl, c.requires);
  outside = search rules;
  within = λ _. within_nothing c.args.run.now.layout.now _ c.requires;
  layout = refl;
  notes = c.new-notes.ensures.items;
}

pub loop-piece-preserved : goal.loop-piece-preserved
loop-piece-preserved g c =
    let file = g.O.Opener.file c.args.run.now.files.now in
    let below : c.loop-piece.piece-index < length c.args.pieces.now = omega arith in
    let more : take (c.loop-piece.piece-index + 1) c.args.pieces.now ≡ take c.loop-piece.piece-index c.args.pieces.now ++ c.piece-item.result ∷ [] =
    take_more c.args.pieces.now c.loop-piece.piece-index c.piece-item.result below
    ∙ ap (λ (p : PieceParts). take c.loop-piece.piece-index c.args.pieces.now ++ p ∷ []) (sym c.piece-item.is) in
    let i = c.loop-piece.invariant in
    let facts = facts_of_piece c.in_ok-read.read.whole in
    let told : TellsFacts (file c.piece-item.result.file) c.piece-item.result.rank c.piece-item.result.first facts =
    here (λ f p. AreFactsOf f p facts) _ file _ c.args.pieces.now _ c.loop-piece.piece-index c.piece-item.result (ap g.O.Opener.file i.files) i.listed i.standing c.piece-item.is c.in_ok-read.ensures.ok in
    let note : IsNoteOf file c.piece-item.result c.in_ok-read.read.note =
    here (λ f p. IsNoteOf f p c.in_ok-read.read.note) _ file _ c.args.pieces.now _ c.loop-piece.piece-index c.piece-item.result (ap g.O.Opener.file i.files) i.listed i.standing c.piece-item.is c.in_ok-read.ensures.note in
    let taken : g.G.Gatherer.known c.in_ok-know.know ≡ join (g.G.Gatherer.known c.loop-piece.know) (view_of (facts_of_piece c.in_ok-read.read.whole)) = c.in_ok-know.ensures.known in
    record {
      listed = search rules;
      files = search rules;
      standing = omega (arith, i.standing);
      known = subst (λ (ps : List PieceParts). IsKnown file ps (g.G.Gatherer.known c.in_ok-know.know)) (sym more)
          (known_more c.view_laws.ensures.union file (take c.loop-piece.piece-index c.args.pieces.now) c.piece-item.result (g.G.Gatherer.known c.loop-piece.know) (g.G.Gatherer.known c.in_ok-know.know)
          (facts_of_piece c.in_ok-read.read.whole) c.loop-piece.invariant.known told taken);
      outside = outside_later file c.args.run.now.layout.now.ranks (take c.loop-piece.piece-index c.args.pieces.now) _ c.piece-item.result
          (facts_of_piece c.in_ok-read.read.whole) c.loop-piece.stranger _ more c.loop-piece.invariant.outside told (search rules);
      within = within_more c.join_laws.ensures.cells c.view_laws.ensures.cells _ c.args.run.now.layout.now c.piece-item.result (facts_of_piece c.in_ok-read.read.whole)
          c.loop-piece.stranger _ (g.G.Gatherer.known c.loop-piece.know) (g.G.Gatherer.known c.in_ok-know.know) c.loop-piece.invariant.within told (search rules) taken;
      layout = c.in_ok-know.ensures.layout ∙ c.loop-piece.invariant.layout;
      notes = subst (λ (ps : List PieceParts). AreNotesOf file ps c.push.new.self.items) (sym more)
          (subst (λ (ns : List NoteParts). AreNotesOf file (take c.loop-piece.piece-index c.args.pieces.now ++ c.piece-item.result ∷ []) ns) (sym c.in_ok-push.ensures.items)
          (notes_more file (take c.loop-piece.piece-index c.args.pieces.now) c.piece-item.result c.loop-piece.notes.items c.in_ok-read.read.note c.loop-piece.invariant.notes
          note));
    }

pub returns-in_err-read-clause-err : goal.returns-in_err-read-clause-err
returns-in_err-read-clause-err g c =
    let file = g.O.Opener.file c.args.run.now.files.now in
    let below : c.loop-piece.piece-index < length c.args.pieces.now = omega arith in
    let more : take (c.loop-piece.piece-index + 1) c.args.pieces.now ≡ take c.loop-piece.piece-index c.args.pieces.now ++ c.piece-item.result ∷ [] =
    take_more c.args.pieces.now c.loop-piece.piece-index c.piece-item.result below
    ∙ ap (λ (p : PieceParts). take c.loop-piece.piece-index c.args.pieces.now ++ p ∷ []) (sym c.piece-item.is) in
    let i = c.loop-piece.invariant in
    let fault = c.in_err-read.field-0.0 in
    let refuses : RefusesPiece c.piece-item.result.file c.piece-item.result.first (file c.piece-item.result.file) fault =
    here (λ f p. RefusesPiece p.file p.first (f p.file) fault) _ file _ c.args.pieces.now _ c.loop-piece.piece-index c.piece-item.result (ap g.O.Opener.file i.files) i.listed i.standing c.piece-item.is
    c.in_err-read.ensures.err in
    handed_on c.from_residual-in_err-read.result _ _ c.from_residual-in_err-read.ensures.1 (inr (inl (
      take c.loop-piece.piece-index c.args.pieces.now,
      c.piece-item.result,
      begins c.args.pieces.now c.loop-piece.piece-index c.piece-item.result more,
      (g.G.Gatherer.known c.loop-piece.know, c.loop-piece.invariant.known),
      refuses,
    )))

pub returns-in-Some-clause-err : goal.returns-in-Some-clause-err
returns-in-Some-clause-err g c =
    let file = g.O.Opener.file c.args.run.now.files.now in
    let end : c.loop-piece.piece-index ≡ length c.args.pieces.now = omega arith in
    let all : take c.loop-piece.piece-index c.args.pieces.now ≡ c.args.pieces.now =
    ap (λ (n : ℕ). take n c.args.pieces.now) end ∙ take-length c.args.pieces.now in
    let outside : IsOutside file c.args.run.now.layout.now.ranks (take c.loop-piece.piece-index c.args.pieces.now) (Some c.in-Some.path) =
    rw c.in-Some.is at c.loop-piece.invariant.outside in
    inr (inr (
      (g.G.Gatherer.known c.loop-piece.know, subst (λ (ps : List PieceParts). IsKnown file ps (g.G.Gatherer.known c.loop-piece.know)) all c.loop-piece.invariant.known),
      subst (λ (ps : List PieceParts). IsFirstStranger file c.args.run.now.layout.now.ranks ps c.in-Some.path) all outside,
    ))

pub returns-clause-inside : goal.returns-clause-inside
returns-clause-inside g c =
    let file = g.O.Opener.file c.args.run.now.files.now in
    let end : c.loop-piece.piece-index ≡ length c.args.pieces.now = omega arith in
    let all : take c.loop-piece.piece-index c.args.pieces.now ≡ c.args.pieces.now =
    ap (λ (n : ℕ). take n c.args.pieces.now) end ∙ take-length c.args.pieces.now in
    let outside : IsOutside file c.args.run.now.layout.now.ranks (take c.loop-piece.piece-index c.args.pieces.now) None =
    rw c.in-None.is at c.loop-piece.invariant.outside in
    subst (λ (ps : List PieceParts). All (IsInside file c.args.run.now.layout.now.ranks) ps) all outside

pub returns-in_err-stranger-clause-failed : goal.returns-in_err-stranger-clause-failed
returns-in_err-stranger-clause-failed g c = want_untold _ c.from_residual-in_err-stranger.result c.from_residual-in_err-stranger.ensures.1

pub returns-in_err-know-clause-failed : goal.returns-in_err-know-clause-failed
returns-in_err-know-clause-failed g c = want_untold _ c.from_residual-in_err-know.result c.from_residual-in_err-know.ensures.1

pub returns-in_err-push-clause-failed : goal.returns-in_err-push-clause-failed
returns-in_err-push-clause-failed g c = want_untold _ c.from_residual-in_err-push.result c.from_residual-in_err-push.ensures.1
