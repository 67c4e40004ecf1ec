use Rattle.std.proofs.Common.{◌≡◌, ◌∙◌, ◌<◌, ◌++◌, [], ℕ, List, Bor, String, Global, ap, append-nil, append_assoc, arith, length, map, refl, string_bytes, subst, sym}
use Rattle.std.proofs.lemmas.List.{drop_all}
use Rattle.clap.specs.Words.{Text}
use Rattle.command_line.specs.Program.{texts_of}
use Rattle.run_inputs.specs.Folders.{StandForAll}
use Rattle.run_inputs.proofs.Folders.{names_none, stand_more}
use Rattle.run_inputs.proofs.Runs.{handed_on}
use Rattle.run_inputs.proofs.load.folders.with_folders.Goals as goal

pub loop-word-preserved : goal.loop-word-preserved
loop-word-preserved g c =
    let file = g.O.Opener.file c.args.files.now in
    let words = c.args.words.now in
    let i = c.loop-word.word-index in
    let lt : i < length words = c.loop-word-test.true in
    let some = c.in_ok-more.more.items in
    let added : map string_bytes c.add_all.new.names.items ≡ map string_bytes c.loop-word.names.items ++ map string_bytes some =
    c.in_ok-add_all.ensures ∙ ap (λ (m : List (String Global)). map string_bytes c.loop-word.names.items ++ map string_bytes m) c.deref.ensures.value in
    λ more h.
    subst (StandForAll file (texts_of words))
    (sym (append_assoc (map string_bytes c.loop-word.names.items) (map string_bytes some) more) ∙ ap (λ (l : List (List ℕ)). l ++ more) (sym added))
    (c.loop-word.invariant (map string_bytes some ++ more) (stand_more file words i _ some more lt c.in_ok-more.ensures.ok h))

pub returns-in_err-more-clause-err : goal.returns-in_err-more-clause-err
returns-in_err-more-clause-err g c =
    handed_on c.from_residual.result _ _ c.from_residual.ensures.1
    (names_none (g.O.Opener.file c.args.files.now) c.args.words.now c.loop-word.word-index _ c.in_err-more.field-0.0 c.loop-word-test.true c.in_err-more.ensures.err)

pub returns-clause-ok : goal.returns-clause-ok
returns-clause-ok g c =
    let file = g.O.Opener.file c.args.files.now in
    let words = c.args.words.now in
    let none = drop_all c.loop-word.word-index words c.loop-word-test.false in
    subst (StandForAll file (texts_of words)) (append-nil (map string_bytes c.loop-word.names.items))
    (c.loop-word.invariant [] (subst (λ (ws : List (Bor Text)). StandForAll file (texts_of ws) []) (sym none) refl))
