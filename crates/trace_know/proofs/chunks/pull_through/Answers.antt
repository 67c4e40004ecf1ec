use Rattle.std.proofs.Common.{◌≡◌, ◌≤◌, List, [], ◌∷◌, ◌++◌, length, ap, ◌∙◌, arith}
use Rattle.std.specs.List.{insert, remove}
use Rattle.trace_know.specs.declared.run.Run.{Run}
use Rattle.std.proofs.lemmas.List.Edits.{insert-append_left, length-remove}
use Rattle.trace_know.proofs.Packing.{taken-out}
use Rattle.trace_know.proofs.chunks.pull_through.Goals as goal

pub returns-clause-items : goal.returns-clause-items
returns-clause-items c =
    let old = c.args.chunk.now.items in
    let rest = c.remove.new.self.items in
    let run = c.in-Some.out in
    let size : length rest ≡ length (remove old c.args.at) = ap (λ (xs : List Run). length xs) c.in-Some.ensures.items in
    let less = length-remove old c.args.at c.requires in
    let at : c.args.at ≤ length rest = omega arith in
    ap (λ (xs : List Run). insert xs c.args.at run) c.push_back_reserved.ensures.items
    ∙ insert-append_left rest (c.args.run ∷ []) c.args.at run at
    ∙ ap (λ (xs : List Run). xs ++ c.args.run ∷ []) (ap (λ (xs : List Run). insert xs c.args.at run) c.in-Some.ensures.items ∙ taken-out old c.args.at run c.requires c.in-Some.ensures.value)
