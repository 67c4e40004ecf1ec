use Rattle.std.proofs.Common.{rules, ◌≡◌, [], ◌∷◌, ◌++◌, arith}
use Rattle.dumpi_calls.proofs.Joined.{full_more, joined_full}
use Rattle.dumpi_calls.proofs.parts.Parts.begin_part.Goals as goal

pub returns-clause-same : goal.returns-clause-same
returns-clause-same c =
    let parts = c.args.self.now in
    let pushed : c.push.new.self.items ≡ parts.full.items ++ parts.last ∷ [] = search rules in
    let begun : c.replace-last.new.dest ≡ [] = search rules in
    rw (pushed, begun) (joined_full parts.full.items parts.last)

pub returns-clause-parts : goal.returns-clause-parts
returns-clause-parts c =
    let parts = c.args.self.now in
    let pushed : c.push.new.self.items ≡ parts.full.items ++ parts.last ∷ [] = search rules in
    let begun : c.replace-last.new.dest ≡ [] = search rules in
    record { full = rw pushed (full_more parts.full.items parts.last c.requires.parts.full c.requires.full); most = rw begun (omega arith) }
