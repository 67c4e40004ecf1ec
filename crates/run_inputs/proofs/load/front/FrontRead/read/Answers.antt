use Rattle.std.proofs.Common.{◌≡◌, ◌-◌, arith, length, min, refl}
use Rattle.run_inputs.proofs.Fronts.{front_consumes, front_ends}
use Rattle.run_inputs.proofs.load.front.FrontRead.read.Goals as goal

pub returns-in-Some-clause-bytes : goal.returns-in-Some-clause-bytes
returns-in-Some-clause-bytes g c =
    let limit = c.in-Some.limit in
    let taken = c.in_ok-taken.taken in
    let given = c.min-given.result in
    let new = g.R.Read.left c.read.new.self in
    let most : given ≡ min limit taken = omega (arith, c.min-given.ensures) in
    let bytes = c.in_ok-taken.ensures.bytes in (
      front_consumes c.args.self.now.limit limit taken given (limit - given) (g.R.Read.left c.args.self.now.inner) new c.read.new.buffer c.in-Some.is most refl c.in_ok-taken.ensures.within bytes.0,
      λ none some. front_ends limit taken given (limit - given) new (length c.read.new.buffer) most refl bytes.1 none some,
    )
