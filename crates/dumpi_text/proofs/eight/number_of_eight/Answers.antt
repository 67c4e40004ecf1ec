use Rattle.dumpi_text.proofs.EightDigits.{eight_below, eight_spelled, fours_fit, no_less, pairs_fit, values_fit}
use Rattle.dumpi_text.proofs.eight.number_of_eight.Goals as goal

pub overflow_sub-values : goal.overflow_sub-values
overflow_sub-values c = no_less c.args.digits.now c.eight_at-values.result c.requires.eight c.requires.digits c.eight_at-values.ensures.number

pub pairs-requires : goal.pairs-requires
pairs-requires c = values_fit c.args.digits.now c.eight_at-values.result c.requires.eight c.requires.digits c.eight_at-values.ensures.number

pub fours-requires : goal.fours-requires
fours-requires c = pairs_fit c.args.digits.now c.eight_at-values.result c.pairs.result c.requires.eight c.requires.digits c.eight_at-values.ensures.number c.pairs.ensures

pub eight-requires : goal.eight-requires
eight-requires c = fours_fit c.args.digits.now c.eight_at-values.result c.pairs.result c.fours.result c.requires.eight c.requires.digits c.eight_at-values.ensures.number c.pairs.ensures c.fours.ensures

pub returns-clause-value : goal.returns-clause-value
returns-clause-value c =
    eight_spelled c.args.digits.now c.eight_at-values.result c.pairs.result c.fours.result c.eight.result c.requires.eight c.requires.digits c.eight_at-values.ensures.number c.pairs.ensures c.fours.ensures c.eight.ensures

pub returns-clause-below : goal.returns-clause-below
returns-clause-below c =
    eight_below c.args.digits.now c.eight_at-values.result c.pairs.result c.fours.result c.eight.result c.requires.eight c.requires.digits c.eight_at-values.ensures.number c.pairs.ensures c.fours.ensures c.eight.ensures
