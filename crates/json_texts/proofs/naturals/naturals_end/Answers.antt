use Rattle.std.proofs.Common.{arith}
use Rattle.json_texts.proofs.NaturalRuns.{looked}
use Rattle.json_texts.proofs.naturals.naturals_end.Goals as goal

pub overflow_add-up_to_first_misfit : goal.overflow_add-up_to_first_misfit
overflow_add-up_to_first_misfit c = let few = (looked c.args.some _ _ _ _ c.fits-some.0 c.digits_of-digits.ensures c.places_of.ensures c.places_of-2.ensures c.places_of-zeros.ensures).0 in record { fits = omega (arith, few) }

pub returns-clause-items : goal.returns-clause-items
returns-clause-items c = (looked c.args.some _ _ _ _ c.fits-some.0 c.digits_of-digits.ensures c.places_of.ensures c.places_of-2.ensures c.places_of-zeros.ensures).1.items

pub returns-clause-last : goal.returns-clause-last
returns-clause-last c = (looked c.args.some _ _ _ _ c.fits-some.0 c.digits_of-digits.ensures c.places_of.ensures c.places_of-2.ensures c.places_of-zeros.ensures).1.last

pub returns-clause-bound : goal.returns-clause-bound
returns-clause-bound c =
    let inside = (looked c.args.some _ _ _ _ c.fits-some.0 c.digits_of-digits.ensures c.places_of.ensures c.places_of-2.ensures c.places_of-zeros.ensures).1.inside in
    let long = c.fits-some.0 in
    omega (arith, inside, long)
