use Rattle.std.proofs.Common.{None, Some, refl, sym, ap, ◌∙◌, ◌<◌, ◌-◌, is_some, ap, arith, length}
use Rattle.std.proofs.lemmas.List.{get_or_read}
use Rattle.number_set.specs.Dense.{place_at}
use Rattle.number_set.proofs.DenseLemmas.{some-within, place-inside, place-changed}
use Rattle.number_set.proofs.dense_window.DenseWindow+Option+T.held_mut.Goals as goal

pub returns : goal.returns
returns g c =
    let first = c.self.inside.first in
    let number = c.args.number in
    let items = c.self.inside.places.items in
    let within = some-within first number items (ap (λ ps. is_some (place_at None ps number)) c.self.view_is ∙ c.requires) in
    let below : number - first < length items = omega (arith, within.reached, within.below) in (
      (refl, λ w. place-changed None first number (number - first) items (Some w) c.args.self.now within.reached refl c.self.view_is),
      record {
        writes_back = tt;
        value = ap (λ ps. place_at None ps number) (sym c.self.view_is) ∙ place-inside None first number items within.reached
            ∙ sym (get_or_read items (number - first) c.index_mut.result.now below c.index_mut.ensures.value None) ∙ c.value_in.ensures.value;
      },
    )
