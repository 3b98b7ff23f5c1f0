use Rattle.std.proofs.Common.{ap, sym, ◌∙◌}
use Rattle.number_set.specs.Dense.{place_at, all_places}
use Rattle.number_set.proofs.DenseLemmas.{gone-in-empty, empty-where-gone, empty-tells}
use Rattle.number_set.proofs.dense_window.DenseWindow.are_gone.Goals as goal

pub returns : goal.returns
returns g c =
    let gone = g.P.Place.gone in
    let items = c.self.inside.places.items in
    let first = c.self.inside.first in
    let tells = empty-tells c.is_empty.result items _ (sym c.self.inside.places.ok.0) c.is_empty.ensures in (
      λ empty n. ap (λ all. place_at gone all n) (sym c.self.view_is) ∙ ap (λ w. place_at gone (all_places gone first w) n) (tells.0 empty) ∙ gone-in-empty gone first n,
      λ all. tells.1 (empty-where-gone gone g.P.Place.is_gone g.met.P.Place.gone_is_gone first items c.self.invariant.trimmed
          (λ n. ap (λ ps. place_at gone ps n) c.self.view_is ∙ all n)),
    )
