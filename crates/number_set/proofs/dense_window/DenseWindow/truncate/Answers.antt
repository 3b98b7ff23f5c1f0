use Rattle.std.proofs.Common.{take, ap, sym, ◌∙◌, arith}
use Rattle.number_set.specs.Dense.{all_places}
use Rattle.number_set.proofs.DenseLemmas.{take-before, take-behind}
use Rattle.number_set.proofs.dense_window.DenseWindow.truncate.Goals as goal

pub returns-then-len-self : goal.returns-then-len-self
returns-then-len-self g c =
    let inside = c.self.inside in
    let gone = g.P.Place.gone in
    ap (all_places gone c.args.len) c.clear.ensures.items
    ∙ sym (take-before gone inside.first c.args.len inside.places.items (omega (arith, c.if-len-self.true)))
    ∙ ap (take c.args.len) c.self.view_is

pub returns-else-len-self : goal.returns-else-len-self
returns-else-len-self g c =
    let inside = c.self.inside in
    let gone = g.P.Place.gone in
    ap (all_places gone inside.first) c.truncate.ensures.items
    ∙ sym (take-behind gone inside.first c.args.len inside.places.items (omega (arith, c.if-len-self.false)))
    ∙ ap (take c.args.len) c.self.view_is
