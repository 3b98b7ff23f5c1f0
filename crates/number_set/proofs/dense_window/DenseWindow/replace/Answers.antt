use Rattle.std.proofs.Common.{set, ap, ◌∙◌}
use Rattle.number_set.specs.Dense.{all_places}
use Rattle.number_set.proofs.DenseLemmas.{place-changed}
use Rattle.number_set.proofs.dense_window.DenseWindow.replace.Goals as goal

pub returns-then-is_gone-clause-after : goal.returns-then-is_gone-clause-after
returns-then-is_gone-clause-after g c =
    let inside = c.self.inside in
    let gone = g.P.Place.gone in
    c.trim.ensures.same
    ∙ ap (λ place. all_places gone inside.first (set inside.places.items c.in-Some.index place)) c.replace-before.ensures.after
    ∙ place-changed gone inside.first c.args.number c.in-Some.index inside.places.items c.args.place c.args.self.now
    c.in-Some.ensures.0.0 c.in-Some.ensures.1 c.self.view_is

pub returns-else-is_gone-clause-after : goal.returns-else-is_gone-clause-after
returns-else-is_gone-clause-after g c =
    let inside = c.self.inside in
    let gone = g.P.Place.gone in
    ap (λ place. all_places gone inside.first (set inside.places.items c.in-Some.index place)) c.replace-before.ensures.after
    ∙ place-changed gone inside.first c.args.number c.in-Some.index inside.places.items c.args.place c.args.self.now
    c.in-Some.ensures.0.0 c.in-Some.ensures.1 c.self.view_is
