use Rattle.std.proofs.Common.{set, ap, ◌∙◌, None, arith}
use Rattle.number_set.specs.Dense.{all_places}
use Rattle.number_set.proofs.DenseLemmas.{place-changed, set-outside}
use Rattle.number_set.proofs.dense_window.DenseWindow+Option+T.take.Goals as goal

pub returns-in_err-index-clause-after : goal.returns-in_err-index-clause-after
returns-in_err-index-clause-after g c =
    let items = c.self.inside.places.items in
    set-outside None c.self.inside.first c.args.number items c.args.self.now
    (λ within. c.in_err-index.ensures (within.0, omega (arith, within.1, c.len.ensures, c.self.inside.places.ok))) c.self.view_is

pub returns-clause-after : goal.returns-clause-after
returns-clause-after g c =
    let inside = c.self.inside in
    c.trim.ensures.same
    ∙ ap (λ place. all_places None inside.first (set inside.places.items c.in_ok-index.index place)) c.take-taken.ensures.after
    ∙ place-changed None inside.first c.args.number c.in_ok-index.index inside.places.items None c.args.self.now
    c.in_ok-index.ensures.0.0 c.in_ok-index.ensures.1 c.self.view_is
