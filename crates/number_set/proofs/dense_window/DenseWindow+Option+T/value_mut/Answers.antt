use Rattle.std.proofs.Common.{sym, ◌∙◌, None}
use Rattle.number_set.specs.Dense.{place_at}
use Rattle.number_set.proofs.DenseLemmas.{found-some}
use Rattle.number_set.proofs.dense_window.DenseWindow+Option+T.value_mut.Goals as goal

pub held_mut-requires : goal.held_mut-requires
held_mut-requires g c =
    found-some c.get.result (place_at None c.args.self.now c.args.number) (sym c.is_some.ensures ∙ c.if-is_some.true)
    c.get.ensures.place c.get.ensures.here
