use Rattle.std.proofs.Common.{ap, ◌∙◌}
use Rattle.number_set.specs.Numbers.{is_in}
use Rattle.session_runs.proofs.Rooms.{none-in-empty, none-remade}
use Rattle.session_runs.proofs.marks.set_with_room.Goals as goal

pub returns-clause-none : goal.returns-clause-none
returns-clause-none c = λ n.
    ap (λ s. is_in s n) c.in_ok-make_room.ensures.ok
    ∙ none-remade _ 64 n (λ k. ap (λ s. is_in s k) c.new-set.ensures ∙ none-in-empty k)
