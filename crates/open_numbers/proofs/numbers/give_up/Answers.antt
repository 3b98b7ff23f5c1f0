use Rattle.std.proofs.Common.{map, ap, ◌∙◌, None}
use Rattle.std.proofs.lemmas.List.{map-set}
use Rattle.open_numbers.specs.Kept.{kept_in}
use Rattle.open_numbers.proofs.numbers.give_up.Goals as goal

pub returns-in-Some : goal.returns-in-Some
returns-in-Some c = ap (map kept_in) c.take.ensures.after ∙ map-set kept_in c.args.window.now c.args.number None

pub returns-in_default : goal.returns-in_default
returns-in_default c = ap (map kept_in) c.take.ensures.after ∙ map-set kept_in c.args.window.now c.args.number None
