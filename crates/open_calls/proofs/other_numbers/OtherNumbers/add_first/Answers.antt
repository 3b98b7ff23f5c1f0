use Rattle.std.proofs.Common.{◌≡◌, refl, rules}
use Rattle.open_calls.specs.declared.numbers.Numbers.TheVariants.{One}
use Rattle.open_calls.proofs.Listed.{listed-first}
use Rattle.open_calls.proofs.other_numbers.OtherNumbers.add_first.Goals as goal

pub returns-clause-ok : goal.returns-clause-ok
returns-clause-ok c =
    let copy : c.in_ok-clone.field-0 ≡ c.args.id.now = search rules in
    listed-first c.args.self.now.numbers c.insert.new.self c.args.id.now (One c.args.number) c.args.number c.requires (λ k. refl) (rw copy at c.in_ok-insert.ensures.updates)
