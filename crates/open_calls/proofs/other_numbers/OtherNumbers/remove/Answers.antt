use Rattle.std.proofs.Common.{Some, false, ap, sym, rules}
use Rattle.open_calls.specs.Inner.{is_in}
use Rattle.open_calls.proofs.Listed.{listed-put, listed-changed, listed-gone}
use Rattle.open_calls.proofs.other_numbers.OtherNumbers.remove.Goals as goal

pub returns-then-remove : goal.returns-then-remove
returns-then-remove c =
    let was = c.args.self.now.numbers in
    let now = c.get_mut.follows.lender c.remove.new.self in
    listed-changed was now c.args.id.now c.in-Some.numbers.now c.remove.new.self c.args.number false
    (λ j. ap (is_in j) (sym c.in-Some.ensures.value))
    (listed-put was now c.args.id.now (Some c.remove.new.self) ((c.get_mut.follows.holds c.remove.new.self).3 (search rules)))
    (c.remove.ensures.some c.if-remove.true)

pub returns : goal.returns
returns c =
    let was = c.args.self.now.numbers in
    let between = c.get_mut.follows.lender c.remove.new.self in
    listed-gone was between c.remove-2.new.self c.args.id.now c.in-Some.numbers.now c.remove.new.self c.args.number
    (c.remove.ensures.none c.if-remove.false)
    (λ j. ap (is_in j) (sym c.in-Some.ensures.value))
    ((c.get_mut.follows.holds c.remove.new.self).3 (search rules))
    c.remove-2.ensures.updates
