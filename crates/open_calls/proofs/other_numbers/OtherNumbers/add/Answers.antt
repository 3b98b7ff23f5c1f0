use Rattle.std.proofs.Common.{Some, true, ap, sym, rules}
use Rattle.open_calls.specs.Inner.{is_in}
use Rattle.open_calls.proofs.Listed.{listed-put, listed-changed, listed-same, OnOk-map, OnErr-map}
use Rattle.open_calls.proofs.other_numbers.OtherNumbers.add.Goals as goal

pub returns-in-Some-clause-ok : goal.returns-in-Some-clause-ok
returns-in-Some-clause-ok c =
    let was = c.args.self.now.numbers in
    let now = c.get_mut.follows.lender c.add.new.self in
    OnOk-map c.add.result
    (listed-changed was now c.args.id.now c.in-Some.others.now c.add.new.self c.args.number true
    (λ j. ap (is_in j) (sym c.in-Some.ensures.value))
    (listed-put was now c.args.id.now (Some c.add.new.self) ((c.get_mut.follows.holds c.add.new.self).3 (search rules))))
    c.add.ensures.ok

pub returns-in-Some-clause-err : goal.returns-in-Some-clause-err
returns-in-Some-clause-err c =
    let was = c.args.self.now.numbers in
    let now = c.get_mut.follows.lender c.add.new.self in
    OnErr-map c.add.result
    (λ same. listed-same was now c.args.id.now c.in-Some.others.now c.add.new.self same
    (λ j. ap (is_in j) (sym c.in-Some.ensures.value)) ((c.get_mut.follows.holds c.add.new.self).3 (search rules)))
    c.add.ensures.err
