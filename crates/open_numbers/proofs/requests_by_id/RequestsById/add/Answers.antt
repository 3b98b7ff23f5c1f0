use Rattle.std.proofs.Common.{Some, true, ap, sym, rules}
use Rattle.open_numbers.specs.Requests.{is_in}
use Rattle.open_numbers.proofs.Listed.{listed-put, listed-changed, listed-same}
use Rattle.open_numbers.proofs.Tests.{on_err_of}
use Rattle.open_numbers.proofs.requests_by_id.RequestsById.add.Goals as goal

pub returns-in_err-insert-in-Some-clause-err : goal.returns-in_err-insert-in-Some-clause-err
returns-in_err-insert-in-Some-clause-err c =
    let was = c.args.self.now.numbers in
    on_err_of c.from_residual.result _
    (λ q k. listed-same was (c.get_mut.follows.lender c.insert.new.self) c.args.id.now c.in-Some.others.now c.insert.new.self c.in_err-insert-in-Some.ensures.err
    (λ j. ap (is_in j) (sym c.in-Some.ensures.value)) ((c.get_mut.follows.holds c.insert.new.self).3 (search rules)) q k)

pub returns-in_ok-insert-in-Some-clause-listed : goal.returns-in_ok-insert-in-Some-clause-listed
returns-in_ok-insert-in-Some-clause-listed c =
    let was = c.args.self.now.numbers in
    let now = c.get_mut.follows.lender c.insert.new.self in
    listed-changed was now c.args.id.now c.in-Some.others.now c.insert.new.self c.args.number true
    (λ j. ap (is_in j) (sym c.in-Some.ensures.value))
    (listed-put was now c.args.id.now (Some c.insert.new.self) ((c.get_mut.follows.holds c.insert.new.self).3 (search rules)))
    c.in_ok-insert-in-Some.ensures.updates
