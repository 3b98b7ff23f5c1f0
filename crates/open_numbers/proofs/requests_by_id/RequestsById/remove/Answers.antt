use Rattle.std.proofs.Common.{◌≡◌, [], Some, false, ap, sym, rules}
use Rattle.std.proofs.lemmas.List.{nil_from_length}
use Rattle.open_numbers.specs.Requests.{is_in}
use Rattle.open_numbers.proofs.Listed.{listed-put, listed-changed, listed-gone}
use Rattle.open_numbers.proofs.requests_by_id.RequestsById.remove.Goals as goal

pub returns-then-not-is_empty : goal.returns-then-not-is_empty
returns-then-not-is_empty c =
    let was = c.args.self.now.numbers in
    let now = c.get_mut.follows.lender c.remove.new.self in
    listed-changed was now c.args.id.now c.in-Some.numbers.now c.remove.new.self c.args.number false
    (λ j. ap (is_in j) (sym c.in-Some.ensures.value))
    (listed-put was now c.args.id.now (Some c.remove.new.self) ((c.get_mut.follows.holds c.remove.new.self).3 (search rules)))
    c.remove.ensures.updates

pub returns : goal.returns
returns c =
    let was = c.args.self.now.numbers in
    let between = c.get_mut.follows.lender c.remove.new.self in
    let none : c.remove.new.self.keys ≡ [] = nil_from_length c.remove.new.self.keys (search rules) in
    listed-gone was between c.remove-2.new.self c.args.id.now c.in-Some.numbers.now c.remove.new.self c.args.number none
    (λ j. ap (is_in j) (sym c.in-Some.ensures.value))
    ((c.get_mut.follows.holds c.remove.new.self).3 (search rules))
    c.remove-2.ensures.updates c.remove.ensures.updates
