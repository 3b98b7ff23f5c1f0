use Rattle.std.proofs.Common.{Some, true, ap, sym, ◌∙◌, ◌≡◌, rules}
use Rattle.std.specs.BTreeMap.{is_at}
use Rattle.std.specs.List.{list_any}
use Rattle.std.specs.Ordering.{nat_cmp}
use Rattle.open_numbers.proofs.Listed.{listed-put, listed-changed}
use Rattle.open_numbers.proofs.requests_by_id.RequestsById.add_first.Goals as goal

pub returns-clause-listed : goal.returns-clause-listed
returns-clause-listed c =
    let was = c.args.self.now.numbers in
    let copy : c.in_ok-clone.field-0 ≡ c.args.id.now = search rules in
    let put = listed-put was c.insert-2.new.self c.args.id.now (Some c.insert.new.self) (rw copy at c.in_ok-insert-2.ensures.updates) in
    listed-changed was c.insert-2.new.self c.args.id.now c.new-numbers.result c.insert.new.self c.args.number true
    (λ j. c.requires j ∙ sym (ap (list_any (is_at (nat_cmp j))) c.new-numbers.ensures.empty))
    put c.in_ok-insert.ensures.updates
