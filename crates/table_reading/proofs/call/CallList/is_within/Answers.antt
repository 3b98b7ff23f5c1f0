use Rattle.std.proofs.Common.{◌≡◌, ◌&&◌, ◌∙◌, rules, length}
use Rattle.table_reading.specs.Limits.{is_list_length, is_list_within}
use Rattle.table_reading.proofs.Calls.{list_within}
use Rattle.table_reading.proofs.call.CallList.is_within.Goals as goal

pub returns-then-is_list_length : goal.returns-then-is_list_length
returns-then-is_list_length c =
    let list = c.self.inside in
    let number : c.is_list_length.result ≡ is_list_length (length list.calls.now) = search rules in
    let same : c.is_list_length.result && list.are_within ≡ is_list_within c.args.self.now = list_within list.calls.now c.args.self.now list.are_within c.is_list_length.result c.self.invariant.0 c.self.view_is c.self.invariant.1 number in
    rw c.if-is_list_length.true at same

pub returns-else-is_list_length : goal.returns-else-is_list_length
returns-else-is_list_length c =
    let list = c.self.inside in
    let number : c.is_list_length.result ≡ is_list_length (length list.calls.now) = search rules in
    let same : c.is_list_length.result && list.are_within ≡ is_list_within c.args.self.now = list_within list.calls.now c.args.self.now list.are_within c.is_list_length.result c.self.invariant.0 c.self.view_is c.self.invariant.1 number in
    c.if-is_list_length.false ∙ rw c.if-is_list_length.false at same
