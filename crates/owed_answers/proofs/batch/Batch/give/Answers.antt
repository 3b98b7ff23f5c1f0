use Rattle.std.proofs.Common.{◌≡◌, ◌+◌, ◌-◌, Some, length, length-append, set, ap, sym, ◌∙◌, arith}
use mir.Val.{bool_byte}
use Rattle.owed_answers.specs.Owed.{lacking_slots}
use Rattle.owed_answers.proofs.BatchLemmas.{as_byte, given_is, given_within}
use Rattle.owed_answers.proofs.batch.Batch.give.Goals as goal

pub overflow_sub-self : goal.overflow_sub-self
overflow_sub-self c =
    omega (arith, c.is_lacking-lacked.ensures c.args.text.now, as_byte c.is_lacking-lacked.result, c.self-2.invariant.counted, ap lacking_slots c.self-2.view_is)

pub invariant_of-self-2 : goal.invariant_of-self-2
invariant_of-self-2 c =
    let d = c.self-2.inside in
    let slot = c.args.slot in
    let text = c.args.text.now in
    let end : c.len-end.result ≡ length d.given.items + length text = omega (arith, ap length c.in_ok-extend_from_slice.ensures.items, length-append d.given.items text) in
    let put = given_is d.given.items text d.held.items c.make_first_room.new.self slot c.len-start.result c.len-end.result c.extend_from_slice.new.self.items c.self-2.invariant.within c.self-2.view_is c.in_ok-extend_from_slice.ensures.items (omega arith) end in
    let counted : d.lacking - bool_byte c.is_lacking-lacked.result ≡ lacking_slots (set c.make_first_room.new.self slot (Some text)) =
    omega (arith, c.is_lacking-lacked.ensures text, as_byte c.is_lacking-lacked.result, c.self-2.invariant.counted, ap lacking_slots c.self-2.view_is) in
    record {
      within = given_within d.given.items text d.held.items slot c.len-start.result c.len-end.result c.extend_from_slice.new.self.items c.self-2.invariant.within c.in_ok-extend_from_slice.ensures.items (omega arith) end;
      counted = counted ∙ ap lacking_slots (sym put);
    }

pub returns-clause-ok : goal.returns-clause-ok
returns-clause-ok c =
    let d = c.self-2.inside in
    let text = c.args.text.now in
    let end : c.len-end.result ≡ length d.given.items + length text = omega (arith, ap length c.in_ok-extend_from_slice.ensures.items, length-append d.given.items text) in
    given_is d.given.items text d.held.items c.make_first_room.new.self c.args.slot c.len-start.result c.len-end.result c.extend_from_slice.new.self.items c.self-2.invariant.within c.self-2.view_is c.in_ok-extend_from_slice.ensures.items (omega arith) end
    ∙ ap (λ seen. set seen c.args.slot (Some text)) c.make_first_room.ensures
