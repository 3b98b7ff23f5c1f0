use Rattle.std.proofs.Common.{◌≡◌, ◌+◌, ◌-◌, suc, get_or, Some, None, sym, subst, ◌∙◌, arith}
use Rattle.json_texts.specs.Found.{FindsItems, FindsMembers}
use Rattle.json_texts.proofs.Placed.{items_of_more, no_item, last_item, more_items, members_of_more, no_member, last_member, more_members, string_value, number_value, true_value, false_value, null_value, array_value, object_value, some_weaker}
use Rattle.json_texts.proofs.FoundValues.{items_of_more_found, no_items_found, no_item_found, last_item_found, more_items_found, other_items_found, past_items_found, members_of_more_found, no_members_found, no_member_found, bare_member_found, last_member_found, more_members_found, other_members_found, past_members_found, string_at, array_at, object_at, true_at, false_at, null_at, number_at, digit_at}
use Rattle.json_texts.proofs.FoundNumbers.{natural_found}
use Rattle.json_texts.proofs.NumberItems.{items_behind_numbers, found_behind_numbers, last_numbers, last_numbers_found, last_numbers_are_some}
use Rattle.json_texts.proofs.Whole.{natural_stands}
use Rattle.json_texts.proofs.compact.+value.Goals as goal

pub items_end-returns-then-byte_at-eq93-clause-items : goal.items_end-returns-then-byte_at-eq93-clause-items
items_end-returns-then-byte_at-eq93-clause-items t c = no_item c.args.levels c.args.text.now c.args.from (omega (arith, c.byte_at.ensures))

pub items_end-returns-then-is_closed-clause-items : goal.items_end-returns-then-is_closed-clause-items
items_end-returns-then-is_closed-clause-items t c =
    let end = c.past_first_naturals-first.result.0 in
    let last = c.past_first_naturals-first.ensures.last c.if-is_closed.true in
    items_of_more c.args.levels c.args.text.now c.args.from end (last_numbers c.args.levels c.args.text.now c.args.from end last c.past_first_naturals-first.ensures.bounds)

pub items_end-returns-then-is_closed-clause-found : goal.items_end-returns-then-is_closed-clause-found
items_end-returns-then-is_closed-clause-found t c =
    let end = c.past_first_naturals-first.result.0 in
    let last = c.past_first_naturals-first.ensures.last c.if-is_closed.true in
    let other = c.if-byte_at-eq93.false in
    items_of_more_found c.args.levels c.args.text.now c.args.from (Some end) (λ e. other (c.byte_at.ensures ∙ e))
    (last_numbers_found c.args.levels c.args.text.now c.args.from end last c.past_first_naturals-first.ensures.bounds)

pub items_end-returns-then-is_closed-clause-bounds : goal.items_end-returns-then-is_closed-clause-bounds
items_end-returns-then-is_closed-clause-bounds t c =
    let within = c.past_first_naturals-first.ensures.bounds in
    (last_numbers_are_some c.args.levels c.args.text.now c.args.from c.past_first_naturals-first.result.0 (c.past_first_naturals-first.ensures.last c.if-is_closed.true) within, within.1)

pub items_end-loop-at-init : goal.items_end-loop-at-init
items_end-loop-at-init t c =
    let levels = c.args.levels in
    let text = c.args.text.now in
    let from = c.args.from in
    let first = c.past_first_naturals-first.result.0 in
    let numbers = c.past_first_naturals-first.ensures.items c.if-is_closed.false in
    let within = c.past_first_naturals-first.ensures.bounds in
    let other = c.if-byte_at-eq93.false in (
      within.0,
      λ end more. items_of_more levels text from end (items_behind_numbers levels text from first end numbers within more),
      λ found finds. items_of_more_found levels text from found (λ e. other (c.byte_at.ensures ∙ e)) (found_behind_numbers levels text from first found numbers within finds),
    )

pub items_end-returns-then-next-eq93-clause-items : goal.items_end-returns-then-next-eq93-clause-items
items_end-returns-then-next-eq93-clause-items t c =
    let last = last_item c.args.levels c.args.text.now c.loop-at.at c.in_ok-end.end c.in_ok-end.ensures.value (omega (arith, c.byte_at-next.ensures)) in
    c.loop-at.invariant.1 (c.in_ok-end.end + 1) last

pub items_end-loop-at-preserved : goal.items_end-loop-at-preserved
items_end-loop-at-preserved t c =
    let bounds = c.in_ok-end.ensures.bounds in
    let before = c.loop-at.invariant.0 in (
      omega (arith, bounds.0, before),
      λ end more. c.loop-at.invariant.1 end
          (more_items c.args.levels c.args.text.now c.loop-at.at c.in_ok-end.end end c.in_ok-end.ensures.value (omega (arith, c.byte_at-next.ensures)) more),
      λ found finds. c.loop-at.invariant.2 found
          (more_items_found c.args.levels c.args.text.now c.loop-at.at c.in_ok-end.end found c.in_ok-end.ensures.found (omega (arith, c.byte_at-next.ensures, c.if-next-ne44.false)) finds),
    )

pub members_end-returns-then-byte_at-eq125-clause-members : goal.members_end-returns-then-byte_at-eq125-clause-members
members_end-returns-then-byte_at-eq125-clause-members t c = no_member c.args.levels c.args.text.now c.args.from (omega (arith, c.byte_at.ensures))

pub members_end-loop-at-init : goal.members_end-loop-at-init
members_end-loop-at-init t c =
    let other = c.if-byte_at-eq125.false in (
      omega arith,
      λ end more. members_of_more c.args.levels c.args.text.now c.args.from end more,
      λ found finds. members_of_more_found c.args.levels c.args.text.now c.args.from found (λ e. other (c.byte_at.ensures ∙ e)) finds,
    )

pub members_end-returns-then-next-eq125-clause-members : goal.members_end-returns-then-next-eq125-clause-members
members_end-returns-then-next-eq125-clause-members t c =
    let last = last_member c.args.levels c.args.text.now c.loop-at.at c.in_ok-name_end.name_end c.in_ok-end.end c.in_ok-name_end.ensures.name c.in_ok-end.ensures.value (omega (arith, c.byte_at-next.ensures)) in
    c.loop-at.invariant.1 (c.in_ok-end.end + 1) last

pub members_end-loop-at-preserved : goal.members_end-loop-at-preserved
members_end-loop-at-preserved t c =
    let named = c.in_ok-name_end.ensures.bounds in
    let bounds = c.in_ok-end.ensures.bounds in
    let before = c.loop-at.invariant.0 in (
      omega (arith, named.0, bounds.0, before),
      λ end more. c.loop-at.invariant.1 end
          (more_members c.args.levels c.args.text.now c.loop-at.at c.in_ok-name_end.name_end c.in_ok-end.end end c.in_ok-name_end.ensures.name c.in_ok-end.ensures.value
          (omega (arith, c.byte_at-next.ensures)) more),
      λ found finds. c.loop-at.invariant.2 found
          (more_members_found c.args.levels c.args.text.now c.loop-at.at c.in_ok-name_end.name_end c.in_ok-end.end found c.in_ok-name_end.ensures.found c.in_ok-end.ensures.found
          (omega (arith, c.byte_at-next.ensures, c.if-next-ne44.false)) finds),
    )

pub value_end-returns-in-34-clause-value : goal.value_end-returns-in-34-clause-value
value_end-returns-in-34-clause-value t c =
    let first : get_or c.args.text.now c.args.from 0 ≡ 34 = omega (arith, c.byte_at.ensures, c.in-34.is) in
    some_weaker c.string_end.result (λ end s. string_value c.args.levels c.args.text.now c.args.from end first s) c.string_end.ensures.string

pub value_end-returns-else-levels-eq0-clause-value : goal.value_end-returns-else-levels-eq0-clause-value
value_end-returns-else-levels-eq0-clause-value t c =
    let first : get_or c.args.text.now c.args.from 0 ≡ 91 = omega (arith, c.byte_at.ensures, c.in-91.is) in
    let above : c.args.levels ≡ suc (c.args.levels - 1) = omega (arith, c.if-levels-eq0.false) in
    some_weaker c.items_end.result (λ end a. array_value c.args.levels (c.args.levels - 1) c.args.text.now c.args.from end first above a) c.items_end.ensures.items

pub value_end-returns-else-levels-eq0-2-clause-value : goal.value_end-returns-else-levels-eq0-2-clause-value
value_end-returns-else-levels-eq0-2-clause-value t c =
    let first : get_or c.args.text.now c.args.from 0 ≡ 123 = omega (arith, c.byte_at.ensures, c.in-123.is) in
    let above : c.args.levels ≡ suc (c.args.levels - 1) = omega (arith, c.if-levels-eq0-2.false) in
    some_weaker c.members_end.result (λ end o. object_value c.args.levels (c.args.levels - 1) c.args.text.now c.args.from end first above o) c.members_end.ensures.members

pub value_end-returns-in-116-clause-value : goal.value_end-returns-in-116-clause-value
value_end-returns-in-116-clause-value t c = some_weaker c.word_end.result (λ end w. true_value c.args.levels c.args.text.now c.args.from end w) c.word_end.ensures.word

pub value_end-returns-in-102-clause-value : goal.value_end-returns-in-102-clause-value
value_end-returns-in-102-clause-value t c = some_weaker c.word_end-in-102.result (λ end w. false_value c.args.levels c.args.text.now c.args.from end w) c.word_end-in-102.ensures.word

pub value_end-returns-in-110-clause-value : goal.value_end-returns-in-110-clause-value
value_end-returns-in-110-clause-value t c = some_weaker c.word_end-in-110.result (λ end w. null_value c.args.levels c.args.text.now c.args.from end w) c.word_end-in-110.ensures.word

pub value_end-returns-in_default-clause-value : goal.value_end-returns-in_default-clause-value
value_end-returns-in_default-clause-value t c = some_weaker c.number_end.result (λ end n. number_value c.args.levels c.args.text.now c.args.from end n) c.number_end.ensures.number

-- ---- what is found

pub items_end-returns-then-byte_at-eq93-clause-found : goal.items_end-returns-then-byte_at-eq93-clause-found
items_end-returns-then-byte_at-eq93-clause-found t c = no_items_found c.args.levels c.args.text.now c.args.from (omega (arith, c.byte_at.ensures, c.if-byte_at-eq93.true))

pub items_end-returns-in_err-end-clause-found : goal.items_end-returns-in_err-end-clause-found
items_end-returns-in_err-end-clause-found t c =
    c.loop-at.invariant.2 c.from_residual.result (no_item_found c.args.levels c.args.text.now c.loop-at.at c.from_residual.result c.in_err-end.ensures.found)

pub items_end-returns-then-next-eq93-clause-found : goal.items_end-returns-then-next-eq93-clause-found
items_end-returns-then-next-eq93-clause-found t c =
    let end = c.in_ok-end.end in
    c.loop-at.invariant.2 (Some (end + 1)) (last_item_found c.args.levels c.args.text.now c.loop-at.at end c.in_ok-end.ensures.found (omega (arith, c.byte_at-next.ensures, c.if-next-eq93.true)))

pub items_end-returns-then-next-ne44-clause-found : goal.items_end-returns-then-next-ne44-clause-found
items_end-returns-then-next-ne44-clause-found t c =
    let bracket = c.if-next-eq93.false in
    let comma = c.if-next-ne44.true in
    c.loop-at.invariant.2 None
    (other_items_found c.args.levels c.args.text.now c.loop-at.at c.in_ok-end.end None c.in_ok-end.ensures.found (λ e. bracket (c.byte_at-next.ensures ∙ e)) (λ e. comma (c.byte_at-next.ensures ∙ e)))

pub items_end-returns-clause-found : goal.items_end-returns-clause-found
items_end-returns-clause-found t c = c.loop-at.invariant.2 None (past_items_found c.args.levels c.args.text.now c.loop-at.at None (omega (arith, c.loop-at-test.false)))

pub members_end-returns-then-byte_at-eq125-clause-found : goal.members_end-returns-then-byte_at-eq125-clause-found
members_end-returns-then-byte_at-eq125-clause-found t c = no_members_found c.args.levels c.args.text.now c.args.from (omega (arith, c.byte_at.ensures, c.if-byte_at-eq125.true))

pub members_end-returns-in_err-name_end-clause-found : goal.members_end-returns-in_err-name_end-clause-found
members_end-returns-in_err-name_end-clause-found t c =
    c.loop-at.invariant.2 c.from_residual.result (no_member_found c.args.levels c.args.text.now c.loop-at.at c.from_residual.result c.in_err-name_end.ensures.found)

pub members_end-returns-in_err-end-clause-found : goal.members_end-returns-in_err-end-clause-found
members_end-returns-in_err-end-clause-found t c =
    c.loop-at.invariant.2 c.from_residual-in_err-end.result
    (bare_member_found c.args.levels c.args.text.now c.loop-at.at c.in_ok-name_end.name_end c.from_residual-in_err-end.result c.in_ok-name_end.ensures.found c.in_err-end.ensures.found)

pub members_end-returns-then-next-eq125-clause-found : goal.members_end-returns-then-next-eq125-clause-found
members_end-returns-then-next-eq125-clause-found t c =
    let end = c.in_ok-end.end in
    c.loop-at.invariant.2 (Some (end + 1))
    (last_member_found c.args.levels c.args.text.now c.loop-at.at c.in_ok-name_end.name_end end c.in_ok-name_end.ensures.found c.in_ok-end.ensures.found (omega (arith, c.byte_at-next.ensures, c.if-next-eq125.true)))

pub members_end-returns-then-next-ne44-clause-found : goal.members_end-returns-then-next-ne44-clause-found
members_end-returns-then-next-ne44-clause-found t c =
    let brace = c.if-next-eq125.false in
    let comma = c.if-next-ne44.true in
    c.loop-at.invariant.2 None
    (other_members_found c.args.levels c.args.text.now c.loop-at.at c.in_ok-name_end.name_end c.in_ok-end.end None c.in_ok-name_end.ensures.found c.in_ok-end.ensures.found
    (λ e. brace (c.byte_at-next.ensures ∙ e)) (λ e. comma (c.byte_at-next.ensures ∙ e)))

pub members_end-returns-clause-found : goal.members_end-returns-clause-found
members_end-returns-clause-found t c = c.loop-at.invariant.2 None (past_members_found c.args.levels c.args.text.now c.loop-at.at None (omega (arith, c.loop-at-test.false)))

pub value_end-returns-in-34-clause-found : goal.value_end-returns-in-34-clause-found
value_end-returns-in-34-clause-found t c =
    string_at c.args.levels c.args.text.now c.args.from c.string_end.result (omega (arith, c.byte_at.ensures, c.in-34.is)) c.string_end.ensures.found

pub value_end-returns-then-levels-eq0-clause-found : goal.value_end-returns-then-levels-eq0-clause-found
value_end-returns-then-levels-eq0-clause-found t c =
    array_at c.args.levels c.args.text.now c.args.from None (omega (arith, c.byte_at.ensures, c.in-91.is)) (λ below is. absurd (omega (arith, is, c.if-levels-eq0.true)))

pub value_end-returns-else-levels-eq0-clause-found : goal.value_end-returns-else-levels-eq0-clause-found
value_end-returns-else-levels-eq0-clause-found t c =
    let text = c.args.text.now in
    let from = c.args.from in
    let found = c.items_end.result in
    array_at c.args.levels text from found (omega (arith, c.byte_at.ensures, c.in-91.is))
    (λ below is. let same : c.args.levels - 1 ≡ below = omega (arith, is) in subst (λ n. FindsItems n text (from + 1) found) same c.items_end.ensures.found)

pub value_end-returns-then-levels-eq0-2-clause-found : goal.value_end-returns-then-levels-eq0-2-clause-found
value_end-returns-then-levels-eq0-2-clause-found t c =
    object_at c.args.levels c.args.text.now c.args.from None (omega (arith, c.byte_at.ensures, c.in-123.is)) (λ below is. absurd (omega (arith, is, c.if-levels-eq0-2.true)))

pub value_end-returns-else-levels-eq0-2-clause-found : goal.value_end-returns-else-levels-eq0-2-clause-found
value_end-returns-else-levels-eq0-2-clause-found t c =
    let text = c.args.text.now in
    let from = c.args.from in
    let found = c.members_end.result in
    object_at c.args.levels text from found (omega (arith, c.byte_at.ensures, c.in-123.is))
    (λ below is. let same : c.args.levels - 1 ≡ below = omega (arith, is) in subst (λ n. FindsMembers n text (from + 1) found) same c.members_end.ensures.found)

pub value_end-returns-in-116-clause-found : goal.value_end-returns-in-116-clause-found
value_end-returns-in-116-clause-found t c =
    true_at c.args.levels c.args.text.now c.args.from c.word_end.result (omega (arith, c.byte_at.ensures, c.in-116.is)) c.word_end.ensures.found

pub value_end-returns-in-102-clause-found : goal.value_end-returns-in-102-clause-found
value_end-returns-in-102-clause-found t c =
    false_at c.args.levels c.args.text.now c.args.from c.word_end-in-102.result (omega (arith, c.byte_at.ensures, c.in-102.is)) c.word_end-in-102.ensures.found

pub value_end-returns-in-110-clause-found : goal.value_end-returns-in-110-clause-found
value_end-returns-in-110-clause-found t c =
    null_at c.args.levels c.args.text.now c.args.from c.word_end-in-110.result (omega (arith, c.byte_at.ensures, c.in-110.is)) c.word_end-in-110.ensures.found

pub value_end-returns-in_default-clause-found : goal.value_end-returns-in_default-clause-found
value_end-returns-in_default-clause-found t c =
    number_at c.args.levels c.args.text.now c.args.from c.number_end.result c.byte_at.result (sym c.byte_at.ensures) (λ e. omega arith) (λ e. omega arith) (λ e. omega arith) (λ e. omega arith)
    (λ e. omega arith) (λ e. omega arith) c.number_end.ensures.found

-- ---- whole numbers

pub part_end-returns-in-Some-clause-value : goal.part_end-returns-in-Some-clause-value
part_end-returns-in-Some-clause-value t c =
    let text = c.args.text.now in
    let from = c.args.from in
    let end = c.in-Some.end in
    number_value c.args.levels text from end (natural_stands text from end c.in-Some.ensures.bounds.0 c.in-Some.ensures.number)

pub part_end-returns-in-Some-clause-found : goal.part_end-returns-in-Some-clause-found
part_end-returns-in-Some-clause-found t c =
    let text = c.args.text.now in
    let from = c.args.from in
    let end = c.in-Some.end in
    digit_at c.args.levels text from (Some end) c.in-Some.ensures.digit (natural_found text from end c.requires c.in-Some.ensures.bounds.1 c.in-Some.ensures.digit c.in-Some.ensures.rest)
