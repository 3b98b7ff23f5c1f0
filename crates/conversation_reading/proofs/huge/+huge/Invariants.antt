use Rattle.std.proofs.Common.{◌≡◌, drop}
use Rattle.json.specs.Value.{items_view, members_view}
use Rattle.conversation_reading.specs.Huge.{items_have_huge, members_have_huge}
use Rattle.conversation_reading.proofs.huge.+huge.Given as goal

abbrev pub invariant-items_have_huge-loop-item : goal.invariant-items_have_huge-loop-item
invariant-items_have_huge-loop-item l = items_have_huge (items_view (drop l.item-index l.item-items)) ≡ items_have_huge (items_view l.item-items)

abbrev pub invariant-members_have_huge-loop-member : goal.invariant-members_have_huge-loop-member
invariant-members_have_huge-loop-member l = members_have_huge (members_view (drop l.member-index l.member-items)) ≡ members_have_huge (members_view l.member-items)
