use Rattle.std.proofs.Common.{◌≡◌, drop}
use Rattle.json.specs.Value.{items_view, members_view}
use Rattle.conversation_reading.specs.Nesting.{items_nest_deeper, members_nest_deeper}
use Rattle.conversation_reading.proofs.nesting.+nesting.Given as goal

abbrev pub invariant-items_nest_deeper-loop-item : goal.invariant-items_nest_deeper-loop-item
invariant-items_nest_deeper-loop-item l = items_nest_deeper l.depth (items_view (drop l.item-index l.item-items)) ≡ items_nest_deeper l.depth (items_view l.item-items)

abbrev pub invariant-members_nest_deeper-loop-member : goal.invariant-members_nest_deeper-loop-member
invariant-members_nest_deeper-loop-member l = members_nest_deeper l.depth (members_view (drop l.member-index l.member-items)) ≡ members_nest_deeper l.depth (members_view l.member-items)
