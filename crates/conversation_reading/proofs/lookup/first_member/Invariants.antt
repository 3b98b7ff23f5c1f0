use Rattle.std.proofs.Common.{◌≡◌, drop}
use Rattle.json.specs.Value.{members_view}
use Rattle.conversation_reading.specs.Twice.{first_member}
use Rattle.conversation_reading.proofs.lookup.first_member.Given as goal

abbrev pub invariant-loop-member : goal.invariant-loop-member
invariant-loop-member l = first_member l.name (members_view (drop l.member-index l.member-items)) ≡ first_member l.name (members_view l.member-items)
