use Rattle.std.proofs.Common.{◌≡◌, ◌||◌, drop, is_some, option_map, if◌then◌else◌}
use Rattle.json.specs.Find.{later_or, get_member}
use Rattle.json.specs.Value.{value_view, members_view}
use Rattle.conversation_reading.specs.Twice.{has_member, is_member_twice}
use Rattle.conversation_reading.proofs.lookup.member_among.Given as goal

abbrev pub invariant-loop-member : goal.invariant-loop-member
invariant-loop-member l = record {
  last : later_or (get_member l.name (members_view (drop l.member-index l.member-items))) (option_map (λ v. value_view v.now) l.last) ≡ get_member l.name (members_view l.member-items);
  twice : (l.is_twice || (if is_some l.last then has_member l.name (members_view (drop l.member-index l.member-items)) else is_member_twice l.name (members_view (drop l.member-index l.member-items)))) ≡ is_member_twice l.name (members_view l.member-items);
}
