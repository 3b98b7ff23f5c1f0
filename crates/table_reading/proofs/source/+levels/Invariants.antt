use Rattle.std.proofs.Common.{◌≡◌, ◌&&◌, drop, option_map}
use Rattle.toml.specs.View.{items_view, members_view}
use Rattle.method_templates.specs.Shape.{shapes_depth, parts_depth}
use Rattle.table_reading.specs.Templates.{items_are_templates, members_are_templates, shapes_from, parts_from}
use Rattle.table_reading.specs.Inner.Seen.{within_if}
use Rattle.table_reading.proofs.source.+levels.Given as goal

-- what is left to look at decides, with what was found so far
abbrev pub invariant-items_are_within-loop-item : goal.invariant-items_are_within-loop-item
invariant-items_are_within-loop-item l =
    option_map (λ b. l.within && b) (within_if (items_are_templates (items_view (drop l.item-index l.item-items))) l.levels (shapes_depth (shapes_from (items_view (drop l.item-index l.item-items)))))
    ≡ within_if (items_are_templates (items_view l.item-items)) l.levels (shapes_depth (shapes_from (items_view l.item-items)))

abbrev pub invariant-members_are_within-loop-member : goal.invariant-members_are_within-loop-member
invariant-members_are_within-loop-member l =
    option_map (λ b. l.within && b) (within_if (members_are_templates (members_view l.member-iterator)) l.levels (parts_depth (parts_from (members_view l.member-iterator))))
    ≡ within_if (members_are_templates (members_view l.initial.member-iterator)) l.levels (parts_depth (parts_from (members_view l.initial.member-iterator)))
