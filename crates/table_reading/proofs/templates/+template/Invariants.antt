use Rattle.std.proofs.Common.{◌≡◌, true, take, drop, map}
use Rattle.toml.specs.View.{view, items_view, members_view}
use Rattle.table_reading.specs.References.{are_places_known, are_parts_known}
use Rattle.table_reading.specs.Templates.{shape_from, shapes_from, parts_from, items_are_templates, members_are_templates}
use Rattle.table_reading.proofs.MadeTemplates.{MadeMembers}
use Rattle.table_reading.proofs.templates.+template.Given as goal

abbrev pub invariant-templates_of-loop-item : goal.invariant-templates_of-loop-item
invariant-templates_of-loop-item l = record {
  made : l.templates.items ≡ map (λ v. shape_from (view v)) (take l.item-index l.item-items);
  typed : items_are_templates (items_view (drop l.item-index l.item-items)) ≡ true;
  known : are_places_known (items_view l.earlier) (shapes_from (items_view (drop l.item-index l.item-items))) ≡ are_places_known (items_view l.earlier) (shapes_from (items_view l.item-items));
}

abbrev pub invariant-member_templates_of-loop-name : goal.invariant-member_templates_of-loop-name
invariant-member_templates_of-loop-name l = record {
  made : MadeMembers l.members.entries l.templates.entries l.name-iterator;
  typed : members_are_templates (members_view l.name-iterator) ≡ true;
  known : are_parts_known (items_view l.earlier) (parts_from (members_view l.name-iterator)) ≡ are_parts_known (items_view l.earlier) (parts_from (members_view l.initial.name-iterator));
}
