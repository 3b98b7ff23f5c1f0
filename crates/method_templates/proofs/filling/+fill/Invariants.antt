use Rattle.std.proofs.Common.{◌+◌, ◌*◌, drop}
use Rattle.method_templates.specs.Locals.{with_lent}
use Rattle.method_templates.specs.Form.{shapes_of, parts_of}
use Rattle.method_templates.specs.Shape.{size_of, shapes_size, parts_size}
use Rattle.method_templates.proofs.Filled.{FilledItems, FilledMembers}
use Rattle.method_templates.proofs.filling.+fill.Given as goal

abbrev pub decreases-fill_lent : goal.decreases-fill_lent
decreases-fill_lent l = 2 * size_of l.template.now

abbrev pub decreases-fill_list : goal.decreases-fill_list
decreases-fill_list l = 2 * shapes_size (shapes_of l.templates.now.items) + 1

abbrev pub decreases-fill_members : goal.decreases-fill_members
decreases-fill_members l = 2 * parts_size (parts_of l.templates.now.entries) + 1

abbrev pub invariant-fill_list-loop-template : goal.invariant-fill_list-loop-template
invariant-fill_list-loop-template l = FilledItems (with_lent l.params l.locals) l.templates.items l.values (drop l.template-index l.templates.items)

abbrev pub invariant-fill_members-loop-name : goal.invariant-fill_members-loop-name
invariant-fill_members-loop-name l =
    (goal.iterator-fill_members-loop-name).can_next l.name-iterator ×
    (goal.iterator-fill_members-loop-name).is_finite l.name-iterator ×
    FilledMembers (with_lent l.params l.locals) l.templates.entries l.values l.name-iterator
