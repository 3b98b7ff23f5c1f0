use Rattle.std.proofs.Common.{◌≡◌, [], ◌∷◌, true, ◌&&◌, ap, sym, ◌∙◌, arith, take, drop, map, string_bytes}
use Rattle.std.proofs.lemmas.Bool.{and_parts}
use Rattle.std.proofs.lemmas.Grind.{common_steps}
use Rattle.toml.specs.View.{view, items_view, members_view}
use Rattle.toml.proofs.Views.{Entry}
use Rattle.method_templates.specs.Form.{shapes_of}
use Rattle.table_reading.specs.References.{are_places_known, are_parts_known}
use Rattle.table_reading.specs.Templates.{is_template, members_are_templates, shape_from, shapes_from, parts_from}
use Rattle.table_reading.proofs.MadeTemplates.{MadeMembers, shapes_of-view, made_more}
use Rattle.table_reading.proofs.templates.+template.Goals as goal

pub member_templates_of-loop-name-preserved : goal.member_templates_of-loop-name-preserved
member_templates_of-loop-name-preserved t c =
    let e : Entry = (c.in-Some.name.now, c.in-Some.member.now) in
    let rest = c.next.new.self in
    let earlier = items_view c.args.earlier.now in
    let iter : c.loop-name.name-iterator ≡ e ∷ rest = grind (arith, common_steps) in
    let before : MadeMembers c.args.members.now.entries c.loop-name.templates.entries (e ∷ rest) = rw iter at c.loop-name.invariant.made in
    let typed : members_are_templates (members_view (e ∷ rest)) ≡ true = rw iter at c.loop-name.invariant.typed in
    let known : are_parts_known earlier (parts_from (members_view (e ∷ rest))) ≡ are_parts_known earlier (parts_from (members_view c.into_iter-name-iterator.result)) = rw iter at c.loop-name.invariant.known in
    let named : string_bytes c.in-Ok.name ≡ string_bytes e.0 = c.in-Ok.ensures.cases in
    record {
      made = made_more c.args.members.now.entries c.loop-name.templates.entries e rest c.in-Ok.name c.in_ok-template.template
          c.insert.new.self.entries c.iter-name-items.ensures.ordered before named c.in_ok-template.ensures.ok.0 c.in_ok-insert-in-Ok.ensures.entries;
      typed = (and_parts (is_template (view e.1)) (members_are_templates (members_view rest)) typed).1;
      known = ap (λ b. b && are_parts_known earlier (parts_from (members_view rest))) (sym c.in_ok-template.ensures.ok.1) ∙ known;
    }

pub templates_of-returns-clause-ok : goal.templates_of-returns-clause-ok
templates_of-returns-clause-ok t c =
    let vs = c.args.items.now.items in
    let seen = c.deref-item-items.result.now in
    let same : seen ≡ vs = c.deref-item-items.ensures.value in
    let all : take c.loop-item.item-index seen ≡ vs = grind (arith, common_steps) in
    let none : drop c.loop-item.item-index seen ≡ [] = grind (arith, common_steps) in
    let made : c.loop-item.templates.items ≡ map (λ v. shape_from (view v)) vs = c.loop-item.invariant.made ∙ ap (map (λ v. shape_from (view v))) all in
    let known : true ≡ are_places_known (items_view c.args.earlier.now) (shapes_from (items_view seen)) = rw none at c.loop-item.invariant.known in
    (ap shapes_of made ∙ shapes_of-view vs, sym (rw same at known))
