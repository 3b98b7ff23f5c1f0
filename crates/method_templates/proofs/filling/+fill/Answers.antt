use Rattle.std.proofs.Common.{◌≡◌, ◌∷◌, ◌++◌, [], ◌≤◌, ◌<◌, ◌+◌, length, get_or, drop, refl, ap, sym, ◌∙◌, arith, rules, Err}
use Rattle.std.proofs.lemmas.Grind.{common_steps}
use Rattle.std.proofs.lemmas.List.{drop_more}
use Rattle.serde_json.specs.Data.{object}
use Rattle.method_templates.specs.declared.filling.FillFault.{FillFault}
use Rattle.method_templates.specs.Locals.{with_lent}
use Rattle.method_templates.specs.Form.{shapes_of, parts_of}
use Rattle.method_templates.specs.Shape.{size_of, shapes_size, parts_size}
use Rattle.method_templates.specs.Value.{value_of, members_of, with_value}
use Rattle.method_templates.proofs.Filled.{Named, FilledItems, FilledMembers, size_within, part_within, filled_more, filled_all, filled_members_start, filled_members_more, filled_members_fault, filled_members_all}
use Rattle.method_templates.proofs.filling.+fill.Goals as goal

pub fill_list-fill_lent-requires : goal.fill_list-fill_lent-requires
fill_list-fill_lent-requires t c =
    let ts = c.args.templates.now.items in
    let here : c.template-item.result ≡ get_or ts c.loop-template.template-index c.template-item.result = rw c.deref-template-items.ensures.value at c.template-item.is in
    let within : c.loop-template.template-index < length ts = rw c.deref-template-items.ensures.value at c.loop-template-test.true in
    let small : size_of c.template-item.result ≤ shapes_size (shapes_of ts) = rw here (size_within ts c.loop-template.template-index c.template-item.result within) in
    (omega (arith, c.decreases), tt)

pub fill_list-loop-template-preserved : goal.fill_list-loop-template-preserved
fill_list-loop-template-preserved t c =
    let ts = c.args.templates.now.items in
    let i = c.loop-template.template-index in
    let here : get_or ts i c.template-item.result ≡ c.template-item.result = sym (rw c.deref-template-items.ensures.value at c.template-item.is) in
    let within : i < length ts = rw c.deref-template-items.ensures.value at c.loop-template-test.true in
    let rest : drop i ts ≡ c.template-item.result ∷ drop (i + 1) ts = drop_more ts i c.template-item.result within ∙ rw here refl in
    let before : FilledItems (with_lent c.args.params.now c.args.locals.now) ts c.loop-template.values (c.template-item.result ∷ drop (i + 1) ts) = rw rest at c.loop-template.invariant in
    rw c.in_ok-push.ensures.ok (filled_more (with_lent c.args.params.now c.args.locals.now) ts c.loop-template.values c.template-item.result (drop (i + 1) ts) c.in_ok-fill_lent.field-0 before c.in_ok-fill_lent.ensures.ok)

pub fill_list-returns-clause-ok : goal.fill_list-returns-clause-ok
fill_list-returns-clause-ok t c =
    let ts = c.args.templates.now.items in
    let none : drop c.loop-template.template-index ts ≡ [] = grind (arith, common_steps) in
    let all = filled_all (with_lent c.args.params.now c.args.locals.now) ts c.loop-template.values (rw none at c.loop-template.invariant) in
    rw (all, c.finish.ensures)

pub fill_members-fill_lent-requires : goal.fill_members-fill_lent-requires
fill_members-fill_lent-requires t c =
    let (can, finite, filled) = c.loop-name.invariant in
    let e : Named = (c.in-Some.name.now, c.in-Some.template.now) in
    let iter : c.loop-name.name-iterator ≡ e ∷ c.next.new.self = grind (arith, common_steps) in
    let all : c.args.templates.now.entries ≡ filled.done ++ e ∷ c.next.new.self = filled.split ∙ ap (λ es. filled.done ++ es) iter in
    let small : size_of c.in-Some.template.now ≤ parts_size (parts_of c.args.templates.now.entries) = part_within c.args.templates.now.entries filled.done e c.next.new.self all in
    (omega (arith, c.decreases), tt)

pub fill_members-loop-name-init : goal.fill_members-loop-name-init
fill_members-loop-name-init t c =
    (tt, tt, rw (c.into_iter-name-iterator.ensures.into_iter_gives, c.iter-name-items.ensures.rest, c.new-values.ensures) (filled_members_start (with_lent c.args.params.now c.args.locals.now) c.args.templates.now.entries))

pub fill_members-loop-name-preserved : goal.fill_members-loop-name-preserved
fill_members-loop-name-preserved t c =
    let (can, finite, filled) = c.loop-name.invariant in
    let e : Named = (c.in-Some.name.now, c.in-Some.template.now) in
    let iter : c.loop-name.name-iterator ≡ e ∷ c.next.new.self = grind (arith, common_steps) in
    let before : FilledMembers (with_lent c.args.params.now c.args.locals.now) c.args.templates.now.entries c.loop-name.values (e ∷ c.next.new.self) = rw iter at filled in
    let more = filled_members_more (with_lent c.args.params.now c.args.locals.now) c.args.templates.now.entries c.loop-name.values e c.next.new.self c.in_ok-value.value c.iter-name-items.ensures.ordered before c.in_ok-value.ensures.ok in
    (tt, tt, rw (c.in_ok-insert-in-Ok.ensures.ok, c.in-Ok.ensures, c.as_str.ensures.value) more)

pub fill_members-returns-in_err-value-clause-refused : goal.fill_members-returns-in_err-value-clause-refused
fill_members-returns-in_err-value-clause-refused t c =
    let (can, finite, filled) = c.loop-name.invariant in
    let e : Named = (c.in-Some.name.now, c.in-Some.template.now) in
    let iter : c.loop-name.name-iterator ≡ e ∷ c.next.new.self = grind (arith, common_steps) in
    let before : FilledMembers (with_lent c.args.params.now c.args.locals.now) c.args.templates.now.entries c.loop-name.values (e ∷ c.next.new.self) = rw iter at filled in
    let here : (f : FillFault) → value_of (with_lent c.args.params.now c.args.locals.now) c.in-Some.template.now ≡ Err f → with_value object (members_of (with_lent c.args.params.now c.args.locals.now) (parts_of c.args.templates.now.entries)) ≡ Err f =
    λ f h. rw (filled_members_fault (with_lent c.args.params.now c.args.locals.now) c.args.templates.now.entries c.loop-name.values e c.next.new.self f before h) in
    search (rules, here, c.from_residual.ensures, c.in_err-value.ensures.refused)

pub fill_members-returns-clause-ok : goal.fill_members-returns-clause-ok
fill_members-returns-clause-ok t c =
    let (can, finite, filled) = c.loop-name.invariant in
    let none : c.loop-name.name-iterator ≡ [] = grind (arith, common_steps) in
    let all = filled_members_all (with_lent c.args.params.now c.args.locals.now) c.args.templates.now.entries c.loop-name.values (rw none at filled) in
    rw (all, c.finish.ensures)
