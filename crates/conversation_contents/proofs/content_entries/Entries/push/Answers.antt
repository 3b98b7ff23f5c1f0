use Rattle.std.proofs.Common.{◌∙◌, ap, sym, subst, length, option_map}
use Rattle.std.specs.List.{slice_get}
use Rattle.conversation_contents.proofs.Indexes.{findable_longer, push_err, push_ok, push_stands}
use Rattle.conversation_contents.specs.Entries.{AreAmong, IsIndexOf, index_of_entries}
use Rattle.conversation_contents.specs.Left.{IsFindable}
use Rattle.conversation_contents.proofs.content_entries.Entries.push.Goals as goal

pub add-requires-clause-findable : goal.add-requires-clause-findable
add-requires-clause-findable c =
    let was = c.args.self.now.slots.items in
    let index : IsIndexOf was c.in-Some.left.value = subst (AreAmong was) (ap (option_map (λ boxed. boxed.value)) c.in-Some.is) c.requires in
    subst (λ left. IsFindable (slice_get c.as_slice.result.now) left) (sym c.deref_mut.ensures.value)
    (subst (λ slots. IsFindable (slice_get slots) c.in-Some.left.value) (sym (c.as_slice.ensures.value ∙ c.in_ok-push.ensures.items)) (findable_longer was c.args.owed c.in-Some.left.value index))

pub returns-in-Some-clause-ok : goal.returns-in-Some-clause-ok
returns-in-Some-clause-ok c =
    push_ok c.add.result c.args.self.now.slots.items c.push.new.self.items c.args.owed (index_of_entries c.args.self.now) c.in-Some.left.value c.deref_mut.result.now c.add.new.self (length c.as_slice-place.result.now)
    c.requires (ap (option_map (λ boxed. boxed.value)) c.in-Some.is) c.deref_mut.ensures.value c.in_ok-push.ensures.items (ap length c.as_slice-place.ensures.value) c.add.ensures.ok

pub returns-in-Some-clause-err : goal.returns-in-Some-clause-err
returns-in-Some-clause-err c =
    push_err c.add.result c.args.self.now.slots.items c.push.new.self.items c.args.owed (index_of_entries c.args.self.now) c.in-Some.left.value c.deref_mut.result.now c.add.new.self
    c.requires (ap (option_map (λ boxed. boxed.value)) c.in-Some.is) c.deref_mut.ensures.value c.in_ok-push.ensures.items c.add.ensures.err

pub returns-in-Some-clause-stands : goal.returns-in-Some-clause-stands
returns-in-Some-clause-stands c =
    push_stands c.add.result c.args.self.now.slots.items c.push.new.self.items c.as_slice.result.now c.args.owed (index_of_entries c.args.self.now) c.in-Some.left.value c.deref_mut.result.now c.add.new.self (length c.as_slice-place.result.now)
    c.requires (ap (option_map (λ boxed. boxed.value)) c.in-Some.is) c.deref_mut.ensures.value c.in_ok-push.ensures.items c.as_slice.ensures.value (ap length c.as_slice-place.ensures.value) c.add.ensures.ok c.add.ensures.err c.add.ensures.findable c.add.ensures.below
