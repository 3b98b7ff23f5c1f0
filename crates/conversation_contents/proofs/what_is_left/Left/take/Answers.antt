use Rattle.std.proofs.Common.{◌==◌, not, ◌∙◌, ap, sym, subst, refl}
use Rattle.std.specs.List.{slice_get}
use Rattle.number_windows.specs.Numbered.{Above, Below}
use Rattle.number_windows.specs.Windows.{window_entries}
use Rattle.number_windows.proofs.Numbered.{above_filter, below_filter}
use Rattle.conversation_contents.proofs.Lists.{at_index, removed_is}
use Rattle.conversation_contents.proofs.Places.{noted_gone}
use Rattle.conversation_contents.specs.Left.{left_entries, values_of}
use Rattle.conversation_contents.proofs.what_is_left.Left.take.Goals as goal

pub returns-in-Some-clause-places : goal.returns-in-Some-clause-places
returns-in-Some-clause-places c = ap values_of c.remove.ensures.entries ∙ sym (removed_is c.args.number (left_entries c.args.self.now) c.requires.window.ordered)

pub returns-in-Some-clause-place : goal.returns-in-Some-clause-place
returns-in-Some-clause-place c = sym c.in-Some.is ∙ c.remove.ensures.value ∙ sym (at_index c.args.number (left_entries c.args.self.now))

pub returns-in-Some-clause-findable : goal.returns-in-Some-clause-findable
returns-in-Some-clause-findable c =
    let es = left_entries c.args.self.now in
    record {
      window = c.remove.ensures.window;
      above = subst (λ fs. Above 0 fs) (sym c.remove.ensures.entries) (above_filter 0 (λ e. not (c.args.number == e.0)) es c.requires.above);
      noted = noted_gone (slice_get c.args.entries.now) c.forget_at.new.marks c.args.self.now.marks (window_entries c.remove.new.self) es c.args.number c.requires.noted c.remove.ensures.entries c.forget_at.ensures;
    }

pub returns-in-Some-clause-below : goal.returns-in-Some-clause-below
returns-in-Some-clause-below c = λ bound under. subst (λ fs. Below bound fs) (sym c.remove.ensures.entries) (below_filter bound (λ e. not (c.args.number == e.0)) (left_entries c.args.self.now) under)

pub returns-in-None-clause-places : goal.returns-in-None-clause-places
returns-in-None-clause-places c = ap values_of c.remove.ensures.entries ∙ sym (removed_is c.args.number (left_entries c.args.self.now) c.requires.window.ordered)

pub returns-in-None-clause-place : goal.returns-in-None-clause-place
returns-in-None-clause-place c = sym c.in-None.is ∙ c.remove.ensures.value ∙ sym (at_index c.args.number (left_entries c.args.self.now))

pub returns-in-None-clause-findable : goal.returns-in-None-clause-findable
returns-in-None-clause-findable c =
    let es = left_entries c.args.self.now in
    record {
      window = c.remove.ensures.window;
      above = subst (λ fs. Above 0 fs) (sym c.remove.ensures.entries) (above_filter 0 (λ e. not (c.args.number == e.0)) es c.requires.above);
      noted = noted_gone (slice_get c.args.entries.now) c.args.self.now.marks c.args.self.now.marks (window_entries c.remove.new.self) es c.args.number c.requires.noted c.remove.ensures.entries (λ m n apart. refl);
    }

pub returns-in-None-clause-below : goal.returns-in-None-clause-below
returns-in-None-clause-below c = λ bound under. subst (λ fs. Below bound fs) (sym c.remove.ensures.entries) (below_filter bound (λ e. not (c.args.number == e.0)) (left_entries c.args.self.now) under)
