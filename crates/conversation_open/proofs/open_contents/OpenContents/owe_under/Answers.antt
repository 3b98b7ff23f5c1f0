use Rattle.std.proofs.Common.{suc, subst, sym}
use Rattle.number_windows.specs.Windows.{window_entries}
use Rattle.number_windows.specs.Numbered.{Above, Below, at}
use Rattle.number_windows.proofs.Numbered.{below_changed, above_changed}
use Rattle.conversation_open.specs.Open.{open_entries, AreUncancelled, IsIndexed}
use Rattle.conversation_contents.specs.Settled.{and_owed}
use Rattle.conversation_open.specs.Within.{IsIndexedWithin}
use Rattle.conversation_open.proofs.Entries.{parts_of}
use Rattle.conversation_open.proofs.Indexed.{indexed_owed, within_owed}
use Rattle.conversation_open.proofs.Lasts.{from_some}
use Rattle.conversation_contents.proofs.Cases.{if_ok, if_err, on_err}
use Rattle.conversation_open.proofs.Uncancelled.{uncancelled_owed}
use Rattle.conversation_open.proofs.open_contents.OpenContents.owe_under.Goals as goal

pub returns-clause-stands : goal.returns-clause-stands
returns-clause-stands c =
    let es = open_entries c.args.self.now in
    let f = and_owed c.args.owed in
    let now = window_entries c.push_at.new.dues in
    if_ok c.push_at.result
    (λ is. record {
      window = c.push_at.ensures.window;
      above = subst (λ fs. Above 0 fs) (sym is) (above_changed 0 c.args.number f es c.requires.stands.above);
      below = subst (λ fs. Below (suc c.args.self.now.last) fs) (sym is) (below_changed (suc c.args.self.now.last) c.args.number f es c.requires.stands.below);
      indexed = from_some (at c.args.number es) c.requires.there (IsIndexed c.note_entry.new.self now)
          (λ due there. indexed_owed c.args.entry.now c.args.owed c.requires.entry c.requires.request c.note_entry.new.self c.args.self.now.index now es c.args.number due c.is_batch_at-is_batch.result c.requires.stands.indexed is there
          (c.is_batch_at-is_batch.ensures due there) c.in_ok-note_entry.ensures.noted c.note_entry.ensures.others c.note_entry.ensures.other_kind);
      uncancelled = uncancelled_owed now es c.args.number c.args.owed c.args.self.now.due_are_uncancelled c.is_uncancelled_if_due.result is c.is_uncancelled_if_due.ensures c.requires.stands.uncancelled;
    })
    c.push_at.ensures.ok

pub returns-clause-within : goal.returns-clause-within
returns-clause-within c =
    let es = open_entries c.args.self.now in
    let now = window_entries c.push_at.new.dues in
    if_err c.push_at.result
    (λ is. record {
      window = c.push_at.ensures.window;
      above = subst (λ fs. Above 0 fs) (sym is) c.requires.stands.above;
      below = subst (λ fs. Below (suc c.args.self.now.last) fs) (sym is) c.requires.stands.below;
      indexed = subst (IsIndexedWithin c.args.entry.now c.args.number c.note_entry.new.self) (sym is) (from_some (at c.args.number es) c.requires.there (IsIndexedWithin c.args.entry.now c.args.number c.note_entry.new.self es)
          (λ due there. within_owed c.args.entry.now c.note_entry.new.self c.args.self.now.index es c.args.number due c.is_batch_at-is_batch.result c.requires.stands.indexed there
          (c.is_batch_at-is_batch.ensures due there) c.note_entry.ensures.kept c.note_entry.ensures.others c.note_entry.ensures.other_kind));
      uncancelled = λ both. subst AreUncancelled (sym is) (c.requires.stands.uncancelled (parts_of c.args.self.now.due_are_uncancelled c.is_uncancelled_if_due.result both).0);
    })
    c.push_at.ensures.err

pub returns-in_err-note_entry-clause-within : goal.returns-in_err-note_entry-clause-within
returns-in_err-note_entry-clause-within c =
    let es = open_entries c.args.self.now in
    on_err c.from_residual.result (record {
      window = c.requires.stands.window;
      above = c.requires.stands.above;
      below = c.requires.stands.below;
      indexed = from_some (at c.args.number es) c.requires.there (IsIndexedWithin c.args.entry.now c.args.number c.note_entry.new.self es)
          (λ due there. within_owed c.args.entry.now c.note_entry.new.self c.args.self.now.index es c.args.number due c.is_batch_at-is_batch.result c.requires.stands.indexed there
          (c.is_batch_at-is_batch.ensures due there) c.note_entry.ensures.kept c.note_entry.ensures.others c.note_entry.ensures.other_kind);
      uncancelled = c.requires.stands.uncancelled;
    })
