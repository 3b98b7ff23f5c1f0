use Rattle.std.proofs.Common.{◌==◌, suc, subst, sym, ap, ◌∙◌}
use Rattle.conversation_ids.specs.OwedMarks.{is_mark}
use Rattle.number_windows.specs.Windows.{window_entries}
use Rattle.number_windows.specs.Numbered.{Above, Below}
use Rattle.number_windows.proofs.Numbered.{below_changed, above_changed}
use Rattle.conversation_rules.specs.Dues.{cancelled_in}
use Rattle.conversation_open.specs.Open.{open_entries}
use Rattle.conversation_open.proofs.Indexed.{within_cancelled}
use Rattle.conversation_open.proofs.Uncancelled.{uncancelled_settled}
use Rattle.conversation_open.proofs.open_contents.OpenContents.cancel_in.Goals as goal

pub forget-requires : goal.forget-requires
forget-requires c =
    let es = open_entries c.args.self.now in
    let now = window_entries c.cancel_at.new.dues in
    record {
      window = c.cancel_at.ensures.window;
      above = subst (λ fs. Above 0 fs) (sym c.cancel_at.ensures.entries) (above_changed 0 c.args.number (cancelled_in c.args.settles c.args.id.now) es c.requires.above);
      below = subst (λ fs. Below (suc c.args.self.now.last) fs) (sym c.cancel_at.ensures.entries) (below_changed (suc c.args.self.now.last) c.args.number (cancelled_in c.args.settles c.args.id.now) es c.requires.below);
      indexed = within_cancelled c.of_request.result c.args.self.now.index now es c.args.number c.args.settles c.args.id.now c.requires.indexed c.cancel_at.ensures.entries
          (λ mark. ap (λ entry. is_mark entry.request mark) c.of_request.ensures ∙ ap (λ own. own == mark) c.mark_of.ensures);
      uncancelled = uncancelled_settled now es c.args.number c.args.self.now.due_are_uncancelled c.args.settles c.args.id.now c.cancel_at.ensures.entries c.requires.uncancelled;
    }
