use Rattle.std.proofs.Common.{◌==◌, not, suc, subst, sym}
use Rattle.number_windows.specs.Windows.{window_entries}
use Rattle.number_windows.specs.Numbered.{Above, Below}
use Rattle.number_windows.proofs.Numbered.{below_filter, above_filter}
use Rattle.conversation_open.specs.Open.{open_entries}
use Rattle.conversation_open.proofs.Indexed.{indexed_gone, indexed_less}
use Rattle.conversation_open.proofs.Uncancelled.{uncancelled_gone}
use Rattle.conversation_open.proofs.open_contents.OpenContents.remove.Goals as goal

pub returns-in-Some-clause-stands : goal.returns-in-Some-clause-stands
returns-in-Some-clause-stands c =
    let es = open_entries c.args.self.now in
    let now = window_entries c.remove.new.self in
    record {
      window = c.remove.ensures.window;
      above = subst (λ fs. Above 0 fs) (sym c.remove.ensures.entries) (above_filter 0 (λ e. not (c.args.number == e.0)) es c.requires.above);
      below = subst (λ fs. Below (suc c.args.self.now.last) fs) (sym c.remove.ensures.entries) (below_filter (suc c.args.self.now.last) (λ e. not (c.args.number == e.0)) es c.requires.below);
      indexed = indexed_gone c.forget_content.new.self c.args.self.now.index now es c.args.number c.in-Some.due c.requires.indexed c.remove.ensures.entries (sym c.in-Some.ensures.value) c.forget_content.ensures.here c.forget_content.ensures.other_kind;
      uncancelled = λ on. uncancelled_gone now es c.args.number c.remove.ensures.entries (c.requires.uncancelled on);
    }

pub returns-in_default-clause-stands : goal.returns-in_default-clause-stands
returns-in_default-clause-stands c =
    let es = open_entries c.args.self.now in
    let now = window_entries c.remove.new.self in
    record {
      window = c.remove.ensures.window;
      above = subst (λ fs. Above 0 fs) (sym c.remove.ensures.entries) (above_filter 0 (λ e. not (c.args.number == e.0)) es c.requires.above);
      below = subst (λ fs. Below (suc c.args.self.now.last) fs) (sym c.remove.ensures.entries) (below_filter (suc c.args.self.now.last) (λ e. not (c.args.number == e.0)) es c.requires.below);
      indexed = indexed_less c.args.self.now.index now es c.args.number c.requires.indexed c.remove.ensures.entries (sym c.in_default.ensures.value);
      uncancelled = λ on. uncancelled_gone now es c.args.number c.remove.ensures.entries (c.requires.uncancelled on);
    }
