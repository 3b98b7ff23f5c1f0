use Rattle.std.proofs.Common.{◌∙◌, ap}
use Rattle.conversation_rules.specs.Dues.{cancelled_in}
use Rattle.number_windows.specs.Numbered.{changed_at}
use Rattle.number_windows.specs.Windows.{window_entries}
use Rattle.conversation_open.proofs.StandIns.{put_back, none_there}
use Rattle.conversation_open.proofs.in_window.cancel_at.Goals as goal

pub returns-in-Ok-clause-entries : goal.returns-in-Ok-clause-entries
returns-in-Ok-clause-entries c =
    c.replace-in-Ok.ensures.entries
    ∙ ap (λ es. changed_at c.args.number (λ _. c.cancel.new.self) es) c.replace.ensures.entries
    ∙ put_back c.args.number (cancelled_in c.args.settles c.args.id.now) c.in-Ok.due c.stand_in.result c.cancel.new.self (window_entries c.args.dues.now) c.requires.ordered c.in-Ok.ensures.was c.cancel.ensures

pub returns-in_default-clause-entries : goal.returns-in_default-clause-entries
returns-in_default-clause-entries c =
    c.replace.ensures.entries ∙ none_there c.args.number (cancelled_in c.args.settles c.args.id.now) c.stand_in.result (window_entries c.args.dues.now) c.in_default.ensures.missing.1
