use Rattle.std.proofs.Common.{◌∙◌, ap}
use Rattle.number_windows.specs.Numbered.{changed_at}
use Rattle.number_windows.specs.Windows.{window_entries}
use Rattle.conversation_contents.specs.Settled.{and_owed}
use Rattle.conversation_open.proofs.StandIns.{put_back, put_same, none_there}
use Rattle.conversation_contents.proofs.Cases.{if_ok, if_err}
use Rattle.conversation_open.proofs.in_window.push_at.Goals as goal

pub returns-in-Ok-clause-ok : goal.returns-in-Ok-clause-ok
returns-in-Ok-clause-ok c =
    if_ok c.push-pushed.result
    (λ pushed. c.replace-in-Ok.ensures.entries
    ∙ ap (λ es. changed_at c.args.number (λ _. c.push-pushed.new.self) es) c.replace.ensures.entries
    ∙ put_back c.args.number (and_owed c.args.owed) c.in-Ok.due c.stand_in.result c.push-pushed.new.self (window_entries c.args.dues.now) c.requires.ordered c.in-Ok.ensures.was pushed)
    c.push-pushed.ensures.ok

pub returns-in-Ok-clause-err : goal.returns-in-Ok-clause-err
returns-in-Ok-clause-err c =
    if_err c.push-pushed.result
    (λ same. c.replace-in-Ok.ensures.entries
    ∙ ap (λ es. changed_at c.args.number (λ _. c.push-pushed.new.self) es) c.replace.ensures.entries
    ∙ put_same c.args.number c.in-Ok.due c.stand_in.result c.push-pushed.new.self (window_entries c.args.dues.now) c.requires.ordered c.in-Ok.ensures.was same)
    c.push-pushed.ensures.err

pub returns-in-Err-clause-ok : goal.returns-in-Err-clause-ok
returns-in-Err-clause-ok c =
    c.replace.ensures.entries ∙ none_there c.args.number (and_owed c.args.owed) c.stand_in.result (window_entries c.args.dues.now) c.in-Err.ensures.missing.1
