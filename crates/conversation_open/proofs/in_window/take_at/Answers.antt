use Rattle.std.proofs.Common.{◌∙◌, ap, sym, subst, None}
use Rattle.number_windows.specs.Numbered.{at, changed_at}
use Rattle.number_windows.specs.Windows.{window_entries}
use Rattle.conversation_ids.specs.Ways.{fits}
use Rattle.conversation_open.proofs.StandIns.{put_back, none_there}
use Rattle.conversation_contents.specs.Settled.{IsSettledAt, and_removed, place_at}
use Rattle.conversation_open.proofs.in_window.take_at.Goals as goal

pub returns-in-Ok-clause-settled : goal.returns-in-Ok-clause-settled
returns-in-Ok-clause-settled c =
    subst (λ o. IsSettledAt o (place_at (fits c.args.way c.args.id.now) o) c.take_first-settled.result) (sym c.in-Ok.ensures.was) c.take_first-settled.ensures.settled

pub returns-in-Ok-clause-entries : goal.returns-in-Ok-clause-entries
returns-in-Ok-clause-entries c =
    let es = window_entries c.args.dues.now in
    let place = place_at (fits c.args.way c.args.id.now) (at c.args.number es) in
    c.replace-in-Ok.ensures.entries
    ∙ ap (λ es. changed_at c.args.number (λ _. c.take_first-settled.new.self) es) c.replace.ensures.entries
    ∙ put_back c.args.number (and_removed place) c.in-Ok.due c.stand_in.result c.take_first-settled.new.self es c.requires.ordered c.in-Ok.ensures.was
    (c.take_first-settled.ensures.entries ∙ ap (λ o. and_removed (place_at (fits c.args.way c.args.id.now) o) c.in-Ok.due) (sym c.in-Ok.ensures.was))

pub returns-clause-entries : goal.returns-clause-entries
returns-clause-entries c =
    let es = window_entries c.args.dues.now in
    c.replace.ensures.entries ∙ none_there c.args.number (and_removed (place_at (fits c.args.way c.args.id.now) (at c.args.number es))) c.stand_in.result es c.in-Err.ensures.missing.1

pub returns-clause-settled : goal.returns-clause-settled
returns-clause-settled c =
    subst (λ o. IsSettledAt o (place_at (fits c.args.way c.args.id.now) o) None) (sym c.in-Err.ensures.missing.1) tt
