use Rattle.std.proofs.Common.{◌∙◌, sym, refl}
use Rattle.number_windows.specs.Windows.{window_entries}
use Rattle.open_calls.specs.Theirs.{cancelled}
use Rattle.number_windows.proofs.Numbered.{unchanged}
use Rattle.number_windows.proofs.StandIns.{put}
use Rattle.open_calls.proofs.their_calls.cancel.Goals as goal

pub returns-in-Some-clause-entries : goal.returns-in-Some-clause-entries
returns-in-Some-clause-entries c =
    let call = c.in-Some.call.now in
    (c.get_mut.follows.holds (cancelled call)).0
    ∙ put c.args.number cancelled call (cancelled call) (window_entries c.args.calls.now) c.requires.ordered (sym c.in-Some.ensures.value) refl

pub returns-in_default-clause-entries : goal.returns-in_default-clause-entries
returns-in_default-clause-entries c =
    c.get_mut.follows.holds-at-none.0 ∙ unchanged c.args.number cancelled (window_entries c.args.calls.now) (sym c.in_default.ensures.value)
