use Rattle.std.proofs.Common.{◌∙◌, ap, subst, false, if◌then◌else◌}
use Rattle.std.specs.Option.{option_map_or}
use Rattle.number_windows.specs.Numbered.{at, without, changed_at}
use Rattle.conversation_ids.specs.Ways.{fits}
use Rattle.conversation_open.proofs.Changed.{taken_off}
use Rattle.conversation_contents.proofs.Indexes.{settled_fit, settled_last, settled_none}
use Rattle.conversation_contents.specs.Settled.{IsSettledAt, and_removed, is_empty, place_at}
use Rattle.conversation_open.specs.Open.{open_entries}
use Rattle.conversation_open.proofs.open_contents.OpenContents.settle_first.Goals as goal

pub returns-in-Some-clause-fit : goal.returns-in-Some-clause-fit
returns-in-Some-clause-fit c =
    let o = at c.args.number (open_entries c.args.self.now) in
    let place = place_at (fits c.args.way c.args.id.now) o in
    settled_fit o place c.in-Some.settled (subst (IsSettledAt o place) c.in-Some.is c.take_in.ensures.settled)

pub returns-in-Some-clause-entries : goal.returns-in-Some-clause-entries
returns-in-Some-clause-entries c =
    let es = open_entries c.args.self.now in
    let n = c.args.number in
    let place = place_at (fits c.args.way c.args.id.now) (at n es) in
    let f = and_removed place in
    c.remove_if.ensures.entries
    ∙ ap (λ fs. if c.in-Some.settled.is_last then without n fs else fs) c.take_in.ensures.entries
    ∙ ap (λ fs. if c.in-Some.settled.is_last then fs else changed_at n f es) (taken_off n f es)
    ∙ ap (λ b. if b then without n es else changed_at n f es) (settled_last n place es c.in-Some.settled (subst (IsSettledAt (at n es) place) c.in-Some.is c.take_in.ensures.settled))

pub returns-in-None-clause-fit : goal.returns-in-None-clause-fit
returns-in-None-clause-fit c =
    let o = at c.args.number (open_entries c.args.self.now) in
    let place = place_at (fits c.args.way c.args.id.now) o in
    settled_none o place (subst (IsSettledAt o place) c.in-None.is c.take_in.ensures.settled)

pub returns-in-None-clause-entries : goal.returns-in-None-clause-entries
returns-in-None-clause-entries c =
    let es = open_entries c.args.self.now in
    let n = c.args.number in
    let f = and_removed (place_at (fits c.args.way c.args.id.now) (at n es)) in
    c.remove_if-in-None.ensures.entries
    ∙ ap (λ fs. if c.is_empty_at.result then without n fs else fs) c.take_in.ensures.entries
    ∙ ap (λ b. if b then without n (changed_at n f es) else changed_at n f es) (c.is_empty_at.ensures ∙ ap (λ fs. option_map_or is_empty (at n fs) false) c.take_in.ensures.entries)
    ∙ ap (λ fs. if option_map_or is_empty (at n (changed_at n f es)) false then fs else changed_at n f es) (taken_off n f es)
