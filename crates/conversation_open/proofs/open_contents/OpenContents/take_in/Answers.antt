use Rattle.std.proofs.Common.{suc, subst, sym}
use Rattle.number_windows.specs.Windows.{window_entries}
use Rattle.number_windows.specs.Numbered.{at, Above, Below}
use Rattle.number_windows.proofs.Numbered.{below_changed, above_changed}
use Rattle.conversation_ids.specs.Ways.{fits}
use Rattle.conversation_contents.specs.Settled.{IsSettledAt, and_removed, place_at}
use Rattle.conversation_open.specs.Open.{open_entries}
use Rattle.conversation_open.proofs.Indexed.{within_removed, indexed_same}
use Rattle.conversation_contents.proofs.Indexes.{settled_missing, settled_owed}
use Rattle.conversation_open.proofs.Uncancelled.{uncancelled_removed}
use Rattle.conversation_open.proofs.open_contents.OpenContents.take_in.Goals as goal

pub forget-requires : goal.forget-requires
forget-requires c =
    let es = open_entries c.args.self.now in
    let n = c.args.number in
    let place = place_at (fits c.args.way c.args.id.now) (at n es) in
    let one = settled_owed (at n es) place c.in-Some.settled (subst (IsSettledAt (at n es) place) c.in-Some.is c.take_at.ensures.settled) in
    record {
      window = c.take_at.ensures.window;
      above = subst (λ fs. Above 0 fs) (sym c.take_at.ensures.entries) (above_changed 0 n (and_removed place) es c.requires.above);
      below = subst (λ fs. Below (suc c.args.self.now.last) fs) (sym c.take_at.ensures.entries) (below_changed (suc c.args.self.now.last) n (and_removed place) es c.requires.below);
      indexed = within_removed c.in-Some.settled.marks one.0 one.1.1.0 one.1.1.1 c.args.self.now.index (window_entries c.take_at.new.dues) es n place c.requires.indexed c.take_at.ensures.entries one.1.0;
      uncancelled = λ on. uncancelled_removed (window_entries c.take_at.new.dues) es n place c.take_at.ensures.entries (c.requires.uncancelled on);
    }

pub returns-in-None-clause-stands : goal.returns-in-None-clause-stands
returns-in-None-clause-stands c =
    let es = open_entries c.args.self.now in
    let n = c.args.number in
    let place = place_at (fits c.args.way c.args.id.now) (at n es) in
    let none = settled_missing (at n es) place (subst (IsSettledAt (at n es) place) c.in-None.is c.take_at.ensures.settled) in
    record {
      window = c.take_at.ensures.window;
      above = subst (λ fs. Above 0 fs) (sym c.take_at.ensures.entries) (above_changed 0 n (and_removed place) es c.requires.above);
      below = subst (λ fs. Below (suc c.args.self.now.last) fs) (sym c.take_at.ensures.entries) (below_changed (suc c.args.self.now.last) n (and_removed place) es c.requires.below);
      indexed = indexed_same c.args.self.now.index (window_entries c.take_at.new.dues) es n place c.requires.indexed c.take_at.ensures.entries none;
      uncancelled = λ on. uncancelled_removed (window_entries c.take_at.new.dues) es n place c.take_at.ensures.entries (c.requires.uncancelled on);
    }
