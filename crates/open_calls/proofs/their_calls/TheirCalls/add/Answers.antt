use Rattle.std.proofs.Common.{◌≡◌, ◌+◌, ◌++◌, ◌∷◌, [], suc, Some, ◌∙◌, ap, subst, sym, arith, add-one}
use Rattle.number_windows.specs.Windows.{window_entries}
use Rattle.number_windows.specs.Numbered.{Below, up_to}
use Rattle.open_calls.specs.Theirs.{new_call}
use Rattle.number_windows.proofs.Numbered.{below_push, at_below}
use Rattle.open_calls.proofs.States.{through}
use Rattle.number_windows.proofs.Rows.{at_come}
use Rattle.open_calls.proofs.Newest.{newer_changes}
use Rattle.open_calls.proofs.Theirs.{state_of, same_calls, index_seen}
use Rattle.open_calls.proofs.their_calls.TheirCalls.add.Goals as goal

pub invariant_of-self-2 : goal.invariant_of-self-2
invariant_of-self-2 c =
    let es = window_entries c.self.inside.calls in
    let between = window_entries c.make_room.new.self in
    let number = c.self.inside.came + 1 in
    let call = new_call c.args.id c.args.place c.args.slot in
    let under : Below number between = rw add-one (subst (λ fs. Below (suc c.self.inside.came) fs) (sym c.make_room.ensures.entries) c.self.invariant.numbered) in
    let now = window_entries c.push.new.self in
    let is : now ≡ between ++ (number, call) ∷ [] = c.push.ensures.entries in
    let indexed = c.in_ok-indexed.indexed in
    record {
      window = c.push.ensures.window;
      numbered = subst (λ fs. Below (suc number) fs) (sym is) (below_push number (suc number) number call between (omega arith) (omega arith) under);
      within = omega (arith, c.in_ok-indexed.ensures.ok.0);
      few = omega (arith, c.in_ok-indexed.ensures.ok.1);
      by_id = index_seen c.index_older.new.by_id (up_to indexed between) (up_to indexed now) c.in_ok-indexed.ensures.ok.2
          (newer_changes indexed number (Some call) between now (omega (arith, c.in_ok-indexed.ensures.ok.0)) (at_come number call between now is (at_below number between under)));
    }

pub returns-clause-ok : goal.returns-clause-ok
returns-clause-ok c =
    let es = window_entries c.self.inside.calls in
    let number = c.self.inside.came + 1 in
    let call = new_call c.args.id c.args.place c.args.slot in
    through (λ s. state_of (s.came + 1) (s.calls ++ (s.came + 1, call) ∷ [])) _ _ c.args.self.now c.self.view_is
    (same_calls number (window_entries c.push.new.self) (es ++ (number, call) ∷ []) (c.push.ensures.entries ∙ ap (λ s. s ++ (number, call) ∷ []) c.make_room.ensures.entries))
