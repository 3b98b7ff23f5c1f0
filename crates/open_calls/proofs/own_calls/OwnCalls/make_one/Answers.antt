use Rattle.std.proofs.Common.{◌≡◌, ◌+◌, ◌++◌, ◌∷◌, [], suc, Some, subst, sym, arith, add-one}
use Rattle.number_windows.specs.Windows.{window_entries}
use Rattle.number_windows.specs.Numbered.{up_to, Above, Below}
use Rattle.open_calls.specs.Own.{new_call}
use Rattle.number_windows.proofs.Numbered.{below_push, above_push, at_below}
use Rattle.number_windows.proofs.Rows.{at_come}
use Rattle.open_calls.proofs.Newest.{newer_changes}
use Rattle.open_calls.proofs.Own.{index_seen}
use Rattle.open_calls.proofs.own_calls.OwnCalls.make_one.Goals as goal

pub invariant_of-self-2 : goal.invariant_of-self-2
invariant_of-self-2 c =
    let between = window_entries c.make_room.new.self in
    let now = window_entries c.push.new.self in
    let key = c.self.inside.made + 1 in
    let call = new_call c.args.caller in
    let under : Below key between = rw add-one (subst (λ fs. Below (suc c.self.inside.made) fs) (sym c.make_room.ensures.entries) c.self.invariant.numbered) in
    let is : now ≡ between ++ (key, call) ∷ [] = c.push.ensures.entries in
    let indexed = c.in_ok-indexed.indexed in
    let past = c.in_ok-indexed.ensures.ok in
    record {
      window = c.push.ensures.window;
      positive = subst (λ fs. Above 0 fs) (sym is) (above_push 0 key call between (omega arith) (subst (λ fs. Above 0 fs) (sym c.make_room.ensures.entries) c.self.invariant.positive));
      numbered = subst (λ fs. Below (suc key) fs) (sym is) (below_push key (suc key) key call between (omega arith) (omega arith) under);
      within = omega (arith, past.0);
      few = omega (arith, past.1);
      by_caller = index_seen c.index_older.new.by_caller (up_to indexed between) (up_to indexed now) past.2
          (newer_changes indexed key (Some call) between now (omega (arith, past.0)) (at_come key call between now is (at_below key between under)));
    }
