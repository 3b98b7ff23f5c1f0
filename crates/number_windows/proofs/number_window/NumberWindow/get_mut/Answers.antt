use Rattle.std.proofs.Common.{◌≡◌, ◌++◌, Some, None, set, ap, sym, refl, ◌∙◌}
use Rattle.std.specs.VecDeque.{deque_with_item}
use Rattle.number_windows.specs.Numbered.{at}
use Rattle.number_windows.specs.Windows.{page_entries}
use Rattle.number_windows.proofs.Rows.{ascending_behind, at_index, changed_index, got_behind, at_front, changed_behind, changed_front}
use Rattle.number_windows.proofs.Kept.{same_window, changed_window}
use Rattle.number_windows.proofs.number_window.NumberWindow.get_mut.Goals as goal

pub place-requires : goal.place-requires
place-requires g c = ascending_behind (page_entries c.args.self.now.older) c.args.self.now.recent.items c.requires.ordered

pub returns-in-Some : goal.returns-in-Some
returns-in-Some g c =
    let was = c.args.self.now in
    let n = c.args.number in
    let recent = was.recent in
    let index = c.in-Some.index in
    let entry = c.index_mut.result.now in
    let found = c.in-Some.ensures.found in
    let order = ascending_behind (page_entries was.older) recent.items c.requires.ordered in
    let there : at n recent.items ≡ Some entry.1 =
    at_index n recent.items index entry order found.0 (found.1 entry) ∙ ap (λ e. Some e.1) (sym c.index_mut.ensures.value) in (
      (
        refl,
        (λ w.
            let is =
            ap (λ t. page_entries was.older ++ t)
            (ap (λ e. set recent.items index (e.0, w)) c.index_mut.ensures.value ∙ changed_index n (λ _. w) recent.items index entry order found.0 (found.1 entry))
            ∙ changed_behind n (λ _. w) entry.1 (page_entries was.older) recent.items c.requires.ordered there in
            (is, changed_window n (λ _. w) was (record was { recent = deque_with_item recent index (entry.0, w) }) c.requires is c.requires.older refl refl refl refl)),
        (refl, c.requires),
      ),
      record { writes_back = tt; value = sym (got_behind n entry.1 (page_entries was.older) recent.items c.requires.ordered there) },
    )

pub returns-in-None : goal.returns-in-None
returns-in-None g c =
    let was = c.args.self.now in
    let n = c.args.number in
    let none : at n was.recent.items ≡ None = c.in-None.ensures.missing in
    let same = ap (λ s. s ++ was.recent.items) c.get_mut.follows.holds-at-none.0 in (
      (
        refl,
        (λ w.
            let holds = c.get_mut.follows.holds w in
            let is = ap (λ s. s ++ was.recent.items) holds.0 ∙ changed_front n (λ _. w) (page_entries was.older) was.recent.items none in
            (is, changed_window n (λ _. w) was (record was { older = c.get_mut.follows.lender w }) c.requires is holds.1 refl refl refl refl)),
        (same, same_window was (record was { older = c.get_mut.follows.lender-at-none }) c.requires same c.get_mut.follows.holds-at-none.1 refl refl refl refl),
      ),
      record { writes_back = tt; value = c.get_mut.ensures.value ∙ sym (at_front n (page_entries was.older) was.recent.items none) },
    )
