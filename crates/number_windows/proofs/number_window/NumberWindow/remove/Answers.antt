use Rattle.std.proofs.Common.{◌≡◌, ◌++◌, ◌==◌, Some, None, not, suc, length, ap, sym, ◌∙◌, subst, arith}
use Rattle.number_windows.specs.Numbered.{at, without, Ascending, Below}
use Rattle.number_windows.specs.Windows.{page_entries, window_entries}
use Rattle.number_windows.proofs.Numbered.{below_filter}
use Rattle.number_windows.proofs.Rows.{ascending_behind, ascending_without, got_behind, at_front, without_behind, without_front, without_missing, length_without}
use Rattle.number_windows.proofs.number_window.NumberWindow.remove.Goals as goal

pub take_out-requires : goal.take_out-requires
take_out-requires g c = ascending_behind (page_entries c.args.self.now.older) c.args.self.now.recent.items c.requires.ordered

pub returns-in-Some-clause-value : goal.returns-in-Some-clause-value
returns-in-Some-clause-value g c =
    let now = c.args.self.now in
    sym (got_behind c.args.number c.in-Some.value (page_entries now.older) now.recent.items c.requires.ordered (sym c.in-Some.ensures.value))

pub returns-in-Some-clause-entries : goal.returns-in-Some-clause-entries
returns-in-Some-clause-entries g c =
    let now = c.args.self.now in
    ap (λ t. page_entries now.older ++ t) c.take_out.ensures.items
    ∙ without_behind c.args.number c.in-Some.value (page_entries now.older) now.recent.items c.requires.ordered (sym c.in-Some.ensures.value)

pub returns-in-Some-clause-window : goal.returns-in-Some-clause-window
returns-in-Some-clause-window g c =
    let now = c.args.self.now in
    let n = c.args.number in
    let there : at n now.recent.items ≡ Some c.in-Some.value = sym c.in-Some.ensures.value in
    let is : page_entries now.older ++ c.take_out.new.block.items ≡ without n (window_entries now) =
    ap (λ t. page_entries now.older ++ t) c.take_out.ensures.items ∙ without_behind n c.in-Some.value (page_entries now.older) now.recent.items c.requires.ordered there in
    record {
      ordered = subst Ascending (sym is) (ascending_without n (window_entries now) c.requires.ordered);
      older = c.requires.older;
      few = omega (arith, c.take_out.ensures.len, c.requires.few);
      fits = omega (arith, c.take_out.ensures.len, c.take_out.ensures.room, c.requires.fits);
      counted = omega (
        arith,
        c.requires.counted,
        ap length is,
        length_without n c.in-Some.value (window_entries now) c.requires.ordered (got_behind n c.in-Some.value (page_entries now.older) now.recent.items c.requires.ordered there),
      );
      topped = subst (λ fs. Below (suc now.top) fs) (sym is) (below_filter (suc now.top) (λ e. not (n == e.0)) (window_entries now) c.requires.topped);
    }

pub returns-in-Some-remove-clause-value : goal.returns-in-Some-remove-clause-value
returns-in-Some-remove-clause-value g c =
    let now = c.args.self.now in
    c.in-Some-remove.ensures.value ∙ sym (at_front c.args.number (page_entries now.older) now.recent.items (sym c.in_default.ensures.value))

pub returns-in-Some-remove-clause-window : goal.returns-in-Some-remove-clause-window
returns-in-Some-remove-clause-window g c =
    let now = c.args.self.now in
    let n = c.args.number in
    let none : at n now.recent.items ≡ None = sym c.in_default.ensures.value in
    let there : at n (window_entries now) ≡ Some c.in-Some-remove.value = at_front n (page_entries now.older) now.recent.items none ∙ sym c.in-Some-remove.ensures.value in
    let is : page_entries c.remove.new.self ++ c.take_out.new.block.items ≡ without n (window_entries now) =
    ap (λ t. page_entries c.remove.new.self ++ t) (c.take_out.ensures.items ∙ without_missing n now.recent.items none)
    ∙ ap (λ s. s ++ now.recent.items) c.remove.ensures.entries ∙ without_front n (page_entries now.older) now.recent.items none in
    record {
      ordered = subst Ascending (sym is) (ascending_without n (window_entries now) c.requires.ordered);
      older = c.remove.ensures.pages;
      few = omega (arith, c.take_out.ensures.len, c.requires.few);
      fits = omega (arith, c.take_out.ensures.len, c.take_out.ensures.room, c.requires.fits);
      counted = omega (arith, c.requires.counted, ap length is, length_without n c.in-Some-remove.value (window_entries now) c.requires.ordered there);
      topped = subst (λ fs. Below (suc now.top) fs) (sym is) (below_filter (suc now.top) (λ e. not (n == e.0)) (window_entries now) c.requires.topped);
    }

pub returns-in-None-clause-value : goal.returns-in-None-clause-value
returns-in-None-clause-value g c =
    let now = c.args.self.now in
    c.in-None.ensures.value ∙ sym (at_front c.args.number (page_entries now.older) now.recent.items (sym c.in_default.ensures.value))

pub returns-in-None-clause-window : goal.returns-in-None-clause-window
returns-in-None-clause-window g c =
    let now = c.args.self.now in
    let n = c.args.number in
    let none : at n now.recent.items ≡ None = sym c.in_default.ensures.value in
    let missing : at n (window_entries now) ≡ None = at_front n (page_entries now.older) now.recent.items none ∙ sym c.in-None.ensures.value in
    let is : page_entries c.remove.new.self ++ c.take_out.new.block.items ≡ window_entries now =
    ap (λ t. page_entries c.remove.new.self ++ t) (c.take_out.ensures.items ∙ without_missing n now.recent.items none)
    ∙ ap (λ s. s ++ now.recent.items) c.remove.ensures.entries ∙ without_front n (page_entries now.older) now.recent.items none ∙ without_missing n (window_entries now) missing in
    record {
      ordered = subst Ascending (sym is) c.requires.ordered;
      older = c.remove.ensures.pages;
      few = omega (arith, c.take_out.ensures.len, c.requires.few);
      fits = omega (arith, c.take_out.ensures.len, c.take_out.ensures.room, c.requires.fits);
      counted = c.requires.counted ∙ ap length (sym is);
      topped = subst (λ fs. Below (suc now.top) fs) (sym is) c.requires.topped;
    }
