use Rattle.std.proofs.Common.{◌≡◌, ◌++◌, Some, None, IfOk, IfErr, suc, length, ap, sym, ◌∙◌, subst, arith}
use Rattle.number_windows.specs.Numbered.{at, changed_at, Ascending, Below}
use Rattle.number_windows.specs.Windows.{page_entries, window_entries}
use Rattle.number_windows.proofs.Numbered.{below_changed, unchanged}
use Rattle.number_windows.proofs.Rows.{ascending_behind, ascending_changed, got_behind, at_front, changed_behind, changed_front, length_changed}
use Rattle.number_windows.proofs.number_window.NumberWindow.replace.Goals as goal

pub put_in-requires : goal.put_in-requires
put_in-requires g c = ascending_behind (page_entries c.args.self.now.older) c.args.self.now.recent.items c.requires.ordered

pub returns-in-Ok-clause-was : goal.returns-in-Ok-clause-was
returns-in-Ok-clause-was g c =
    let now = c.args.self.now in
    got_behind c.args.number c.in-Ok.was (page_entries now.older) now.recent.items c.requires.ordered c.in-Ok.ensures.was

pub returns-in-Ok-clause-entries : goal.returns-in-Ok-clause-entries
returns-in-Ok-clause-entries g c =
    let now = c.args.self.now in
    ap (λ t. page_entries now.older ++ t) c.put_in.ensures.items
    ∙ changed_behind c.args.number (λ _. c.args.value) c.in-Ok.was (page_entries now.older) now.recent.items c.requires.ordered c.in-Ok.ensures.was

pub returns-in-Ok-clause-window : goal.returns-in-Ok-clause-window
returns-in-Ok-clause-window g c =
    let now = c.args.self.now in
    let n = c.args.number in
    let is : page_entries now.older ++ c.put_in.new.block.items ≡ changed_at n (λ _. c.args.value) (window_entries now) =
    ap (λ t. page_entries now.older ++ t) c.put_in.ensures.items
    ∙ changed_behind n (λ _. c.args.value) c.in-Ok.was (page_entries now.older) now.recent.items c.requires.ordered c.in-Ok.ensures.was in
    record {
      ordered = subst Ascending (sym is) (ascending_changed n (λ _. c.args.value) (window_entries now) c.requires.ordered);
      older = c.requires.older;
      few = omega (arith, c.put_in.ensures.len, c.requires.few);
      fits = omega (arith, c.put_in.ensures.len, c.put_in.ensures.room, c.requires.fits);
      counted = c.requires.counted ∙ sym (length_changed n (λ _. c.args.value) (window_entries now)) ∙ ap length (sym is);
      topped = subst (λ fs. Below (suc now.top) fs) (sym is) (below_changed (suc now.top) n (λ _. c.args.value) (window_entries now) c.requires.topped);
    }

pub returns-in-Err-clause-was : goal.returns-in-Err-clause-was
returns-in-Err-clause-was g c =
    let now = c.args.self.now in
    subst (λ o. IfOk c.replace.result (λ was. o ≡ Some was)) (sym (at_front c.args.number (page_entries now.older) now.recent.items c.in-Err.ensures.missing.1)) c.replace.ensures.was

pub returns-in-Err-clause-missing : goal.returns-in-Err-clause-missing
returns-in-Err-clause-missing g c =
    let now = c.args.self.now in
    subst (λ v. IfErr c.replace.result (λ back. (back ≡ v) × (at c.args.number (window_entries now) ≡ None))) c.in-Err.ensures.missing.0
    (subst (λ o. IfErr c.replace.result (λ back. (back ≡ c.in-Err.value) × (o ≡ None)))
    (sym (at_front c.args.number (page_entries now.older) now.recent.items c.in-Err.ensures.missing.1)) c.replace.ensures.missing)

pub returns-in-Err-clause-window : goal.returns-in-Err-clause-window
returns-in-Err-clause-window g c =
    let now = c.args.self.now in
    let n = c.args.number in
    let f = λ (_ : g.row.T.Denot). c.args.value in
    let none = c.in-Err.ensures.missing.1 in
    let is : page_entries c.replace.new.self ++ c.put_in.new.block.items ≡ changed_at n f (window_entries now) =
    ap (λ t. page_entries c.replace.new.self ++ t) (c.put_in.ensures.items ∙ sym (unchanged n f now.recent.items none))
    ∙ ap (λ s. s ++ now.recent.items) (c.replace.ensures.entries ∙ ap (λ v. changed_at n (λ _. v) (page_entries now.older)) c.in-Err.ensures.missing.0)
    ∙ changed_front n f (page_entries now.older) now.recent.items none in
    record {
      ordered = subst Ascending (sym is) (ascending_changed n f (window_entries now) c.requires.ordered);
      older = c.replace.ensures.pages;
      few = omega (arith, c.put_in.ensures.len, c.requires.few);
      fits = omega (arith, c.put_in.ensures.len, c.put_in.ensures.room, c.requires.fits);
      counted = c.requires.counted ∙ sym (length_changed n f (window_entries now)) ∙ ap length (sym is);
      topped = subst (λ fs. Below (suc now.top) fs) (sym is) (below_changed (suc now.top) n f (window_entries now) c.requires.topped);
    }
