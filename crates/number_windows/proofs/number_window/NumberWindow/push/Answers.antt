use Rattle.std.proofs.Common.{◌≡◌, ℕ, ◌++◌, ◌∷◌, [], suc, length, subst, sym, ap, ◌∙◌, append_assoc, arith}
use Rattle.number_windows.specs.Numbered.{Ascending, Below}
use Rattle.number_windows.specs.Windows.{page_entries, window_entries}
use Rattle.number_windows.proofs.Numbered.{below_push}
use Rattle.number_windows.proofs.Rows.{ascending_push, length_push}
use Rattle.number_windows.proofs.number_window.NumberWindow.push.Goals as goal

pub returns-clause-window : goal.returns-clause-window
returns-clause-window g c =
    let was = c.args.self.now in
    let n = c.args.number in
    let entry : ℕ × g.row.T.Denot = (n, c.args.value) in
    let es = window_entries was in
    let is : page_entries was.older ++ c.push_back_reserved.new.self.items ≡ es ++ entry ∷ [] =
    ap (λ t. page_entries was.older ++ t) c.push_back_reserved.ensures.items ∙ sym (append_assoc (page_entries was.older) was.recent.items (entry ∷ [])) in
    record {
      ordered = subst Ascending (sym is) (ascending_push n c.args.value es c.requires.window.ordered c.requires.above);
      older = c.requires.window.older;
      few = omega (arith, c.push_back_reserved.ensures.len, c.requires.room.few);
      fits = omega (arith, c.push_back_reserved.ensures.len, c.push_back_reserved.ensures.capacity, c.requires.room.fits);
      counted = omega (arith, c.requires.window.counted, ap length is, length_push entry es);
      topped = subst (λ fs. Below (suc n) fs) (sym is) (below_push n (suc n) n c.args.value es (omega arith) (omega arith) c.requires.above);
    }
