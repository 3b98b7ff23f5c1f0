-- A window whose entries are the same, or of which one is changed in its place.
use Rattle.std.proofs.Common.{◌≡◌, ℕ, suc, length, sym, ap, ◌∙◌, subst, arith}
use Rattle.std.specs.VecDeque.{deque_len, deque_capacity}
use Rattle.number_windows.specs.declared.number_window.NumberWindow.{NumberWindow}
use Rattle.number_windows.specs.Numbered.{changed_at, Ascending, Below}
use Rattle.number_windows.specs.Windows.{window_entries, IsPages, IsWindow}
use Rattle.number_windows.proofs.Numbered.{below_changed}
use Rattle.number_windows.proofs.Rows.{ascending_changed, length_changed}

pub same_window : {X : Type 0} (was now : NumberWindow X) → IsWindow was → window_entries now ≡ window_entries was → IsPages now.older
    → deque_len now.recent ≡ deque_len was.recent → deque_capacity now.recent ≡ deque_capacity was.recent → now.len ≡ was.len → now.top ≡ was.top → IsWindow now
same_window was now whole is older items room len top = record {
  ordered = subst Ascending (sym is) whole.ordered;
  older = older;
  few = omega (arith, items, whole.few);
  fits = omega (arith, items, room, whole.fits);
  counted = len ∙ whole.counted ∙ ap length (sym is);
  topped = subst (λ n. Below (suc n) (window_entries now)) (sym top) (subst (λ es. Below (suc was.top) es) (sym is) whole.topped);
}

pub changed_window : {X : Type 0} (n : ℕ) (f : X → X) (was now : NumberWindow X) → IsWindow was → window_entries now ≡ changed_at n f (window_entries was) → IsPages now.older
    → deque_len now.recent ≡ deque_len was.recent → deque_capacity now.recent ≡ deque_capacity was.recent → now.len ≡ was.len → now.top ≡ was.top → IsWindow now
changed_window n f was now whole is older items room len top = record {
  ordered = subst Ascending (sym is) (ascending_changed n f (window_entries was) whole.ordered);
  older = older;
  few = omega (arith, items, whole.few);
  fits = omega (arith, items, room, whole.fits);
  counted = len ∙ whole.counted ∙ sym (length_changed n f (window_entries was)) ∙ ap length (sym is);
  topped = subst (λ m. Below (suc m) (window_entries now)) (sym top)
      (subst (λ es. Below (suc was.top) es) (sym is) (below_changed (suc was.top) n f (window_entries was) whole.topped));
}
