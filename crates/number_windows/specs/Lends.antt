-- What pages and a window end as, where a `&mut` to one of their values is returned.
use Rattle.std.specs.Prelude.{◌≡◌, ℕ, Option}
use Rattle.std.specs.Borrow.{LendsSo, Fml, RattleType, MutBor}
use Rattle.number_windows.specs.declared.pages.Pages.{Pages}
use Rattle.number_windows.specs.declared.number_window.NumberWindow.{NumberWindow}
use Rattle.number_windows.specs.contracts.pages.Pages.{the_row as pages_row}
use Rattle.number_windows.specs.contracts.number_window.NumberWindow.{the_row as window_row}
use Rattle.number_windows.specs.Numbered.{changed_at}
use Rattle.number_windows.specs.Windows.{page_entries, window_entries, IsPages, IsWindow}

module _ (T : RattleType) where
  -- once the borrow ends, the last value written through it stands under the number; at `None` no entry changes
  abbrev pub lends_in_pages : MutBor (Pages T.Denot) → ℕ → Option (MutBor T.Denot) → Fml
  lends_in_pages pages number value =
      LendsSo (pages_row T) T pages value
      (λ now w. (page_entries now ≡ changed_at number (λ _. w) (page_entries pages.now)) × IsPages now)
      (λ now. (page_entries now ≡ page_entries pages.now) × IsPages now)

  abbrev pub lends_in_window : MutBor (NumberWindow T.Denot) → ℕ → Option (MutBor T.Denot) → Fml
  lends_in_window window number value =
      LendsSo (window_row T) T window value
      (λ now w. (window_entries now ≡ changed_at number (λ _. w) (window_entries window.now)) × IsWindow now)
      (λ now. (window_entries now ≡ window_entries window.now) × IsWindow now)
