-- Entries whose numbers ascend, in pages and a queue.
use Rattle.std.specs.Prelude.{ℕ, suc, ◌≡◌, ◌<◌, ◌≤◌, ◌/◌, ◌^◌, ◌+◌, List, [], ◌∷◌, ◌++◌, length}
use Rattle.std.specs.declared.collections.VecDeque.{VecDeque}
use Rattle.std.specs.VecDeque.{deque_len, deque_capacity}
use Rattle.number_windows.specs.declared.pages.Pages.{Pages}
use Rattle.number_windows.specs.declared.number_window.NumberWindow.{NumberWindow}
use Rattle.number_windows.specs.Numbered.{Below, Ascending}

-- ---- pages: of each its number and its entries

-- the entries of all pages
abbrev pub flat : {X Z : Type 0} → List (ℕ × VecDeque (ℕ × X) Z) → List (ℕ × X)
flat [] = []
flat (p ∷ ps) = p.1.items ++ flat ps

-- each number is of this page
abbrev pub OnPage : {X : Type 0} → ℕ → List (ℕ × X) → Type 0
OnPage page [] = Unit {0}
OnPage page (e ∷ es) = (e.0 / 32 ≡ page) × OnPage page es

-- each entry stands on its page
abbrev pub Paged : {X Z : Type 0} → List (ℕ × VecDeque (ℕ × X) Z) → Type 0
Paged [] = Unit {0}
Paged (p ∷ ps) = OnPage p.0 p.1.items × Paged ps

-- no page is empty
abbrev pub Filled : {X Z : Type 0} → List (ℕ × VecDeque (ℕ × X) Z) → Type 0
Filled [] = Unit {0}
Filled (p ∷ ps) = (0 < length p.1.items) × Filled ps

-- the entries ascend, as the pages do, and each stands on its page
pub record IsPaged {X Z : Type 0} (ps : List (ℕ × VecDeque (ℕ × X) Z)) : Type 0 where
  pub ordered : Ascending (flat ps)
  pub sorted : Ascending ps
  pub paged : Paged ps
  pub filled : Filled ps

abbrev pub page_entries : {X : Type 0} → Pages X → List (ℕ × X)
page_entries pages = flat pages.pages.entries

abbrev pub IsPages : {X : Type 0} → Pages X → Type 0
IsPages pages = IsPaged pages.pages.entries

-- ---- the window

abbrev pub window_entries : {X : Type 0} → NumberWindow X → List (ℕ × X)
window_entries window = page_entries window.older ++ window.recent.items

pub record IsWindow {X : Type 0} (window : NumberWindow X) : Type 0 where
  pub ordered : Ascending (window_entries window)
  pub older : IsPages window.older
  pub few : deque_len window.recent ≤ 32
  pub fits : deque_len window.recent ≤ deque_capacity window.recent
  pub counted : window.len ≡ length (window_entries window)
  pub topped : Below (suc window.top) (window_entries window)

-- one more can be added
pub record HasRoom {X : Type 0} (window : NumberWindow X) : Type 0 where
  pub few : deque_len window.recent < 32
  pub fits : deque_len window.recent < deque_capacity window.recent
  pub counted : window.len + 1 < 2 ^ 64
