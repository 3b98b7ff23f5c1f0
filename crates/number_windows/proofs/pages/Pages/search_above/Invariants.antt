use Rattle.std.proofs.Common.{◌≡◌}
use Rattle.number_windows.specs.Numbered.{first_above}
use Rattle.number_windows.specs.Windows.{flat, page_entries}
use Rattle.number_windows.proofs.pages.Pages.search_above.Given as goal

-- what is found is among those that are left
abbrev pub invariant-loop-block : goal.invariant-loop-block
invariant-loop-block g l = first_above l.after (page_entries l.self) ≡ first_above l.after (flat l.block-iterator)
