use Rattle.std.proofs.Common.{ap, ◌∙◌, ◌++◌, ◌∷◌, []}
use Rattle.number_windows.specs.Windows.{flat}
use Rattle.number_windows.proofs.Numbered.{ascending}
use Rattle.number_windows.proofs.PageLemmas.{push_new, new_whole}
use Rattle.number_windows.proofs.pages.Pages.push_page.Goals as goal

pub returns-in-Ok-clause-ok : goal.returns-in-Ok-clause-ok
returns-in-Ok-clause-ok g c =
    let ps = c.args.self.now.pages.entries in
    ap flat c.in-Ok.ensures.entries
    ∙ push_new c.args.entry.0 c.args.entry.1 ps c.push_back.new.self c.requires.pages.paged c.requires.pages.filled c.requires.above c.requires.first (c.in_default.ensures.items ∙ ap (λ es. es ++ c.args.entry ∷ []) c.new-block.ensures.items)

pub returns-in-Ok-clause-pages : goal.returns-in-Ok-clause-pages
returns-in-Ok-clause-pages g c =
    new_whole c.args.entry c.args.self.now.pages.entries c.insert.new.self.entries c.push_back.new.self c.requires.pages c.requires.above c.requires.first
    (c.in_default.ensures.items ∙ ap (λ es. es ++ c.args.entry ∷ []) c.new-block.ensures.items) c.in-Ok.ensures.entries (ascending c.insert.new.self.entries c.in-Ok.ensures.ordered)
