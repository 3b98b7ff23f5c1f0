use Rattle.std.proofs.Common.{◌≡◌, ◌<◌, ◌/◌, Some, length, ap, sym, ◌∙◌, subst, arith}
use Rattle.std.specs.BTreeMap as tree
use Rattle.number_windows.specs.Numbered.{at}
use Rattle.number_windows.proofs.Numbered.{ascending, at-get}
use Rattle.number_windows.proofs.PageLemmas.{pushed_flat, pushed_whole, edited_flat, edited_whole, staying, filled_at}
use Rattle.number_windows.proofs.pages.Pages.push.Goals as goal

pub push_page-requires-clause-first : goal.push_page-requires-clause-first
push_page-requires-clause-first g c =
    let page = c.args.entry.0 / 32 in
    ap (λ (m : tree.BTreeMap _ _). at page m.entries) c.get_mut.follows.holds-at-none ∙ sym (at-get page c.args.self.now.pages.entries) ∙ sym c.in-None.ensures.value

pub returns-in-Ok-clause-ok : goal.returns-in-Ok-clause-ok
returns-in-Ok-clause-ok g c =
    let ps = c.args.self.now.pages.entries in
    let new = c.push_back.new.self in
    let now = (c.get_mut.follows.lender new).entries in
    pushed_flat c.args.entry ps now c.in-Some.block.now new c.requires.pages c.requires.above (sym (at-get (c.args.entry.0 / 32) ps) ∙ sym c.in-Some.ensures.value)
    c.in-Ok.ensures.items (c.get_mut.follows.holds new).0

pub returns-in-Ok-clause-pages : goal.returns-in-Ok-clause-pages
returns-in-Ok-clause-pages g c =
    let ps = c.args.self.now.pages.entries in
    let new = c.push_back.new.self in
    let now = (c.get_mut.follows.lender new).entries in
    let holds = c.get_mut.follows.holds new in
    pushed_whole c.args.entry ps now c.in-Some.block.now new c.requires.pages c.requires.above (sym (at-get (c.args.entry.0 / 32) ps) ∙ sym c.in-Some.ensures.value)
    c.in-Ok.ensures.items holds.0 (ascending now holds.4) (omega (arith, c.in-Ok.ensures.len, new.ok.0))

pub returns-in-Err-clause-err : goal.returns-in-Err-clause-err
returns-in-Err-clause-err g c =
    let ps = c.args.self.now.pages.entries in
    let new = c.push_back.new.self in
    let now = (c.get_mut.follows.lender new).entries in
    edited_flat c.args.entry.0 (λ es. es) ps now c.in-Some.block.now new (staying c.args.entry.0) c.requires.pages (sym (at-get (c.args.entry.0 / 32) ps) ∙ sym c.in-Some.ensures.value)
    c.in-Err.ensures.items (c.get_mut.follows.holds new).0

pub returns-in-Err-clause-pages : goal.returns-in-Err-clause-pages
returns-in-Err-clause-pages g c =
    let ps = c.args.self.now.pages.entries in
    let new = c.push_back.new.self in
    let now = (c.get_mut.follows.lender new).entries in
    let holds = c.get_mut.follows.holds new in
    let old = c.in-Some.block.now in
    let there : at (c.args.entry.0 / 32) ps ≡ Some old = sym (at-get (c.args.entry.0 / 32) ps) ∙ sym c.in-Some.ensures.value in
    edited_whole c.args.entry.0 (λ es. es) ps now old new (staying c.args.entry.0) c.requires.pages there
    c.in-Err.ensures.items holds.0 (ascending now holds.4)
    (subst (λ es. 0 < length es) (sym c.in-Err.ensures.items) (filled_at (c.args.entry.0 / 32) ps old c.requires.pages.filled there))
