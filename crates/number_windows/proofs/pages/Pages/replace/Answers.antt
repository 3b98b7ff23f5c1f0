use Rattle.std.proofs.Common.{◌≡◌, ◌/◌, Some, None, IfOk, IfErr, ap, sym, refl, ◌∙◌, subst, arith}
use Rattle.std.specs.BTreeMap as tree
use Rattle.number_windows.specs.Numbered.{at, changed_at}
use Rattle.number_windows.specs.Windows.{flat}
use Rattle.number_windows.proofs.Numbered.{ascending, at-get, unchanged}
use Rattle.number_windows.proofs.PageLemmas.{edited_flat, edited_whole, putting, filled_at, found_on, no_page, block_order}
use Rattle.number_windows.proofs.pages.Pages.replace.Goals as goal

pub put_in-requires : goal.put_in-requires
put_in-requires g c =
    let ps = c.args.self.now.pages.entries in
    block_order (c.args.number / 32) ps c.in-Some.block.now c.requires.ordered (sym (at-get (c.args.number / 32) ps) ∙ sym c.in-Some.ensures.value)

pub returns-in-Some-clause-was : goal.returns-in-Some-clause-was
returns-in-Some-clause-was g c =
    let ps = c.args.self.now.pages.entries in
    let old = c.in-Some.block.now in
    let is = found_on c.args.number ps old c.requires (sym (at-get (c.args.number / 32) ps) ∙ sym c.in-Some.ensures.value) in
    subst (λ o. IfOk c.put_in.result (λ was. o ≡ Some was)) (sym is) c.put_in.ensures.was

pub returns-in-Some-clause-missing : goal.returns-in-Some-clause-missing
returns-in-Some-clause-missing g c =
    let ps = c.args.self.now.pages.entries in
    let old = c.in-Some.block.now in
    let is = found_on c.args.number ps old c.requires (sym (at-get (c.args.number / 32) ps) ∙ sym c.in-Some.ensures.value) in
    subst (λ o. IfErr c.put_in.result (λ back. (back ≡ c.args.value) × (o ≡ None))) (sym is) c.put_in.ensures.missing

pub returns-in-Some-clause-entries : goal.returns-in-Some-clause-entries
returns-in-Some-clause-entries g c =
    let ps = c.args.self.now.pages.entries in
    let new = c.put_in.new.block in
    edited_flat c.args.number (changed_at c.args.number (λ _. c.args.value)) ps (c.get_mut.follows.lender new).entries c.in-Some.block.now new
    (putting c.args.number c.args.value) c.requires (sym (at-get (c.args.number / 32) ps) ∙ sym c.in-Some.ensures.value) c.put_in.ensures.items (c.get_mut.follows.holds new).0

pub returns-in-Some-clause-pages : goal.returns-in-Some-clause-pages
returns-in-Some-clause-pages g c =
    let ps = c.args.self.now.pages.entries in
    let new = c.put_in.new.block in
    let old = c.in-Some.block.now in
    let holds = c.get_mut.follows.holds new in
    let now = (c.get_mut.follows.lender new).entries in
    let there : at (c.args.number / 32) ps ≡ Some old = sym (at-get (c.args.number / 32) ps) ∙ sym c.in-Some.ensures.value in
    edited_whole c.args.number (changed_at c.args.number (λ _. c.args.value)) ps now old new (putting c.args.number c.args.value) c.requires there
    c.put_in.ensures.items holds.0 (ascending now holds.4)
    (omega (arith, c.put_in.ensures.len, new.ok.0, old.ok.0, filled_at (c.args.number / 32) ps old c.requires.filled there))

pub returns-in-None-clause-missing : goal.returns-in-None-clause-missing
returns-in-None-clause-missing g c =
    let ps = c.args.self.now.pages.entries in
    (refl, no_page c.args.number ps c.requires.paged (sym (at-get (c.args.number / 32) ps) ∙ sym c.in-None.ensures.value))

pub returns-in-None-clause-entries : goal.returns-in-None-clause-entries
returns-in-None-clause-entries g c =
    let ps = c.args.self.now.pages.entries in
    ap (λ (m : tree.BTreeMap _ _). flat m.entries) c.get_mut.follows.holds-at-none
    ∙ unchanged c.args.number (λ _. c.args.value) (flat ps) (no_page c.args.number ps c.requires.paged (sym (at-get (c.args.number / 32) ps) ∙ sym c.in-None.ensures.value))
