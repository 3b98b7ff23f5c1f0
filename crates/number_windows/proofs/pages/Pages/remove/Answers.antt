use Rattle.std.proofs.Common.{◌≡◌, ◌/◌, Some, true, false, ap, sym, ◌∙◌, arith}
use Rattle.std.proofs.lemmas.Bool.{eqb-true, eqb-false}
use Rattle.std.specs.BTreeMap as tree
use Rattle.std.specs.VecDeque.{deque_len}
use Rattle.number_windows.specs.Numbered.{at, without}
use Rattle.number_windows.specs.Windows.{flat}
use Rattle.number_windows.proofs.Numbered.{ascending, at-get}
use Rattle.number_windows.proofs.Rows.{without_missing}
use Rattle.number_windows.proofs.PageLemmas.{edited_flat, edited_whole, dropped_flat, dropped_whole, going, found_on, no_page, block_order, no_items, put_back}
use Rattle.number_windows.proofs.pages.Pages.remove.Goals as goal

pub take_out-value-requires : goal.take_out-value-requires
take_out-value-requires g c =
    let ps = c.args.self.now.pages.entries in
    block_order (c.args.number / 32) ps c.in-Some.block.now c.requires.ordered (sym (at-get (c.args.number / 32) ps) ∙ sym c.in-Some.ensures.value)

pub returns-in-None-clause-value : goal.returns-in-None-clause-value
returns-in-None-clause-value g c =
    let ps = c.args.self.now.pages.entries in
    sym (no_page c.args.number ps c.requires.paged (sym (at-get (c.args.number / 32) ps) ∙ sym c.in-None.ensures.value))

pub returns-in-None-clause-entries : goal.returns-in-None-clause-entries
returns-in-None-clause-entries g c =
    let ps = c.args.self.now.pages.entries in
    ap (λ (m : tree.BTreeMap _ _). flat m.entries) c.get_mut.follows.holds-at-none
    ∙ sym (without_missing c.args.number (flat ps) (no_page c.args.number ps c.requires.paged (sym (at-get (c.args.number / 32) ps) ∙ sym c.in-None.ensures.value)))

pub returns-then-is_empty-clause-value : goal.returns-then-is_empty-clause-value
returns-then-is_empty-clause-value g c =
    let ps = c.args.self.now.pages.entries in
    c.take_out-value.ensures.value ∙ sym (found_on c.args.number ps c.in-Some.block.now c.requires (sym (at-get (c.args.number / 32) ps) ∙ sym c.in-Some.ensures.value))

pub returns-then-is_empty-clause-entries : goal.returns-then-is_empty-clause-entries
returns-then-is_empty-clause-entries g c =
    let ps = c.args.self.now.pages.entries in
    let old = c.in-Some.block.now in
    let new = c.give_back_room.new.block in
    let holds = c.get_mut.follows.holds new in
    let between = (c.get_mut.follows.lender new).entries in
    let there : at (c.args.number / 32) ps ≡ Some old = sym (at-get (c.args.number / 32) ps) ∙ sym c.in-Some.ensures.value in
    let empty : c.is_empty.result ≡ true = c.if-is_empty.true in
    let none : deque_len new ≡ 0 = eqb-true (deque_len new) 0 (sym c.is_empty.ensures ∙ empty) in
    dropped_flat c.args.number (without c.args.number) ps between c.remove.new.self.entries old new (going c.args.number) c.requires there
    (c.give_back_room.ensures.items ∙ c.take_out-value.ensures.items) holds.0 (ascending between holds.4) (put_back (c.args.number / 32) ps between old new c.requires there holds.0)
    (no_items new.items (omega (arith, none, new.ok.0))) c.remove.ensures.entries

pub returns-then-is_empty-clause-pages : goal.returns-then-is_empty-clause-pages
returns-then-is_empty-clause-pages g c =
    let ps = c.args.self.now.pages.entries in
    let old = c.in-Some.block.now in
    let new = c.give_back_room.new.block in
    let holds = c.get_mut.follows.holds new in
    let between = (c.get_mut.follows.lender new).entries in
    let there : at (c.args.number / 32) ps ≡ Some old = sym (at-get (c.args.number / 32) ps) ∙ sym c.in-Some.ensures.value in
    let empty : c.is_empty.result ≡ true = c.if-is_empty.true in
    let none : deque_len new ≡ 0 = eqb-true (deque_len new) 0 (sym c.is_empty.ensures ∙ empty) in
    dropped_whole c.args.number (without c.args.number) ps between c.remove.new.self.entries old new (going c.args.number) c.requires there
    (c.give_back_room.ensures.items ∙ c.take_out-value.ensures.items) holds.0 (ascending between holds.4) (put_back (c.args.number / 32) ps between old new c.requires there holds.0)
    (no_items new.items (omega (arith, none, new.ok.0))) c.remove.ensures.entries (ascending c.remove.new.self.entries c.remove.ensures.ordered)

pub returns-else-is_empty-clause-value : goal.returns-else-is_empty-clause-value
returns-else-is_empty-clause-value g c =
    let ps = c.args.self.now.pages.entries in
    c.take_out-value.ensures.value ∙ sym (found_on c.args.number ps c.in-Some.block.now c.requires (sym (at-get (c.args.number / 32) ps) ∙ sym c.in-Some.ensures.value))

pub returns-else-is_empty-clause-entries : goal.returns-else-is_empty-clause-entries
returns-else-is_empty-clause-entries g c =
    let ps = c.args.self.now.pages.entries in
    let old = c.in-Some.block.now in
    let new = c.give_back_room.new.block in
    let there : at (c.args.number / 32) ps ≡ Some old = sym (at-get (c.args.number / 32) ps) ∙ sym c.in-Some.ensures.value in
    edited_flat c.args.number (without c.args.number) ps (c.get_mut.follows.lender new).entries old new (going c.args.number) c.requires there
    (c.give_back_room.ensures.items ∙ c.take_out-value.ensures.items) (c.get_mut.follows.holds new).0

pub returns-else-is_empty-clause-pages : goal.returns-else-is_empty-clause-pages
returns-else-is_empty-clause-pages g c =
    let ps = c.args.self.now.pages.entries in
    let old = c.in-Some.block.now in
    let new = c.give_back_room.new.block in
    let holds = c.get_mut.follows.holds new in
    let now = (c.get_mut.follows.lender new).entries in
    let there : at (c.args.number / 32) ps ≡ Some old = sym (at-get (c.args.number / 32) ps) ∙ sym c.in-Some.ensures.value in
    let other : c.is_empty.result ≡ false = c.if-is_empty.false in
    let some : deque_len new ≡ 0 → ⊥ = eqb-false (deque_len new) 0 (sym c.is_empty.ensures ∙ other) in
    edited_whole c.args.number (without c.args.number) ps now old new (going c.args.number) c.requires there
    (c.give_back_room.ensures.items ∙ c.take_out-value.ensures.items) holds.0 (ascending now holds.4)
    (omega (arith, some, new.ok.0))
