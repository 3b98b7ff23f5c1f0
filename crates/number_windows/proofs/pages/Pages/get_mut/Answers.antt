use Rattle.std.proofs.Common.{◌≡◌, ◌/◌, Some, set, ap, sym, refl, subst, ◌∙◌, arith}
use Rattle.std.specs.BTreeMap as tree
use Rattle.std.specs.VecDeque.{deque_with_item}
use Rattle.number_windows.specs.Numbered.{at, changed_at}
use Rattle.number_windows.specs.Windows.{flat, IsPaged}
use Rattle.number_windows.proofs.Numbered.{ascending, at-get, unchanged}
use Rattle.number_windows.proofs.Rows.{at_index, changed_index}
use Rattle.number_windows.proofs.PageLemmas.{edited_flat, edited_whole, putting, staying, filled_at, found_on, no_page, block_order}
use Rattle.number_windows.proofs.pages.Pages.get_mut.Goals as goal

pub place-requires : goal.place-requires
place-requires g c =
    let ps = c.args.self.now.pages.entries in
    block_order (c.args.number / 32) ps c.in-Some.block.now c.requires.ordered (sym (at-get (c.args.number / 32) ps) ∙ sym c.in-Some.ensures.value)

pub returns-in-Some-place : goal.returns-in-Some-place
returns-in-Some-place g c =
    let ps = c.args.self.now.pages.entries in
    let n = c.args.number in
    let old = c.in-Some.block.now in
    let index = c.in-Some-place.index in
    let entry = c.index_mut.result.now in
    let found = c.in-Some-place.ensures.found in
    let there : at (n / 32) ps ≡ Some old = sym (at-get (n / 32) ps) ∙ sym c.in-Some.ensures.value in
    let order = block_order (n / 32) ps old c.requires.ordered there in (
      (
        refl,
        (λ w.
            let new = deque_with_item old index (entry.0, w) in
            let holds = c.get_mut.follows.holds new in
            let now = (c.get_mut.follows.lender new).entries in
            let is : new.items ≡ changed_at n (λ _. w) old.items =
            ap (λ e. set old.items index (e.0, w)) c.index_mut.ensures.value ∙ changed_index n (λ _. w) old.items index entry order found.0 (found.1 entry) in (
              edited_flat n (changed_at n (λ _. w)) ps now old new (putting n w) c.requires there is holds.0,
              edited_whole n (changed_at n (λ _. w)) ps now old new (putting n w) c.requires there is holds.0 (ascending now holds.4)
                  (omega (arith, new.ok.0, old.ok.0, filled_at (n / 32) ps old c.requires.filled there)),
            )),
        (refl, c.requires),
      ),
      record {
        writes_back = tt;
        value = ap (λ e. Some e.1) c.index_mut.ensures.value ∙ sym (at_index n old.items index entry order found.0 (found.1 entry)) ∙ sym (found_on n ps old c.requires there);
      },
    )

pub returns-in-None-place : goal.returns-in-None-place
returns-in-None-place g c =
    let ps = c.args.self.now.pages.entries in
    let n = c.args.number in
    let old = c.in-Some.block.now in
    let there : at (n / 32) ps ≡ Some old = sym (at-get (n / 32) ps) ∙ sym c.in-Some.ensures.value in
    let none = found_on n ps old c.requires there ∙ c.in-None-place.ensures.missing in
    let holds = c.get_mut.follows.holds old in
    let now = (c.get_mut.follows.lender old).entries in (
      (
        refl,
        (λ w. (unchanged n (λ _. w) (flat ps) none, c.requires)),
        (
          edited_flat n (λ es. es) ps now old old (staying n) c.requires there refl holds.0,
          edited_whole n (λ es. es) ps now old old (staying n) c.requires there refl holds.0 (ascending now holds.4)
              (filled_at (n / 32) ps old c.requires.filled there),
        ),
      ),
      record { writes_back = tt; value = sym none },
    )

pub returns-in-None : goal.returns-in-None
returns-in-None g c =
    let ps = c.args.self.now.pages.entries in
    let n = c.args.number in
    let none = no_page n ps c.requires.paged (sym (at-get (n / 32) ps) ∙ sym c.in-None.ensures.value) in (
      (
        refl,
        (λ w. (unchanged n (λ _. w) (flat ps) none, c.requires)),
        (
          ap (λ (m : tree.BTreeMap _ _). flat m.entries) c.get_mut.follows.holds-at-none,
          subst (λ (m : tree.BTreeMap _ _). IsPaged m.entries) (sym c.get_mut.follows.holds-at-none) c.requires,
        ),
      ),
      record { writes_back = tt; value = sym none },
    )
