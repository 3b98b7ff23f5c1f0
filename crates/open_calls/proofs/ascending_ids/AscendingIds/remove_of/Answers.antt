use Rattle.std.proofs.Common.{◌≡◌, ℕ, Some, ap, subst, sym, ◌∙◌, ◌==◌, ◌&&◌, false, if◌then◌else◌}
use Rattle.number_windows.specs.Numbered.{at}
use Rattle.number_windows.specs.Windows.{window_entries}
use Rattle.open_calls.specs.Inner.{points}
use Rattle.open_calls.proofs.Ids.{id_goes}
use Rattle.open_calls.proofs.ascending_ids.AscendingIds.remove_of.Goals as goal

pub returns : goal.returns
returns c =
    let id = c.args.id in
    let es = window_entries c.self.inside.numbers in
    let now = window_entries c.remove.new.self in
    let there : at id es ≡ Some c.args.number = sym c.in-Some.ensures ∙ ap Some c.if-own-number.true in
    subst (λ ids. (q k : ℕ) → points (at q now) k ≡ (if (id == q) && (c.args.number == k) then false else points (at q ids) k)) c.self.view_is
    (id_goes es now id c.args.number c.remove.ensures.entries there)
