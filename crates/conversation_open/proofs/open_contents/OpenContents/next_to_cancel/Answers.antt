use Rattle.std.proofs.Common.{◌≡◌, ◌<◌, ◌∙◌, ℕ, false, subst, sym}
use Rattle.std.specs.Prelude.{MatchOption}
use Rattle.conversation_open.specs.Marked.{has_among}
use Rattle.conversation_open.specs.Open.{among_has, open_entries, IsNoneBehind, IsNoneBetween}
use Rattle.conversation_open.specs.declared.among.Among.TheVariants.{All}
use Rattle.conversation_open.specs.declared.marked_contents.Which.TheVariants.{Uncancelled}
use Rattle.conversation_open.proofs.Indexed.{next_cancelled, next_settled}
use Rattle.conversation_open.proofs.open_contents.OpenContents.next_to_cancel.Goals as goal

pub returns-then-may_change_cancelled : goal.returns-then-may_change_cancelled
returns-then-may_change_cancelled c =
    let es = open_entries c.args.self.now in
    let after = c.args.after in
    let result = c.next_with.result in
    next_settled es c.args.id.now c.args.settles after result
    (subst (λ mark. MatchOption result (IsNoneBehind (among_has All mark) after es) (λ number. (after < number) × IsNoneBetween (among_has All mark) after number es))
    c.mark_of-mark.ensures c.next_with.ensures)

pub returns-else-may_change_cancelled : goal.returns-else-may_change_cancelled
returns-else-may_change_cancelled c =
    let index = c.args.self.now.index in
    let after = c.args.after in
    let result = c.next.result in
    next_cancelled index (open_entries c.args.self.now) c.requires.indexed c.args.id.now c.args.settles c.args.self.now.due_are_uncancelled after result
    (sym c.may_change_cancelled.ensures ∙ c.if-may_change_cancelled.false) c.requires.uncancelled
    (subst (λ mark. MatchOption result ((n : ℕ) → after < n → has_among All Uncancelled index mark n ≡ false) (λ number. (after < number) × ((n : ℕ) → after < n → n < number → has_among All Uncancelled index mark n ≡ false)))
    c.mark_of-mark.ensures c.next.ensures)
