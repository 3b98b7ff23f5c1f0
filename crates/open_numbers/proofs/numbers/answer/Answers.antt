use Rattle.std.proofs.Common.{ap, sym, ◌∙◌, refl, Some}
use Rattle.open_numbers.specs.Kept.{with_answer}
use Rattle.open_numbers.proofs.Places.{place-changed, place-given-up, kept-if-none, kept-if-some}
use Rattle.open_numbers.proofs.numbers.answer.Goals as goal

pub returns-then-not-is_kept : goal.returns-then-not-is_kept
returns-then-not-is_kept c =
    c.give_up.ensures
    ∙ place-given-up (with_answer c.args.reply) c.args.window.now c.args.number c.in-Some.kept.now _ c.in-Some.ensures.value
    (sym (ap (λ k. with_answer c.args.reply (Some k)) c.deref_mut.ensures.value)
    ∙ kept-if-none c.answer-is_kept.result c.answer-is_kept.new.self _ c.answer-is_kept.ensures (search (c.if-not-is_kept.true)))

pub returns-else-not-is_kept : goal.returns-else-not-is_kept
returns-else-not-is_kept c =
    place-changed (with_answer c.args.reply) c.args.window.now c.args.number c.in-Some.kept.now _ _ c.in-Some.ensures.value
    (kept-if-some c.answer-is_kept.result c.answer-is_kept.new.self _ c.answer-is_kept.ensures (search (c.if-not-is_kept.false))
    ∙ ap (λ k. with_answer c.args.reply (Some k)) c.deref_mut.ensures.value) refl
