use Rattle.conversation_contents.specs.declared.look.Taking.TheVariants.{Must, Expected, Allowed}
use Rattle.conversation_contents.specs.Numbers.{Keeps}
use Rattle.conversation_contents.proofs.Places.{HasUnder, all_noted, still_under}
use Rattle.conversation_contents.proofs.Cases.{if_ok}
use Rattle.std.proofs.Common.{subst}
use Rattle.conversation_contents.proofs.what_is_left.note.Goals as goal

pub returns-clause-noted : goal.returns-clause-noted
returns-clause-noted c =
    let last = c.note_some-5.new.marks in
    let number = c.args.number in
    let since_4 : Keeps last c.note_some-4.new.marks = c.note_some-5.ensures.kept in
    let since_3 : Keeps last c.note_some-3.new.marks = λ m n has. since_4 m n (c.note_some-4.ensures.kept m n has) in
    let since_2 : Keeps last c.note_some-2.new.marks = λ m n has. since_3 m n (c.note_some-3.ensures.kept m n has) in
    let since_1 : Keeps last c.note_some.new.marks = λ m n has. since_2 m n (c.note_some-2.ensures.kept m n has) in
    if_ok c.note_some-5.result
    (λ null_is. all_noted last number c.args.owed.now
    (still_under last c.note_some.new.marks Must number _ since_1 (subst (λ mark. HasUnder c.note_some.new.marks Must number mark) c.must_mark.ensures c.in_ok-note_some.ensures.noted))
    (still_under last c.note_some-2.new.marks Expected number _ since_2 (subst (λ mark. HasUnder c.note_some-2.new.marks Expected number mark) c.expected_mark.ensures c.in_ok-note_some-2.ensures.noted))
    (still_under last c.note_some-3.new.marks Allowed number _ since_3 (subst (λ mark. HasUnder c.note_some-3.new.marks Allowed number mark) c.first_mark.ensures c.in_ok-note_some-3.ensures.noted))
    (still_under last c.note_some-4.new.marks Allowed number _ since_4 (subst (λ mark. HasUnder c.note_some-4.new.marks Allowed number mark) c.own_mark.ensures c.in_ok-note_some-4.ensures.noted))
    (subst (λ mark. HasUnder last Allowed number mark) c.allowed_null.ensures null_is))
    c.note_some-5.ensures.noted
