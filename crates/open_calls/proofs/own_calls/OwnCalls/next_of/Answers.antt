use Rattle.std.proofs.Common.{◌≡◌, ◌∙◌, suc, false, Some, MatchOption, subst, sym, add-one}
use Rattle.number_windows.specs.Numbered.{at, Below}
use Rattle.open_calls.specs.Inner.{is_of}
use Rattle.open_calls.proofs.Newest.{key_within}
use Rattle.open_calls.proofs.Own.{IsPassed, is_withdrawn_in, first_passed, fewer_behind, more_passed, some_of, wanted_next}
use Rattle.open_calls.proofs.own_calls.OwnCalls.next_of.Goals as goal

pub loop-next-init : goal.loop-next-init
loop-next-init c =
    let es = c.args.self.now.waiting in
    record { passed = first_passed es c.args.caller c.args.after c.next_key-next.result c.next_key-next.ensures.next }

pub loop-next-smaller : goal.loop-next-smaller
loop-next-smaller c =
    let es = c.args.self.now.waiting in
    let key = c.in-Some.key in
    let made = c.args.self.now.made in
    let under : Below (suc made) es = rw add-one at c.next_key-next-in-Some.ensures.numbered in
    let was : IsPassed es c.args.caller c.args.after (Some key) = subst (IsPassed es c.args.caller c.args.after) c.in-Some.is c.loop-next.invariant.passed in
    let found = some_of (is_of c.args.caller) (at key es) was.1 in
    rw c.in-Some.is (fewer_behind es c.args.caller made key c.next_key-next-in-Some.result (key_within (suc made) key found.0 es under found.1)
    (first_passed es c.args.caller key c.next_key-next-in-Some.result c.next_key-next-in-Some.ensures.next))

pub loop-next-preserved : goal.loop-next-preserved
loop-next-preserved c =
    let es = c.args.self.now.waiting in
    let key = c.in-Some.key in
    let was : IsPassed es c.args.caller c.args.after (Some key) = subst (IsPassed es c.args.caller c.args.after) c.in-Some.is c.loop-next.invariant.passed in
    record {
      passed = more_passed es c.args.caller c.args.after key c.next_key-next-in-Some.result was (sym c.is_withdrawn.ensures ∙ c.if-not-is_withdrawn.false)
          (first_passed es c.args.caller key c.next_key-next-in-Some.result c.next_key-next-in-Some.ensures.next);
    }

pub returns-then-not-is_withdrawn-clause-key : goal.returns-then-not-is_withdrawn-clause-key
returns-then-not-is_withdrawn-clause-key c =
    let es = c.args.self.now.waiting in
    wanted_next es c.args.caller c.args.after (Some c.in-Some.key) c.next_key-next.ensures.ascending (subst (IsPassed es c.args.caller c.args.after) c.in-Some.is c.loop-next.invariant.passed)
    (sym c.is_withdrawn.ensures ∙ c.if-not-is_withdrawn.true)

pub returns-in_default-clause-key : goal.returns-in_default-clause-key
returns-in_default-clause-key c =
    let es = c.args.self.now.waiting in
    wanted_next es c.args.caller c.args.after c.loop-next.next c.next_key-next.ensures.ascending c.loop-next.invariant.passed
    (subst (λ o. MatchOption o (Unit {0}) (λ key. is_withdrawn_in (at key es) ≡ false)) (sym c.in_default.is) tt)

pub returns-then-not-is_withdrawn-clause-positive : goal.returns-then-not-is_withdrawn-clause-positive
returns-then-not-is_withdrawn-clause-positive c = c.next_key-next.ensures.positive

pub returns-in_default-clause-positive : goal.returns-in_default-clause-positive
returns-in_default-clause-positive c = c.next_key-next.ensures.positive

pub returns-then-not-is_withdrawn-clause-ascending : goal.returns-then-not-is_withdrawn-clause-ascending
returns-then-not-is_withdrawn-clause-ascending c = c.next_key-next.ensures.ascending

pub returns-in_default-clause-ascending : goal.returns-in_default-clause-ascending
returns-in_default-clause-ascending c = c.next_key-next.ensures.ascending
