use Rattle.std.proofs.Common.{◌≡◌, ◌<◌, ◌==◌, not, length, ◌∙◌, ap, subst, sym}
use Rattle.number_windows.specs.Numbered.{at}
use Rattle.open_calls.specs.Own.{OwnState, without_caller}
use Rattle.open_calls.specs.Inner.{is_of, passes}
use Rattle.number_windows.proofs.Numbered.{filter_without, filter_all, shorter, at_above}
use Rattle.open_calls.proofs.Own.{state_of, same_waiting, some_of}
use Rattle.open_calls.proofs.own_calls.OwnCalls.end_caller.Goals as goal

pub loop-key-smaller : goal.loop-key-smaller
loop-key-smaller c =
    let es = c.loop-key.self.waiting in
    let found = some_of (is_of c.args.caller) (at c.in-Some.key es) c.in-Some.ensures.next.1 in
    subst (λ fs. length fs < length es) (sym (ap (λ (s : OwnState). s.waiting) c.remove.ensures.state)) (shorter c.in-Some.key found.0 es found.1)

pub loop-key-preserved : goal.loop-key-preserved
loop-key-preserved c =
    let es = c.loop-key.self.waiting in
    let key = c.in-Some.key in
    let found = some_of (is_of c.args.caller) (at key es) c.in-Some.ensures.next.1 in
    record {
      made = ap (λ (s : OwnState). s.made) c.remove.ensures.state ∙ c.loop-key.invariant.made;
      rest = ap (λ (s : OwnState). without_caller c.args.caller s.waiting) c.remove.ensures.state
          ∙ filter_without (λ e. not (e.1.caller == c.args.caller)) key found.0 es c.next_key.ensures.ascending found.1 (ap not found.2)
          ∙ c.loop-key.invariant.rest;
    }

pub returns : goal.returns
returns c =
    let es = c.loop-key.self.waiting in
    let all : without_caller c.args.caller es ≡ es =
    filter_all (λ e. not (e.1.caller == c.args.caller)) es c.next_key.ensures.ascending
    (λ n x is. ap not (ap (passes (is_of c.args.caller)) (sym is) ∙ c.in_default.ensures.next n (at_above 0 n x es c.next_key.ensures.positive is))) in
    ap (λ m. state_of m es) c.loop-key.invariant.made
    ∙ same_waiting c.args.self.now.made es (without_caller c.args.caller c.args.self.now.waiting) (sym all ∙ c.loop-key.invariant.rest)
