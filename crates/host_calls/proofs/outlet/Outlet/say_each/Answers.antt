-- Each turn says one thing more, or passes over the call of a batch.
use Rattle.std.proofs.Common.{◌≡◌, ◌<◌, ◌+◌, ◌-◌, ℕ, pos, List, length, take, drop, get_or, sym, ap, ◌∙◌, subst, arith}
use Rattle.std.proofs.lemmas.Grind.{common_steps}
use Rattle.std.proofs.lemmas.List.{drop-set-lt}
use Rattle.std.proofs.Math.ListN.{length-set}
use Rattle.host_calls.specs.declared.sayings.Saying.{Saying}
use Rattle.host_calls.specs.Sayings.{SaysOne}
use Rattle.host_calls.proofs.SaidSoFar.{drop-more, refused-most, said-over, said-one, said-all}
use Rattle.host_calls.proofs.outlet.Outlet.say_each.Goals.{then-passed-gt0, else-passed-gt0}
use Rattle.host_calls.proofs.outlet.Outlet.say_each.Goals as goal

-- what the code reads where there is none
abbrev none : Saying
none = record { kind = 0; said = pos 0; number = 0; key = 0; code = pos 0; name_len = 0; text_len = 0; calls = 0 }

others_are : (i : ℕ) (xs : List Saying) → take (length xs - i) (drop i xs) ≡ drop i xs
others_are i xs = grind (arith, common_steps)

pub loop-place-preserved : goal.loop-place-preserved
loop-place-preserved c =
    let a = c.args.self.now in let hs = c.args.sayings.now in let bytes = c.args.bytes.now in
    let l = c.loop-place in let i = l.place in let ss = l.sayings in let on = c.if-passed-gt0 in
    let below : i < length ss = omega (arith, c.loop-place-test.true, l.invariant.end) in
    elim on.branch [
      | then-passed-gt0 w ↦ record {
        end = l.invariant.end ∙ ap (λ (xs : List Saying). length xs) (sym w.sayings-is);
        few = omega (arith, w.refused-is, l.invariant.few);
        same = ap (λ (xs : List Saying). drop (i + 1) xs) w.sayings-is ∙ drop-more i ss hs l.invariant.same;
        said = said-over a hs bytes l.self on.self l.passed on.passed i l.refused on.refused ss on.sayings l.rest.now c.cut.result.behind.now none
            below l.invariant.same w.if-passed-gt0.true w.self-is w.sayings-is w.passed-is w.refused-is c.cut.ensures.behind l.invariant.said;
      }
      | else-passed-gt0 w ↦
          let g = w.say_one-said.result in record {
            end = l.invariant.end ∙ sym (length-set ss i g) ∙ ap (λ (xs : List Saying). length xs) (sym w.sayings-is);
            few = omega (arith, w.refused-is, w.refused_of-refused.ensures, refused-most g, l.invariant.few);
            same = ap (λ (xs : List Saying). drop (i + 1) xs) w.sayings-is ∙ drop-set-lt (i + 1) ss i g (omega arith) ∙ drop-more i ss hs l.invariant.same;
            said = said-one a hs bytes l.self on.self w.say_one-said.new.self l.passed on.passed i l.refused on.refused ss on.sayings l.rest.now c.cut.result.behind.now g none
                below l.invariant.same (omega (arith, w.if-passed-gt0.false)) (subst (λ others. SaysOne l.self w.say_one-said.new.self (get_or ss i none) others l.rest.now g) (others_are (i + 1) ss) w.say_one-said.ensures) w.self-is w.sayings-is
                (w.passed-is ∙ w.calls_of-passed.ensures) (w.refused-is ∙ ap (λ n. l.refused + n) w.refused_of-refused.ensures) c.cut.ensures.behind l.invariant.said;
          }
    ]

pub returns : goal.returns
returns c = said-all c.args.self.now c.args.sayings.now c.args.bytes.now c.loop-place.self c.loop-place.passed c.loop-place.place c.loop-place.refused c.loop-place.sayings c.loop-place.rest.now (omega arith) c.loop-place.invariant.same c.loop-place.invariant.said
