use Rattle.std.proofs.Common.{◌≡◌, ℕ, ◌==◌, [], true, false, ap, subst, rules, arith}
use Rattle.std.specs.Ordering.{is_gt}
use Rattle.std.specs.declared.cmp.Ordering.TheVariants.{Less}
use Rattle.std.specs.declared.ops.Bound.TheVariants.{Excluded, Unbounded}
use Rattle.std.specs.BTreeMap.Range.{IsLeBy}
use Rattle.std.specs.BTreeSet as sorted
use Rattle.conversation_contents.specs.Numbers.{pair_cmp}
use Rattle.conversation_contents.proofs.Pairs.{no_key, least_key, above_key, same_mark, head_of}
use Rattle.conversation_contents.proofs.numbers_by_mark.NumbersByMark.next.Goals as goal

pub returns-in-Some : goal.returns-in-Some
returns-in-Some c =
    let within = c.range.ensures.in_range tt in
    let x = c.in-Some.field-0.now in
    let after : ℕ × ℕ = (c.args.mark, c.args.after) in
    let has = sorted.contains pair_cmp c.args.self.now.pairs in
    let same : x.0 ≡ c.args.mark = first_of (search rules, omega arith, grind arith) in
    let pair : x ≡ (c.args.mark, x.1) = ap (λ n. (n, x.1)) same in
    let first = head_of (sorted.IsKeyInRange pair_cmp (Excluded after) Unbounded c.args.self.now.pairs) _ _ x c.in-Some.ensures.steps within.1 in (
      above_key c.args.mark c.args.after x.1 (subst (λ p. pair_cmp after p ≡ Less) pair first.0.0),
      subst (λ p. has p ≡ true) pair first.1,
      least_key has c.args.mark c.args.after x.1 (λ q over there. subst (λ p. is_gt (pair_cmp p q) ≡ false) pair
          (head_of (λ k. IsLeBy pair_cmp k q) _ _ x c.in-Some.ensures.steps (within.2 q (over, tt) there))),
    )

pub returns-in_default : goal.returns-in_default
returns-in_default c =
    let within = c.range.ensures.in_range tt in
    let x = c.in-Some.field-0.now in
    let has = sorted.contains pair_cmp c.args.self.now.pairs in
    let other : (x.0 == c.args.mark) ≡ false = first_of (search rules, grind arith) in
    let after : ℕ × ℕ = (c.args.mark, c.args.after) in
    let first = head_of (sorted.IsKeyInRange pair_cmp (Excluded after) Unbounded c.args.self.now.pairs) _ _ x c.in-Some.ensures.steps within.1 in
    no_key has c.args.mark c.args.after x.0 x.1 other first.0.0
    (λ q over there. head_of (λ k. IsLeBy pair_cmp k q) _ _ x c.in-Some.ensures.steps (within.2 q (over, tt) there))

pub returns-in_default-2 : goal.returns-in_default-2
returns-in_default-2 c = λ k over.
    let none : (c.range.result ≡ []) × (c.next.new.self ≡ []) = rw c.in_default.is at c.next.ensures.steps in
    (c.range.ensures.in_range tt).5 none.0 (c.args.mark, k) (same_mark c.args.mark c.args.after k over, tt)
