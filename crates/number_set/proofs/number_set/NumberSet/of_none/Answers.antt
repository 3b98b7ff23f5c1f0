use Rattle.std.proofs.Common.{◌≡◌, ◌-◌, ◌+◌, ◌≤◌, map, replicate, take, ap, ◌∙◌, arith}
use Rattle.std.proofs.lemmas.Grind.{div_ceil_times}
use Rattle.number_set.specs.Levels.{total}
use Rattle.number_set.specs.Words.{marks_of}
use Rattle.number_set.proofs.Chains.{total-none, of-none}
use Rattle.number_set.proofs.number_set.NumberSet.of_none.Goals as goal

pub levels_over-requires : goal.levels_over-requires
levels_over-requires c =
    let zeros : c.in_ok-vec.field-0.items ≡ replicate c.div_ceil-count.result 0 = c.in_ok-vec.ensures.items_if_clones_equal (λ y is. is) in
    omega (arith, ap total zeros, total-none c.div_ceil-count.result)

pub invariant_of-result : goal.invariant_of-result
invariant_of-result c =
    let count = c.div_ceil-count.result in
    let room = c.args.end - c.args.first in
    let levels = map (λ counts. counts.items) c.in_ok-levels.levels.items in
    let zeros : c.in_ok-vec.field-0.items ≡ replicate count 0 = c.in_ok-vec.ensures.items_if_clones_equal (λ y is. is) in
    let words : c.in_ok-words.words.items ≡ replicate count 0 = c.in_ok-words.ensures.items_if_clones_equal (λ y is. is) in
    let times = div_ceil_times room 64 (omega arith) in
    let end : c.args.first + room ≤ 1000001 = omega (arith, c.requires.order, c.requires.most) in
    let made = of-none c.args.first room count levels end (omega (arith, times.0, c.div_ceil-count.ensures)) (omega (arith, times.1, c.div_ceil-count.ensures, end))
    c.in_ok-levels.ensures.sums (c.in_ok-levels.ensures.lowest ∙ zeros) in
    rw words made.0

pub returns : goal.returns
returns c =
    let count = c.div_ceil-count.result in
    let room = c.args.end - c.args.first in
    let levels = map (λ counts. counts.items) c.in_ok-levels.levels.items in
    let zeros : c.in_ok-vec.field-0.items ≡ replicate count 0 = c.in_ok-vec.ensures.items_if_clones_equal (λ y is. is) in
    let words : c.in_ok-words.words.items ≡ replicate count 0 = c.in_ok-words.ensures.items_if_clones_equal (λ y is. is) in
    let times = div_ceil_times room 64 (omega arith) in
    let end : c.args.first + room ≤ 1000001 = omega (arith, c.requires.order, c.requires.most) in
    let made = of-none c.args.first room count levels end (omega (arith, times.0, c.div_ceil-count.ensures)) (omega (arith, times.1, c.div_ceil-count.ensures, end))
    c.in_ok-levels.ensures.sums (c.in_ok-levels.ensures.lowest ∙ zeros) in
    ap (λ marks. record { first = c.args.first; marks = marks }) (ap (λ ws. take room (marks_of ws)) words ∙ made.1)
