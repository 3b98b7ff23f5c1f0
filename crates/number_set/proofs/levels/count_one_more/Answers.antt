use Rattle.std.proofs.Common.{◌≡◌, ◌<◌, [], length, map, slice_index, slice_index_or, sym, ap, ◌∙◌, add-one, arith}
use Rattle.std.proofs.lemmas.Grind.{common_steps}
use Rattle.number_set.specs.Levels.{half, half_often, one_more_up_to}
use Rattle.number_set.proofs.Sums.{half-is}
use Rattle.number_set.proofs.Sets.{length-mapped}
use Rattle.number_set.proofs.Along.{mapped_at, mapped_set, half_often-suc, length-more_up_to, next_more-fits, next_more, all_more}
use Rattle.number_set.proofs.levels.count_one_more.Goals as goal

pub index_mut-requires : goal.index_mut-requires
index_mut-requires c =
    let levels = map (λ counts. counts.items) c.args.levels.now in
    let vec = slice_index_or c.loop-level.levels c.loop-level.level c.index-levels-level.result in
    let inside : c.loop-level.level < length c.loop-level.levels = grind (arith, common_steps, c.loop-level-test.true) in
    let same : length c.loop-level.levels ≡ length levels = omega (
      arith,
      length-mapped (λ counts. counts.items) c.loop-level.levels,
      ap length c.loop-level.invariant.counted,
      length-more_up_to c.loop-level.level c.args.place levels,
    ) in
    let here : vec.items ≡ slice_index_or (one_more_up_to c.loop-level.level c.args.place levels) c.loop-level.level [] =
    mapped_at (λ counts. counts.items) c.loop-level.levels c.loop-level.level c.index-levels-level.result inside
    ∙ ap (λ ls. slice_index_or ls c.loop-level.level []) c.loop-level.invariant.counted in
    let fits = next_more-fits c.loop-level.level c.args.place levels c.requires (omega (arith, inside, same)) in
    rw c.loop-level.invariant.at (omega (arith, fits.0, ap length here, vec.ok.0))

pub overflow_add-index_mut : goal.overflow_add-index_mut
overflow_add-index_mut c =
    let levels = map (λ counts. counts.items) c.args.levels.now in
    let vec = slice_index_or c.loop-level.levels c.loop-level.level c.index-levels-level.result in
    let inside : c.loop-level.level < length c.loop-level.levels = grind (arith, common_steps, c.loop-level-test.true) in
    let same : length c.loop-level.levels ≡ length levels = omega (
      arith,
      length-mapped (λ counts. counts.items) c.loop-level.levels,
      ap length c.loop-level.invariant.counted,
      length-more_up_to c.loop-level.level c.args.place levels,
    ) in
    let here : vec.items ≡ slice_index_or (one_more_up_to c.loop-level.level c.args.place levels) c.loop-level.level [] =
    mapped_at (λ counts. counts.items) c.loop-level.levels c.loop-level.level c.index-levels-level.result inside
    ∙ ap (λ ls. slice_index_or ls c.loop-level.level []) c.loop-level.invariant.counted in
    let fits = next_more-fits c.loop-level.level c.args.place levels c.requires (omega (arith, inside, same)) in
    let now : c.index_mut.result.now ≡ slice_index (slice_index_or (one_more_up_to c.loop-level.level c.args.place levels) c.loop-level.level []) (half_often c.loop-level.level c.args.place) =
    rw (sym here, sym c.loop-level.invariant.at) (grind (arith, common_steps, c.index_mut.ensures.value)) in
    omega (arith, now, fits.1)

pub loop-level-preserved : goal.loop-level-preserved
loop-level-preserved c =
    let levels = map (λ counts. counts.items) c.args.levels.now in
    let vec = slice_index_or c.loop-level.levels c.loop-level.level c.index-levels-level.result in
    let inside : c.loop-level.level < length c.loop-level.levels = grind (arith, common_steps, c.loop-level-test.true) in
    let same : length c.loop-level.levels ≡ length levels = omega (
      arith,
      length-mapped (λ counts. counts.items) c.loop-level.levels,
      ap length c.loop-level.invariant.counted,
      length-more_up_to c.loop-level.level c.args.place levels,
    ) in
    let here : vec.items ≡ slice_index_or (one_more_up_to c.loop-level.level c.args.place levels) c.loop-level.level [] =
    mapped_at (λ counts. counts.items) c.loop-level.levels c.loop-level.level c.index-levels-level.result inside
    ∙ ap (λ ls. slice_index_or ls c.loop-level.level []) c.loop-level.invariant.counted in
    let fits = next_more-fits c.loop-level.level c.args.place levels c.requires (omega (arith, inside, same)) in
    let now : c.index_mut.result.now ≡ slice_index (slice_index_or (one_more_up_to c.loop-level.level c.args.place levels) c.loop-level.level []) (half_often c.loop-level.level c.args.place) =
    rw (sym here, sym c.loop-level.invariant.at) (grind (arith, common_steps, c.index_mut.ensures.value)) in
    record {
      counted = mapped_set (λ counts. counts.items) c.loop-level.levels c.loop-level.level _
          ∙ rw (now, add-one c.loop-level.level, here, c.loop-level.invariant.at, c.loop-level.invariant.counted) (next_more c.loop-level.level c.args.place levels (omega (arith, inside, same)));
      at = half-is c.loop-level.at ∙ ap half c.loop-level.invariant.at ∙ sym (half_often-suc c.loop-level.level c.args.place) ∙ ap (λ k. half_often k c.args.place) (sym (add-one c.loop-level.level));
    }

pub returns : goal.returns
returns c =
    let levels = map (λ counts. counts.items) c.args.levels.now in
    c.loop-level.invariant.counted ∙ all_more c.loop-level.level c.args.place levels (omega (
      arith,
      c.loop-level-test.false,
      length-mapped (λ counts. counts.items) c.args.levels.now,
    ))
