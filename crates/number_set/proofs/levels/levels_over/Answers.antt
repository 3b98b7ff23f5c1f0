use Rattle.std.proofs.Common.{◌≡◌, ◌<◌, ◌∷◌, ◌++◌, [], length, map, subst, sym, ap, ◌∙◌, arith}
use Rattle.number_set.specs.Levels.{pair_sums}
use Rattle.number_set.proofs.Sums.{total-pair_sums}
use Rattle.number_set.proofs.Chains.{shorter, chain_more, chain_ends, lowest_more, mapped_push}
use Rattle.number_set.proofs.levels.levels_over.Goals as goal

pub loop-alloc-smaller : goal.loop-alloc-smaller
loop-alloc-smaller c =
    let counts = c.loop-alloc.counts in
    let same : c.in_ok-sums.sums.items ≡ pair_sums counts.items = c.in_ok-sums.ensures ∙ ap pair_sums c.as_slice.ensures.value in
    subst (λ xs. length xs < length counts.items) (sym same) (shorter counts.items (omega (arith, c.loop-alloc-test.true, c.len.ensures, counts.ok.0)))

pub loop-alloc-preserved : goal.loop-alloc-preserved
loop-alloc-preserved c =
    let counts = c.loop-alloc.counts in
    let below = map (λ counts. counts.items) c.loop-alloc.levels.items in
    let same : c.in_ok-sums.sums.items ≡ pair_sums counts.items = c.in_ok-sums.ensures ∙ ap pair_sums c.as_slice.ensures.value in
    let pushed : map (λ counts. counts.items) c.push.new.self.items ≡ below ++ counts.items ∷ [] =
    ap (map (λ counts. counts.items)) c.in_ok-push.ensures.items ∙ mapped_push (λ counts. counts.items) c.loop-alloc.levels.items counts in
    record {
      chain = rw (pushed, same) (chain_more below counts.items c.loop-alloc.invariant.chain);
      lowest = rw (pushed, same) (lowest_more below counts.items (pair_sums counts.items) ∙ c.loop-alloc.invariant.lowest);
      small = rw same (omega (arith, total-pair_sums counts.items, c.loop-alloc.invariant.small));
    }

pub returns-clause-sums : goal.returns-clause-sums
returns-clause-sums c =
    let counts = c.loop-alloc.counts in
    let below = map (λ counts. counts.items) c.loop-alloc.levels.items in
    let pushed : map (λ counts. counts.items) c.push-2.new.self.items ≡ below ++ counts.items ∷ [] =
    ap (map (λ counts. counts.items)) c.in_ok-push-2.ensures.items ∙ mapped_push (λ counts. counts.items) c.loop-alloc.levels.items counts in
    rw pushed (chain_ends below counts.items c.loop-alloc.invariant.chain (omega (arith, c.loop-alloc-test.false, c.len.ensures, counts.ok.0)))
