use Rattle.std.proofs.Common.{arith}
use Rattle.json_texts.proofs.Whole.{run_is_number}
use Rattle.json_texts.proofs.Blanks.{nothing_read, one_more_natural}
use Rattle.json_texts.proofs.compacting.append_naturals.Goals as goal

pub loop-at-init : goal.loop-at-init
loop-at-init c = record { behind = omega arith; within = c.requires; reads = nothing_read c.args.text.now c.args.out.now c.args.from }

pub loop-at-preserved : goal.loop-at-preserved
loop-at-preserved c =
    let text = c.args.text.now in
    let at = c.loop-at.at in
    let comma = c.in-Some.comma in
    let its = c.in-Some.ensures in
    let next = c.gap_end-at in
    let below = its.bounds.0 in
    let number = run_is_number text at comma its.digits (λ e. omega (arith, e, below)) its.alone in
    record {
      behind = omega (arith, c.loop-at.invariant.behind, below, next.ensures.value);
      within = next.ensures.bound;
      reads = one_more_natural text c.args.out.now c.loop-at.out c.append.new.self c.args.from at comma next.result below its.bounds.1 number.0 its.comma c.loop-at.invariant.reads
          c.in_ok-append.ensures next.ensures.value;
    }
