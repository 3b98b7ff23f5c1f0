use Rattle.std.proofs.Common.{◌≡◌, ◌≢◌, ◌+◌, ◌≤◌, ◌<◌, ℕ, ap, sym, subst, ◌∙◌, arith}
use Rattle.number_set.specs.Numbers.{HasRoom, is_in, with_mark}
use Rattle.answer_desk.specs.Desk.{view as desk_view}
use Rattle.peer_events.specs.Stages.{stage_at}
use Rattle.peer_events.specs.Turning.{is_ready_stage}
use Rattle.session_runs.proofs.Marked.{each-number, marked-here, marked-other, marked-room}
use Rattle.session_runs.proofs.marks.mark_ready.Goals as goal

pub set_mark-requires : goal.set_mark-requires
set_mark-requires c = λ is.
    c.loop-number.invariant.room c.loop-number.number
    (c.requires.room c.loop-number.number c.loop-number.invariant.from c.loop-number-test.true (sym c.is_ready_at-is_ready.ensures ∙ is))

pub loop-number-preserved : goal.loop-number-preserved
loop-number-preserved c =
    let n = c.loop-number.number in
    let mark = c.is_ready_at-is_ready.result in
    let set = c.loop-number.set in
    let inv = c.loop-number.invariant in
    let made : c.set_mark.new.set ≡ with_mark mark n set = c.set_mark.ensures in
    let other : (k : ℕ) → k ≢ n → is_in c.set_mark.new.set k ≡ is_in set k = λ k apart. ap (λ s. is_in s k) made ∙ marked-other mark n k set apart in
    record {
      from = omega (arith, inv.from);
      within = each-number (λ k. c.args.first ≤ k → k < n + 1 → is_in c.set_mark.new.set k ≡ is_ready_stage (desk_view c.args.desk.now) (stage_at c.args.stages.now k)) n
          (λ reached below. ap (λ s. is_in s n) made
          ∙ marked-here mark n set (λ is. inv.room n (c.requires.room n inv.from c.loop-number-test.true (sym c.is_ready_at-is_ready.ensures ∙ is)))
          ∙ c.is_ready_at-is_ready.ensures)
          (λ k apart reached below. other k apart ∙ inv.within k reached (omega (arith, below, apart)));
      below = λ k before. other k (λ same. omega (arith, same, before, inv.from)) ∙ inv.below k before;
      beyond = λ k past. other k (λ same. omega (arith, same, past)) ∙ inv.beyond k (omega (arith, past));
      room = λ k had. subst (λ s. HasRoom s k) (sym made) (marked-room mark n k set (inv.room k had));
    }

pub returns : goal.returns
returns c =
    let inv = c.loop-number.invariant in
    let ends : c.loop-number.number ≤ c.args.end = c.loop-number.auto.number-end c.requires.order in
    record {
      within = λ n reached below. inv.within n reached (omega (arith, below, c.loop-number-test.false));
      below = inv.below;
      beyond = λ n past. inv.beyond n (omega (arith, past, ends));
      room = inv.room;
    }
