use Rattle.std.proofs.Common.{◌≡◌, ◌+◌, ◌-◌, ◌<◌, [], Ok, Err, sym, arith}
use Rattle.handler_future.specs.Evaluation.{Replies, replies_from}
use Rattle.handler_future.specs.Front.{heard_replies}
use Rattle.handler_future.specs.ReplyValues.{kept_reply}
use Rattle.handler_future.proofs.KeptItems.{KeptBefore, kept_more, kept_error, kept_all, replies-first}
use Rattle.handler_future.proofs.reply_values.kept_values.Goals as goal

pub returns-in-Err : goal.returns-in-Err
returns-in-Err c =
    let R : Replies = heard_replies c.args.heard.now in
    let i = c.loop-called.called in let end = c.args.turn + c.args.calls in
    let below : i < end = omega arith in
    let here = rw (replies-first R i end below) at c.loop-called.invariant in
    let error : kept_reply c.args.on_error (R i) ≡ Err c.in-Err.error = cc (c.in_ok-value.ensures) in
    sym (kept_error c.args.on_error (replies_from R c.args.turn c.args.calls) c.loop-called.values (R i) (replies_from R (i + 1) (end - (i + 1))) c.in-Err.error here error)

pub loop-called-preserved : goal.loop-called-preserved
loop-called-preserved c =
    let R : Replies = heard_replies c.args.heard.now in
    let i = c.loop-called.called in let end = c.args.turn + c.args.calls in
    let below : i < end = omega arith in
    let here = rw (replies-first R i end below) at c.loop-called.invariant in
    let value : kept_reply c.args.on_error (R i) ≡ Ok c.in-Ok.value = cc (c.in_ok-value.ensures) in
    rw c.in_ok-push-in-Ok.ensures.ok
    (kept_more c.args.on_error (replies_from R c.args.turn c.args.calls) c.loop-called.values (R i) (replies_from R (i + 1) (end - (i + 1))) c.in-Ok.value here value)

pub returns : goal.returns
returns c =
    let R : Replies = heard_replies c.args.heard.now in
    let i = c.loop-called.called in let end = c.args.turn + c.args.calls in
    let none : end - i ≡ 0 = omega arith in
    let here : KeptBefore c.args.on_error (replies_from R c.args.turn c.args.calls) c.loop-called.values [] = rw none at c.loop-called.invariant in
    rw c.finish.ensures (sym (kept_all c.args.on_error (replies_from R c.args.turn c.args.calls) c.loop-called.values here))
