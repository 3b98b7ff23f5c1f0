use Rattle.std.proofs.Common.{◌≡◌, sym, ◌∙◌, ap}
use Rattle.std.proofs.lemmas.Result.{IfOk-weaker}
use Rattle.handler_future.specs.Evaluation.{Replies, replies_from}
use Rattle.handler_future.specs.Front.{heard_replies}
use Rattle.handler_future.specs.ReplyValues.{value_of_replies, kept_reply}
use Rattle.handler_future.proofs.KeptItems.{kept_first-some}
use Rattle.handler_future.proofs.reply_values.value_of_replies.Goals as goal

pub returns-in-Call : goal.returns-in-Call
returns-in-Call c =
    let R : Replies = heard_replies c.args.heard.now in
    let rs = replies_from R c.args.turn c.args.calls in
    IfOk-weaker c.kept_turn.result (λ v. v ≡ kept_reply c.in-Call.on_error (R c.args.turn)) (λ v. v ≡ value_of_replies c.args.step.now rs) (λ v h. h ∙ sym (ap (λ s. value_of_replies s rs) c.in-Call.is ∙ kept_first-some c.in-Call.on_error R c.args.turn c.args.calls c.requires.some)) c.kept_turn.ensures
