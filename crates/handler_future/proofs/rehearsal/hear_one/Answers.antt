use Rattle.std.proofs.Common.{◌≡◌, ◌∙◌, ap, arith, Contains, Some}
use Rattle.std.specs.Prelude.{IsOk, slice_get}
use Rattle.std.proofs.lemmas.Grind.{common_steps}
use Rattle.handler_future.specs.State.{with_heard}
use Rattle.handler_future.proofs.Rehearsing.{first_awaited, first_is_among}
use Rattle.handler_future.proofs.rehearsal.hear_one.Goals as goal

pub returns-in-Some : goal.returns-in-Some
returns-in-Some c =
    let first : Some c.in-Some.turn ≡ slice_get c.args.handler.now.waits 0 = grind (arith, common_steps, c.in-Some.ensures, c.first.ensures.value, c.waits.ensures.value) in
    let awaited : Contains c.args.handler.now.waits c.in-Some.turn =
    first_awaited c.args.handler.now.waits c.in-Some.turn first in
    let ok : IsOk c.hear.result = c.hear.ensures.awaited ∙ first_is_among c.args.handler.now.waits c.in-Some.turn first in
    let state : c.hear.new.self ≡ with_heard c.args.handler.now c.in-Some.turn c.reply_of-reply.result = grind (arith, common_steps, ok, c.hear.ensures.ok) in
    record {
      turn = c.in-Some.turn;
      awaited = awaited;
      state = state ∙ ap (with_heard c.args.handler.now c.in-Some.turn) c.reply_of-reply.ensures.reply;
      others = c.reply_of-reply.ensures.others;
    }
