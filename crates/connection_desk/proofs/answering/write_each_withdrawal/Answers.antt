use Rattle.std.proofs.Common.{◌≡◌, ◌<◌, ◌++◌, ◌∷◌, [], length, sym, ap, subst, ◌∙◌}
use Rattle.std.specs.Option.{IfSome}
use Rattle.connection_messages.specs.Texts.{withdrawal_text}
use Rattle.open_calls.specs.declared.own_call.OwnCall.{OwnCall}
use Rattle.connection_desk.specs.Desks.{with_texts}
use Rattle.connection_desk.specs.Inner.{rest_of}
use Rattle.connection_desk.proofs.Entries.{WithdrawalLaws}
use Rattle.connection_desk.proofs.OwedLists.{more_since, same_since}
use Rattle.connection_desk.proofs.Rests.{IsThere}
use Rattle.connection_desk.proofs.Withdrawn.{wanted, withdrawals, first_rest, next_is_there, said_one, fewer_left}
use Rattle.connection_desk.proofs.answering.write_each_withdrawal.Goals as goal

pub loop-next-init : goal.loop-next-init
loop-next-init c =
    let laws : WithdrawalLaws OwnCall = record {
      at = c.numbers_above_one.ensures.at;
      pass = c.numbers_above_one.ensures.pass;
      found = c.an_entry_changes_or_goes.ensures.found;
    } in
    let waiting = c.args.own.now.waiting in
    record {
      said = ap (λ es. with_texts (withdrawals c.args.by es) c.args.outbox.now) (first_rest laws c.args.number waiting c.next_of-next.result c.next_of-next.ensures.positive c.next_of-next.ensures.key);
      since = same_since c.args.outbox.now;
      there = next_is_there laws c.args.number 0 waiting c.next_of-next.result c.next_of-next.ensures.ascending c.next_of-next.ensures.key;
    }

pub loop-next-smaller : goal.loop-next-smaller
loop-next-smaller c =
    let laws : WithdrawalLaws OwnCall = record {
      at = c.numbers_above_one.ensures.at;
      pass = c.numbers_above_one.ensures.pass;
      found = c.an_entry_changes_or_goes.ensures.found;
    } in
    let key = c.in-Some.key in
    let waiting = c.args.own.now.waiting in
    let calls = wanted c.args.number waiting in
    let there : IsThere calls key = subst (λ o. IfSome o (IsThere calls)) c.in-Some.is c.loop-next.invariant.there in
    subst (λ o. length (rest_of c.next_of-next-in-Some.result calls) < length (rest_of o calls)) (sym c.in-Some.is)
    (fewer_left laws c.args.number key waiting c.next_of-next-in-Some.result c.next_of-next.ensures.ascending there c.next_of-next-in-Some.ensures.key)

pub loop-next-preserved : goal.loop-next-preserved
loop-next-preserved c =
    let laws : WithdrawalLaws OwnCall = record {
      at = c.numbers_above_one.ensures.at;
      pass = c.numbers_above_one.ensures.pass;
      found = c.an_entry_changes_or_goes.ensures.found;
    } in
    let key = c.in-Some.key in
    let waiting = c.args.own.now.waiting in
    let calls = wanted c.args.number waiting in
    let order = c.next_of-next.ensures.ascending in
    let next = c.next_of-next-in-Some.result in
    let there : IsThere calls key = subst (λ o. IfSome o (IsThere calls)) c.in-Some.is c.loop-next.invariant.there in
    let text : c.write_withdrawal.new.bytes.items ≡ withdrawal_text c.args.by key =
    c.in_ok-write_withdrawal.ensures.text ∙ ap (λ t. t ++ withdrawal_text c.args.by key) c.clear.ensures.items in
    let said : c.put.new.self ≡ with_texts (withdrawal_text c.args.by key ∷ []) c.loop-next.outbox =
    c.in_ok-put.ensures.ok ∙ ap (λ t. with_texts (t ∷ []) c.loop-next.outbox) (c.as_slice.ensures.value ∙ text) in
    record {
      said = said_one laws c.args.by c.args.number key waiting next c.loop-next.outbox c.put.new.self order there c.next_of-next-in-Some.ensures.key said
          ∙ ap (λ o. with_texts (withdrawals c.args.by (rest_of o calls)) c.loop-next.outbox) (sym c.in-Some.is)
          ∙ c.loop-next.invariant.said;
      since = more_since (withdrawal_text c.args.by key ∷ []) c.args.outbox.now c.loop-next.outbox c.put.new.self c.loop-next.invariant.since said;
      there = next_is_there laws c.args.number key waiting next order c.next_of-next-in-Some.ensures.key;
    }
