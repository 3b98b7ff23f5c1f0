use Rattle.std.proofs.Common.{◌≡◌, ◌-◌, ◌++◌, map, length, drop, IfOk, OnOk, ap, subst, ◌∙◌, rules}
use Rattle.peer_events.specs.declared.stage.Stage.TheVariants.{Idle, Over}
use Rattle.peer_output.specs.Course.{message, withdrawal}
use Rattle.peer_output.specs.Items.{sent}
use Rattle.peer_session.specs.Framings.{bytes_in}
use Rattle.peer_events.specs.Core.{stage_at}
use Rattle.peer_session.specs.declared.writing.Written.{Written}
use Rattle.peer_session.specs.Inner.Writing.{Counts}
use Rattle.peer_session.proofs.Puts.{idle-items, over-items, put-on, counts-on}
use Rattle.peer_session.proofs.writing.put_number.Goals as goal

pub returns-in-Some-Idle-clause-bytes : goal.returns-in-Some-Idle-clause-bytes
returns-in-Some-Idle-clause-bytes c =
    let is : stage_at c.args.runs.now c.args.number ≡ Idle c.in-Some-Idle.handler c.in-Some-Idle.so_far = first_of (cc (c.in-Some-Idle.ensures.stage, c.in-Some-Idle.field-0-is), search rules) in
    let same = idle-items c.args.number c.in-Some-Idle.handler c.in-Some-Idle.so_far (stage_at c.args.runs.now c.args.number) c.behind-messages.result.now is
    (c.behind-messages.ensures ∙ ap (drop c.in-Some-Idle.so_far) c.messages.ensures.value) in
    subst (λ l. OnOk c.put_messages.result (c.put_messages.new.bytes.items ≡ c.args.bytes.now.items ++ bytes_in c.args.framing l)) same c.put_messages.ensures.bytes

pub returns-in-Some-Idle-clause-counts : goal.returns-in-Some-Idle-clause-counts
returns-in-Some-Idle-clause-counts c =
    let is : stage_at c.args.runs.now c.args.number ≡ Idle c.in-Some-Idle.handler c.in-Some-Idle.so_far = first_of (cc (c.in-Some-Idle.ensures.stage, c.in-Some-Idle.field-0-is), search rules) in
    let same = idle-items c.args.number c.in-Some-Idle.handler c.in-Some-Idle.so_far (stage_at c.args.runs.now c.args.number) c.behind-messages.result.now is
    (c.behind-messages.ensures ∙ ap (drop c.in-Some-Idle.so_far) c.messages.ensures.value) in
    subst (λ l. IfOk c.put_messages.result (λ (written : Written). Counts written l)) same c.put_messages.ensures.counts

pub returns-in_ok-put_withdrawals-in-Some-Over-clause-bytes : goal.returns-in_ok-put_withdrawals-in-Some-Over-clause-bytes
returns-in_ok-put_withdrawals-in-Some-Over-clause-bytes c =
    let n = c.args.number in
    let h = c.in-Some-Over.handler in
    let so_far = c.in-Some-Over.so_far in
    let is : stage_at c.args.runs.now c.args.number ≡ Over c.in-Some-Over.handler c.in-Some-Over.so_far = first_of (cc (c.in-Some-Over.ensures.stage, c.in-Some-Over.field-0-is), search rules) in
    let same = over-items n h so_far (stage_at c.args.runs.now n) c.behind-messages-in-Some-Over.result.now c.behind-turns.result.now is
    (c.behind-messages-in-Some-Over.ensures ∙ ap (drop so_far) c.messages-in-Some-Over.ensures.value)
    (c.behind-turns.ensures ∙ ap (λ k. drop k c.waits.result.now) (c.saturating_sub.ensures ∙ ap (λ l. so_far - length l) c.messages-made.ensures.value)
    ∙ ap (drop (so_far - length h.messages)) c.waits.ensures.value) in
    put-on c.args.framing c.args.bytes.now.items c.put_messages-in-Some-Over.new.bytes.items c.put_withdrawals.new.bytes.items
    (map (sent n) (map message c.behind-messages-in-Some-Over.result.now)) (map (sent n) (map withdrawal c.behind-turns.result.now))
    c.in_ok-written-in-Some-Over.ensures.bytes c.in_ok-put_withdrawals-in-Some-Over.ensures.bytes
    ∙ ap (λ l. c.args.bytes.now.items ++ bytes_in c.args.framing l) same

pub returns-in_ok-put_withdrawals-in-Some-Over-clause-counts : goal.returns-in_ok-put_withdrawals-in-Some-Over-clause-counts
returns-in_ok-put_withdrawals-in-Some-Over-clause-counts c =
    let n = c.args.number in
    let h = c.in-Some-Over.handler in
    let so_far = c.in-Some-Over.so_far in
    let is : stage_at c.args.runs.now c.args.number ≡ Over c.in-Some-Over.handler c.in-Some-Over.so_far = first_of (cc (c.in-Some-Over.ensures.stage, c.in-Some-Over.field-0-is), search rules) in
    let same = over-items n h so_far (stage_at c.args.runs.now n) c.behind-messages-in-Some-Over.result.now c.behind-turns.result.now is
    (c.behind-messages-in-Some-Over.ensures ∙ ap (drop so_far) c.messages-in-Some-Over.ensures.value)
    (c.behind-turns.ensures ∙ ap (λ k. drop k c.waits.result.now) (c.saturating_sub.ensures ∙ ap (λ l. so_far - length l) c.messages-made.ensures.value)
    ∙ ap (drop (so_far - length h.messages)) c.waits.ensures.value) in
    subst (Counts c.and.result) same
    (counts-on c.in_ok-written-in-Some-Over.written c.in_ok-put_withdrawals-in-Some-Over.field-0 c.and.result
    (map (sent n) (map message c.behind-messages-in-Some-Over.result.now)) (map (sent n) (map withdrawal c.behind-turns.result.now))
    c.in_ok-written-in-Some-Over.ensures.counts c.in_ok-put_withdrawals-in-Some-Over.ensures.counts c.and.ensures)
