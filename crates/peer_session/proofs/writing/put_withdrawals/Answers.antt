use Rattle.std.proofs.Common.{◌≡◌, ◌+◌, ◌++◌, [], ◌∷◌, map, take, get_or, ap, ◌∙◌, arith}
use Rattle.std.proofs.lemmas.List.{take_more, map-append}
use Rattle.rpc_messages.specs.Texts.{withdraw_text_of}
use Rattle.peer_output.specs.Course.{withdrawal}
use Rattle.peer_output.specs.Items.{sent}
use Rattle.peer_session.proofs.Puts.{map-more, put-on, one-put, withdrawn-counts}
use Rattle.peer_session.proofs.writing.put_withdrawals.Goals as goal

pub loop-turn-preserved : goal.loop-turn-preserved
loop-turn-preserved c =
    let n = c.args.number in
    let ts = c.args.turns.now in
    let t = get_or ts c.loop-turn.turn-index 0 in
    let had = map (sent n) (map withdrawal (take c.loop-turn.turn-index ts)) in
    let item = sent n (withdrawal t) in
    let taken : take (c.loop-turn.turn-index + 1) ts ≡ take c.loop-turn.turn-index ts ++ t ∷ [] = take_more ts c.loop-turn.turn-index 0 c.loop-turn-test.true in
    let more : map (sent n) (map withdrawal (take (c.loop-turn.turn-index + 1) ts)) ≡ had ++ item ∷ [] =
    ap (map (sent n)) (map-more withdrawal ts c.loop-turn.turn-index t taken) ∙ map-append (sent n) (map withdrawal (take c.loop-turn.turn-index ts)) (withdrawal t ∷ []) in
    let text : c.as_slice.result.now ≡ withdraw_text_of n t =
    c.as_slice.ensures.value ∙ c.in_ok-put_withdrawal.ensures.text ∙ ap (λ l. l ++ withdraw_text_of n t) c.clear.ensures.items in
    rw more (put-on c.args.framing c.args.bytes.now.items c.loop-turn.bytes.items c.put_text.new.bytes.items had (item ∷ []) c.loop-turn.invariant
    (c.in_ok-put_text.ensures.ok ∙ one-put c.args.framing c.loop-turn.bytes.items c.as_slice.result.now item text))

pub returns-clause-counts : goal.returns-clause-counts
returns-clause-counts c = withdrawn-counts c.args.number c.args.turns.now (omega arith)
