use Rattle.std.proofs.Common.{◌≡◌, ◌+◌, ◌++◌, [], ◌∷◌, map, take, ap, sym, ◌∙◌}
use Rattle.std.proofs.lemmas.List.{take_more, map-append}
use Rattle.peer_output.specs.Course.{message}
use Rattle.peer_output.specs.Items.{sent, message_text}
use Rattle.peer_session.specs.Inner.Writing.{Counts}
use Rattle.peer_session.proofs.Puts.{map-more, put-on, one-put, counts-on}
use Rattle.peer_session.proofs.writing.put_messages.Goals as goal

pub loop-message-preserved : goal.loop-message-preserved
loop-message-preserved c =
    let n = c.args.number in
    let ms = c.args.messages.now in
    let m = c.message-item.result in
    let had = map (sent n) (map message (take c.loop-message.message-index ms)) in
    let item = sent n (message m) in
    let taken : take (c.loop-message.message-index + 1) ms ≡ take c.loop-message.message-index ms ++ m ∷ [] =
    take_more ms c.loop-message.message-index m c.loop-message-test.true ∙ ap (λ x. take c.loop-message.message-index ms ++ x ∷ []) (sym c.message-item.is) in
    let more : map (sent n) (map message (take (c.loop-message.message-index + 1) ms)) ≡ had ++ item ∷ [] =
    ap (map (sent n)) (map-more message ms c.loop-message.message-index m taken) ∙ map-append (sent n) (map message (take c.loop-message.message-index ms)) (message m ∷ []) in
    let text : c.as_slice.result.now ≡ message_text n m =
    c.as_slice.ensures.value ∙ c.in_ok-put_message.ensures ∙ ap (λ l. l ++ message_text n m) c.clear.ensures.items in
    let one : Counts c.of_message.result (item ∷ []) = record { messages = c.of_message.ensures.messages; call_frames = c.of_message.ensures.call_frames } in
    rw more (record {
      bytes = put-on c.args.framing c.args.bytes.now.items c.loop-message.bytes.items c.put_text.new.bytes.items had (item ∷ []) c.loop-message.invariant.bytes
          (c.in_ok-put_text.ensures.ok ∙ one-put c.args.framing c.loop-message.bytes.items c.as_slice.result.now item text);
      counts = counts-on c.loop-message.written c.of_message.result c.and-written.result had (item ∷ []) c.loop-message.invariant.counts one c.and-written.ensures;
    })
