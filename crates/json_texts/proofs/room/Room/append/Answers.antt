use Rattle.std.proofs.Common.{◌≡◌, ◌+◌, ◌-◌, ◌++◌, length, take, drop, refl, ap, ◌∙◌, arith, append_assoc, length-take, length-drop}
use Rattle.std.proofs.lemmas.List.{take-take}
use Rattle.std.proofs.lemmas.Simd.{put_chunk_whole}
use Rattle.std.specs.Simd.Lanes.{put_chunk}
use borrow.Rule.Slice.PartMut.{post_of}
use Rattle.json_texts.proofs.Placed.{written_front}
use Rattle.json_texts.proofs.room.Room.append.Goals as goal

pub returns-then-len-self-ge-STORE : goal.returns-then-len-self-ge-STORE
returns-then-len-self-ge-STORE c =
    let text = c.args.text.now in
    let from = c.args.from in
    let len = c.self.inside.len in
    let count = c.args.to - from in
    let room = c.as_mut_slice.result.now in
    let bytes = c.self.inside.bytes.items in
    let value : room ≡ bytes = c.as_mut_slice.ensures.value in
    let some = take 16 (drop from text) in
    let part = take (len + 16 - len) (drop len room) in
    let long : length part ≡ 16 =
    omega (arith, ap length value, length-take (len + 16 - len) (drop len room), length-drop len room, c.if-len-self-ge-STORE.true, c.len.ensures) in
    let as_long : length some ≡ 16 = omega (arith, length-take 16 (drop from text), length-drop from text, c.if-is_within.true) in
    let stored : put_chunk 0 part some ≡ some = put_chunk_whole part some (omega (arith, long, as_long)) in
    let behind = post_of len (len + 16 - len) room in
    let items = take len room ++ (put_chunk 0 part some ++ behind) in
    let others = drop (length items) bytes in
    take-take (len + count) c.self.inside.bytes.len (items ++ others) (omega (arith, c.if-count-le-STORE.true, c.if-len-self-ge-STORE.true, c.len.ensures))
    ∙ ap (take (len + count)) (append_assoc (take len room) (put_chunk 0 part some ++ behind) others ∙ ap (λ l. take len room ++ l) (append_assoc (put_chunk 0 part some) behind others))
    ∙ ap (λ l. take (len + count) (take len room ++ (l ++ (behind ++ others)))) stored
    ∙ written_front bytes room text some (behind ++ others) len count from value c.self.invariant (omega (arith, c.if-count-le-STORE.true)) refl (omega (arith, c.if-is_within.true))
    ∙ ap (λ l. l ++ take count (drop from text)) c.self.view_is
