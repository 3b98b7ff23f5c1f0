use Rattle.std.proofs.Common.{◌≡◌, ◌+◌, ◌++◌, map, take, option_to_list, ap, sym, ◌∙◌, arith}
use Rattle.std.proofs.lemmas.Grind.{flat_map-append}
use Rattle.std.proofs.lemmas.List.{append_assoc, length-append}
use Rattle.std.specs.List.{filter_map, flat_map}
use Rattle.lsp_frames.specs.Frames.{written}
use Rattle.answer_desk.specs.Waiting.{unit_text}
use Rattle.answer_desk.specs.Seen.{waiting_of}
use Rattle.answer_desk.proofs.Texts.{filter_map-take_item, cut_back}
use Rattle.answer_desk.proofs.front.put_frames.Goals as goal

pub loop-index-preserved : goal.loop-index-preserved
loop-index-preserved c =
    let waiting = waiting_of c.args.numbers.now in
    let units = c.args.units.now in
    let put = c.in-Ok.ensures in
    let had = filter_map unit_text (map waiting (take c.loop-index.index units.items)) in
    let text = option_to_list (unit_text (waiting c.index.result.now)) in
    let more : filter_map unit_text (map waiting (take (c.loop-index.index + 1) units.items)) ≡ had ++ text =
    filter_map-take_item unit_text waiting units.items c.loop-index.index c.index.result.now (omega (arith, c.requires, units.ok)) c.index.ensures in
    rw more (record {
      bytes = put.bytes ∙ ap (λ bytes. bytes ++ flat_map written text) c.loop-index.invariant.bytes
          ∙ append_assoc c.args.bytes.now.items (flat_map written had) (flat_map written text)
          ∙ ap (λ frames. c.args.bytes.now.items ++ frames) (sym (flat_map-append written had text));
      answers = omega (arith, put.count, c.loop-index.invariant.answers, length-append had text);
      few = omega (arith, put.few, c.loop-index.invariant.few);
    })

pub returns-in-Err-clause-err : goal.returns-in-Err-clause-err
returns-in-Err-clause-err c =
    let old = c.args.bytes.now.items in
    let had = filter_map unit_text (map (waiting_of c.args.numbers.now) (take c.loop-index.index c.args.units.now.items)) in
    c.truncate.ensures.items
    ∙ cut_back c.put_unit_frame.new.bytes.items old (flat_map written had) c.len-before.result
    (c.in-Err.ensures.err ∙ c.loop-index.invariant.bytes) (c.len-before.ensures ∙ c.args.bytes.now.ok.0)
