use Rattle.std.proofs.Common.{◌++◌, option_to_list, ap, sym, ◌∙◌, arith}
use Rattle.answer_desk.specs.Waiting.{unit_text}
use Rattle.answer_desk.specs.Seen.{waiting_of}
use Rattle.answer_desk.proofs.Texts.{filter_map-take_item}
use Rattle.answer_desk.proofs.front.texts_of.Goals as goal

pub loop-index-preserved : goal.loop-index-preserved
loop-index-preserved c =
    let waiting = waiting_of c.args.numbers.now in
    let units = c.args.units.now in
    c.in_ok-push_text.ensures ∙ ap (λ ts. ts ++ option_to_list (unit_text (waiting c.index.result.now))) c.loop-index.invariant
    ∙ sym (filter_map-take_item unit_text waiting units.items c.loop-index.index c.index.result.now (omega (arith, c.requires, units.ok)) c.index.ensures)
