use Rattle.std.proofs.Common.{◌∙◌, ap, sym, arith}
use Rattle.conversation_dues.specs.Left.{are_in_line}
use Rattle.conversation_dues.proofs.InLine.{none_left}
use Rattle.conversation_dues.proofs.Steps.{drop_past}
use Rattle.conversation_dues.proofs.arrays.are_in_line.Goals as goal

pub returns : goal.returns
returns c =
    let left = c.loop-id.left.now in
    c.is_empty.ensures ∙ none_left left ∙ ap (are_in_line left) (sym (drop_past c.args.ids.now c.loop-id.id-index (omega arith))) ∙ c.loop-id.invariant
