use Rattle.std.proofs.Common.{◌++◌, take, ◌∙◌}
use Rattle.std.proofs.lemmas.List.{take_min}
use Rattle.connection.specs.Connections.{most_shown}
use Rattle.connection.proofs.broken.first_bytes.Goals as goal

pub returns : goal.returns
returns c =
    let shown = c.args.content.now in
    c.from.ensures ∙ c.in_ok-extend_from_slice.ensures.items ∙ (λ i. c.new-start.ensures.items i ++ take (c.min.ensures i) shown)
    ∙ take_min most_shown shown
