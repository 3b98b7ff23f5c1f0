-- Each turn looks at one call more.
use Rattle.std.proofs.Common.{refl}
use Rattle.host_calls.specs.Batches.{parts}
use Rattle.host_calls.proofs.Cutting.{parts-next, texts-step}
use Rattle.host_calls.proofs.batch.are_texts.Goals as goal

pub loop-method-preserved : goal.loop-method-preserved
loop-method-preserved c =
    let rest = c.loop-method.rest.now in let left = c.loop-method.left.now in let part = c.cut-part.result in
    texts-step (parts c.args.bytes.now c.args.lengths.now) (parts rest left) (parts part.behind.now c.in-Some.behind.now) (part.name.now, part.text.now) c.loop-method.invariant
    (parts-next rest left c.in-Some.behind.now part.name.now part.text.now part.behind.now c.in-Some.method c.in-Some.params
    c.in-Some.ensures c.cut-part.ensures.name c.cut-part.ensures.text c.cut-part.ensures.behind)
    (c.if-not-is_text.ensures.0 refl)
