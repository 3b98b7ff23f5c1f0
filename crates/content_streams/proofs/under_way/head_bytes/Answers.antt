use Rattle.std.proofs.Common.{length, drop, ap, sym, ◌∙◌}
use Rattle.content_streams.specs.Inner.Heads.{head_bytes}
use Rattle.content_streams.specs.declared.under_way.HeadStage.{HeadStage}
use Rattle.content_streams.proofs.HeadSteps.{behind, at_whole, to_here}
use Rattle.content_streams.proofs.LineFeeds.{first_from_place, none_from_place}
use Rattle.content_streams.proofs.under_way.head_bytes.Goals as goal

pub returns-in-Whole-clause-are : goal.returns-in-Whole-clause-are
returns-in-Whole-clause-are c =
    let at = c.loop-at.at in
    let rest = drop at c.args.bytes.now in
    sym (c.loop-at.invariant.are ∙ ap (λ (s : HeadStage). behind at (head_bytes s rest)) c.in-Whole.is
    ∙ ap (behind at) (at_whole rest) ∙ to_here at _ ∙ ap (λ (s : HeadStage). (at, s)) (sym c.in-Whole.is))

pub loop-at-preserved-in-Some : goal.loop-at-preserved-in-Some
loop-at-preserved-in-Some c =
    let at = c.loop-at.at in
    let rest = drop at c.args.bytes.now in
    let first = first_from_place c.args.bytes.now at c.in-Some.end c.in-Some.ensures.first c.loop-at.invariant.within in
    record {
      within = first.0;
      are = c.loop-at.invariant.are ∙ ap (λ (s : HeadStage). behind at (head_bytes s rest)) c.in-Line.is ∙ first.1;
    }

pub returns-in-None-clause-are : goal.returns-in-None-clause-are
returns-in-None-clause-are c =
    let at = c.loop-at.at in
    let rest = drop at c.args.bytes.now in
    sym (c.loop-at.invariant.are ∙ ap (λ (s : HeadStage). behind at (head_bytes s rest)) c.in-Line.is
    ∙ none_from_place c.args.bytes.now at c.in-None.ensures.first c.loop-at.invariant.within
    ∙ ap (λ (s : HeadStage). (length c.args.bytes.now, s)) (sym c.in-Line.is))
