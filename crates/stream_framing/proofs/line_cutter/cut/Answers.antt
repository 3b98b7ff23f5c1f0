use Rattle.std.proofs.Common.{◌≡◌, ◌+◌, ◌-◌, ℕ, List, [], ◌++◌, length, take, drop, ap, sym, ◌∙◌, append-nil, append_assoc}
use Rattle.std.proofs.lemmas.List.{take_rest}
use Rattle.lsp_frames.specs.declared.frame.Frame.{Frame}
use Rattle.stream_framing.specs.Inner.Cutting.{LineCutting, ended_contents, text_standing, grown}
use Rattle.stream_framing.proofs.Steps.{cutting, rest_long, rest_goes, rest_ends}
use Rattle.stream_framing.proofs.line_cutter.cut.Goals as goal

pub returns-then-not-fits_with-clause-given : goal.returns-then-not-fits_with-clause-given
returns-then-not-fits_with-clause-given c =
    let long = rest_long c.args.limit c.loop-end.rest.now c.in-Some.end c.in-Some.ensures c.if-not-fits_with.ensures in
    sym (append-nil c.loop-end.contents.items) ∙ ap (λ (xs : List Frame). c.loop-end.contents.items ++ xs) (sym long.0) ∙ c.loop-end.invariant.contents

pub returns-then-not-fits_with-clause-left : goal.returns-then-not-fits_with-clause-left
returns-then-not-fits_with-clause-left c =
    let long = rest_long c.args.limit c.loop-end.rest.now c.in-Some.end c.in-Some.ensures c.if-not-fits_with.ensures in
    c.over.ensures ∙ ap (cutting c.args.limit) (sym long.1 ∙ c.loop-end.invariant.standing)

pub loop-end-preserved : goal.loop-end-preserved
loop-end-preserved c =
    let rest = c.loop-end.rest.now in
    let behind = drop (c.in-Some.end + 1) rest in
    let goes = rest_goes c.args.limit rest c.in-Some.end c.in-Some.ensures c.if-not-fits_with.ensures in
    let left : take (length rest - (c.in-Some.end + 1)) behind ≡ behind = take_rest rest (c.in-Some.end + 1) in
    record {
      contents = ap (λ (xs : List ℕ). c.push_content.new.contents.items ++ ended_contents c.args.limit xs) left
          ∙ ap (λ (xs : List Frame). xs ++ ended_contents c.args.limit behind) c.in_ok-push_content.ensures
          ∙ append_assoc c.loop-end.contents.items _ (ended_contents c.args.limit behind)
          ∙ ap (λ (xs : List Frame). c.loop-end.contents.items ++ xs) (sym goes.0) ∙ c.loop-end.invariant.contents;
      standing = ap (text_standing c.args.limit) left ∙ sym goes.1 ∙ c.loop-end.invariant.standing;
    }

pub returns-clause-given : goal.returns-clause-given
returns-clause-given c =
    let ends = rest_ends c.args.limit c.loop-end.rest.now c.in_default.ensures in
    sym (append-nil c.loop-end.contents.items) ∙ ap (λ (xs : List Frame). c.loop-end.contents.items ++ xs) (sym ends.0) ∙ c.loop-end.invariant.contents

pub returns-clause-left : goal.returns-clause-left
returns-clause-left c =
    let limit = c.args.limit in
    let ends = rest_ends limit c.loop-end.rest.now c.in_default.ensures in
    c.in_ok-hold.ensures.ok [] (ap (λ (cutter : LineCutting). cutter.standing) c.new-left.ensures)
    ∙ ap (λ (cutter : LineCutting). cutting cutter.limit (grown cutter.limit c.loop-end.rest.now)) c.new-left.ensures
    ∙ ap (cutting limit) (sym ends.1 ∙ c.loop-end.invariant.standing)
