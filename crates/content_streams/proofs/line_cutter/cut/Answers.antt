use Rattle.std.proofs.Common.{◌≡◌, ◌+◌, ◌-◌, ℕ, List, [], ◌∷◌, ◌++◌, length, take, drop, map, cond, ap, sym, ◌∙◌, append-nil, append_assoc}
use Rattle.std.proofs.lemmas.List.{take_rest}
use Rattle.lsp_frames.specs.declared.frame.Frame.{Frame}
use Rattle.content_streams.specs.Lines.{without_cr, is_blank, ended_lines, line_place}
use Rattle.content_streams.specs.Streams.{plain}
use Rattle.content_streams.specs.Inner.Cutting.{LineCutting, LineStanding, ended_contents, places_from, text_standing, grown}
use Rattle.content_streams.proofs.LineSteps.{cutting, rest_long, rest_goes, rest_ends, kept_frames}
use Rattle.content_streams.proofs.LinePlaces.{over_at, none_at, goes_at, begins_on}
use Rattle.content_streams.proofs.line_cutter.cut.Goals as goal

pub returns-then-not-fits_with-clause-given : goal.returns-then-not-fits_with-clause-given
returns-then-not-fits_with-clause-given c =
    let long = rest_long c.args.limit c.loop-end.rest.now c.in-Some.end c.in-Some.ensures.position c.if-not-fits_with.ensures in
    sym (append-nil c.loop-end.contents) ∙ ap (λ (xs : List Frame). c.loop-end.contents ++ xs) (sym long.0) ∙ c.loop-end.invariant.contents

pub returns-then-not-fits_with-clause-left : goal.returns-then-not-fits_with-clause-left
returns-then-not-fits_with-clause-left c start first =
    let limit = c.args.limit in
    let bytes = c.args.bytes.now in
    let long = rest_long limit c.loop-end.rest.now c.in-Some.end c.in-Some.ensures.position c.if-not-fits_with.ensures in
    let at = over_at limit c.loop-end.start c.loop-end.rest.now c.loop-end.places.items (c.args.places.now.items ++ places_from limit start (ended_lines bytes)) (line_place limit start (ended_lines bytes)) c.in-Some.end
    (c.loop-end.invariant.places start first) c.in-Some.ensures.position c.if-not-fits_with.ensures in
    c.over.ensures ∙ ap (λ (s : LineStanding). cutting limit s c.loop-end.start) (sym long.1 ∙ c.loop-end.invariant.standing) ∙ ap (cutting limit (text_standing limit bytes)) at.1

pub returns-then-not-fits_with-clause-places : goal.returns-then-not-fits_with-clause-places
returns-then-not-fits_with-clause-places c start first =
    let limit = c.args.limit in
    let bytes = c.args.bytes.now in
    (over_at limit c.loop-end.start c.loop-end.rest.now c.loop-end.places.items (c.args.places.now.items ++ places_from limit start (ended_lines bytes)) (line_place limit start (ended_lines bytes)) c.in-Some.end
    (c.loop-end.invariant.places start first) c.in-Some.ensures.position c.if-not-fits_with.ensures).0

pub loop-end-preserved : goal.loop-end-preserved
loop-end-preserved c =
    let rest = c.loop-end.rest.now in
    let behind = drop (c.in-Some.end + 1) rest in
    let goes = rest_goes c.args.limit rest c.in-Some.end c.in-Some.ensures.position c.if-not-fits_with.ensures in
    let left : take (length rest - (c.in-Some.end + 1)) behind ≡ behind = take_rest rest (c.in-Some.end + 1) in
    let pushed : c.push_content.new.contents ≡ c.loop-end.contents ++ map plain (cond (is_blank (without_cr (take c.in-Some.end rest))) [] (without_cr (take c.in-Some.end rest) ∷ [])) =
    c.in_ok-push_content.ensures.content ∙ ap (λ (content : List ℕ). c.loop-end.contents ++ cond (is_blank content) [] (plain content ∷ [])) c.without_cr.ensures
    ∙ ap (λ (xs : List Frame). c.loop-end.contents ++ xs) (sym (kept_frames (without_cr (take c.in-Some.end rest)))) in
    record {
      contents = ap (λ (xs : List ℕ). c.push_content.new.contents ++ ended_contents c.args.limit xs) left
          ∙ ap (λ (xs : List Frame). xs ++ ended_contents c.args.limit behind) pushed
          ∙ append_assoc c.loop-end.contents _ (ended_contents c.args.limit behind)
          ∙ ap (λ (xs : List Frame). c.loop-end.contents ++ xs) (sym goes.0) ∙ c.loop-end.invariant.contents;
      standing = ap (text_standing c.args.limit) left ∙ sym goes.1 ∙ c.loop-end.invariant.standing;
      places = λ start first. goes_at c.args.limit c.loop-end.start rest c.loop-end.places.items (c.args.places.now.items ++ places_from c.args.limit start (ended_lines c.args.bytes.now)) c.without_cr.result.now
          (line_place c.args.limit start (ended_lines c.args.bytes.now)) c.in-Some.end c.behind_line-start.result c.push_content.new.places.items (take (length rest - (c.in-Some.end + 1)) behind)
          (c.loop-end.invariant.places start first) c.in-Some.ensures.position c.if-not-fits_with.ensures c.without_cr.ensures c.in_ok-push_content.ensures.place c.behind_line-start.ensures left;
      kept = begins_on c.args.places.now.items c.loop-end.places.items c.push_content.new.places.items c.loop-end.invariant.kept c.in_ok-push_content.ensures.kept;
    }

pub returns-clause-given : goal.returns-clause-given
returns-clause-given c =
    let ends = rest_ends c.args.limit c.loop-end.rest.now c.in_default.ensures.position in
    sym (append-nil c.loop-end.contents) ∙ ap (λ (xs : List Frame). c.loop-end.contents ++ xs) (sym ends.0) ∙ c.loop-end.invariant.contents

pub returns-clause-left : goal.returns-clause-left
returns-clause-left c start first =
    let limit = c.args.limit in
    let bytes = c.args.bytes.now in
    let ends = rest_ends limit c.loop-end.rest.now c.in_default.ensures.position in
    let at = none_at limit c.loop-end.start c.loop-end.rest.now c.loop-end.places.items (c.args.places.now.items ++ places_from limit start (ended_lines bytes)) (line_place limit start (ended_lines bytes))
    (c.loop-end.invariant.places start first) c.in_default.ensures.position in
    c.in_ok-hold.ensures.ok [] (ap (λ (cutter : LineCutting). cutter.standing) c.new-left.ensures)
    ∙ ap (λ (cutter : LineCutting). cutting cutter.limit (grown cutter.limit c.loop-end.rest.now) cutter.start) c.new-left.ensures
    ∙ ap (λ (s : LineStanding). cutting limit s c.loop-end.start) (sym ends.1 ∙ c.loop-end.invariant.standing) ∙ ap (cutting limit (text_standing limit bytes)) at.1

pub returns-clause-places : goal.returns-clause-places
returns-clause-places c start first =
    let limit = c.args.limit in
    let bytes = c.args.bytes.now in
    (none_at limit c.loop-end.start c.loop-end.rest.now c.loop-end.places.items (c.args.places.now.items ++ places_from limit start (ended_lines bytes)) (line_place limit start (ended_lines bytes))
    (c.loop-end.invariant.places start first) c.in_default.ensures.position).0
