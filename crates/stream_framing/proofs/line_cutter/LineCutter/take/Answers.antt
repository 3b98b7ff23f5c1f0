use Rattle.std.proofs.Common.{◌≡◌, ◌+◌, ◌-◌, ℕ, List, ◌++◌, length, take, drop, set, Vec, Global, true, false, ap, sym, ◌∙◌}
use Rattle.std.proofs.lemmas.List.{take_rest}
use Rattle.lsp_frames.specs.Contents.{Open}
use Rattle.lsp_frames.specs.declared.frame.Frame.{Frame}
use Rattle.content_streams.specs.Lines.{fits}
use Rattle.stream_framing.specs.Inner.Cutting.{LineCutting, standing_at, ended_contents, text_standing}
use Rattle.stream_framing.proofs.Steps.{cutting, line_known, within_is, held_contents, held_standing, long_contents, long_standing, more_contents, more_standing, whole_seen, one_pushed}
use Rattle.stream_framing.proofs.line_cutter.LineCutter.take.Goals as goal
use Rattle.stream_framing.proofs.line_cutter.LineCutter.take.Goals.{in-Some-into_content, in-None}

pub returns-in_default-clause-limit : goal.returns-in_default-clause-limit
returns-in_default-clause-limit c =
    let within = within_is c.args.self.now.standing c.requires in
    ap (λ (cutter : LineCutting). cutter.limit) (c.in_ok-hold.ensures.ok within.0 within.1)

pub returns-in_default-clause-given : goal.returns-in_default-clause-given
returns-in_default-clause-given c bytes stands =
    let within = within_is c.args.self.now.standing c.requires in
    held_contents c.args.self.now.limit bytes c.args.piece.now within.0 (sym within.1 ∙ stands) c.in_default.ensures
    ∙ ap (λ (xs : List Frame). ended_contents c.args.self.now.limit bytes ++ xs) (sym c.new-contents.ensures.items)

pub returns-in_default-clause-left : goal.returns-in_default-clause-left
returns-in_default-clause-left c bytes stands =
    let within = within_is c.args.self.now.standing c.requires in
    ap (λ (cutter : LineCutting). cutter.standing) (c.in_ok-hold.ensures.ok within.0 within.1)
    ∙ sym (held_standing c.args.self.now.limit bytes c.args.piece.now within.0 (sym within.1 ∙ stands) c.in_default.ensures)

pub returns-then-not-fits_with-clause-given : goal.returns-then-not-fits_with-clause-given
returns-then-not-fits_with-clause-given c bytes stands =
    let line = c.self.inside.line.items in
    let known = line_known c.self.inside.limit c.self.inside.is_over line c.args.self.now c.self.view_is c.requires in
    let long : false ≡ fits c.args.self.now.limit (line ++ take c.in-Some.end c.args.piece.now) =
    c.if-not-fits_with.ensures ∙ ap (λ (xs : List ℕ). fits c.self.inside.limit (xs ++ take c.in-Some.end c.args.piece.now)) c.as_slice.ensures.value
    ∙ ap (λ n. fits n (line ++ take c.in-Some.end c.args.piece.now)) (sym known.0) in
    long_contents c.args.self.now.limit bytes c.args.piece.now line c.in-Some.end (sym known.1 ∙ stands) c.in-Some.ensures long
    ∙ ap (λ (xs : List Frame). ended_contents c.args.self.now.limit bytes ++ xs) (sym c.new-contents.ensures.items)

pub returns-then-not-fits_with-clause-left : goal.returns-then-not-fits_with-clause-left
returns-then-not-fits_with-clause-left c bytes stands =
    let line = c.self.inside.line.items in
    let known = line_known c.self.inside.limit c.self.inside.is_over line c.args.self.now c.self.view_is c.requires in
    let long : false ≡ fits c.args.self.now.limit (line ++ take c.in-Some.end c.args.piece.now) =
    c.if-not-fits_with.ensures ∙ ap (λ (xs : List ℕ). fits c.self.inside.limit (xs ++ take c.in-Some.end c.args.piece.now)) c.as_slice.ensures.value
    ∙ ap (λ n. fits n (line ++ take c.in-Some.end c.args.piece.now)) (sym known.0) in
    ap (λ (cutter : LineCutting). cutter.standing) (c.drop.view_is ∙ c.over.ensures)
    ∙ sym (long_standing c.args.self.now.limit bytes c.args.piece.now line c.in-Some.end (sym known.1 ∙ stands) c.in-Some.ensures long)

pub returns-clause-given : goal.returns-clause-given
returns-clause-given c bytes stands =
    let line = c.self.inside.line.items in
    let front = take c.in-Some.end c.args.piece.now in
    let behind = drop (c.in-Some.end + 1) c.args.piece.now in
    let limit = c.args.self.now.limit in
    let known = line_known c.self.inside.limit c.self.inside.is_over line c.args.self.now c.self.view_is c.requires in
    let fit : true ≡ fits limit (line ++ front) =
    c.if-not-fits_with.ensures ∙ ap (λ (xs : List ℕ). fits c.self.inside.limit (xs ++ front)) c.as_slice.ensures.value ∙ ap (λ n. fits n (line ++ front)) (sym known.0) in
    let rest : take (length c.args.piece.now - (c.in-Some.end + 1)) behind ≡ behind = take_rest c.args.piece.now (c.in-Some.end + 1) in
    let later = ended_contents limit behind in
    let cut = one_pushed c.cut.new.contents.items c.push.new.self.items c.new-contents.result.items later (record { content = c.new.result; foreign = false })
    (c.in_ok-next.ensures.given ∙ ap (λ (xs : List ℕ). c.push.new.self.items ++ ended_contents c.self.inside.limit xs) rest ∙ ap (λ n. c.push.new.self.items ++ ended_contents n behind) (sym known.0))
    c.in_ok-push.ensures.items c.new-contents.ensures.items in
    let whole : c.replace-whole.result ≡ cutting limit (Open (line ++ front)) =
    c.replace-whole.ensures.value ∙ ap (λ (xs : List ℕ). cutting c.self.inside.limit (standing_at c.self.inside.is_over xs)) c.in_ok-extend_from_slice.ensures.items
    ∙ whole_seen c.self.inside.limit c.self.inside.is_over line (line ++ front) c.args.self.now c.self.view_is c.requires in
    let is_whole : c.replace-whole.result.standing ≡ Open (line ++ front) = ap (λ (cutter : LineCutting). cutter.standing) whole in
    more_contents limit bytes c.args.piece.now line c.in-Some.end (sym known.1 ∙ stands) c.in-Some.ensures fit
    ∙ ap (λ (xs : List Frame). ended_contents limit bytes ++ xs) (elim c.match-into_content.branch [
      | in-Some-into_content w ↦ ap (λ (xs : List Frame). xs ++ later) (sym (w.in-Some-into_content.ensures (line ++ front) is_whole))
          ∙ sym (ap (λ (v : Vec Frame Global). v.items) w.contents-is ∙ ap (λ (xs : List Frame). set xs 0 w.in-Some-into_content.content) cut)
      | in-None w ↦ ap (λ (xs : List Frame). xs ++ later) (sym (w.in-None.ensures (line ++ front) is_whole))
          ∙ sym (ap (λ (v : Vec Frame Global). v.items) w.contents-is ∙ w.remove.ensures.items ∙ ap (λ (xs : List Frame). drop 1 xs) cut)
    ])

pub returns-clause-left : goal.returns-clause-left
returns-clause-left c bytes stands =
    let line = c.self.inside.line.items in
    let front = take c.in-Some.end c.args.piece.now in
    let behind = drop (c.in-Some.end + 1) c.args.piece.now in
    let limit = c.args.self.now.limit in
    let known = line_known c.self.inside.limit c.self.inside.is_over line c.args.self.now c.self.view_is c.requires in
    let fit : true ≡ fits limit (line ++ front) =
    c.if-not-fits_with.ensures ∙ ap (λ (xs : List ℕ). fits c.self.inside.limit (xs ++ front)) c.as_slice.ensures.value ∙ ap (λ n. fits n (line ++ front)) (sym known.0) in
    let rest : take (length c.args.piece.now - (c.in-Some.end + 1)) behind ≡ behind = take_rest c.args.piece.now (c.in-Some.end + 1) in
    ap (λ (cutter : LineCutting). cutter.standing) (c.replace-whole.ensures.after ∙ c.in_ok-next.ensures.left)
    ∙ ap (λ (xs : List ℕ). text_standing c.self.inside.limit xs) rest ∙ ap (λ n. text_standing n behind) (sym known.0)
    ∙ sym (more_standing limit bytes c.args.piece.now line c.in-Some.end (sym known.1 ∙ stands) c.in-Some.ensures fit)
