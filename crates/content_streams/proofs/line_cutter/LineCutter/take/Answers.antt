use Rattle.std.proofs.Common.{◌≡◌, ◌+◌, ◌-◌, ℕ, List, ◌++◌, length, take, drop, map, Global, [], ◌∷◌, append_assoc, true, false, ap, sym, ◌∙◌, subst}
use Rattle.std.specs.List.{remove}
use Rattle.std.specs.Option.{option_to_list}
use Rattle.std.specs.declared.collections.VecDeque.{VecDeque}
use Rattle.std.proofs.lemmas.List.{take_rest}
use Rattle.lsp_frames.specs.declared.frame.Frame.{Frame}
use Rattle.content_streams.specs.Lines.{without_cr, fits, ended_lines, line_place}
use Rattle.content_streams.specs.Streams.{capped}
use Rattle.content_streams.specs.Inner.Cutting.{Within, LineCutting, standing_at, ended_contents, ended_places, places_from, last_contents, text_standing}
use Rattle.content_streams.specs.Inner.Cutters.{LinesStartAt}
use Rattle.content_streams.proofs.LineSteps.{cutting, line_known, within_is, held_contents, held_standing, long_contents, long_standing, more_contents, more_standing, whole_seen}
use Rattle.content_streams.proofs.LinePlaces.{held_places, held_start, over_places, over_start, more_places, more_start, kept_last, rest_within, next_first, removed, removed_within, is_there}
use Rattle.content_streams.proofs.Rows.{no_place, one_place}
use Rattle.content_streams.proofs.line_cutter.LineCutter.take.Goals as goal
use Rattle.content_streams.proofs.line_cutter.LineCutter.take.Goals.{then-is_none, else-is_none}

pub returns-in_default-clause-limit : goal.returns-in_default-clause-limit
returns-in_default-clause-limit c =
    let within = within_is c.args.self.now.standing c.requires.within in
    ap (λ (cutter : LineCutting). cutter.limit) (c.in_ok-hold.ensures.ok within.0 within.1)

pub returns-in_default-clause-given : goal.returns-in_default-clause-given
returns-in_default-clause-given c bytes stands =
    let within = within_is c.args.self.now.standing c.requires.within in
    held_contents c.args.self.now.limit bytes c.args.piece.now within.0 (sym within.1 ∙ stands) c.in_default.ensures.position
    ∙ ap (λ (xs : List Frame). ended_contents c.args.self.now.limit bytes ++ xs) (sym c.requires.room)

pub returns-in_default-clause-left : goal.returns-in_default-clause-left
returns-in_default-clause-left c bytes stands =
    let within = within_is c.args.self.now.standing c.requires.within in
    ap (λ (cutter : LineCutting). cutter.standing) (c.in_ok-hold.ensures.ok within.0 within.1)
    ∙ sym (held_standing c.args.self.now.limit bytes c.args.piece.now within.0 (sym within.1 ∙ stands) c.in_default.ensures.position)

pub returns-then-not-fits_with-clause-given : goal.returns-then-not-fits_with-clause-given
returns-then-not-fits_with-clause-given c bytes stands =
    let line = c.self.inside.line.items in
    let known = line_known c.self.inside.limit c.self.inside.is_over line c.self.inside.start c.args.self.now c.self.view_is c.requires.within in
    let long : false ≡ fits c.args.self.now.limit (without_cr (line ++ take c.in-Some.end c.args.piece.now)) =
    c.if-not-fits_with.ensures ∙ ap (λ (xs : List ℕ). fits c.self.inside.limit (without_cr (xs ++ take c.in-Some.end c.args.piece.now))) c.as_slice.ensures.value
    ∙ ap (λ n. fits n (without_cr (line ++ take c.in-Some.end c.args.piece.now))) (sym known.0) in
    long_contents c.args.self.now.limit bytes c.args.piece.now line c.in-Some.end (sym known.1 ∙ stands) c.in-Some.ensures.position long
    ∙ ap (λ (xs : List Frame). ended_contents c.args.self.now.limit bytes ++ xs) (sym c.requires.room)

pub returns-then-not-fits_with-clause-left : goal.returns-then-not-fits_with-clause-left
returns-then-not-fits_with-clause-left c bytes stands =
    let line = c.self.inside.line.items in
    let known = line_known c.self.inside.limit c.self.inside.is_over line c.self.inside.start c.args.self.now c.self.view_is c.requires.within in
    let long : false ≡ fits c.args.self.now.limit (without_cr (line ++ take c.in-Some.end c.args.piece.now)) =
    c.if-not-fits_with.ensures ∙ ap (λ (xs : List ℕ). fits c.self.inside.limit (without_cr (xs ++ take c.in-Some.end c.args.piece.now))) c.as_slice.ensures.value
    ∙ ap (λ n. fits n (without_cr (line ++ take c.in-Some.end c.args.piece.now))) (sym known.0) in
    ap (λ (cutter : LineCutting). cutter.standing) (c.drop.view_is ∙ c.over.ensures)
    ∙ sym (long_standing c.args.self.now.limit bytes c.args.piece.now line c.in-Some.end (sym known.1 ∙ stands) c.in-Some.ensures.position long)

pub returns-clause-given : goal.returns-clause-given
returns-clause-given c bytes stands =
    let line = c.self.inside.line.items in
    let front = take c.in-Some.end c.args.piece.now in
    let behind = drop (c.in-Some.end + 1) c.args.piece.now in
    let limit = c.args.self.now.limit in
    let known = line_known c.self.inside.limit c.self.inside.is_over line c.self.inside.start c.args.self.now c.self.view_is c.requires.within in
    let fit : true ≡ fits limit (without_cr (line ++ front)) =
    c.if-not-fits_with.ensures ∙ ap (λ (xs : List ℕ). fits c.self.inside.limit (without_cr (xs ++ front))) c.as_slice.ensures.value ∙ ap (λ n. fits n (without_cr (line ++ front))) (sym known.0) in
    let rest : take (length c.args.piece.now - (c.in-Some.end + 1)) behind ≡ behind = take_rest c.args.piece.now (c.in-Some.end + 1) in
    let later = ended_contents limit behind in
    let cut : c.cut.new.contents ≡ later =
    c.in_ok-next.ensures.given ∙ ap (λ (fs : List Frame). fs ++ ended_contents c.self.inside.limit (take (length c.args.piece.now - (c.in-Some.end + 1)) behind)) c.requires.room
    ∙ ap (λ (xs : List ℕ). ended_contents c.self.inside.limit xs) rest ∙ ap (λ n. ended_contents n behind) (sym known.0) in
    let whole : c.replace-whole.result ≡ cutting limit (Within (line ++ front)) c.args.self.now.start =
    c.replace-whole.ensures.value ∙ ap (λ (xs : List ℕ). cutting c.self.inside.limit (standing_at c.self.inside.is_over xs) c.self.inside.start) c.in_ok-extend_from_slice.ensures.items
    ∙ whole_seen c.self.inside.limit c.self.inside.is_over line (line ++ front) c.self.inside.start c.args.self.now c.self.view_is c.requires.within in
    let last : last_contents c.replace-whole.result.limit c.replace-whole.result.standing ≡ last_contents limit (Within (line ++ front)) = ap (λ (cutter : LineCutting). last_contents cutter.limit cutter.standing) whole in
    more_contents limit bytes c.args.piece.now line c.in-Some.end (sym known.1 ∙ stands) c.in-Some.ensures.position fit
    ∙ ap (λ (xs : List Frame). ended_contents limit bytes ++ xs) (ap (λ (xs : List Frame). xs ++ later) (sym (c.into_content-first.ensures ∙ last))
    ∙ ap (λ (xs : List Frame). option_to_list c.into_content-first.result ++ xs) (sym cut))

pub returns-clause-left : goal.returns-clause-left
returns-clause-left c bytes stands =
    let line = c.self.inside.line.items in
    let front = take c.in-Some.end c.args.piece.now in
    let behind = drop (c.in-Some.end + 1) c.args.piece.now in
    let limit = c.args.self.now.limit in
    let known = line_known c.self.inside.limit c.self.inside.is_over line c.self.inside.start c.args.self.now c.self.view_is c.requires.within in
    let fit : true ≡ fits limit (without_cr (line ++ front)) =
    c.if-not-fits_with.ensures ∙ ap (λ (xs : List ℕ). fits c.self.inside.limit (without_cr (xs ++ front))) c.as_slice.ensures.value ∙ ap (λ n. fits n (without_cr (line ++ front))) (sym known.0) in
    let rest : take (length c.args.piece.now - (c.in-Some.end + 1)) behind ≡ behind = take_rest c.args.piece.now (c.in-Some.end + 1) in
    ap (λ (cutter : LineCutting). cutter.standing) (c.replace-whole.ensures.after ∙ c.in_ok-next.ensures.left _ c.behind_line-start.ensures)
    ∙ ap (λ (xs : List ℕ). text_standing c.self.inside.limit xs) rest ∙ ap (λ n. text_standing n behind) (sym known.0)
    ∙ sym (more_standing limit bytes c.args.piece.now line c.in-Some.end (sym known.1 ∙ stands) c.in-Some.ensures.position fit)

pub returns-in_default-clause-places : goal.returns-in_default-clause-places
returns-in_default-clause-places c bytes passed stands starts is = held_places c.args.self.now.limit bytes c.args.piece.now c.in_default.ensures.position ∙ is

pub returns-in_default-clause-start : goal.returns-in_default-clause-start
returns-in_default-clause-start c bytes stands starts =
    let within = within_is c.args.self.now.standing c.requires.within in
    let At : LineCutting → Type 0 = λ cutter. LinesStartAt cutter (bytes ++ c.args.piece.now) in
    subst At (sym (c.in_ok-hold.ensures.ok within.0 within.1)) (starts ∙ ap capped (sym (held_start c.args.self.now.limit bytes c.args.piece.now c.in_default.ensures.position)))

pub returns-then-not-fits_with-clause-places : goal.returns-then-not-fits_with-clause-places
returns-then-not-fits_with-clause-places c bytes passed stands starts is =
    let line = c.self.inside.line.items in
    let known = line_known c.self.inside.limit c.self.inside.is_over line c.self.inside.start c.args.self.now c.self.view_is c.requires.within in
    let long : false ≡ fits c.args.self.now.limit (without_cr (line ++ take c.in-Some.end c.args.piece.now)) =
    c.if-not-fits_with.ensures ∙ ap (λ (xs : List ℕ). fits c.self.inside.limit (without_cr (xs ++ take c.in-Some.end c.args.piece.now))) c.as_slice.ensures.value
    ∙ ap (λ n. fits n (without_cr (line ++ take c.in-Some.end c.args.piece.now))) (sym known.0) in
    over_places c.args.self.now.limit bytes c.args.piece.now line c.in-Some.end (sym known.1 ∙ stands) c.in-Some.ensures.position long ∙ is

pub returns-then-not-fits_with-clause-start : goal.returns-then-not-fits_with-clause-start
returns-then-not-fits_with-clause-start c bytes stands starts =
    let line = c.self.inside.line.items in
    let known = line_known c.self.inside.limit c.self.inside.is_over line c.self.inside.start c.args.self.now c.self.view_is c.requires.within in
    let long : false ≡ fits c.args.self.now.limit (without_cr (line ++ take c.in-Some.end c.args.piece.now)) =
    c.if-not-fits_with.ensures ∙ ap (λ (xs : List ℕ). fits c.self.inside.limit (without_cr (xs ++ take c.in-Some.end c.args.piece.now))) c.as_slice.ensures.value
    ∙ ap (λ n. fits n (without_cr (line ++ take c.in-Some.end c.args.piece.now))) (sym known.0) in
    let At : LineCutting → Type 0 = λ cutter. LinesStartAt cutter (bytes ++ c.args.piece.now) in
    let Of : ℕ → Type 0 = λ n. c.self.inside.start ≡ capped (line_place n 0 (ended_lines (bytes ++ c.args.piece.now))) in
    subst At (sym (c.drop.view_is ∙ c.over.ensures)) (subst Of known.0 (sym known.2 ∙ starts
    ∙ ap capped (sym (over_start c.args.self.now.limit bytes c.args.piece.now line c.in-Some.end (sym known.1 ∙ stands) c.in-Some.ensures.position long))))

pub returns-clause-places : goal.returns-clause-places
returns-clause-places c bytes passed stands starts is =
    let line = c.self.inside.line.items in
    let front = take c.in-Some.end c.args.piece.now in
    let behind = drop (c.in-Some.end + 1) c.args.piece.now in
    let limit = c.args.self.now.limit in
    let old = c.args.places.now.items in
    let place = line_place limit 0 (ended_lines bytes) in
    let known = line_known c.self.inside.limit c.self.inside.is_over line c.self.inside.start c.args.self.now c.self.view_is c.requires.within in
    let fit : true ≡ fits limit (without_cr (line ++ front)) =
    c.if-not-fits_with.ensures ∙ ap (λ (xs : List ℕ). fits c.self.inside.limit (without_cr (xs ++ front))) c.as_slice.ensures.value ∙ ap (λ n. fits n (without_cr (line ++ front))) (sym known.0) in
    let rest : take (length c.args.piece.now - (c.in-Some.end + 1)) behind ≡ behind = take_rest c.args.piece.now (c.in-Some.end + 1) in
    let at : c.self.inside.start ≡ capped place = sym known.2 ∙ starts in
    let next = place + length (line ++ front) + 1 in
    let first : c.behind_line-start.result ≡ capped next =
    c.behind_line-start.ensures ∙ next_first place c.self.inside.start c.len.result c.in-Some.end line front at (c.len.ensures ∙ c.self.inside.line.ok.0) (rest_within c.args.piece.now c.in-Some.end c.in-Some.ensures.position) in
    let later = places_from limit next (ended_lines behind) in
    let cut : c.cut.new.places.items ≡ (old ++ capped place ∷ []) ++ later =
    c.in_ok-next.ensures.places next first
    ∙ ap (λ (xs : List ℕ). c.push_back.new.self.items ++ places_from c.self.inside.limit next (ended_lines xs)) rest ∙ ap (λ n. c.push_back.new.self.items ++ places_from n next (ended_lines behind)) (sym known.0)
    ∙ ap (λ (xs : List ℕ). xs ++ later) (c.in_ok-push_back.ensures.items ∙ ap (λ n. old ++ n ∷ []) at) in
    let whole : c.replace-whole.result ≡ cutting limit (Within (line ++ front)) c.args.self.now.start =
    c.replace-whole.ensures.value ∙ ap (λ (xs : List ℕ). cutting c.self.inside.limit (standing_at c.self.inside.is_over xs) c.self.inside.start) c.in_ok-extend_from_slice.ensures.items
    ∙ whole_seen c.self.inside.limit c.self.inside.is_over line (line ++ front) c.self.inside.start c.args.self.now c.self.view_is c.requires.within in
    let last : last_contents c.replace-whole.result.limit c.replace-whole.result.standing ≡ last_contents limit (Within (line ++ front)) = ap (λ (cutter : LineCutting). last_contents cutter.limit cutter.standing) whole in
    let sized : c.len-had.result ≡ length old = c.len-had.ensures ∙ c.args.places.now.ok.0 in
    let given : c.if-is_none.places.items ≡ old ++ (map (λ (f : Frame). capped place) (last_contents limit (Within (line ++ front))) ++ later) = elim c.if-is_none.branch [
      | then-is_none w ↦ ap (λ (q : VecDeque ℕ Global). q.items) w.places-is
          ∙ is_there w.remove.result (w.remove.new.self.items ≡ remove c.cut.new.places.items c.len-had.result)
          (w.remove.ensures.variant.1 (removed_within old later c.cut.new.places.items (capped place) c.len-had.result c.cut.new.places.len sized c.cut.new.places.ok.0 cut)) w.remove.ensures.items
          ∙ ap (λ (xs : List ℕ). remove xs c.len-had.result) cut ∙ removed old later (capped place) c.len-had.result sized
          ∙ ap (λ (xs : List ℕ). old ++ (xs ++ later)) (no_place c.into_content-first.result (last_contents limit (Within (line ++ front))) (capped place) (c.into_content-first.ensures ∙ last) w.if-is_none.ensures)
      | else-is_none w ↦ ap (λ (q : VecDeque ℕ Global). q.items) w.places-is ∙ cut ∙ append_assoc old (capped place ∷ []) later
          ∙ ap (λ (xs : List ℕ). old ++ (xs ++ later)) (one_place c.into_content-first.result (last_contents limit (Within (line ++ front))) (capped place) (c.into_content-first.ensures ∙ last) w.if-is_none.ensures)
    ] in
    more_places limit bytes c.args.piece.now line c.in-Some.end (sym known.1 ∙ stands) c.in-Some.ensures.position fit
    ∙ ap (λ (xs : List ℕ). ended_places limit bytes ++ (xs ++ later)) (kept_last limit (capped place) (line ++ front) (sym fit))
    ∙ ap (λ (xs : List ℕ). xs ++ (map (λ (f : Frame). capped place) (last_contents limit (Within (line ++ front))) ++ later)) is
    ∙ append_assoc passed old (map (λ (f : Frame). capped place) (last_contents limit (Within (line ++ front))) ++ later)
    ∙ ap (λ (xs : List ℕ). passed ++ xs) (sym given)

pub returns-clause-start : goal.returns-clause-start
returns-clause-start c bytes stands starts =
    let line = c.self.inside.line.items in
    let front = take c.in-Some.end c.args.piece.now in
    let behind = drop (c.in-Some.end + 1) c.args.piece.now in
    let limit = c.args.self.now.limit in
    let place = line_place limit 0 (ended_lines bytes) in
    let known = line_known c.self.inside.limit c.self.inside.is_over line c.self.inside.start c.args.self.now c.self.view_is c.requires.within in
    let fit : true ≡ fits limit (without_cr (line ++ front)) =
    c.if-not-fits_with.ensures ∙ ap (λ (xs : List ℕ). fits c.self.inside.limit (without_cr (xs ++ front))) c.as_slice.ensures.value ∙ ap (λ n. fits n (without_cr (line ++ front))) (sym known.0) in
    let rest : take (length c.args.piece.now - (c.in-Some.end + 1)) behind ≡ behind = take_rest c.args.piece.now (c.in-Some.end + 1) in
    let next = place + length (line ++ front) + 1 in
    let first : c.behind_line-start.result ≡ capped next =
    c.behind_line-start.ensures ∙ next_first place c.self.inside.start c.len.result c.in-Some.end line front (sym known.2 ∙ starts) (c.len.ensures ∙ c.self.inside.line.ok.0) (rest_within c.args.piece.now c.in-Some.end c.in-Some.ensures.position) in
    let At : LineCutting → Type 0 = λ cutter. LinesStartAt cutter (bytes ++ c.args.piece.now) in
    let Of : ℕ → Type 0 = λ n. capped (line_place n next (ended_lines (take (length c.args.piece.now - (c.in-Some.end + 1)) behind))) ≡ capped (line_place n 0 (ended_lines (bytes ++ c.args.piece.now))) in
    subst At (sym (c.replace-whole.ensures.after ∙ c.in_ok-next.ensures.left next first))
    (subst Of known.0 (ap (λ (xs : List ℕ). capped (line_place limit next (ended_lines xs))) rest
    ∙ ap capped (sym (more_start limit bytes c.args.piece.now line c.in-Some.end (sym known.1 ∙ stands) c.in-Some.ensures.position fit))))
