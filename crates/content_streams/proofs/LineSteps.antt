-- What a cutter of lines does with bytes, line by line.
use Rattle.std.proofs.Common.{◌≡◌, ◌≢◌, ℕ, ◌+◌, ◌-◌, ◌≤◌, min, Some, None, Bool, true, false, cond, List, [], ◌∷◌, ◌++◌, length, take, drop, map, refl, ap, sym, ◌∙◌, subst, append-nil, length-take, arith}
use Rattle.std.specs.List.{position}
use Rattle.std.proofs.lemmas.Bool.Decides.{nat_tests}
use Rattle.std.proofs.lemmas.List.{map-append, take_all}
use Rattle.lsp_frames.specs.declared.frame.Frame.{Frame}
use Rattle.content_streams.specs.Lines.{is_lf, parts, without_last, ended_lines, ends_in_cr, without_cr, is_blank, fits, all_fit, line_contents}
use Rattle.content_streams.specs.Streams.{plain}
use Rattle.content_streams.specs.Inner.Cutting.{LineStanding, LineCutting, Within, Over, IsWithin, last_line, line_standing, text_standing, standing_at, grown, ended_contents, last_contents}
use Rattle.content_streams.proofs.Fitting.{first_fits, first_is_too_long, all_fit-yes, all_fit-no, none_fit, no_lines, kept}
use Rattle.content_streams.proofs.LineTexts.{parts-some, parts-append, last_is_one, meet, lead, standing_is, contents_behind, standing_behind, no_lf, first_line, ended_cons, last_cons}

-- ---- standings

pub within_is : (standing : LineStanding) → IsWithin standing → (line : List ℕ) × (standing ≡ Within line)
within_is (Within line) within = (line, refl)
within_is Over within = absurd within

pub standing_long : (limit : ℕ) (lines : List (List ℕ)) → all_fit limit lines ≡ false → line_standing limit lines ≡ Over
standing_long limit lines long = ap (λ t. cond t (Within (last_line lines)) Over) long

pub standing_cons : (limit : ℕ) (line : List ℕ) (lines : List (List ℕ)) → lines ≢ [] → fits limit (without_cr line) ≡ true → line_standing limit (line ∷ lines) ≡ line_standing limit lines
standing_cons limit line lines some fit =
    ap (λ t. cond t (Within (last_line (line ∷ lines))) Over) (all_fit-yes limit line lines fit)
    ∙ ap (λ last. cond (all_fit limit lines) (Within last) Over) (last_cons line lines some)

pub standing_one : (limit : ℕ) (line : List ℕ) → line_standing limit (line ∷ []) ≡ grown limit line
standing_one limit line = go (fits limit (without_cr line)) refl
  where
    go : (t : Bool) → fits limit (without_cr line) ≡ t → line_standing limit (line ∷ []) ≡ cond t (Within line) Over
    go true e = ap (λ t. cond t (Within line) Over) (all_fit-yes limit line [] e ∙ none_fit limit)
    go false e = standing_long limit (line ∷ []) (all_fit-no limit line [] e)

-- ---- contents

pub kept_frames : (content : List ℕ) → map plain (kept content) ≡ cond (is_blank content) [] (plain content ∷ [])
kept_frames content = go (is_blank content)
  where
    go : (t : Bool) → map plain (cond t [] (content ∷ [])) ≡ cond t [] (plain content ∷ [])
    go true = refl
    go false = refl

pub ended_first : (limit : ℕ) (line : List ℕ) (lines : List (List ℕ)) → lines ≢ [] → fits limit (without_cr line) ≡ true
    → map plain (line_contents limit (without_last (line ∷ lines))) ≡ map plain (kept (without_cr line)) ++ map plain (line_contents limit (without_last lines))
ended_first limit line lines some fit =
    ap (λ xs. map plain (line_contents limit xs)) (ended_cons line lines some)
    ∙ ap (map plain) (first_fits limit line (without_last lines) fit)
    ∙ map-append plain (kept (without_cr line)) (line_contents limit (without_last lines))

pub ended_long : (limit : ℕ) (line : List ℕ) (lines : List (List ℕ)) → lines ≢ [] → fits limit (without_cr line) ≡ false → map plain (line_contents limit (without_last (line ∷ lines))) ≡ []
ended_long limit line lines some long =
    ap (λ xs. map plain (line_contents limit xs)) (ended_cons line lines some) ∙ ap (map plain) (first_is_too_long limit line (without_last lines) long)

pub last_kept : (limit : ℕ) (line : List ℕ) → fits limit (without_cr line) ≡ true → last_contents limit (Within line) ≡ map plain (kept (without_cr line))
last_kept limit line fit =
    ap (map plain) (first_fits limit line [] fit ∙ ap (λ xs. kept (without_cr line) ++ xs) (no_lines limit) ∙ append-nil (kept (without_cr line)))

-- ---- one line more of a text

pub rest_long : (limit : ℕ) (rest : List ℕ) (end : ℕ) → Some end ≡ position is_lf rest → false ≡ fits limit (without_cr (take end rest)) → (ended_contents limit rest ≡ []) × (text_standing limit rest ≡ Over)
rest_long limit rest end found long =
    let first = first_line rest end (sym found) in (
      ap (λ lines. map plain (line_contents limit (without_last lines))) first.1 ∙ ended_long limit (take end rest) (parts (drop (end + 1) rest)) (parts-some (drop (end + 1) rest)) (sym long),
      standing_long limit (parts rest) (ap (all_fit limit) first.1 ∙ all_fit-no limit (take end rest) (parts (drop (end + 1) rest)) (sym long)),
    )

pub rest_goes : (limit : ℕ) (rest : List ℕ) (end : ℕ) → Some end ≡ position is_lf rest → true ≡ fits limit (without_cr (take end rest))
    → (ended_contents limit rest ≡ map plain (kept (without_cr (take end rest))) ++ ended_contents limit (drop (end + 1) rest)) × (text_standing limit rest ≡ text_standing limit (drop (end + 1) rest))
rest_goes limit rest end found fit =
    let first = first_line rest end (sym found) in
    let behind = drop (end + 1) rest in (
      ap (λ lines. map plain (line_contents limit (without_last lines))) first.1 ∙ ended_first limit (take end rest) (parts behind) (parts-some behind) (sym fit),
      ap (line_standing limit) first.1 ∙ standing_cons limit (take end rest) (parts behind) (parts-some behind) (sym fit),
    )

pub rest_ends : (limit : ℕ) (rest : List ℕ) → None ≡ position is_lf rest → (ended_contents limit rest ≡ []) × (text_standing limit rest ≡ grown limit rest)
rest_ends limit rest none =
    let one = no_lf rest (sym none) in
    (ap (λ lines. map plain (line_contents limit (without_last lines))) one ∙ ap (map plain) (no_lines limit), ap (line_standing limit) one ∙ standing_one limit rest)

-- ---- a piece behind a text

-- the parts of a piece behind the last line of a text
last_leads : (bytes piece : List ℕ) → parts (last_line (parts bytes) ++ piece) ≡ lead (last_line (parts bytes)) (parts piece)
last_leads bytes piece = parts-append (last_line (parts bytes)) piece ∙ ap (λ lines. meet lines (parts piece)) (last_is_one bytes)

piece_contents : (limit : ℕ) (bytes piece line : List ℕ) → Within line ≡ text_standing limit bytes
    → ended_contents limit (bytes ++ piece) ≡ ended_contents limit bytes ++ map plain (line_contents limit (without_last (lead line (parts piece))))
piece_contents limit bytes piece line is =
    let known = standing_is limit (parts bytes) line is in
    ap (map plain) (contents_behind limit bytes piece known.0)
    ∙ map-append plain (line_contents limit (ended_lines bytes)) (line_contents limit (ended_lines (last_line (parts bytes) ++ piece)))
    ∙ ap (λ lines. ended_contents limit bytes ++ map plain (line_contents limit (without_last lines))) (last_leads bytes piece ∙ ap (λ last. lead last (parts piece)) (sym known.1))

piece_standing : (limit : ℕ) (bytes piece line : List ℕ) → Within line ≡ text_standing limit bytes → text_standing limit (bytes ++ piece) ≡ line_standing limit (lead line (parts piece))
piece_standing limit bytes piece line is =
    let known = standing_is limit (parts bytes) line is in
    standing_behind limit bytes piece known.0 ∙ ap (line_standing limit) (last_leads bytes piece ∙ ap (λ last. lead last (parts piece)) (sym known.1))

-- with no LF
pub held_contents : (limit : ℕ) (bytes piece line : List ℕ) → Within line ≡ text_standing limit bytes → None ≡ position is_lf piece → ended_contents limit (bytes ++ piece) ≡ ended_contents limit bytes ++ []
held_contents limit bytes piece line is none =
    piece_contents limit bytes piece line is
    ∙ ap (λ lines. ended_contents limit bytes ++ map plain (line_contents limit (without_last (lead line lines)))) (no_lf piece (sym none))
    ∙ ap (λ xs. ended_contents limit bytes ++ map plain xs) (no_lines limit)

pub held_standing : (limit : ℕ) (bytes piece line : List ℕ) → Within line ≡ text_standing limit bytes → None ≡ position is_lf piece → text_standing limit (bytes ++ piece) ≡ grown limit (line ++ piece)
held_standing limit bytes piece line is none =
    piece_standing limit bytes piece line is ∙ ap (λ lines. line_standing limit (lead line lines)) (no_lf piece (sym none)) ∙ standing_one limit (line ++ piece)

-- with an LF behind which the line is too long
pub long_contents : (limit : ℕ) (bytes piece line : List ℕ) (end : ℕ) → Within line ≡ text_standing limit bytes → Some end ≡ position is_lf piece → false ≡ fits limit (without_cr (line ++ take end piece))
    → ended_contents limit (bytes ++ piece) ≡ ended_contents limit bytes ++ []
long_contents limit bytes piece line end is found long =
    let first = first_line piece end (sym found) in
    piece_contents limit bytes piece line is
    ∙ ap (λ lines. ended_contents limit bytes ++ map plain (line_contents limit (without_last (lead line lines)))) first.1
    ∙ ap (λ xs. ended_contents limit bytes ++ xs) (ended_long limit (line ++ take end piece) (parts (drop (end + 1) piece)) (parts-some (drop (end + 1) piece)) (sym long))

pub long_standing : (limit : ℕ) (bytes piece line : List ℕ) (end : ℕ) → Within line ≡ text_standing limit bytes → Some end ≡ position is_lf piece → false ≡ fits limit (without_cr (line ++ take end piece))
    → text_standing limit (bytes ++ piece) ≡ Over
long_standing limit bytes piece line end is found long =
    let first = first_line piece end (sym found) in
    piece_standing limit bytes piece line is ∙ ap (λ lines. line_standing limit (lead line lines)) first.1
    ∙ standing_long limit ((line ++ take end piece) ∷ parts (drop (end + 1) piece)) (all_fit-no limit (line ++ take end piece) (parts (drop (end + 1) piece)) (sym long))

-- with an LF that ends the line
pub more_contents : (limit : ℕ) (bytes piece line : List ℕ) (end : ℕ) → Within line ≡ text_standing limit bytes → Some end ≡ position is_lf piece → true ≡ fits limit (without_cr (line ++ take end piece))
    → ended_contents limit (bytes ++ piece) ≡ ended_contents limit bytes ++ (last_contents limit (Within (line ++ take end piece)) ++ ended_contents limit (drop (end + 1) piece))
more_contents limit bytes piece line end is found fit =
    let first = first_line piece end (sym found) in
    let behind = drop (end + 1) piece in
    piece_contents limit bytes piece line is
    ∙ ap (λ lines. ended_contents limit bytes ++ map plain (line_contents limit (without_last (lead line lines)))) first.1
    ∙ ap (λ xs. ended_contents limit bytes ++ xs) (ended_first limit (line ++ take end piece) (parts behind) (parts-some behind) (sym fit)
    ∙ ap (λ xs. xs ++ ended_contents limit behind) (sym (last_kept limit (line ++ take end piece) (sym fit))))

pub more_standing : (limit : ℕ) (bytes piece line : List ℕ) (end : ℕ) → Within line ≡ text_standing limit bytes → Some end ≡ position is_lf piece → true ≡ fits limit (without_cr (line ++ take end piece))
    → text_standing limit (bytes ++ piece) ≡ text_standing limit (drop (end + 1) piece)
more_standing limit bytes piece line end is found fit =
    let first = first_line piece end (sym found) in
    let behind = drop (end + 1) piece in
    piece_standing limit bytes piece line is ∙ ap (λ lines. line_standing limit (lead line lines)) first.1
    ∙ standing_cons limit (line ++ take end piece) (parts behind) (parts-some behind) (sym fit)

-- ---- what a cutter sees of its fields

abbrev pub cutting : ℕ → LineStanding → ℕ → LineCutting
cutting limit standing start = record { limit = limit; standing = standing; start = start }

pub seen_within : (limit : ℕ) (is_over : Bool) (line : List ℕ) (start : ℕ) (cutter : LineCutting) → cutting limit (standing_at is_over line) start ≡ cutter → IsWithin cutter.standing → cutter ≡ cutting limit (Within line) start
seen_within limit is_over line start cutter seen within = sym seen ∙ go is_over (subst (λ (c : LineCutting). IsWithin c.standing) (sym seen) within)
  where
    go : (t : Bool) → IsWithin (standing_at t line) → cutting limit (standing_at t line) start ≡ cutting limit (Within line) start
    go true h = absurd h
    go false h = refl

pub fits_at : (limit : ℕ) (line : List ℕ) → length (without_cr line) ≤ limit → fits limit (without_cr line) ≡ true
fits_at limit line few = grind (arith, nat_tests)

-- the content of the line that it holds
pub content_seen : (limit : ℕ) (is_over : Bool) (line : List ℕ) (start : ℕ) (cutter : LineCutting) → cutting limit (standing_at is_over line) start ≡ cutter → IsWithin cutter.standing → length (without_cr line) ≤ limit
    → last_contents cutter.limit cutter.standing ≡ cond (is_blank (without_cr line)) [] (plain (without_cr line) ∷ [])
content_seen limit is_over line start cutter seen within few =
    ap (λ (c : LineCutting). last_contents c.limit c.standing) (seen_within limit is_over line start cutter seen within)
    ∙ last_kept limit line (fits_at limit line few) ∙ kept_frames (without_cr line)

pub line_known : (limit : ℕ) (is_over : Bool) (line : List ℕ) (start : ℕ) (cutter : LineCutting) → cutting limit (standing_at is_over line) start ≡ cutter → IsWithin cutter.standing → (cutter.limit ≡ limit) × (cutter.standing ≡ Within line) × (cutter.start ≡ start)
line_known limit is_over line start cutter seen within =
    let is = seen_within limit is_over line start cutter seen within in
    (ap (λ (c : LineCutting). c.limit) is, ap (λ (c : LineCutting). c.standing) is, ap (λ (c : LineCutting). c.start) is)

pub take_without_cr : (line : List ℕ) → take (length (without_cr line)) line ≡ without_cr line
take_without_cr line = go (ends_in_cr line)
  where
    go : (t : Bool) → take (length (cond t (take (length line - 1) line) line)) line ≡ cond t (take (length line - 1) line) line
    go true = ap (λ n. take n line) (length-take (length line - 1) line ∙ min_is (length line))
      where
        min_is : (n : ℕ) → min (n - 1) n ≡ n - 1
        min_is n = omega arith
    go false = take_all (length line) line (omega arith)

-- with more bytes in the field
pub whole_seen : (limit : ℕ) (is_over : Bool) (line whole : List ℕ) (start : ℕ) (cutter : LineCutting) → cutting limit (standing_at is_over line) start ≡ cutter → IsWithin cutter.standing → cutting limit (standing_at is_over whole) start ≡ cutting cutter.limit (Within whole) cutter.start
whole_seen limit is_over line whole start cutter seen within = go is_over (subst (λ (c : LineCutting). IsWithin c.standing) (sym seen) within) ∙ ap (λ (c : LineCutting). cutting c.limit (Within whole) c.start) seen
  where
    go : (t : Bool) → IsWithin (standing_at t line) → cutting limit (standing_at t whole) start ≡ cutting limit (Within whole) start
    go true h = absurd h
    go false h = refl

-- a place that was held free
pub one_pushed : (contents pushed first more : List Frame) (place : Frame) → contents ≡ pushed ++ more → pushed ≡ first ++ place ∷ [] → first ≡ [] → contents ≡ place ∷ more
one_pushed contents pushed first more place cut push none = cut ∙ ap (λ xs. xs ++ more) (push ∙ ap (λ xs. xs ++ place ∷ []) none)
