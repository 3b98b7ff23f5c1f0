-- What a cutter of lines does with bytes, line by line.
use Rattle.std.proofs.Common.{◌≡◌, ◌≢◌, ℕ, ◌+◌, Some, None, Bool, true, false, cond, List, [], ◌∷◌, ◌++◌, take, drop, refl, ap, sym, ◌∙◌, subst}
use Rattle.std.specs.List.{position}
use Rattle.lsp_frames.specs.Contents.{Standing, Open, Broken}
use Rattle.lsp_frames.specs.declared.frame.Frame.{Frame}
use Rattle.lsp_frames.specs.declared.frame.FrameFault.TheVariants.{TooLarge}
use Rattle.content_streams.specs.Lines.{is_lf, parts, without_last, ended_lines, fits}
use Rattle.content_streams.specs.Inner.Cutting.{last_line}
use Rattle.content_streams.proofs.LineTexts.{parts-some, parts-append, parts-are, parts_behind, last_is_one, meet, lead, ended_behind, last_behind, no_lf, first_line, ended_cons, last_cons}
use Rattle.stream_framing.specs.Lines.{all_fit, whole_contents, line_standing}
use Rattle.stream_framing.specs.Inner.Cutting.{LineCutting, IsWithin, standing_at, grown, ended_contents, text_standing}
use Rattle.stream_framing.proofs.Fitting.{whole_all_first, all_fit_behind, not_all_fit, kept, first_fits, first_is_too_long, all_fit-yes, all_fit-no, none_fit, no_lines}

-- ---- standings

pub within_is : (standing : Standing) → IsWithin standing → (line : List ℕ) × (standing ≡ Open line)
within_is (Open line) within = (line, refl)
within_is (Broken fault) within = absurd within

pub standing_is : (limit : ℕ) (lines : List (List ℕ)) (line : List ℕ) → Open line ≡ line_standing limit lines → (all_fit limit lines ≡ true) × (line ≡ last_line lines)
standing_is limit lines line is = go (all_fit limit lines) refl is
  where
    go : (t : Bool) → all_fit limit lines ≡ t → Open line ≡ cond t (Open (last_line lines)) (Broken TooLarge) → (all_fit limit lines ≡ true) × (line ≡ last_line lines)
    go true e h = (e, cc)
    go false e h = (cc)

pub standing_long : (limit : ℕ) (lines : List (List ℕ)) → all_fit limit lines ≡ false → line_standing limit lines ≡ Broken TooLarge
standing_long limit lines long = ap (λ t. cond t (Open (last_line lines)) (Broken TooLarge)) long

pub standing_cons : (limit : ℕ) (line : List ℕ) (lines : List (List ℕ)) → lines ≢ [] → fits limit line ≡ true → line_standing limit (line ∷ lines) ≡ line_standing limit lines
standing_cons limit line lines some fit =
    ap (λ t. cond t (Open (last_line (line ∷ lines))) (Broken TooLarge)) (all_fit-yes limit line lines fit)
    ∙ ap (λ last. cond (all_fit limit lines) (Open last) (Broken TooLarge)) (last_cons line lines some)

pub standing_one : (limit : ℕ) (line : List ℕ) → line_standing limit (line ∷ []) ≡ grown limit line
standing_one limit line = go (fits limit line) refl
  where
    go : (t : Bool) → fits limit line ≡ t → line_standing limit (line ∷ []) ≡ cond t (Open line) (Broken TooLarge)
    go true e = ap (λ t. cond t (Open line) (Broken TooLarge)) (all_fit-yes limit line [] e ∙ none_fit limit)
    go false e = standing_long limit (line ∷ []) (all_fit-no limit line [] e)

-- ---- contents

pub ended_first : (limit : ℕ) (line : List ℕ) (lines : List (List ℕ)) → lines ≢ [] → fits limit line ≡ true
    → whole_contents limit (without_last (line ∷ lines)) ≡ kept line ++ whole_contents limit (without_last lines)
ended_first limit line lines some fit = ap (whole_contents limit) (ended_cons line lines some) ∙ first_fits limit line (without_last lines) fit

pub ended_long : (limit : ℕ) (line : List ℕ) (lines : List (List ℕ)) → lines ≢ [] → fits limit line ≡ false → whole_contents limit (without_last (line ∷ lines)) ≡ []
ended_long limit line lines some long = ap (whole_contents limit) (ended_cons line lines some) ∙ first_is_too_long limit line (without_last lines) long

-- ---- one line more of a text

pub rest_long : (limit : ℕ) (rest : List ℕ) (end : ℕ) → Some end ≡ position is_lf rest → false ≡ fits limit (take end rest) → (ended_contents limit rest ≡ []) × (text_standing limit rest ≡ Broken TooLarge)
rest_long limit rest end found long =
    let first = first_line rest end (sym found) in (
      ap (λ lines. whole_contents limit (without_last lines)) first.1 ∙ ended_long limit (take end rest) (parts (drop (end + 1) rest)) (parts-some (drop (end + 1) rest)) (sym long),
      standing_long limit (parts rest) (ap (all_fit limit) first.1 ∙ all_fit-no limit (take end rest) (parts (drop (end + 1) rest)) (sym long)),
    )

pub rest_goes : (limit : ℕ) (rest : List ℕ) (end : ℕ) → Some end ≡ position is_lf rest → true ≡ fits limit (take end rest)
    → (ended_contents limit rest ≡ kept (take end rest) ++ ended_contents limit (drop (end + 1) rest)) × (text_standing limit rest ≡ text_standing limit (drop (end + 1) rest))
rest_goes limit rest end found fit =
    let first = first_line rest end (sym found) in
    let behind = drop (end + 1) rest in (
      ap (λ lines. whole_contents limit (without_last lines)) first.1 ∙ ended_first limit (take end rest) (parts behind) (parts-some behind) (sym fit),
      ap (line_standing limit) first.1 ∙ standing_cons limit (take end rest) (parts behind) (parts-some behind) (sym fit),
    )

pub rest_ends : (limit : ℕ) (rest : List ℕ) → None ≡ position is_lf rest → (ended_contents limit rest ≡ []) × (text_standing limit rest ≡ grown limit rest)
rest_ends limit rest none =
    let one = no_lf rest (sym none) in
    (ap (λ lines. whole_contents limit (without_last lines)) one ∙ no_lines limit, ap (line_standing limit) one ∙ standing_one limit rest)

-- ---- a piece behind a text

-- All fit, so those whose LF has come do.
pub ended_fit : (limit : ℕ) (bytes : List ℕ) → all_fit limit (parts bytes) ≡ true → all_fit limit (ended_lines bytes) ≡ true
ended_fit limit bytes all = go (all_fit limit (ended_lines bytes)) refl
  where
    go : (t : Bool) → all_fit limit (ended_lines bytes) ≡ t → all_fit limit (ended_lines bytes) ≡ true
    go true e = e
    go false e = (let not_all : all_fit limit (parts bytes) ≡ false = ap (all_fit limit) (parts-are bytes) ∙ not_all_fit limit (ended_lines bytes) (last_line (parts bytes) ∷ []) e in cc)

pub contents_behind : (limit : ℕ) (bytes more : List ℕ) → all_fit limit (parts bytes) ≡ true
    → ended_contents limit (bytes ++ more) ≡ ended_contents limit bytes ++ ended_contents limit (last_line (parts bytes) ++ more)
contents_behind limit bytes more all =
    ap (whole_contents limit) (ended_behind bytes more)
    ∙ whole_all_first limit (ended_lines bytes) (ended_lines (last_line (parts bytes) ++ more)) (ended_fit limit bytes all)

pub standing_behind : (limit : ℕ) (bytes more : List ℕ) → all_fit limit (parts bytes) ≡ true → text_standing limit (bytes ++ more) ≡ text_standing limit (last_line (parts bytes) ++ more)
standing_behind limit bytes more all =
    ap (λ t. cond t (Open (last_line (parts (bytes ++ more)))) (Broken TooLarge))
    (ap (all_fit limit) (parts_behind bytes more) ∙ all_fit_behind limit (ended_lines bytes) (parts (last_line (parts bytes) ++ more)) (ended_fit limit bytes all))
    ∙ ap (λ line. cond (all_fit limit (parts (last_line (parts bytes) ++ more))) (Open line) (Broken TooLarge)) (last_behind bytes more)

-- the parts of a piece behind the last line of a text
pub last_leads : (bytes piece : List ℕ) → parts (last_line (parts bytes) ++ piece) ≡ lead (last_line (parts bytes)) (parts piece)
last_leads bytes piece = parts-append (last_line (parts bytes)) piece ∙ ap (λ lines. meet lines (parts piece)) (last_is_one bytes)

piece_contents : (limit : ℕ) (bytes piece line : List ℕ) → Open line ≡ text_standing limit bytes
    → ended_contents limit (bytes ++ piece) ≡ ended_contents limit bytes ++ whole_contents limit (without_last (lead line (parts piece)))
piece_contents limit bytes piece line is =
    let known = standing_is limit (parts bytes) line is in
    contents_behind limit bytes piece known.0
    ∙ ap (λ lines. ended_contents limit bytes ++ whole_contents limit (without_last lines)) (last_leads bytes piece ∙ ap (λ last. lead last (parts piece)) (sym known.1))

piece_standing : (limit : ℕ) (bytes piece line : List ℕ) → Open line ≡ text_standing limit bytes → text_standing limit (bytes ++ piece) ≡ line_standing limit (lead line (parts piece))
piece_standing limit bytes piece line is =
    let known = standing_is limit (parts bytes) line is in
    standing_behind limit bytes piece known.0 ∙ ap (line_standing limit) (last_leads bytes piece ∙ ap (λ last. lead last (parts piece)) (sym known.1))

-- with no LF
pub held_contents : (limit : ℕ) (bytes piece line : List ℕ) → Open line ≡ text_standing limit bytes → None ≡ position is_lf piece → ended_contents limit (bytes ++ piece) ≡ ended_contents limit bytes ++ []
held_contents limit bytes piece line is none =
    piece_contents limit bytes piece line is
    ∙ ap (λ lines. ended_contents limit bytes ++ whole_contents limit (without_last (lead line lines))) (no_lf piece (sym none))
    ∙ ap (λ xs. ended_contents limit bytes ++ xs) (no_lines limit)

pub held_standing : (limit : ℕ) (bytes piece line : List ℕ) → Open line ≡ text_standing limit bytes → None ≡ position is_lf piece → text_standing limit (bytes ++ piece) ≡ grown limit (line ++ piece)
held_standing limit bytes piece line is none =
    piece_standing limit bytes piece line is ∙ ap (λ lines. line_standing limit (lead line lines)) (no_lf piece (sym none)) ∙ standing_one limit (line ++ piece)

-- with an LF behind which the line is too long
pub long_contents : (limit : ℕ) (bytes piece line : List ℕ) (end : ℕ) → Open line ≡ text_standing limit bytes → Some end ≡ position is_lf piece → false ≡ fits limit (line ++ take end piece)
    → ended_contents limit (bytes ++ piece) ≡ ended_contents limit bytes ++ []
long_contents limit bytes piece line end is found long =
    let first = first_line piece end (sym found) in
    piece_contents limit bytes piece line is
    ∙ ap (λ lines. ended_contents limit bytes ++ whole_contents limit (without_last (lead line lines))) first.1
    ∙ ap (λ xs. ended_contents limit bytes ++ xs) (ended_long limit (line ++ take end piece) (parts (drop (end + 1) piece)) (parts-some (drop (end + 1) piece)) (sym long))

pub long_standing : (limit : ℕ) (bytes piece line : List ℕ) (end : ℕ) → Open line ≡ text_standing limit bytes → Some end ≡ position is_lf piece → false ≡ fits limit (line ++ take end piece)
    → text_standing limit (bytes ++ piece) ≡ Broken TooLarge
long_standing limit bytes piece line end is found long =
    let first = first_line piece end (sym found) in
    piece_standing limit bytes piece line is ∙ ap (λ lines. line_standing limit (lead line lines)) first.1
    ∙ standing_long limit ((line ++ take end piece) ∷ parts (drop (end + 1) piece)) (all_fit-no limit (line ++ take end piece) (parts (drop (end + 1) piece)) (sym long))

-- with an LF that ends the line
pub more_contents : (limit : ℕ) (bytes piece line : List ℕ) (end : ℕ) → Open line ≡ text_standing limit bytes → Some end ≡ position is_lf piece → true ≡ fits limit (line ++ take end piece)
    → ended_contents limit (bytes ++ piece) ≡ ended_contents limit bytes ++ (kept (line ++ take end piece) ++ ended_contents limit (drop (end + 1) piece))
more_contents limit bytes piece line end is found fit =
    let first = first_line piece end (sym found) in
    let behind = drop (end + 1) piece in
    piece_contents limit bytes piece line is
    ∙ ap (λ lines. ended_contents limit bytes ++ whole_contents limit (without_last (lead line lines))) first.1
    ∙ ap (λ xs. ended_contents limit bytes ++ xs) (ended_first limit (line ++ take end piece) (parts behind) (parts-some behind) (sym fit))

pub more_standing : (limit : ℕ) (bytes piece line : List ℕ) (end : ℕ) → Open line ≡ text_standing limit bytes → Some end ≡ position is_lf piece → true ≡ fits limit (line ++ take end piece)
    → text_standing limit (bytes ++ piece) ≡ text_standing limit (drop (end + 1) piece)
more_standing limit bytes piece line end is found fit =
    let first = first_line piece end (sym found) in
    let behind = drop (end + 1) piece in
    piece_standing limit bytes piece line is ∙ ap (λ lines. line_standing limit (lead line lines)) first.1
    ∙ standing_cons limit (line ++ take end piece) (parts behind) (parts-some behind) (sym fit)

-- ---- what a cutter sees of its fields

abbrev pub cutting : ℕ → Standing → LineCutting
cutting limit standing = record { limit = limit; standing = standing }

pub seen_within : (limit : ℕ) (is_over : Bool) (line : List ℕ) (cutter : LineCutting) → cutting limit (standing_at is_over line) ≡ cutter → IsWithin cutter.standing → cutter ≡ cutting limit (Open line)
seen_within limit is_over line cutter seen within = sym seen ∙ go is_over (subst (λ (c : LineCutting). IsWithin c.standing) (sym seen) within)
  where
    go : (t : Bool) → IsWithin (standing_at t line) → cutting limit (standing_at t line) ≡ cutting limit (Open line)
    go true h = absurd h
    go false h = refl

pub line_known : (limit : ℕ) (is_over : Bool) (line : List ℕ) (cutter : LineCutting) → cutting limit (standing_at is_over line) ≡ cutter → IsWithin cutter.standing → (cutter.limit ≡ limit) × (cutter.standing ≡ Open line)
line_known limit is_over line cutter seen within =
    let is = seen_within limit is_over line cutter seen within in
    (ap (λ (c : LineCutting). c.limit) is, ap (λ (c : LineCutting). c.standing) is)

-- with more bytes in the field
pub whole_seen : (limit : ℕ) (is_over : Bool) (line whole : List ℕ) (cutter : LineCutting) → cutting limit (standing_at is_over line) ≡ cutter → IsWithin cutter.standing → cutting limit (standing_at is_over whole) ≡ cutting cutter.limit (Open whole)
whole_seen limit is_over line whole cutter seen within = go is_over (subst (λ (c : LineCutting). IsWithin c.standing) (sym seen) within) ∙ ap (λ (c : LineCutting). cutting c.limit (Open whole)) seen
  where
    go : (t : Bool) → IsWithin (standing_at t line) → cutting limit (standing_at t whole) ≡ cutting limit (Open whole)
    go true h = absurd h
    go false h = refl

-- a place that was held free
pub one_pushed : (contents pushed first more : List Frame) (place : Frame) → contents ≡ pushed ++ more → pushed ≡ first ++ place ∷ [] → first ≡ [] → contents ≡ place ∷ more
one_pushed contents pushed first more place cut push none = cut ∙ ap (λ xs. xs ++ more) (push ∙ ap (λ xs. xs ++ place ∷ []) none)
