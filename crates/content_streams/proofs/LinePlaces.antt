-- Where the contents of lines begin, of a text that comes in parts.
use Rattle.std.proofs.Common.{◌≡◌, ℕ, ◌+◌, Some, None, Option, Bool, true, false, cond, List, [], ◌∷◌, ◌++◌, length, take, drop, map, refl, ap, sym, ◌∙◌, append-nil, append_assoc, length-take, length-append, ◌-◌, ◌<◌, subst, arith}
use Rattle.std.specs.List.{position, remove}
use Rattle.std.specs.Option.{IsSome, OnSome}
use Rattle.std.proofs.lemmas.List.Edits.{remove-append_right}
use Rattle.content_streams.specs.Lines.{is_lf, parts, without_last, ended_lines, without_cr, is_blank, fits, all_fit, line_place, placed_line_contents}
use Rattle.content_streams.specs.Streams.{capped, plain, lines_read}
use Rattle.content_streams.specs.Inner.Cutting.{Within, Over, last_line, text_standing, places_from, ended_places, last_contents}
use Rattle.content_streams.specs.Inner.Rows.{BeginsWith}
use Rattle.content_streams.specs.declared.ending.HowEnded.{HowEnded}
use Rattle.content_streams.specs.declared.ending.HowEnded.TheVariants.{Closed, ReadFailed}
use Rattle.content_streams.proofs.Fitting.{kept, all_fit_behind, all_fit-no}
use Rattle.content_streams.proofs.LineTexts.{parts-some, parts-are, parts_behind, lead, standing_is, ended_fit, ended_behind, ended_lead, no_lf, first_line, ended_cons, stays_long, AnEnded, TheLast, is_long}
use Rattle.content_streams.proofs.LineSteps.{last_kept}
use Rattle.content_streams.proofs.TextPlaces.{kept_place, no_places, places_fit, places_over, places_behind, places_long, line_place_none, line_place_fits, line_place_over, line_place_on, line_place_long, lines_behind, lines_long}

-- ---- the lines that a piece ends

ended_held : (bytes piece : List ℕ) → None ≡ position is_lf piece → ended_lines (bytes ++ piece) ≡ ended_lines bytes
ended_held bytes piece none =
    ended_lead bytes piece ∙ ap (λ lines. ended_lines bytes ++ without_last (lead (last_line (parts bytes)) lines)) (no_lf piece (sym none)) ∙ append-nil (ended_lines bytes)

ended_found : (bytes piece line : List ℕ) (end : ℕ) → line ≡ last_line (parts bytes) → Some end ≡ position is_lf piece
    → ended_lines (bytes ++ piece) ≡ ended_lines bytes ++ (line ++ take end piece) ∷ ended_lines (drop (end + 1) piece)
ended_found bytes piece line end last found =
    let first = first_line piece end (sym found) in
    let behind = drop (end + 1) piece in
    ended_lead bytes piece ∙ ap (λ lines. ended_lines bytes ++ without_last (lead (last_line (parts bytes)) lines)) first.1
    ∙ ap (λ xs. ended_lines bytes ++ without_last ((xs ++ take end piece) ∷ parts behind)) (sym last)
    ∙ ap (λ lines. ended_lines bytes ++ lines) (ended_cons (line ++ take end piece) (parts behind) (parts-some behind))

-- with no LF
pub held_places : (limit : ℕ) (bytes piece : List ℕ) → None ≡ position is_lf piece → ended_places limit (bytes ++ piece) ≡ ended_places limit bytes
held_places limit bytes piece none = ap (places_from limit 0) (ended_held bytes piece none)

pub held_start : (limit : ℕ) (bytes piece : List ℕ) → None ≡ position is_lf piece → line_place limit 0 (ended_lines (bytes ++ piece)) ≡ line_place limit 0 (ended_lines bytes)
held_start limit bytes piece none = ap (line_place limit 0) (ended_held bytes piece none)

-- with an LF behind which the line is too long
pub over_places : (limit : ℕ) (bytes piece line : List ℕ) (end : ℕ) → Within line ≡ text_standing limit bytes → Some end ≡ position is_lf piece → false ≡ fits limit (without_cr (line ++ take end piece))
    → ended_places limit (bytes ++ piece) ≡ ended_places limit bytes
over_places limit bytes piece line end is found long =
    let known = standing_is limit (parts bytes) line is in
    let next = (line ++ take end piece) ∷ ended_lines (drop (end + 1) piece) in
    ap (places_from limit 0) (ended_found bytes piece line end known.1 found)
    ∙ places_behind limit 0 (ended_lines bytes) next (ended_fit limit bytes known.0)
    ∙ ap (λ xs. ended_places limit bytes ++ xs) (places_over limit (line_place limit 0 (ended_lines bytes)) (line ++ take end piece) (ended_lines (drop (end + 1) piece)) (sym long))
    ∙ append-nil (ended_places limit bytes)

pub over_start : (limit : ℕ) (bytes piece line : List ℕ) (end : ℕ) → Within line ≡ text_standing limit bytes → Some end ≡ position is_lf piece → false ≡ fits limit (without_cr (line ++ take end piece))
    → line_place limit 0 (ended_lines (bytes ++ piece)) ≡ line_place limit 0 (ended_lines bytes)
over_start limit bytes piece line end is found long =
    let known = standing_is limit (parts bytes) line is in
    let next = (line ++ take end piece) ∷ ended_lines (drop (end + 1) piece) in
    ap (line_place limit 0) (ended_found bytes piece line end known.1 found)
    ∙ line_place_on limit 0 (ended_lines bytes) next (ended_fit limit bytes known.0)
    ∙ line_place_over limit (line_place limit 0 (ended_lines bytes)) (line ++ take end piece) (ended_lines (drop (end + 1) piece)) (sym long)

-- with an LF that ends the line
pub more_places : (limit : ℕ) (bytes piece line : List ℕ) (end : ℕ) → Within line ≡ text_standing limit bytes → Some end ≡ position is_lf piece → true ≡ fits limit (without_cr (line ++ take end piece))
    → ended_places limit (bytes ++ piece) ≡ ended_places limit bytes ++ (kept_place (capped (line_place limit 0 (ended_lines bytes))) (without_cr (line ++ take end piece))
    ++ places_from limit (line_place limit 0 (ended_lines bytes) + length (line ++ take end piece) + 1) (ended_lines (drop (end + 1) piece)))
more_places limit bytes piece line end is found fit =
    let known = standing_is limit (parts bytes) line is in
    let next = (line ++ take end piece) ∷ ended_lines (drop (end + 1) piece) in
    ap (places_from limit 0) (ended_found bytes piece line end known.1 found)
    ∙ places_behind limit 0 (ended_lines bytes) next (ended_fit limit bytes known.0)
    ∙ ap (λ xs. ended_places limit bytes ++ xs) (places_fit limit (line_place limit 0 (ended_lines bytes)) (line ++ take end piece) (ended_lines (drop (end + 1) piece)) (sym fit))

pub more_start : (limit : ℕ) (bytes piece line : List ℕ) (end : ℕ) → Within line ≡ text_standing limit bytes → Some end ≡ position is_lf piece → true ≡ fits limit (without_cr (line ++ take end piece))
    → line_place limit 0 (ended_lines (bytes ++ piece)) ≡ line_place limit (line_place limit 0 (ended_lines bytes) + length (line ++ take end piece) + 1) (ended_lines (drop (end + 1) piece))
more_start limit bytes piece line end is found fit =
    let known = standing_is limit (parts bytes) line is in
    let next = (line ++ take end piece) ∷ ended_lines (drop (end + 1) piece) in
    ap (line_place limit 0) (ended_found bytes piece line end known.1 found)
    ∙ line_place_on limit 0 (ended_lines bytes) next (ended_fit limit bytes known.0)
    ∙ line_place_fits limit (line_place limit 0 (ended_lines bytes)) (line ++ take end piece) (ended_lines (drop (end + 1) piece)) (sym fit)

-- ---- one line more of what is left

pub rest_ended : (rest : List ℕ) (end : ℕ) → Some end ≡ position is_lf rest → ended_lines rest ≡ take end rest ∷ ended_lines (drop (end + 1) rest)
rest_ended rest end found =
    let first = first_line rest end (sym found) in
    let behind = drop (end + 1) rest in
    ap without_last first.1 ∙ ended_cons (take end rest) (parts behind) (parts-some behind)

pub rest_within : (rest : List ℕ) (end : ℕ) → Some end ≡ position is_lf rest → length (take end rest) ≡ end
rest_within rest end found = let first = first_line rest end (sym found) in length-take end rest ∙ omega (arith, first.0)

pub rest_none : (rest : List ℕ) → None ≡ position is_lf rest → ended_lines rest ≡ []
rest_none rest none = ap without_last (no_lf rest (sym none))

-- What is left of a text begins here: with its places these are all, and it says where the next line begins.
pub record IsAt (limit start : ℕ) (rest places all : List ℕ) (next : ℕ) : Type 0 where
  pub now : ℕ
  pub starts : start ≡ capped now
  pub whole : places ++ places_from limit now (ended_lines rest) ≡ all
  pub ends : line_place limit now (ended_lines rest) ≡ next

pub begins_at : (limit start now : ℕ) (bytes places : List ℕ) → start ≡ capped now → IsAt limit start bytes places (places ++ places_from limit now (ended_lines bytes)) (line_place limit now (ended_lines bytes))
begins_at limit start now bytes places is = record { now = now; starts = is; whole = refl; ends = refl }

pub over_at : (limit start : ℕ) (rest places all : List ℕ) (next end : ℕ) → IsAt limit start rest places all next → Some end ≡ position is_lf rest → false ≡ fits limit (without_cr (take end rest)) → (places ≡ all) × (start ≡ capped next)
over_at limit start rest places all next end at found long =
    let lines = rest_ended rest end found in
    let later = ended_lines (drop (end + 1) rest) in (
      sym (ap (λ ls. places ++ places_from limit at.now ls) lines ∙ ap (λ xs. places ++ xs) (places_over limit at.now (take end rest) later (sym long)) ∙ append-nil places) ∙ at.whole,
      at.starts ∙ ap capped (sym (ap (line_place limit at.now) lines ∙ line_place_over limit at.now (take end rest) later (sym long)) ∙ at.ends),
    )

pub none_at : (limit start : ℕ) (rest places all : List ℕ) (next : ℕ) → IsAt limit start rest places all next → None ≡ position is_lf rest → (places ≡ all) × (start ≡ capped next)
none_at limit start rest places all next at none =
    let lines = rest_none rest none in (
      sym (ap (λ ls. places ++ places_from limit at.now ls) lines ∙ ap (λ xs. places ++ xs) (no_places limit at.now) ∙ append-nil places) ∙ at.whole,
      at.starts ∙ ap capped (sym (ap (line_place limit at.now) lines ∙ line_place_none limit at.now) ∙ at.ends),
    )

pub goes_at : (limit start : ℕ) (rest places all content : List ℕ) (next end : ℕ) (after : ℕ) (more behind : List ℕ) → IsAt limit start rest places all next → Some end ≡ position is_lf rest → true ≡ fits limit (without_cr (take end rest))
    → content ≡ without_cr (take end rest) → more ≡ places ++ kept_place start content → after ≡ capped (start + (0 + end) + 1) → behind ≡ drop (end + 1) rest → IsAt limit after behind more all next
goes_at limit start rest places all content next end after more behind at found fit is pushed moves left =
    let lines = rest_ended rest end found in
    let line = take end rest in
    let rest' = drop (end + 1) rest in
    let size = rest_within rest end found in
    let then = at.now + length line + 1 in
    let here : after ≡ capped then = moves ∙ ap (λ n. capped (n + (0 + end) + 1)) at.starts ∙ steps at.now end ∙ ap (λ n. capped (at.now + n + 1)) (sym size) in
    let P : List ℕ → Type 0 = λ xs. IsAt limit after xs more all next in
    subst P (sym left) (record {
      now = then;
      starts = here;
      whole = ap (λ xs. xs ++ places_from limit then (ended_lines rest')) (pushed ∙ ap (λ c. places ++ kept_place start c) is ∙ ap (λ n. places ++ kept_place n (without_cr line)) at.starts)
          ∙ append_assoc places (kept_place (capped at.now) (without_cr line)) (places_from limit then (ended_lines rest'))
          ∙ ap (λ xs. places ++ xs) (sym (ap (places_from limit at.now) lines ∙ places_fit limit at.now line (ended_lines rest') (sym fit))) ∙ at.whole;
      ends = sym (ap (line_place limit at.now) lines ∙ line_place_fits limit at.now line (ended_lines rest') (sym fit)) ∙ at.ends;
    })
  where
    steps : (now end : ℕ) → capped (capped now + (0 + end) + 1) ≡ capped (now + end + 1)
    steps now end = omega arith

pub begins_on : (xs ys zs : List ℕ) → BeginsWith xs ys → BeginsWith ys zs → BeginsWith xs zs
begins_on xs ys zs first second = (first.0 ++ second.0, second.1 ∙ ap (λ ws. ws ++ second.0) first.1 ∙ append_assoc xs first.0 second.0)

pub next_first : (place start had end : ℕ) (line front : List ℕ) → start ≡ capped place → had ≡ length line → length front ≡ end → capped (start + (had + end) + 1) ≡ capped (place + length (line ++ front) + 1)
next_first place start had end line front is held found = omega (arith, is, held, found, length-append line front)

pub removed : (xs ys : List ℕ) (x n : ℕ) → n ≡ length xs → remove ((xs ++ x ∷ []) ++ ys) n ≡ xs ++ ys
removed xs ys x n is =
    let none : n - n ≡ 0 = omega arith in
    ap (λ zs. remove zs n) (append_assoc xs (x ∷ []) ys) ∙ remove-append_right xs (x ∷ ys) n n (sym is) (omega arith) ∙ ap (λ k. xs ++ remove (x ∷ ys) k) none

pub is_there : (found : Option ℕ) (P : Type 0) → IsSome found → OnSome found P → P
is_there None P some held = cc
is_there (Some x) P some held = held

pub removed_within : (xs ys all : List ℕ) (x n size : ℕ) → n ≡ length xs → size ≡ length all → all ≡ (xs ++ x ∷ []) ++ ys → n < size
removed_within xs ys all x n size is long are =
    let whole : length all ≡ length ((xs ++ x ∷ []) ++ ys) = ap length are in
    omega (arith, is, long, whole, length-append (xs ++ x ∷ []) ys, length-append xs (x ∷ []))

-- ---- the last line, where the input is closed

last_fits : (limit : ℕ) (bytes : List ℕ) → all_fit limit (parts bytes) ≡ true → fits limit (without_cr (last_line (parts bytes))) ≡ true
last_fits limit bytes all = go (fits limit (without_cr (last_line (parts bytes)))) refl
  where
    go : (t : Bool) → fits limit (without_cr (last_line (parts bytes))) ≡ t → fits limit (without_cr (last_line (parts bytes))) ≡ true
    go true e = e
    go false e =
        let one : all_fit limit (parts bytes) ≡ all_fit limit (last_line (parts bytes) ∷ []) = ap (all_fit limit) (parts-are bytes) ∙ all_fit_behind limit (ended_lines bytes) (last_line (parts bytes) ∷ []) (ended_fit limit bytes all) in
        let none : all_fit limit (last_line (parts bytes) ∷ []) ≡ false = all_fit-no limit (last_line (parts bytes)) [] e in
        (let clash : true ≡ false = sym all ∙ one ∙ none in cc)

kept_at : (place : ℕ) (content : List ℕ) → kept_place place content ≡ map (λ frame. place) (map plain (kept content))
kept_at place content = go (is_blank content)
  where
    go : (t : Bool) → cond t [] (place ∷ []) ≡ map (λ frame. place) (map plain (cond t [] (content ∷ [])))
    go true = refl
    go false = refl

-- the same of a line that is held
pub kept_last : (limit place : ℕ) (line : List ℕ) → fits limit (without_cr line) ≡ true → kept_place place (without_cr line) ≡ map (λ frame. place) (last_contents limit (Within line))
kept_last limit place line fit = kept_at place (without_cr line) ∙ ap (map (λ frame. place)) (sym (last_kept limit line fit))

pub closed_places : (limit : ℕ) (bytes : List ℕ)
    → places_from limit 0 (parts bytes) ≡ ended_places limit bytes ++ map (λ frame. capped (line_place limit 0 (ended_lines bytes))) (last_contents limit (text_standing limit bytes))
closed_places limit bytes = go (all_fit limit (parts bytes)) refl
  where
    place : ℕ
    place = line_place limit 0 (ended_lines bytes)

    go : (t : Bool) → all_fit limit (parts bytes) ≡ t
        → places_from limit 0 (parts bytes) ≡ ended_places limit bytes ++ map (λ frame. capped (line_place limit 0 (ended_lines bytes))) (last_contents limit (cond (all_fit limit (parts bytes)) (Within (last_line (parts bytes))) Over))
    go true e =
        let last = last_line (parts bytes) in
        let fit = last_fits limit bytes e in
        ap (places_from limit 0) (parts-are bytes)
        ∙ places_behind limit 0 (ended_lines bytes) (last ∷ []) (ended_fit limit bytes e)
        ∙ ap (λ xs. ended_places limit bytes ++ xs) (places_fit limit place last [] fit ∙ ap (λ xs. kept_place (capped place) (without_cr last) ++ xs) (no_places limit (place + length last + 1)) ∙ append-nil (kept_place (capped place) (without_cr last))
        ∙ kept_last limit (capped place) last fit)
        ∙ sym (ap (λ t. ended_places limit bytes ++ map (λ frame. capped place) (last_contents limit (cond t (Within last) Over))) e)
    go false e =
        let last = last_line (parts bytes) in
        ap (places_from limit 0) (parts-are bytes)
        ∙ elim (is_long limit bytes e) [
          | AnEnded h ↦ places_long limit 0 (ended_lines bytes) (last ∷ []) h ∙ sym (append-nil (ended_places limit bytes))
          | TheLast h k ↦ places_behind limit 0 (ended_lines bytes) (last ∷ []) h ∙ ap (λ xs. ended_places limit bytes ++ xs) (places_over limit place last [] k)
        ]
        ∙ sym (ap (λ t. ended_places limit bytes ++ map (λ frame. capped place) (last_contents limit (cond t (Within last) Over))) e)

-- ---- more bytes, and the end

pub record LaterLines (limit : ℕ) (bytes more : List ℕ) (ended : Option HowEnded) : Type 0 where
  pub later : List (ℕ × List ℕ)
  pub contents : placed_line_contents limit 0 (lines_read ended (bytes ++ more)) ≡ placed_line_contents limit 0 (ended_lines bytes) ++ later

read_lead : (ended : Option HowEnded) (bytes more : List ℕ) → (lines : List (List ℕ)) × (lines_read ended (bytes ++ more) ≡ ended_lines bytes ++ lines)
read_lead None bytes more = (ended_lines (last_line (parts bytes) ++ more), ended_behind bytes more)
read_lead (Some ReadFailed) bytes more = (ended_lines (last_line (parts bytes) ++ more), ended_behind bytes more)
read_lead (Some Closed) bytes more = (parts (last_line (parts bytes) ++ more), parts_behind bytes more)

pub later_lines : (limit : ℕ) (bytes more : List ℕ) (ended : Option HowEnded) → LaterLines limit bytes more ended
later_lines limit bytes more ended = go (all_fit limit (ended_lines bytes)) refl
  where
    go : (t : Bool) → all_fit limit (ended_lines bytes) ≡ t → LaterLines limit bytes more ended
    go true e =
        let lead = read_lead ended bytes more in
        record {
          later = placed_line_contents limit (line_place limit 0 (ended_lines bytes)) lead.0;
          contents = ap (placed_line_contents limit 0) lead.1 ∙ lines_behind limit 0 (ended_lines bytes) lead.0 e;
        }
    go false e =
        let lead = read_lead ended bytes more in
        record {
          later = [];
          contents = ap (placed_line_contents limit 0) lead.1 ∙ lines_long limit 0 (ended_lines bytes) lead.0 e ∙ sym (append-nil (placed_line_contents limit 0 (ended_lines bytes)));
        }

long_lead : (limit start : ℕ) (line : List ℕ) (lines : List (List ℕ)) → fits limit (without_cr line) ≡ false → line_place limit start (without_last (lead line lines)) ≡ start
long_lead limit start line [] long = line_place_none limit start
long_lead limit start line (next ∷ []) long = line_place_none limit start
long_lead limit start line (next ∷ other ∷ lines) long = line_place_over limit start (line ++ next) (without_last (other ∷ lines)) (stays_long limit line next long)

-- A line that is too long stays where it is.
pub long_place : (limit : ℕ) (bytes more : List ℕ) → all_fit limit (parts bytes) ≡ false → line_place limit 0 (ended_lines (bytes ++ more)) ≡ line_place limit 0 (ended_lines bytes)
long_place limit bytes more long =
    ap (line_place limit 0) (ended_lead bytes more)
    ∙ elim (is_long limit bytes long) [
      | AnEnded h ↦ line_place_long limit 0 (ended_lines bytes) (without_last (lead (last_line (parts bytes)) (parts more))) h
      | TheLast h k ↦ line_place_on limit 0 (ended_lines bytes) (without_last (lead (last_line (parts bytes)) (parts more))) h
          ∙ long_lead limit (line_place limit 0 (ended_lines bytes)) (last_line (parts bytes)) (parts more) k
    ]
