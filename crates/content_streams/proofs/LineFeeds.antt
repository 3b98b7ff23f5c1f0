-- Where the first LF stands, and what of a head stands in front of it.
use Rattle.std.proofs.Common.{◌≡◌, ℕ, zero, suc, ◌+◌, ◌<◌, ◌≤◌, Bool, true, false, cond, List, [], ◌∷◌, ◌++◌, codes, length, length-drop, ◌-◌, take, drop, Option, Some, None, slice_index, refl, ap, sym, subst, ◌∙◌, add-zero, arith}
use Rattle.std.specs.Prelude.{position}
use Rattle.std.specs.List.{position_from}
use Rattle.std.proofs.lemmas.Iterator.Adapters.{position_from-zero}
use Rattle.std.proofs.lemmas.List.{take_all, drop-drop}
use Rattle.memchr.specs.Find.{IsFirstByte}
use Rattle.content_streams.specs.Lines.{is_lf}
use Rattle.content_streams.specs.Inner.Heads.{in_front, head_bytes}
use Rattle.content_streams.specs.declared.under_way.HeadStage.{HeadStage}
use Rattle.content_streams.specs.declared.under_way.HeadStage.TheVariants.{LineStart, Cr, Line, Whole}
use Rattle.content_streams.proofs.HeadSteps.{behind, at_whole}

-- ---- the first place where a byte passes

passed : {X : Type 0} (b : Bool) (x y : X) → (b ≡ true → ⊥) → y ≡ cond b x y
passed true x y none = absurd (none refl)
passed false x y none = refl

none_from : (p : ℕ → Bool) (i : ℕ) (bytes : List ℕ) → ((k : ℕ) → k < length bytes → p (slice_index bytes k) ≡ true → ⊥) → None ≡ position_from p i bytes
none_from p i [] none = refl
none_from p i (b ∷ bytes) none =
    none_from p (i + 1) bytes (λ k under. none (suc k) (omega (arith, under))) ∙ passed (p b) (Some i) (position_from p (i + 1) bytes) (none 0 (omega arith))

first_from : (p : ℕ → Bool) (i h : ℕ) (bytes : List ℕ) → h < length bytes → p (slice_index bytes h) ≡ true → ((k : ℕ) → k < h → p (slice_index bytes k) ≡ true → ⊥)
    → Some (i + h) ≡ position_from p i bytes
first_from p i h [] under is none = absurd (omega (arith, under))
first_from p i zero (b ∷ bytes) under is none = ap Some (add-zero i) ∙ ap (λ here. cond here (Some i) (position_from p (i + 1) bytes)) (sym is)
first_from p i (suc h) (b ∷ bytes) under is none =
    let next : i + suc h ≡ (i + 1) + h = omega arith in
    ap Some next ∙ first_from p (i + 1) h bytes (omega (arith, under)) is (λ k before. none (suc k) (omega (arith, before)))
    ∙ passed (p b) (Some i) (position_from p (i + 1) bytes) (none 0 (omega arith))

pub first_is_position : (p : ℕ → Bool) (bytes : List ℕ) (r : Option ℕ) → IsFirstByte p bytes r → r ≡ position p bytes
first_is_position p bytes None none = none_from p 0 bytes (λ k under. none k (omega arith) under) ∙ sym (position_from-zero p bytes)
first_is_position p bytes (Some h) found =
    let start : h ≡ 0 + h = omega arith in
    ap Some start ∙ first_from p 0 h bytes found.0.high found.1 (λ k before. found.0.before k (omega arith) before) ∙ sym (position_from-zero p bytes)

-- ---- the bytes of a head within a line

one_in_front : (n : ℕ) (head : ℕ × HeadStage) → in_front Line (behind n head) ≡ behind (suc n) head
one_in_front n head = let e : (n + head.0) + 1 ≡ suc n + head.0 = omega arith in ap (λ m. (m, head.1)) e

stays : (b : Bool) → (b ≡ true → ⊥) → (cond b LineStart Line) ≡ Line
stays true none = absurd (none refl)
stays false none = refl

-- up to the first LF, and past it
pub to_line_end : (h : ℕ) (bytes : List ℕ) → h < length bytes → is_lf (slice_index bytes h) ≡ true → ((k : ℕ) → k < h → is_lf (slice_index bytes k) ≡ true → ⊥)
    → head_bytes Line bytes ≡ behind (suc h) (head_bytes LineStart (drop (suc h) bytes))
to_line_end h [] under is none = absurd (omega (arith, under))
to_line_end zero (b ∷ bytes) under is none =
    ap (λ here. in_front Line (head_bytes (cond here LineStart Line) bytes)) is
    ∙ (let head = head_bytes LineStart bytes in let e : head.0 + 1 ≡ 1 + head.0 = omega arith in ap (λ m. (m, head.1)) e)
to_line_end (suc h) (b ∷ bytes) under is none =
    ap (λ stage. in_front Line (head_bytes stage bytes)) (stays (is_lf b) (none 0 (omega arith)))
    ∙ ap (in_front Line) (to_line_end h bytes (omega (arith, under)) is (λ k before. none (suc k) (omega (arith, before))))
    ∙ one_in_front (suc h) (head_bytes LineStart (drop (suc h) bytes))

-- where there is none, all of them
pub all_in_line : (bytes : List ℕ) → ((k : ℕ) → k < length bytes → is_lf (slice_index bytes k) ≡ true → ⊥) → head_bytes Line bytes ≡ (length bytes, Line)
all_in_line [] none = refl
all_in_line (b ∷ bytes) none =
    ap (λ stage. in_front Line (head_bytes stage bytes)) (stays (is_lf b) (none 0 (omega arith)))
    ∙ ap (in_front Line) (all_in_line bytes (λ k under. none (suc k) (omega (arith, under))))
    ∙ (let e : length bytes + 1 ≡ suc (length bytes) = omega arith in ap (λ m. (m, Line)) e)

-- ---- the same from a place on

tail_is : (bytes : List ℕ) (at : ℕ) → take (length bytes - at) (drop at bytes) ≡ drop at bytes
tail_is bytes at = let size = length-drop at bytes in take_all (length bytes - at) (drop at bytes) (omega (arith, size))

behind_behind : (n m : ℕ) (head : ℕ × HeadStage) → behind n (behind m head) ≡ behind (n + m) head
behind_behind n m head = let e : n + (m + head.0) ≡ (n + m) + head.0 = omega arith in ap (λ k. (k, head.1)) e

pub first_from_place : (bytes : List ℕ) (at end : ℕ) → IsFirstByte is_lf (take (length bytes - at) (drop at bytes)) (Some end) → at ≤ length bytes
    → (at + (end + 1) ≤ length bytes) × (behind at (head_bytes Line (drop at bytes)) ≡ behind (at + (end + 1)) (head_bytes LineStart (drop (at + (end + 1)) bytes)))
first_from_place bytes at end found within =
    let first : IsFirstByte is_lf (drop at bytes) (Some end) = subst (λ t. IsFirstByte is_lf t (Some end)) (tail_is bytes at) found in
    let size = length-drop at bytes in
    let high = first.0.high in
    let next : suc end ≡ end + 1 = omega arith in (
      omega (arith, size, high, within),
      ap (behind at) (to_line_end end (drop at bytes) first.0.high first.1 (λ k before. first.0.before k (omega arith) before))
          ∙ behind_behind at (suc end) (head_bytes LineStart (drop (suc end) (drop at bytes)))
          ∙ ap (λ n. behind (at + n) (head_bytes LineStart (drop n (drop at bytes)))) next
          ∙ ap (λ t. behind (at + (end + 1)) (head_bytes LineStart t)) (drop-drop (end + 1) at bytes),
    )

pub none_from_place : (bytes : List ℕ) (at : ℕ) → IsFirstByte is_lf (take (length bytes - at) (drop at bytes)) None → at ≤ length bytes
    → behind at (head_bytes Line (drop at bytes)) ≡ (length bytes, Line)
none_from_place bytes at found within =
    let none : IsFirstByte is_lf (drop at bytes) None = subst (λ t. IsFirstByte is_lf t None) (tail_is bytes at) found in
    let size = length-drop at bytes in
    let all : at + length (drop at bytes) ≡ length bytes = omega (arith, size, within) in
    ap (behind at) (all_in_line (drop at bytes) (λ k under. none k (omega arith) under)) ∙ ap (λ n. (n, Line)) all

-- ---- the head that most frames have

pub words_of_head : (bytes : List ℕ) → bytes ≡ codes "Content-Length: " ++ drop 16 bytes → head_bytes LineStart bytes ≡ behind 16 (head_bytes Line (drop 16 bytes))
words_of_head bytes is =
    let head = head_bytes Line (drop 16 bytes) in
    let e : head.0 + 1 + 1 + 1 + 1 + 1 + 1 + 1 + 1 + 1 + 1 + 1 + 1 + 1 + 1 + 1 + 1 ≡ 16 + head.0 = omega arith in
    ap (head_bytes LineStart) is ∙ ap (λ n. (n, head.1)) e

pub end_of_head : (bytes : List ℕ) (at : ℕ) → drop at bytes ≡ codes "\r\n\r\n" ++ drop 4 (drop at bytes) → behind at (head_bytes Line (drop at bytes)) ≡ (at + 4, Whole)
end_of_head bytes at is =
    ap (λ xs. behind at (head_bytes Line xs)) is
    ∙ ap (λ head. behind at (in_front Line (in_front Line (in_front LineStart (in_front Cr head))))) (at_whole (drop 4 (drop at bytes)))
