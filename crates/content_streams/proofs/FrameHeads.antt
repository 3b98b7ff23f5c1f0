-- Where a head ends: as its stages say, and as it is read.
use Rattle.std.proofs.Common.{◌≡◌, ◌≢◌, ℕ, ◌+◌, ◌-◌, ◌<◌, ◌≤◌, Bool, true, false, cond, eqb, inl, inr, List, [], ◌∷◌, ◌++◌, length, drop, refl, ap, sym, ◌∙◌, subst, add-one, arith, length-append}
use Rattle.std.proofs.lemmas.Grind.{common_steps}
use Rattle.lsp_frames.specs.Lines.{no_fields}
use Rattle.lsp_frames.specs.Heads.{HeadRead, Reading, Ends, Breaks, Unended, Step, Goes, Completes, Shows, step, head_from, head_at}
use Rattle.lsp_frames.proofs.Reading.{after_step, head_from-cons, head_from-nil}
use Rattle.lsp_frames.proofs.Steps.{step_goes, step_completes}
use Rattle.lsp_frames.proofs.Saying.{meaning_more, said_end, fields_after_is_line}
use Rattle.content_streams.specs.Streams.{capped}
use Rattle.content_streams.specs.Inner.Heads.{in_front, head_bytes, stage_after, at_start, with_bytes, seen}
use Rattle.content_streams.specs.declared.under_way.UnderWay.{UnderWay}
use Rattle.content_streams.specs.declared.under_way.HeadStage.{HeadStage}
use Rattle.content_streams.specs.declared.under_way.HeadStage.TheVariants.{LineStart, Cr, Line, Whole}
use Rattle.content_streams.proofs.HeadSteps.{at_whole}

-- ---- stages and lines

-- the stage of a head of which so much of a line has come
abbrev pub stage_of : List ℕ → HeadStage
stage_of [] = LineStart
stage_of (b ∷ []) = cond (eqb b 13) Cr Line
stage_of (b ∷ c ∷ bytes) = Line

is_no_lf : (b : ℕ) → b ≢ 10 → eqb b 10 ≡ false
is_no_lf b other = grind (arith, common_steps)

stage_of_more : (line : List ℕ) (b : ℕ) → b ≢ 10 → stage_after (stage_of line) b ≡ stage_of (line ++ b ∷ [])
stage_of_more [] b other = ap (λ t. cond t LineStart (cond (eqb b 13) Cr Line)) (is_no_lf b other)
stage_of_more (a ∷ []) b other = go (eqb a 13)
  where
    go : (t : Bool) → stage_after (cond t Cr Line) b ≡ Line
    go true = ap (λ t. cond t Whole Line) (is_no_lf b other)
    go false = ap (λ t. cond t LineStart Line) (is_no_lf b other)
stage_of_more (a ∷ c ∷ []) b other = ap (λ t. cond t LineStart Line) (is_no_lf b other)
stage_of_more (a ∷ c ∷ d ∷ bytes) b other = ap (λ t. cond t LineStart Line) (is_no_lf b other)

pub data IsPart (stage : HeadStage) : Type 0 where
  Part : ((head : ℕ × HeadStage) → in_front stage head ≡ (head.0 + 1, head.1)) → IsPart stage

stage_is_part : (line : List ℕ) → IsPart (stage_of line)
stage_is_part [] = Part (λ head. refl)
stage_is_part (b ∷ []) = go (eqb b 13)
  where
    go : (t : Bool) → IsPart (cond t Cr Line)
    go true = Part (λ head. refl)
    go false = Part (λ head. refl)
stage_is_part (b ∷ c ∷ bytes) = Part (λ head. refl)

-- a line whose LF comes, and that isn't the empty one
more_is_line : (line text : List ℕ) → line ≡ text ++ 13 ∷ [] → 0 < length text → stage_of line ≡ Line
more_is_line line [] whole some = absurd (omega (arith, some))
more_is_line line (b ∷ []) whole some = ap stage_of whole
more_is_line line (b ∷ c ∷ bytes) whole some = ap stage_of whole

-- ---- a head as it is read

-- These are the bytes of the head that was read, and its stage behind them.
abbrev pub Matches : HeadRead → ℕ × HeadStage → List ℕ → Type 0
Matches (Ends n foreign rest) head bytes = (head.1 ≡ Whole) × (drop head.0 bytes ≡ rest) × (head.0 + length rest ≡ length bytes)
Matches (Breaks fault) head bytes = Unit {0}
Matches (Unended reading) head bytes = (head.0 ≡ length bytes) × (head.1 ≡ stage_of reading.line)

one_on : (read : HeadRead) (head : ℕ × HeadStage) (b : ℕ) (bytes : List ℕ) → Matches read head bytes → Matches read (head.0 + 1, head.1) (b ∷ bytes)
one_on (Ends n foreign rest) head b bytes is = (is.0, ap (λ k. drop k (b ∷ bytes)) (add-one head.0) ∙ is.1, omega (arith, is.2))
one_on (Breaks fault) head b bytes is = tt
one_on (Unended reading) head b bytes is = (omega (arith, is.0), is.1)

pub matches : (limit : ℕ) (reading : Reading) (bytes : List ℕ) → Matches (head_from limit reading.fields reading.line reading.room bytes) (head_bytes (stage_of reading.line) bytes) bytes
matches limit reading [] = rw (head_from-nil limit reading.fields reading.line reading.room) (refl, refl)
matches limit reading (b ∷ bytes) =
    rw (head_from-cons limit reading.fields reading.line reading.room b bytes) (go (step limit reading.fields reading.line reading.room b) refl (λ next. matches limit next bytes))
  where
    on : (read : HeadRead) (next : HeadStage) → stage_after (stage_of reading.line) b ≡ next → Matches read (head_bytes next bytes) bytes → Matches read (head_bytes (stage_of reading.line) (b ∷ bytes)) (b ∷ bytes)
    on read next is matched = elim (stage_is_part reading.line) [
      | Part part ↦ (let H : ℕ × HeadStage → Type 0 = λ h. Matches read h (b ∷ bytes) in
          let S : HeadStage → Type 0 = λ s. Matches read ((head_bytes s bytes).0 + 1, (head_bytes s bytes).1) (b ∷ bytes) in
          subst H (sym (part (head_bytes (stage_after (stage_of reading.line) b) bytes))) (subst S (sym is) (one_on read (head_bytes next bytes) b bytes matched)))
    ]

    goes : (next : Reading) → step limit reading.fields reading.line reading.room b ≡ Goes next.fields next.line → stage_after (stage_of reading.line) b ≡ stage_of next.line
    goes next e = elim (step_goes limit reading.fields reading.line reading.room b next.fields next.line e) [
      | inl lf ↦
          (let more = meaning_more limit reading.fields next.fields reading.line lf.1.says in
          let is = fields_after_is_line limit reading.fields next.fields more.line more.judges in
          ap (stage_after (stage_of reading.line)) lf.0 ∙ ap (λ s. stage_after s 10) (more_is_line reading.line more.line more.whole is.some) ∙ sym (ap stage_of lf.1.empty))
      | inr other ↦ stage_of_more reading.line b other.0 ∙ ap stage_of other.1.adds
    ]

    go : (s : Step) → step limit reading.fields reading.line reading.room b ≡ s → ((next : Reading) → Matches (head_from limit next.fields next.line next.room bytes) (head_bytes (stage_of next.line) bytes) bytes)
        → Matches (after_step limit reading.room bytes s) (head_bytes (stage_of reading.line) (b ∷ bytes)) (b ∷ bytes)
    go (Goes next more) e again =
        let read : Reading = record { fields = next; line = more; room = reading.room - 1 } in
        on (head_from limit next more (reading.room - 1) bytes) (stage_of more) (goes read e) (again read)
    go (Completes n foreign) e again =
        let done = step_completes limit reading.fields reading.line reading.room b n foreign e in
        let end = said_end limit reading.fields n foreign reading.line done.1 in
        let H : ℕ × HeadStage → Type 0 = λ h. Matches (Ends n foreign bytes) h (b ∷ bytes) in
        let is : head_bytes (stage_of reading.line) (b ∷ bytes) ≡ (0 + 1, Whole) =
        ap (λ xs. head_bytes (stage_of xs) (b ∷ bytes)) end.whole ∙ ap (λ c. head_bytes Cr (c ∷ bytes)) done.0 ∙ ap (in_front Cr) (at_whole bytes) in
        subst H (sym is) (refl, refl, omega arith)
    go (Shows fault) e again = tt

-- a head from its first byte on
pub head_matches : (limit : ℕ) (bytes : List ℕ) → Matches (head_at limit bytes) (head_bytes LineStart bytes) bytes
unfolding head_at
head_matches limit bytes = matches limit (record { fields = no_fields; line = []; room = 4096 }) bytes

-- ---- more bytes

pub head_bytes_most : (stage : HeadStage) (bytes : List ℕ) → (head_bytes stage bytes).0 ≤ length bytes
head_bytes_most stage [] = omega arith
head_bytes_most stage (b ∷ bytes) = go stage (head_bytes_most (stage_after stage b) bytes)
  where
    go : (s : HeadStage) → (head_bytes (stage_after stage b) bytes).0 ≤ length bytes → (in_front s (head_bytes (stage_after stage b) bytes)).0 ≤ length (b ∷ bytes)
    go LineStart few = omega (arith, few)
    go Cr few = omega (arith, few)
    go Line few = omega (arith, few)
    go Whole few = omega arith

-- so many bytes of a head, and then those of what it is behind them
abbrev pub onward : ℕ × HeadStage → List ℕ → ℕ × HeadStage
onward head more = (head.0 + (head_bytes head.1 more).0, (head_bytes head.1 more).1)

pub head_bytes-append : (stage : HeadStage) (bytes more : List ℕ) → head_bytes stage (bytes ++ more) ≡ onward (head_bytes stage bytes) more
head_bytes-append stage [] more = let e : 0 + (head_bytes stage more).0 ≡ (head_bytes stage more).0 = omega arith in ap (λ n. (n, (head_bytes stage more).1)) (sym e)
head_bytes-append stage (b ∷ bytes) more = ap (in_front stage) (head_bytes-append (stage_after stage b) bytes more) ∙ go stage (head_bytes (stage_after stage b) bytes)
  where
    go : (s : HeadStage) (head : ℕ × HeadStage) → in_front s (onward head more) ≡ onward (in_front s head) more
    go LineStart head = let e : head.0 + (head_bytes head.1 more).0 + 1 ≡ head.0 + 1 + (head_bytes head.1 more).0 = omega arith in ap (λ n. (n, (head_bytes head.1 more).1)) e
    go Cr head = let e : head.0 + (head_bytes head.1 more).0 + 1 ≡ head.0 + 1 + (head_bytes head.1 more).0 = omega arith in ap (λ n. (n, (head_bytes head.1 more).1)) e
    go Line head = let e : head.0 + (head_bytes head.1 more).0 + 1 ≡ head.0 + 1 + (head_bytes head.1 more).0 = omega arith in ap (λ n. (n, (head_bytes head.1 more).1)) e
    go Whole head =
        let none = at_whole more in
        ap (λ n. (n, Whole)) (omega arith)
        ∙ sym (ap (λ (h : ℕ × HeadStage). (0 + h.0, h.1)) none)

made : ℕ → ℕ → HeadStage → ℕ → UnderWay
made start head_end stage content = record { start = start; head_end = head_end; stage = stage; content = content }

pub seen_more : (start : ℕ) (bytes more : List ℕ) → with_bytes (seen start bytes) more ≡ seen start (bytes ++ more)
unfolding made
seen_more start bytes more =
    let head = head_bytes LineStart bytes in
    let later = head_bytes head.1 more in
    let all : head_bytes LineStart (bytes ++ more) ≡ onward head more = head_bytes-append LineStart bytes more in
    let few = head_bytes_most LineStart bytes in
    let few_more = head_bytes_most head.1 more in
    let end : capped (capped (capped start + head.0) + later.0) ≡ capped (capped start + (head.0 + later.0)) = omega arith in
    let content : capped (capped (0 + (length bytes - head.0)) + (length more - later.0)) ≡ capped (0 + (length (bytes ++ more) - (head.0 + later.0))) = omega (arith, few, few_more, length-append bytes more) in
    ap (λ n. made (capped start) n later.1 (capped (capped (0 + (length bytes - head.0)) + (length more - later.0)))) end
    ∙ ap (λ n. made (capped start) (capped (capped start + (head.0 + later.0))) later.1 n) content
    ∙ sym (ap (λ (h : ℕ × HeadStage). made (capped start) (capped (capped start + h.0)) h.1 (capped (0 + (length (bytes ++ more) - h.0)))) all)

pub seen_none : (start : ℕ) → seen start [] ≡ at_start (capped start)
unfolding made
seen_none start = let e : capped (capped start + 0) ≡ capped start = omega arith in ap (λ n. made (capped start) n LineStart 0) e
