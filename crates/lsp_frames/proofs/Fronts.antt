-- What stands at the front of some bytes, and what more bytes leave of it.
use Rattle.std.proofs.Common.{◌≡◌, ℕ, ◌+◌, ◌-◌, ◌<◌, ◌≤◌, inl, inr, Bool, leb, List, [], ◌∷◌, ◌++◌, length, take, drop, refl, ap, sym, ◌∙◌, subst, arith, append_assoc, length-append, length-take, lit≤}
use Rattle.std.proofs.lemmas.Grind.{common_steps}
use Rattle.std.proofs.lemmas.List.{take-append-drop, take-append-le, drop-append-le}
use Rattle.std.proofs.Math.Seq.{take-append_seam, drop-append_seam}
use Rattle.lsp_frames.specs.Lines.{no_fields}
use Rattle.lsp_frames.specs.Heads.{HeadRead, Reading, Ends, Breaks, Unended, Step, Goes, Completes, Shows, step, head_from, head_at}
use Rattle.lsp_frames.specs.Frames.{Whole, Faulty, Less, content_front, front_of, front, head_text, lines_text, HasForm, ShowsInLine, IsTooLong, ShowsFault}
use Rattle.lsp_frames.specs.declared.frame.Frame.{Frame}
use Rattle.lsp_frames.specs.declared.frame.FrameFault.{FrameFault}
use Rattle.lsp_frames.specs.declared.frame.FrameFault.TheVariants.{HeadTooLong}
use Rattle.lsp_frames.specs.declared.line.Fields.{Fields}
use Rattle.lsp_frames.proofs.Choices.{choice}
use Rattle.lsp_frames.proofs.Reading.{after_step, head_from-cons, head_from-nil, step_fault}
use Rattle.lsp_frames.proofs.Walks.{walk_part, walk_lines, walk_head, walk_too_long}
use Rattle.lsp_frames.proofs.Forms.{IsHead, head_form}
use Rattle.lsp_frames.proofs.Faults.{Showing, ByLine, ByLength, IsShown, fault_shown}

abbrev pub frame_of : List ℕ → Bool → Frame
frame_of content foreign = record { content = content; foreign = foreign }

-- more bytes behind a head, or behind a fault

abbrev pub Stays : ℕ → HeadRead → List ℕ → HeadRead → Type 0
Stays limit (Ends n foreign rest) more whole = whole ≡ Ends n foreign (rest ++ more)
Stays limit (Breaks fault) more whole = whole ≡ Breaks fault
Stays limit (Unended reading) more whole = whole ≡ head_from limit reading.fields reading.line reading.room more

pub head_stays : (limit : ℕ) (fields : Fields) (line : List ℕ) (room : ℕ) (bytes more : List ℕ) → Stays limit (head_from limit fields line room bytes) more (head_from limit fields line room (bytes ++ more))
head_stays limit fields line room [] more = rw (head_from-nil limit fields line room) refl
head_stays limit fields line room (b ∷ bytes) more =
    rw (head_from-cons limit fields line room b bytes, head_from-cons limit fields line room b (bytes ++ more))
    (go (step limit fields line room b) (λ next l r. head_stays limit next l r bytes more))
  where
    go : (s : Step) → ((next : Fields) (l : List ℕ) (r : ℕ) → Stays limit (head_from limit next l r bytes) more (head_from limit next l r (bytes ++ more))) → Stays limit (after_step limit room bytes s) more (after_step limit room (bytes ++ more) s)
    go (Goes next l) again = again next l (room - 1)
    go (Completes n foreign) again = refl
    go (Shows fault) again = refl

pub ends_stay : (limit : ℕ) (bytes more : List ℕ) (n : ℕ) (foreign : Bool) (rest : List ℕ) → head_at limit bytes ≡ Ends n foreign rest → head_at limit (bytes ++ more) ≡ Ends n foreign (rest ++ more)
unfolding head_at
ends_stay limit bytes more n foreign rest h = let P : HeadRead → Type 0 = λ r. Stays limit r more (head_from limit no_fields [] 4096 (bytes ++ more)) in subst P h (head_stays limit no_fields [] 4096 bytes more)

pub breaks_stay : (limit : ℕ) (bytes more : List ℕ) (fault : FrameFault) → head_at limit bytes ≡ Breaks fault → head_at limit (bytes ++ more) ≡ Breaks fault
unfolding head_at
breaks_stay limit bytes more fault h = let P : HeadRead → Type 0 = λ r. Stays limit r more (head_from limit no_fields [] 4096 (bytes ++ more)) in subst P h (head_stays limit no_fields [] 4096 bytes more)

pub unended_goes_on : (limit : ℕ) (bytes more : List ℕ) (reading : Reading) → head_at limit bytes ≡ Unended reading → head_at limit (bytes ++ more) ≡ head_from limit reading.fields reading.line reading.room more
unfolding head_at
unended_goes_on limit bytes more reading h = let P : HeadRead → Type 0 = λ r. Stays limit r more (head_from limit no_fields [] 4096 (bytes ++ more)) in subst P h (head_stays limit no_fields [] 4096 bytes more)

-- a front, from its head

pub front_ends : (limit : ℕ) (bytes : List ℕ) (n : ℕ) (foreign : Bool) (rest : List ℕ) → head_at limit bytes ≡ Ends n foreign rest → front limit bytes ≡ content_front n foreign rest
unfolding front
front_ends limit bytes n foreign rest h = ap front_of h

pub front_breaks : (limit : ℕ) (bytes : List ℕ) (fault : FrameFault) → head_at limit bytes ≡ Breaks fault → front limit bytes ≡ Faulty fault
unfolding front
front_breaks limit bytes fault h = ap front_of h

pub front_unended : (limit : ℕ) (bytes : List ℕ) (reading : Reading) → head_at limit bytes ≡ Unended reading → front limit bytes ≡ Less
unfolding front
front_unended limit bytes reading h = ap front_of h

pub content_whole : (n : ℕ) (foreign : Bool) (bytes : List ℕ) → n ≤ length bytes → content_front n foreign bytes ≡ Whole (frame_of (take n bytes) foreign) (drop n bytes)
unfolding content_front
content_whole n foreign bytes h = grind (arith, common_steps)

pub content_less : (n : ℕ) (foreign : Bool) (bytes : List ℕ) → length bytes < n → content_front n foreign bytes ≡ Less
unfolding content_front
content_less n foreign bytes h = grind (arith, common_steps)

-- and backwards

pub record IsWhole (limit : ℕ) (bytes : List ℕ) (frame : Frame) (rest : List ℕ) : Type 0 where
  pub size : ℕ
  pub kind : Bool
  pub behind : List ℕ
  pub head : head_at limit bytes ≡ Ends size kind behind
  pub enough : size ≤ length behind
  pub content : frame_of (take size behind) kind ≡ frame
  pub left : drop size behind ≡ rest

content_is_whole : (limit : ℕ) (bytes : List ℕ) (frame : Frame) (rest : List ℕ) (n : ℕ) (foreign : Bool) (behind : List ℕ) → head_at limit bytes ≡ Ends n foreign behind → content_front n foreign behind ≡ Whole frame rest → IsWhole limit bytes frame rest
unfolding content_front
content_is_whole limit bytes frame rest n foreign behind e h = elim (choice (leb n (length behind)) _ _ _ h) [
  | inl hit ↦ record { size = n; kind = foreign; behind = behind; head = e; enough = grind (arith, common_steps, hit.0); content = (let f = hit.1 in cc); left = (let f = hit.1 in cc) }
  | inr miss ↦ cc
]

pub whole_is : (limit : ℕ) (bytes : List ℕ) (frame : Frame) (rest : List ℕ) → front limit bytes ≡ Whole frame rest → IsWhole limit bytes frame rest
unfolding front
whole_is limit bytes frame rest h = go (head_at limit bytes) refl h
  where
    go : (r : HeadRead) → head_at limit bytes ≡ r → front_of r ≡ Whole frame rest → IsWhole limit bytes frame rest
    go (Ends n foreign behind) e f = content_is_whole limit bytes frame rest n foreign behind e f
    go (Breaks fault) e f = cc
    go (Unended reading) e f = cc

content_is_not_faulty : (n : ℕ) (foreign : Bool) (bytes : List ℕ) (fault : FrameFault) → content_front n foreign bytes ≡ Faulty fault → ⊥
unfolding content_front
content_is_not_faulty n foreign bytes fault h = elim (choice (leb n (length bytes)) _ _ _ h) [ inl hit ↦ cc | inr miss ↦ cc ]

pub faulty_is : (limit : ℕ) (bytes : List ℕ) (fault : FrameFault) → front limit bytes ≡ Faulty fault → head_at limit bytes ≡ Breaks fault
unfolding front
faulty_is limit bytes fault h = go (head_at limit bytes) refl h
  where
    go : (r : HeadRead) → head_at limit bytes ≡ r → front_of r ≡ Faulty fault → head_at limit bytes ≡ Breaks fault
    go (Ends n foreign behind) e f = absurd (content_is_not_faulty n foreign behind fault f)
    go (Breaks other) e f = e ∙ (let same : other ≡ fault = cc in ap Breaks same)
    go (Unended reading) e f = cc

-- more bytes behind a frame, or behind a fault

pub whole_stays : (limit : ℕ) (bytes more : List ℕ) (frame : Frame) (rest : List ℕ) → front limit bytes ≡ Whole frame rest → front limit (bytes ++ more) ≡ Whole frame (rest ++ more)
whole_stays limit bytes more frame rest h =
    let w : IsWhole limit bytes frame rest = whole_is limit bytes frame rest h in
    let enough : w.size ≤ length (w.behind ++ more) = omega (arith, length-append w.behind more, w.enough) in
    front_ends limit (bytes ++ more) w.size w.kind (w.behind ++ more) (ends_stay limit bytes more w.size w.kind w.behind w.head)
    ∙ content_whole w.size w.kind (w.behind ++ more) enough
    ∙ ap (λ (xs : List ℕ). Whole (frame_of xs w.kind) (drop w.size (w.behind ++ more))) (take-append-le w.size w.behind more w.enough)
    ∙ ap (λ (f : Frame). Whole f (drop w.size (w.behind ++ more))) w.content
    ∙ ap (Whole frame) (drop-append-le w.size w.behind more w.enough ∙ ap (λ (xs : List ℕ). xs ++ more) w.left)

pub faulty_stays : (limit : ℕ) (bytes more : List ℕ) (fault : FrameFault) → front limit bytes ≡ Faulty fault → front limit (bytes ++ more) ≡ Faulty fault
faulty_stays limit bytes more fault h = front_breaks limit (bytes ++ more) fault (breaks_stay limit bytes more fault (faulty_is limit bytes fault h))

-- a frame's form, and what is peeled off

pub form_is_whole : (limit : ℕ) (first : List ℕ) (frame : Frame) (rest : List ℕ) → HasForm limit first frame → front limit (first ++ rest) ≡ Whole frame rest
unfolding head_at
form_is_whole limit first frame rest form =
    let cut : first ++ rest ≡ head_text form.lines ++ (frame.content ++ rest) = ap (λ (xs : List ℕ). xs ++ rest) form.whole ∙ append_assoc (head_text form.lines) frame.content rest in
    let head : head_at limit (first ++ rest) ≡ Ends (length frame.content) frame.foreign (frame.content ++ rest) =
    ap (head_from limit no_fields [] 4096) cut ∙ walk_head limit (length frame.content) frame.foreign no_fields form.lines 4096 (frame.content ++ rest) form.say form.short in
    front_ends limit (first ++ rest) (length frame.content) frame.foreign (frame.content ++ rest) head
    ∙ content_whole (length frame.content) frame.foreign (frame.content ++ rest) (omega (arith, length-append frame.content rest))
    ∙ ap (λ (xs : List ℕ). Whole (frame_of xs frame.foreign) (drop (length frame.content) (frame.content ++ rest))) (take-append_seam frame.content rest)
    ∙ ap (Whole frame) (drop-append_seam frame.content rest)

pub record IsFormed (limit : ℕ) (bytes : List ℕ) (frame : Frame) (rest : List ℕ) : Type 0 where
  pub first : List ℕ
  pub whole : bytes ≡ first ++ rest
  pub form : HasForm limit first frame

form_of_head : (limit : ℕ) (bytes : List ℕ) (n : ℕ) (foreign : Bool) (behind : List ℕ) → n ≤ length behind → IsHead limit no_fields [] 4096 bytes n foreign behind → IsFormed limit bytes (frame_of (take n behind) foreign) (drop n behind)
form_of_head limit bytes n foreign behind k head =
    let size : n ≡ length (take n behind) = omega (arith, length-take n behind) in
    let P : ℕ → Type 0 = λ m. HasForm limit (head_text head.lines ++ take n behind) (frame_of (take n behind) foreign) in
    record {
      first = head_text head.lines ++ take n behind;
      whole = head.whole ∙ ap (λ (xs : List ℕ). head_text head.lines ++ xs) (sym (take-append-drop n behind)) ∙ sym (append_assoc (head_text head.lines) (take n behind) (drop n behind));
      form = record { lines = head.lines; say = rw size at head.say; short = head.short; whole = refl };
    }

pub whole_is_formed : (limit : ℕ) (bytes : List ℕ) (frame : Frame) (rest : List ℕ) → front limit bytes ≡ Whole frame rest → IsFormed limit bytes frame rest
unfolding head_at
whole_is_formed limit bytes frame rest h =
    let w : IsWhole limit bytes frame rest = whole_is limit bytes frame rest h in
    let f : IsFormed limit bytes (frame_of (take w.size w.behind) w.kind) (drop w.size w.behind) = form_of_head limit bytes w.size w.kind w.behind w.enough (head_form limit no_fields [] 4096 bytes w.size w.kind w.behind (lit≤ tt) w.head) in
    let P : Frame → Type 0 = λ x. IsFormed limit bytes x (drop w.size w.behind) in
    let Q : List ℕ → Type 0 = λ xs. IsFormed limit bytes frame xs in
    subst Q w.left (subst P w.content f)

-- a fault, and what shows it

in_line_is_faulty : (limit : ℕ) (text more : List ℕ) (fault : FrameFault) → ShowsInLine limit text fault → head_at limit (text ++ more) ≡ Breaks fault
unfolding head_at
in_line_is_faulty limit text more fault s =
    let whole : text ≡ lines_text s.lines ++ (s.line ++ 10 ∷ []) = s.whole ∙ append_assoc (lines_text s.lines) s.line (10 ∷ []) in
    let size : length text ≡ length (lines_text s.lines) + length (s.line ++ 10 ∷ []) = ap length whole ∙ length-append (lines_text s.lines) (s.line ++ 10 ∷ []) in
    let last : length (s.line ++ 10 ∷ []) ≡ length s.line + 1 = length-append s.line (10 ∷ []) in
    let cut : text ++ more ≡ lines_text s.lines ++ (s.line ++ 10 ∷ more) =
    ap (λ (xs : List ℕ). xs ++ more) whole ∙ append_assoc (lines_text s.lines) (s.line ++ 10 ∷ []) more ∙ ap (λ (xs : List ℕ). lines_text s.lines ++ xs) (append_assoc s.line (10 ∷ []) more) in
    ap (head_from limit no_fields [] 4096) cut
    ∙ walk_lines limit no_fields s.fields s.lines 4096 (s.line ++ 10 ∷ more) s.say (omega (arith, s.short))
    ∙ walk_part limit s.fields [] s.line (4096 - length (lines_text s.lines)) (10 ∷ more) s.one_line (omega (arith, s.short))
    ∙ head_from-cons limit s.fields s.line (4096 - length (lines_text s.lines) - length s.line) 10 more
    ∙ ap (after_step limit (4096 - length (lines_text s.lines) - length s.line) more) (step_fault limit s.fields s.line (4096 - length (lines_text s.lines) - length s.line) fault s.shows)

too_long_is_faulty : (limit : ℕ) (text more : List ℕ) → IsTooLong limit text → head_at limit (text ++ more) ≡ Breaks HeadTooLong
unfolding head_at
too_long_is_faulty limit text more s =
    let size : length (lines_text s.lines ++ s.part) ≡ 4096 = sym (ap length s.whole) ∙ s.long in
    ap (λ (xs : List ℕ). head_from limit no_fields [] 4096 (xs ++ more)) s.whole
    ∙ walk_too_long limit no_fields s.fields s.lines s.part 4096 more s.say s.one_line size (lit≤ tt)

pub shown_is_faulty : (limit : ℕ) (text more : List ℕ) (fault : FrameFault) → ShowsFault limit text fault → front limit (text ++ more) ≡ Faulty fault
shown_is_faulty limit text more fault (inl s) = front_breaks limit (text ++ more) fault (in_line_is_faulty limit text more fault s)
shown_is_faulty limit text more fault (inr s) = front_breaks limit (text ++ more) fault (too_long_is_faulty limit text more s.1 ∙ ap Breaks (sym s.0))

showing_shows : (limit : ℕ) (text : List ℕ) (fault : FrameFault) → Showing limit no_fields [] 4096 text fault → ShowsFault limit text fault
showing_shows limit text fault (ByLine lines after last say no_lf says short whole) =
    inl (record { lines = lines; fields = after; say = say; line = last; one_line = no_lf; shows = says; short = short; whole = whole ∙ sym (append_assoc (lines_text lines) last (10 ∷ [])) })
showing_shows limit text fault (ByLength lines after part say no_lf too_long long whole) =
    inr (too_long, record { lines = lines; fields = after; say = say; part = part; one_line = no_lf; long = long; whole = whole })

pub record IsShowing (limit : ℕ) (bytes : List ℕ) (fault : FrameFault) : Type 0 where
  pub text : List ℕ
  pub more : List ℕ
  pub whole : bytes ≡ text ++ more
  pub shows : ShowsFault limit text fault

pub faulty_is_shown : (limit : ℕ) (bytes : List ℕ) (fault : FrameFault) → front limit bytes ≡ Faulty fault → IsShowing limit bytes fault
unfolding head_at
faulty_is_shown limit bytes fault h =
    let s : IsShown limit no_fields [] 4096 bytes fault = fault_shown limit no_fields [] 4096 bytes fault (lit≤ tt) refl (faulty_is limit bytes fault h) in
    record { text = s.text; more = s.more; whole = s.whole; shows = showing_shows limit s.text fault s.shows }
