-- The next content of a stream, and those behind it.
use Rattle.std.proofs.Common.{◌≡◌, ℕ, zero, suc, ◌+◌, ◌-◌, ◌<◌, ◌≤◌, List, [], ◌∷◌, ◌++◌, Bool, true, false, Option, Some, None, option_map, refl, sym, ap, subst, ◌∙◌, drop, length, append_assoc, arith}
use Rattle.std.specs.Prelude.{slice_get, is_some, unwrap_or, max, map}
use Rattle.std.proofs.Math.Seq.{drop-nil}
use Rattle.std.proofs.lemmas.Option.{slice_get-map, slice_get_within}
use Rattle.content_streams.specs.Streams.{Stream, capped, next_content, next_placed, placed_contents, contents}
use Rattle.conversation_judge.specs.Said.{next_findings, behind_next, taken_by, stream_behind_next}
use Rattle.conversation_rules.specs.Judging.{contents_findings, behind_contents, new_contents, all_taken}
use Rattle.conversation_rules.specs.Speakers.{Pair}
use Rattle.conversation_rules.specs.declared.finding.Finding.{Finding}
use Rattle.conversation_rules.specs.declared.protocol.Protocol.{Protocol}
use Rattle.conversation_rules.specs.declared.side.Side.{Side}
use Rattle.lsp_frames.specs.declared.frame.Frame.{Frame}

-- what stands at a place of a list, and what is behind it
drop-some : {A : Type 0} → (xs : List A) (k : ℕ) (x : A) → slice_get xs k ≡ Some x → drop k xs ≡ x ∷ drop (k + 1) xs
drop-some [] k x is = absurd (let e : None ≡ Some x = is in cc)
drop-some (y ∷ ys) zero x is = let e : y ≡ x = cc in ap (λ z. z ∷ ys) e
drop-some (y ∷ ys) (suc k) x is = drop-some ys k x is ∙ ap (λ n. x ∷ drop n (y ∷ ys)) (let f : suc (k + 1) ≡ suc k + 1 = omega arith in f)

drop-none : {A : Type 0} → (xs : List A) (k : ℕ) → slice_get xs k ≡ None → drop k xs ≡ []
drop-none [] k is = drop-nil k
drop-none (y ∷ ys) zero is = absurd (let e : Some y ≡ None = is in cc)
drop-none (y ∷ ys) (suc k) is = drop-none ys k is

-- the offset and the frame of a content that is there
pub record There (o : Option (ℕ × Frame)) (place : ℕ) (frame : Frame) : Type 0 where
  pub placed : ℕ × Frame
  pub is : o ≡ Some placed
  pub place_is : place ≡ capped placed.0
  pub frame_is : frame ≡ placed.1

pub there : (o : Option (ℕ × Frame)) (place : ℕ) (frame : Frame) → option_map (λ (placed : ℕ × Frame). placed.1) o ≡ Some frame → place ≡ unwrap_or (option_map (λ (placed : ℕ × Frame). capped placed.0) o) 0 → There o place frame
there None place frame frame_is place_is = absurd (let e : None ≡ Some frame = frame_is in cc)
there (Some placed) place frame frame_is place_is =
    let f : frame ≡ placed.1 = let e : Some placed.1 ≡ Some frame = frame_is in cc in
    record { placed = placed; is = refl; place_is = place_is; frame_is = f }

pub not_there : (o : Option (ℕ × Frame)) → option_map (λ (placed : ℕ × Frame). placed.1) o ≡ None → o ≡ None
not_there None is = refl
not_there (Some placed) is = absurd (let e : Some placed.1 ≡ None = is in cc)

module _ (protocol : Protocol) (side : Side) (is_unfinished : Bool) (stream : Stream) (both : Pair) where
  findings_by : (o : Option (ℕ × Frame)) → next_placed stream ≡ o → contents_findings protocol side is_unfinished (new_contents stream) both
      ≡ next_findings protocol side is_unfinished both o ++ contents_findings protocol side is_unfinished (new_contents (taken_by stream o)) (behind_next protocol side is_unfinished both o)
  findings_by None is = refl
  findings_by (Some placed) is = ap (λ contents. contents_findings protocol side is_unfinished contents both) (drop-some (placed_contents stream) stream.taken placed is)

  -- those of the next, and then those behind it
  pub next-findings : contents_findings protocol side is_unfinished (new_contents stream) both
      ≡ next_findings protocol side is_unfinished both (next_placed stream) ++ contents_findings protocol side is_unfinished (new_contents (stream_behind_next stream)) (behind_next protocol side is_unfinished both (next_placed stream))
  next-findings = findings_by (next_placed stream) refl

  pair_by : (o : Option (ℕ × Frame)) → next_placed stream ≡ o → behind_contents protocol side is_unfinished (new_contents stream) both
      ≡ behind_contents protocol side is_unfinished (new_contents (taken_by stream o)) (behind_next protocol side is_unfinished both o)
  pair_by None is = refl
  pair_by (Some placed) is = ap (λ contents. behind_contents protocol side is_unfinished contents both) (drop-some (placed_contents stream) stream.taken placed is)

  pub next-pair : behind_contents protocol side is_unfinished (new_contents stream) both
      ≡ behind_contents protocol side is_unfinished (new_contents (stream_behind_next stream)) (behind_next protocol side is_unfinished both (next_placed stream))
  next-pair = pair_by (next_placed stream) refl

-- ---- the last

pub no_new : (stream : Stream) → next_placed stream ≡ None → new_contents stream ≡ []
no_new stream is = drop-none (placed_contents stream) stream.taken is

taken_all_by : (stream : Stream) (o : Option (ℕ × Frame)) → next_placed stream ≡ o → all_taken (taken_by stream o) ≡ all_taken stream
taken_all_by stream None is = refl
taken_all_by stream (Some placed) is =
    let within : stream.taken < length (placed_contents stream) = slice_get_within (placed_contents stream) stream.taken placed is in
    let same : max (stream.taken + 1) (length (placed_contents stream)) ≡ max stream.taken (length (placed_contents stream)) = omega arith in
    ap (λ n. record stream { taken = n }) same

pub taken_all : (stream : Stream) → all_taken (stream_behind_next stream) ≡ all_taken stream
taken_all stream = taken_all_by stream (next_placed stream) refl

length-past : {A : Type 0} → (xs : List A) (k : ℕ) → slice_get xs k ≡ None → length xs ≤ k
length-past [] k is = omega arith
length-past (y ∷ ys) zero is = absurd (let e : Some y ≡ None = is in cc)
length-past (y ∷ ys) (suc k) is = let less = length-past ys k is in let goal : suc (length ys) ≤ suc k = omega (arith, less) in goal

pub all_are_taken : (stream : Stream) → next_placed stream ≡ None → stream ≡ all_taken stream
all_are_taken stream is =
    let past : length (placed_contents stream) ≤ stream.taken = length-past (placed_contents stream) stream.taken is in
    let same : stream.taken ≡ max stream.taken (length (placed_contents stream)) = omega arith in
    ap (λ n. record stream { taken = n }) same

less_by : (stream : Stream) (o : Option (ℕ × Frame)) → next_placed stream ≡ o → is_some o ≡ true → length (placed_contents (taken_by stream o)) - (taken_by stream o).taken < length (placed_contents stream) - stream.taken
less_by stream None is there = absurd (let e : false ≡ true = there in cc)
less_by stream (Some placed) is there =
    let within : stream.taken < length (placed_contents stream) = slice_get_within (placed_contents stream) stream.taken placed is in
    omega arith

pub less_left : (stream : Stream) → is_some (next_placed stream) ≡ true → length (placed_contents (stream_behind_next stream)) - (stream_behind_next stream).taken < length (placed_contents stream) - stream.taken
less_left stream there = less_by stream (next_placed stream) refl there

pub none_is : (o : Option (ℕ × Frame)) → is_some o ≡ false → o ≡ None
none_is None is = refl
none_is (Some placed) is = absurd (let e : true ≡ false = is in cc)

-- the next content with its place is the next content
pub same_next : (stream : Stream) → map (λ placed. placed.1) (placed_contents stream) ≡ contents stream → option_map (λ placed. placed.1) (next_placed stream) ≡ next_content stream
same_next stream same = sym (slice_get-map (λ (placed : ℕ × Frame). placed.1) (placed_contents stream) stream.taken) ∙ ap (λ frames. slice_get frames stream.taken) same

-- ---- what holds around one content

module _ (protocol : Protocol) (side : Side) (is_unfinished : Bool) (stream : Stream) (both : Pair) (stream' : Stream) (both' : Pair) (found found' : List Finding)
    (found_is : found' ≡ found ++ next_findings protocol side is_unfinished both (next_placed stream)) (both_is : both' ≡ behind_next protocol side is_unfinished both (next_placed stream))
    (stream_is : stream' ≡ stream_behind_next stream) where
  pub findings_kept : (whole : List Finding) → found ++ contents_findings protocol side is_unfinished (new_contents stream) both ≡ whole →
      found' ++ contents_findings protocol side is_unfinished (new_contents stream') both' ≡ whole
  findings_kept whole is =
      let next = next_findings protocol side is_unfinished both (next_placed stream) in
      let later = behind_next protocol side is_unfinished both (next_placed stream) in
      ap (λ f. f ++ contents_findings protocol side is_unfinished (new_contents stream') both') found_is
      ∙ ap (λ s. (found ++ next) ++ contents_findings protocol side is_unfinished (new_contents s) both') stream_is
      ∙ ap (λ b. (found ++ next) ++ contents_findings protocol side is_unfinished (new_contents (stream_behind_next stream)) b) both_is
      ∙ append_assoc found next (contents_findings protocol side is_unfinished (new_contents (stream_behind_next stream)) later)
      ∙ ap (λ f. found ++ f) (sym (next-findings protocol side is_unfinished stream both)) ∙ is

  pub pair_kept : (whole : Pair) → behind_contents protocol side is_unfinished (new_contents stream) both ≡ whole → behind_contents protocol side is_unfinished (new_contents stream') both' ≡ whole
  pair_kept whole is =
      ap (λ s. behind_contents protocol side is_unfinished (new_contents s) both') stream_is
      ∙ ap (λ b. behind_contents protocol side is_unfinished (new_contents (stream_behind_next stream)) b) both_is
      ∙ sym (next-pair protocol side is_unfinished stream both) ∙ is

  pub stream_kept : (whole : Stream) → all_taken stream ≡ whole → all_taken stream' ≡ whole
  stream_kept whole is = ap all_taken stream_is ∙ taken_all stream ∙ is

  pub less_kept : is_some (next_placed stream) ≡ true → length (placed_contents stream') - stream'.taken < length (placed_contents stream) - stream.taken
  less_kept there = subst (λ s. length (placed_contents s) - s.taken < length (placed_contents stream) - stream.taken) (sym stream_is) (less_left stream there)

  -- where there was none
  pub findings_done : is_some (next_placed stream) ≡ false → (whole : List Finding) → found ++ contents_findings protocol side is_unfinished (new_contents stream) both ≡ whole → found' ≡ whole
  findings_done none whole is =
      found_is ∙ ap (λ o. found ++ next_findings protocol side is_unfinished both o) (none_is (next_placed stream) none)
      ∙ ap (λ contents. found ++ contents_findings protocol side is_unfinished contents both) (sym (no_new stream (none_is (next_placed stream) none))) ∙ is

  pub pair_done : is_some (next_placed stream) ≡ false → (whole : Pair) → behind_contents protocol side is_unfinished (new_contents stream) both ≡ whole → both' ≡ whole
  pair_done none whole is =
      both_is ∙ ap (λ o. behind_next protocol side is_unfinished both o) (none_is (next_placed stream) none)
      ∙ ap (λ contents. behind_contents protocol side is_unfinished contents both) (sym (no_new stream (none_is (next_placed stream) none))) ∙ is

  pub stream_done : is_some (next_placed stream) ≡ false → (whole : Stream) → all_taken stream ≡ whole → stream' ≡ whole
  stream_done none whole is = stream_is ∙ ap (taken_by stream) (none_is (next_placed stream) none) ∙ all_are_taken stream (none_is (next_placed stream) none) ∙ is
