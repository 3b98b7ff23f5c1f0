-- Cutting frames off the front, one after another.
use Rattle.std.proofs.Common.{◌≡◌, ℕ, ◌≤◌, List, [], ◌∷◌, ◌++◌, length, sym, ap, ◌∙◌, subst, append-nil, append_assoc, arith}
use Rattle.lsp_frames.specs.Heads.{HeadRead, head_at}
use Rattle.lsp_frames.specs.Frames.{Whole, front}
use Rattle.lsp_frames.specs.Inner.Partials.{Completes, Cuts, Gives, HasNoFrame, IsCutSoFar, frames_of, measure, read_at, read_on}
use Rattle.lsp_frames.specs.declared.frame.Frame.{Frame}
use Rattle.lsp_frames.specs.declared.partial.Stage.{Stage}
use Rattle.lsp_frames.specs.declared.partial.Stage.TheVariants as stages
use Rattle.lsp_frames.proofs.Units.{first, nothing_read}

no_frame_of : (read last : HeadRead) → last ≡ read → HasNoFrame last → HasNoFrame read
no_frame_of read last e h = let P : HeadRead → Type 0 = λ r. HasNoFrame r in subst P e h

pub all_cut : (limit : ℕ) (old new : List Frame) (first now last : HeadRead) → IsCutSoFar limit old new first now → HasNoFrame last → last ≡ now → Cuts limit old new first last
all_cut limit old new first now last so_far h e =
    let P : List Frame → Type 0 = λ xs. Gives limit first xs last in
    (so_far.frames, so_far.made, subst P (append-nil so_far.frames) (so_far.on [] last (no_frame_of now last e h, e)))

pub none_cut : (limit : ℕ) (frames : List Frame) (read : HeadRead) → IsCutSoFar limit frames frames read read
none_cut limit frames read = record { frames = []; made = sym (append-nil frames); on = λ later last gives. gives }

pub cut_on : (limit : ℕ) (old mid new : List Frame) (first then now : HeadRead) → IsCutSoFar limit old mid first then → IsCutSoFar limit mid new then now → IsCutSoFar limit old new first now
cut_on limit old mid new first then now a b =
    let P : HeadRead → List Frame → Type 0 = λ last xs. Gives limit first xs last in
    record {
      frames = a.frames ++ b.frames;
      made = b.made ∙ ap (λ (xs : List Frame). xs ++ b.frames) a.made ∙ append_assoc old a.frames b.frames;
      on = λ later last gives. subst (P last) (sym (append_assoc a.frames b.frames later)) (a.on (b.frames ++ later) last (b.on later last gives));
    }

-- a line or a content that is whole
pub front_cut : (limit : ℕ) (old new : List Frame) (stage next : Stage) (whole rest : List ℕ) (read : HeadRead) → Completes limit stage whole next rest read → new ≡ old ++ frames_of stage whole
    → IsCutSoFar limit old new read (read_on limit (read_at next []) rest)
front_cut limit old new (stages.Head place) next whole rest read is made =
    record { frames = []; made = made; on = λ later last gives. (let P : HeadRead → Type 0 = λ r. Gives limit r later last in subst P (sym is) gives) }
front_cut limit old new (stages.Content n foreign) next whole rest read is made =
    record {
      frames = frames_of (stages.Content n foreign) whole;
      made = made;
      on = λ later last gives. (let P : HeadRead → Type 0 = λ r. Gives limit r later last in (rest, is.0, subst P is.1 gives));
    }
front_cut limit old new (stages.Ended fault) next whole rest read is made = absurd is

-- a frame that is
pub frame_cut : (limit : ℕ) (old new : List Frame) (frame : Frame) (bytes rest : List ℕ) → front limit bytes ≡ Whole frame rest → new ≡ old ++ frame ∷ []
    → IsCutSoFar limit old new (head_at limit bytes) (head_at limit rest)
unfolding front
frame_cut limit old new frame bytes rest is made = record { frames = frame ∷ []; made = made; on = λ later last gives. (rest, is, gives) }

pub measure_less : (stage : Stage) (rest bytes : List ℕ) → length rest ≤ length bytes → measure stage rest ≤ measure stage bytes
measure_less (stages.Head place) rest bytes less = omega (arith, less)
measure_less (stages.Content n foreign) rest bytes less = omega (arith, less)
measure_less (stages.Ended fault) rest bytes less = omega (arith, less)

-- where a frame begins
pub first_cut : (limit : ℕ) (old new : List Frame) (stage : Stage) (bytes rest : List ℕ) → stage ≡ stages.Head first → IsCutSoFar limit old new (head_at limit bytes) (head_at limit rest)
    → IsCutSoFar limit old new (read_on limit (read_at stage []) bytes) (read_on limit (read_at stage []) rest)
first_cut limit old new stage bytes rest is so_far =
    let P : HeadRead → HeadRead → Type 0 = λ a b. IsCutSoFar limit old new a b in
    let at : (xs : List ℕ) → head_at limit xs ≡ read_on limit (read_at stage []) xs = λ xs. sym (ap (λ (s : Stage). read_on limit (read_at s []) xs) is ∙ nothing_read limit xs) in
    subst (P (read_on limit (read_at stage []) bytes)) (at rest) (subst (λ a. P a (head_at limit rest)) (at bytes) so_far)
