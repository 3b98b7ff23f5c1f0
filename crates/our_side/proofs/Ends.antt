-- What a connection has written shows no fault: it may end inside a frame.
use Rattle.std.proofs.Common.{◌≡◌, ◌⊎◌, inl, inr, ℕ, ◌≤◌, Bool, true, false, List, [], ◌∷◌, ◌++◌, length, map, take, drop, Option, Some, None, refl, sym, ap, subst, ◌∙◌, append_assoc, append-nil, take-append-drop, option_map, if◌then◌else◌}
use Rattle.std.specs.Prelude.{unwrap_or}
use Rattle.std.specs.List.{list_all, concat}
use Rattle.lsp_frames.specs.Contents as frames
use Rattle.lsp_frames.specs.Contents.{Standing, Open, Broken, IsContents}
use Rattle.lsp_frames.specs.Frames.{front, Whole, Less, written}
use Rattle.lsp_frames.specs.Heads.{head_at, head_from}
use Rattle.lsp_frames.specs.declared.frame.Frame.{Frame}
use Rattle.lsp_frames.specs.declared.frame.FrameFault.{FrameFault}
use Rattle.lsp_frames.specs.declared.frame.FrameFault.TheVariants.{TooLarge, Truncated}
use Rattle.lsp_frames.specs.declared.limits.TheConstants.{LONGEST_CONTENT}
use Rattle.content_streams.specs.Lines.{parts, all_fit, fits}
use Rattle.content_streams.specs.Streams.{Stream, joined, plain, contents_of, end_of, end_at, fault_left, stream_end, close_of}
use Rattle.content_streams.specs.declared.ending.HowEnded.{HowEnded}
use Rattle.content_streams.specs.declared.ending.HowEnded.TheVariants as how
use Rattle.content_streams.specs.declared.ending.StreamEnd.{StreamEnd}
use Rattle.content_streams.specs.declared.ending.StreamEnd.TheVariants as ends
use Rattle.content_streams.specs.declared.framing.Framing.{Framing}
use Rattle.content_streams.specs.declared.framing.Framing.TheVariants.{Frames, Lines, Contents}
use Rattle.outbox.specs.Output.{bytes_of_texts}
use Rattle.connection.specs.BackToBack.{AllFit, AreFirst}
use Rattle.our_side.proofs.Streaming.{Later}

-- what holds of frames
pub record FrameLaws : Type 0 where
  pub read : (limit : ℕ) (content more : List ℕ) → length content ≤ limit → limit ≤ LONGEST_CONTENT → front limit (written content ++ more) ≡ Whole (record { content = content; foreign = false }) more
  pub unique : (limit : ℕ) (bytes : List ℕ) (frames others : List Frame) (standing other : Standing) → IsContents limit bytes frames standing → IsContents limit bytes others other → (frames ≡ others) × (standing ≡ other)
  pub stays : (limit : ℕ) (bytes more : List ℕ) (frames : List Frame) (fault : FrameFault) → IsContents limit bytes frames (Broken fault) → IsContents limit (bytes ++ more) frames (Broken fault)
  pub are : (limit : ℕ) (pieces : List (List ℕ)) (ended : Option HowEnded) → (standing : Standing) × IsContents limit (joined pieces) (contents_of Frames limit pieces ended) standing
  pub closed : (limit : ℕ) (pieces : List (List ℕ)) (contents : List Frame) (standing : Standing) → IsContents limit (joined pieces) contents standing → end_of Frames limit pieces (Some how.Closed) ≡ Some (stream_end (frames.end_of standing))
  pub read_failed : (limit : ℕ) (pieces : List (List ℕ)) (contents : List Frame) (standing : Standing) → IsContents limit (joined pieces) contents standing
      → end_of Frames limit pieces (Some how.ReadFailed) ≡ Some (unwrap_or (option_map ends.Fault (fault_left standing)) ends.ReadFailed)
  pub end_stays : (framing : Framing) (limit : ℕ) (pieces more : List (List ℕ)) (ended : Option HowEnded) (close : StreamEnd) → end_of framing limit pieces None ≡ Some close → end_of framing limit (pieces ++ more) ended ≡ Some close

-- a fault that isn't a host's
abbrev pub IsHosts : FrameFault → Type 0
IsHosts fault = (fault ≡ TooLarge) ⊎ (fault ≡ Truncated)

-- ---- frames

nothing : (limit : ℕ) → front limit [] ≡ Less
unfolding front head_at head_from
nothing limit = refl

limit_is : (limit : ℕ) (ts : List (List ℕ)) → AllFit limit ts → limit ≤ LONGEST_CONTENT
limit_is limit [] fit = fit
limit_is limit (t ∷ ts) fit = limit_is limit ts fit.1

all_frames : FrameLaws → (limit : ℕ) (ts : List (List ℕ)) → AllFit limit ts → IsContents limit (bytes_of_texts Frames ts) (map plain ts) (Open [])
all_frames laws limit [] fit = (nothing limit, refl)
all_frames laws limit (t ∷ ts) fit = (bytes_of_texts Frames ts, laws.read limit t (bytes_of_texts Frames ts) fit.0 (limit_is limit ts fit.1), all_frames laws limit ts fit.1)

same_standing : (fault : FrameFault) (rest : List ℕ) → Broken fault ≡ Open rest → ⊥
same_standing fault rest is = cc

not_broken : FrameLaws → (limit : ℕ) (ts : List (List ℕ)) (bytes more : List ℕ) (contents : List Frame) (fault : FrameFault) → AllFit limit ts → bytes ++ more ≡ bytes_of_texts Frames ts → IsContents limit bytes contents (Broken fault) → ⊥
not_broken laws limit ts bytes more contents fault fit all is =
    let kept = subst (λ bs. IsContents limit bs contents (Broken fault)) all (laws.stays limit bytes more contents fault is) in
    same_standing fault [] (laws.unique limit (bytes_of_texts Frames ts) contents (map plain ts) (Broken fault) (Open []) kept (all_frames laws limit ts fit)).1

-- ---- how such a stream ends

by_close : (standing : Standing) (fault : FrameFault) → Some (stream_end (frames.end_of standing)) ≡ Some (ends.Fault fault) → (standing ≡ Broken fault) ⊎ (fault ≡ Truncated)
by_close (Open []) fault is = cc
by_close (Open (b ∷ bytes)) fault is = inr (cc)
by_close (Broken other) fault is = inl (cc)

by_failing : (standing : Standing) (fault : FrameFault) → Some (unwrap_or (option_map ends.Fault (fault_left standing)) ends.ReadFailed) ≡ Some (ends.Fault fault) → standing ≡ Broken fault
by_failing (Open rest) fault is = cc
by_failing (Broken other) fault is = cc

module _ (laws : FrameLaws) (limit : ℕ) (ts : List (List ℕ)) (fit : AllFit limit ts) (pieces : List (List ℕ)) (more : List ℕ) (all : joined pieces ++ more ≡ bytes_of_texts Frames ts) (fault : FrameFault) where
  standing_is : (contents : List Frame) (standing : Standing) → IsContents limit (joined pieces) contents standing → standing ≡ Broken fault → ⊥
  standing_is contents standing is broken = not_broken laws limit ts (joined pieces) more contents fault fit all (subst (IsContents limit (joined pieces) contents) broken is)

  closed_hosts : end_of Frames limit pieces (Some how.Closed) ≡ Some (ends.Fault fault) → IsHosts fault
  closed_hosts is = from (by_close standing fault (sym (laws.closed limit pieces contents standing these.1) ∙ is))
    where
      contents : List Frame
      contents = contents_of Frames limit pieces None

      these : (standing : Standing) × IsContents limit (joined pieces) contents standing
      these = laws.are limit pieces None

      standing : Standing
      standing = these.0

      from : (standing ≡ Broken fault) ⊎ (fault ≡ Truncated) → IsHosts fault
      from (inl broken) = absurd (standing_is contents standing these.1 broken)
      from (inr truncated) = inr truncated

  frames_hosts : (ended : Option HowEnded) → end_of Frames limit pieces ended ≡ Some (ends.Fault fault) → IsHosts fault
  frames_hosts None is = closed_hosts (ap (λ ps. end_of Frames limit ps (Some how.Closed)) (sym (append-nil pieces)) ∙ laws.end_stays Frames limit pieces [] (Some how.Closed) (ends.Fault fault) is)
  frames_hosts (Some how.Closed) is = closed_hosts is
  frames_hosts (Some how.ReadFailed) is =
      let these = laws.are limit pieces None in
      absurd (standing_is (contents_of Frames limit pieces None) these.0 these.1 (by_failing these.0 fault (sym (laws.read_failed limit pieces (contents_of Frames limit pieces None) these.0 these.1) ∙ is)))

-- in lines and contents only what is too large is at fault
plain_hosts : (b : Bool) (ended : Option HowEnded) (fault : FrameFault) → end_at (if b then None else Some TooLarge) ended ends.Clean ≡ Some (ends.Fault fault) → IsHosts fault
plain_hosts true None fault is = cc
plain_hosts true (Some how.Closed) fault is = cc
plain_hosts true (Some how.ReadFailed) fault is = cc
plain_hosts false ended fault is = inl (cc)

concat-append : (xs ys : List (List ℕ)) → concat (xs ++ ys) ≡ concat xs ++ concat ys
concat-append [] ys = refl
concat-append (x ∷ xs) ys = ap (λ zs. x ++ zs) (concat-append xs ys) ∙ sym (append_assoc x (concat xs) (concat ys))

-- a front of what was seen of the bytes
front_of_all : (n : ℕ) (bytes : List ℕ) (pieces more all : List (List ℕ)) → all ≡ pieces ++ more → joined all ≡ take n bytes → joined pieces ++ (joined more ++ drop n bytes) ≡ bytes
front_of_all n bytes pieces more all is fed =
    sym (append_assoc (joined pieces) (joined more) (drop n bytes)) ∙ ap (λ bs. bs ++ drop n bytes) (sym (concat-append pieces more) ∙ ap concat (sym is) ∙ fed) ∙ take-append-drop n bytes

pub ends_hosts : FrameLaws → (framing : Framing) (limit n : ℕ) (ts : List (List ℕ)) → AllFit limit ts → (s f : Stream) → Later s f → f.framing ≡ framing → f.limit ≡ limit → AreFirst framing n ts f.pieces
    → (fault : FrameFault) → close_of s ≡ Some (ends.Fault fault) → IsHosts fault
ends_hosts laws framing limit n ts fit s f later framing_is limit_of fed fault is = by framing fed same
  where
    same : end_of framing limit s.pieces s.ended ≡ Some (ends.Fault fault)
    same = (λ i. end_of ((sym framing_is ∙ later.framing) i) ((sym limit_of ∙ later.limit) i) s.pieces s.ended) ∙ is

    by : (g : Framing) → AreFirst g n ts f.pieces → end_of g limit s.pieces s.ended ≡ Some (ends.Fault fault) → IsHosts fault
    by Frames first e = frames_hosts laws limit ts fit s.pieces (joined later.more ++ drop n (bytes_of_texts Frames ts)) (front_of_all n (bytes_of_texts Frames ts) s.pieces later.more f.pieces later.pieces first) fault s.ended e
    by Lines first e = plain_hosts (all_fit limit (parts (joined s.pieces))) s.ended fault e
    by Contents first e = plain_hosts (list_all (fits limit) s.pieces) s.ended fault e
