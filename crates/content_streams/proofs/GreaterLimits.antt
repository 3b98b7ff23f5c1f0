-- A greater limit reads the same of a stream where no content is too large.
use Rattle.std.proofs.Common.{◌≡◌, ◌≢◌, ℕ, ◌≤◌, Option, Some, None, Bool, true, false, cond, not, ◌&&◌, List, [], ◌∷◌, map, refl, ap, sym, ◌∙◌, arith}
use Rattle.std.specs.List.{list_all, take_while, filter}
use Rattle.std.proofs.lemmas.Bool.Decides.{nat_tests}
use Rattle.lsp_frames.specs.Contents as frames
use Rattle.lsp_frames.specs.Contents.{Standing, IsContents}
use Rattle.lsp_frames.specs.declared.frame.Frame.{Frame}
use Rattle.lsp_frames.specs.declared.frame.FrameFault.TheVariants.{TooLarge}
use Rattle.content_streams.specs.Framed.{frames_of, standing_of}
use Rattle.content_streams.specs.Lines.{parts, without_last, without_cr, is_blank, fits, all_fit, line_contents}
use Rattle.content_streams.specs.Streams.{joined, plain, lines_read, fault_left, fault_of, stream_end, closed_end, end_at, end_of, contents_of}
use Rattle.content_streams.specs.declared.ending.HowEnded.{HowEnded}
use Rattle.content_streams.specs.declared.ending.HowEnded.TheVariants.{Closed, ReadFailed}
use Rattle.content_streams.specs.declared.ending.StreamEnd.TheVariants as ends
use Rattle.content_streams.specs.declared.framing.Framing.{Framing}
use Rattle.content_streams.specs.declared.framing.Framing.TheVariants.{Frames, Lines, Contents}
use Rattle.content_streams.proofs.Fitting.{take_while-cons}
use Rattle.content_streams.proofs.Peeling.{are_contents, are_frames, is_standing}

-- what the law of frames says
abbrev pub FramesStay : Type 0
FramesStay = (limit greater : ℕ) (bytes : List ℕ) (contents : List Frame) (standing : Standing) → limit ≤ greater → standing ≢ frames.Broken TooLarge → IsContents limit bytes contents standing → IsContents greater bytes contents standing

-- ---- lists of which all pass

both : (s t : Bool) → (s && t) ≡ true → (s ≡ true) × (t ≡ true)
both true t h = (refl, h)
both false t h = cc

takes_all : {X : Type 0} (p : X → Bool) (xs : List X) → list_all p xs ≡ true → take_while p xs ≡ xs
takes_all p [] all = refl
takes_all p (x ∷ xs) all =
    let each = both (p x) (list_all p xs) all in
    take_while-cons p x xs ∙ ap (λ t. cond t (x ∷ take_while p xs) []) each.0 ∙ ap (λ rest. x ∷ rest) (takes_all p xs each.1)

text_fits : (limit greater : ℕ) (text : List ℕ) → limit ≤ greater → fits limit text ≡ true → fits greater text ≡ true
text_fits limit greater text more fit = grind (arith, nat_tests)

texts_fit : (limit greater : ℕ) (texts : List (List ℕ)) → limit ≤ greater → list_all (fits limit) texts ≡ true → list_all (fits greater) texts ≡ true
texts_fit limit greater [] more all = refl
texts_fit limit greater (text ∷ texts) more all =
    let each = both (fits limit text) (list_all (fits limit) texts) all in
    rw (text_fits limit greater text more each.0, texts_fit limit greater texts more each.1)

same_taken : (limit greater : ℕ) (texts : List (List ℕ)) → limit ≤ greater → list_all (fits limit) texts ≡ true → take_while (fits greater) texts ≡ take_while (fits limit) texts
same_taken limit greater texts more all = takes_all (fits greater) texts (texts_fit limit greater texts more all) ∙ sym (takes_all (fits limit) texts all)

-- ---- lines

lines_fit : (limit greater : ℕ) (lines : List (List ℕ)) → limit ≤ greater → all_fit limit lines ≡ true → all_fit greater lines ≡ true
unfolding all_fit
lines_fit limit greater lines more all = texts_fit limit greater (map without_cr lines) more all

same_lines : (limit greater : ℕ) (lines : List (List ℕ)) → limit ≤ greater → all_fit limit lines ≡ true → line_contents greater lines ≡ line_contents limit lines
unfolding all_fit line_contents
same_lines limit greater lines more all = ap (filter (λ content. not (is_blank content))) (same_taken limit greater (map without_cr lines) more all)

fit_without_last : (limit : ℕ) (lines : List (List ℕ)) → list_all (fits limit) (map without_cr lines) ≡ true → list_all (fits limit) (map without_cr (without_last lines)) ≡ true
fit_without_last limit [] all = refl
fit_without_last limit (line ∷ []) all = refl
fit_without_last limit (line ∷ next ∷ lines) all =
    let each = both (fits limit (without_cr line)) (list_all (fits limit) (map without_cr (next ∷ lines))) all in
    rw (each.0, fit_without_last limit (next ∷ lines) each.1)

read_fit : (limit : ℕ) (ended : Option HowEnded) (bytes : List ℕ) → all_fit limit (parts bytes) ≡ true → all_fit limit (lines_read ended bytes) ≡ true
unfolding all_fit
read_fit limit None bytes all = fit_without_last limit (parts bytes) all
read_fit limit (Some ReadFailed) bytes all = fit_without_last limit (parts bytes) all
read_fit limit (Some Closed) bytes all = all

-- ---- all framings

pub record Same (framing : Framing) (limit greater : ℕ) (pieces : List (List ℕ)) (ended : Option HowEnded) : Type 0 where
  pub contents : contents_of framing greater pieces ended ≡ contents_of framing limit pieces ended
  pub end : end_of framing greater pieces ended ≡ end_of framing limit pieces ended

all_small : (t : Bool) → cond t None (Some TooLarge) ≢ Some TooLarge → t ≡ true
all_small true small = refl
all_small false small = absurd (small refl)

same : (framing : Framing) (limit greater : ℕ) (pieces : List (List ℕ)) (ended : Option HowEnded) → FramesStay → limit ≤ greater → fault_of framing limit pieces ≢ Some TooLarge → Same framing limit greater pieces ended
same Frames limit greater pieces ended stay more small =
    let bytes = joined pieces in
    let are : IsContents greater (joined pieces) (frames_of limit (joined pieces)) (standing_of limit (joined pieces)) =
    stay limit greater bytes (frames_of limit bytes) (standing_of limit bytes) more (λ e. small (ap fault_left e)) (are_contents limit bytes) in
    record {
      contents = sym (are_frames greater bytes (frames_of limit bytes) (standing_of limit bytes) are);
      end = ap (λ s. end_at (fault_left s) ended (stream_end (frames.end_of s))) (sym (is_standing greater bytes (frames_of limit bytes) (standing_of limit bytes) are));
    }
same Lines limit greater pieces ended stay more small =
    let bytes = joined pieces in
    let all : all_fit limit (parts (joined pieces)) ≡ true = all_small (all_fit limit (parts (joined pieces))) small in
    record {
      contents = ap (map plain) (same_lines limit greater (lines_read ended bytes) more (read_fit limit ended bytes all));
      end = ap (λ t. end_at (cond t None (Some TooLarge)) ended ends.Clean) (lines_fit limit greater (parts bytes) more all ∙ sym all);
    }
same Contents limit greater pieces ended stay more small =
    let all : list_all (fits limit) pieces ≡ true = all_small (list_all (fits limit) pieces) small in
    record {
      contents = ap (map plain) (same_taken limit greater pieces more all);
      end = ap (λ t. end_at (cond t None (Some TooLarge)) ended ends.Clean) (texts_fit limit greater pieces more all ∙ sym all);
    }

pub same_read : (framing : Framing) (limit greater : ℕ) (pieces : List (List ℕ)) (ended : Option HowEnded) → FramesStay → limit ≤ greater → end_of framing limit pieces ended ≢ Some (ends.Fault TooLarge) → Same framing limit greater pieces ended
same_read framing limit greater pieces ended stay more small =
    same framing limit greater pieces ended stay more (λ e. small (ap (λ fault. end_at fault ended (closed_end framing limit pieces)) e))
