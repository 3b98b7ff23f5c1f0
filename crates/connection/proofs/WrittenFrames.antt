-- The frames of what is written are its texts.
use Rattle.std.proofs.Common.{◌≡◌, ℕ, ◌<◌, ◌≤◌, ◌↔◌, false, List, [], ◌∷◌, ◌++◌, map, length, take, drop, Option, refl, sym, ap, ◌∙◌, subst, arith, append_assoc, append-nil, take-append-drop}
use Rattle.std.proofs.lemmas.List.{length-append, length-drop}
use Rattle.lsp_frames.specs.Contents.{Standing, Open, IsContents}
use Rattle.lsp_frames.specs.Frames.{Front, Whole, Faulty, Less, front, written, HasForm, ShowsFault}
use Rattle.lsp_frames.specs.declared.frame.Frame.{Frame}
use Rattle.lsp_frames.specs.declared.frame.FrameFault.{FrameFault}
use Rattle.lsp_frames.specs.declared.limits.TheConstants.{LONGEST_CONTENT}
use Rattle.content_streams.specs.Streams.{joined, plain, contents_of}
use Rattle.content_streams.specs.declared.ending.HowEnded.{HowEnded}
use Rattle.content_streams.specs.declared.framing.Framing.TheVariants.{Frames}
use Rattle.outbox.specs.Output.{bytes_of_texts}
use Rattle.connection.specs.BackToBack.{whole_in}
use Rattle.connection.proofs.WrittenBytes.{AreWhole, first_whole, IsPart, nothing, part, IsCut, cut}

-- What the laws of lsp_frames and content_streams say.
pub record FrameLaws : Type 0 where
  pub is_frame : (limit : ℕ) (bytes : List ℕ) (frame : Frame) (rest : List ℕ) → (front limit bytes ≡ Whole frame rest) ↔ ((first : List ℕ) × (bytes ≡ first ++ rest) × HasForm limit first frame)
  pub shows_fault : (limit : ℕ) (bytes : List ℕ) (fault : FrameFault) → (front limit bytes ≡ Faulty fault) ↔ ((text : List ℕ) × (more : List ℕ) × (bytes ≡ text ++ more) × ShowsFault limit text fault)
  pub no_longer : (limit : ℕ) (bytes more : List ℕ) (frame other : Frame) → HasForm limit bytes frame → HasForm limit (bytes ++ more) other → (more ≡ []) × (frame ≡ other)
  pub form : (limit : ℕ) (content : List ℕ) → length content ≤ limit → limit ≤ LONGEST_CONTENT → HasForm limit (written content) (record { content = content; foreign = false })
  pub read : (limit : ℕ) (content more : List ℕ) → length content ≤ limit → limit ≤ LONGEST_CONTENT → front limit (written content ++ more) ≡ Whole (record { content = content; foreign = false }) more
  pub unique : (limit : ℕ) (bytes : List ℕ) (frames others : List Frame) (standing other : Standing) → IsContents limit bytes frames standing → IsContents limit bytes others other → (frames ≡ others) × (standing ≡ other)
  pub are : (limit : ℕ) (pieces : List (List ℕ)) (ended : Option HowEnded) → (standing : Standing) × IsContents limit (joined pieces) (contents_of Frames limit pieces ended) standing

module _ (laws : FrameLaws) (limit : ℕ) (possible : limit ≤ LONGEST_CONTENT) where
  -- ---- a part of a frame is neither a frame nor at fault

  no_whole : (t bytes more : List ℕ) (frame : Frame) (rest : List ℕ) → length t ≤ limit → written t ≡ bytes ++ more → 0 < length more → front limit bytes ≡ Whole frame rest → ⊥
  no_whole t bytes more frame rest fits all some is =
      let found = (laws.is_frame limit bytes frame rest).0 is in
      let first : List ℕ = found.0 in
      let split : written t ≡ first ++ (rest ++ more) = all ∙ ap (λ xs. xs ++ more) found.1 ∙ append_assoc first rest more in
      let form : HasForm limit (first ++ (rest ++ more)) (record { content = t; foreign = false }) = subst (λ xs. HasForm limit xs (record { content = t; foreign = false })) split (laws.form limit t fits possible) in
      let ends = laws.no_longer limit first (rest ++ more) frame (record { content = t; foreign = false }) found.2 form in
      let none : length (rest ++ more) ≡ 0 = ap length ends.0 in
      omega (arith, none, length-append rest more, some)

  no_fault : (t bytes more : List ℕ) (fault : FrameFault) → length t ≤ limit → written t ≡ bytes ++ more → front limit bytes ≡ Faulty fault → ⊥
  no_fault t bytes more fault fits all is =
      let found = (laws.shows_fault limit bytes fault).0 is in
      let text : List ℕ = found.0 in
      let split : written t ≡ text ++ (found.1 ++ more) = all ∙ ap (λ xs. xs ++ more) found.2 ∙ append_assoc text found.1 more in
      let faulty : front limit (written t) ≡ Faulty fault = (laws.shows_fault limit (written t) fault).1 (text, found.1 ++ more, split, found.3) in
      let whole : front limit (written t) ≡ Whole (record { content = t; foreign = false }) [] = ap (front limit) (sym (append-nil (written t))) ∙ laws.read limit t [] fits possible in
      let no : Faulty fault ≡ Whole (record { content = t; foreign = false }) [] = sym faulty ∙ whole in
      cc

  is_less : (t bytes more : List ℕ) (f : Front) → length t ≤ limit → written t ≡ bytes ++ more → 0 < length more → front limit bytes ≡ f → front limit bytes ≡ Less
  is_less t bytes more (Whole frame rest) fits all some is = absurd (no_whole t bytes more frame rest fits all some is)
  is_less t bytes more (Faulty fault) fits all some is = absurd (no_fault t bytes more fault fits all is)
  is_less t bytes more Less fits all some is = is

  part_is_less : (bytes : List ℕ) → IsPart Frames limit bytes → front limit bytes ≡ Less
  part_is_less _ nothing = is_less [] [] (written []) (front limit []) (omega arith) refl (let size = length-append (written []) [] in omega arith) refl
  part_is_less _ (part t m whole short) =
      is_less t (take m (written t)) (drop m (written t)) (front limit (take m (written t))) whole.fits (sym (take-append-drop m (written t))) (omega (arith, length-drop m (written t), short)) refl

  -- ---- frames one after another

  frames_are : (ts : List (List ℕ)) (tail : List ℕ) → AreWhole limit ts → IsPart Frames limit tail → IsContents limit (bytes_of_texts Frames ts ++ tail) (map plain ts) (Open tail)
  frames_are [] tail whole rest = (part_is_less tail rest, refl)
  frames_are (t ∷ ts) tail whole rest = (
    bytes_of_texts Frames ts ++ tail,
    ap (front limit) (append_assoc (written t) (bytes_of_texts Frames ts) tail) ∙ laws.read limit t (bytes_of_texts Frames ts ++ tail) whole.0.fits possible,
    frames_are ts tail whole.1 rest,
  )

  pub frames_are_texts : (n : ℕ) (ts pieces : List (List ℕ)) (ended : Option HowEnded) → AreWhole limit ts → joined pieces ≡ take n (bytes_of_texts Frames ts)
      → contents_of Frames limit pieces ended ≡ map plain (take (whole_in Frames n ts) ts)
  frames_are_texts n ts pieces ended whole fed =
      let it : IsCut Frames limit n ts = cut Frames limit n ts whole in
      let these : IsContents limit (joined pieces) (map plain (take (whole_in Frames n ts) ts)) (Open it.tail) =
      subst (λ bytes. IsContents limit bytes (map plain (take (whole_in Frames n ts) ts)) (Open it.tail)) (sym (fed ∙ it.bytes))
      (frames_are (take (whole_in Frames n ts) ts) it.tail (first_whole limit (whole_in Frames n ts) ts whole) it.part) in
      let those = laws.are limit pieces ended in
      (laws.unique limit (joined pieces) (contents_of Frames limit pieces ended) (map plain (take (whole_in Frames n ts) ts)) those.0 (Open it.tail) those.1 these).0
