-- A fault that was found is shown by some front of the bytes.
use Rattle.std.proofs.Common.{◌≡◌, ℕ, ◌-◌, ◌≤◌, ◌≢◌, inl, inr, true, List, [], ◌∷◌, ◌++◌, length, refl, ap, sym, ◌∙◌, arith, append_assoc, codes}
use Rattle.std.proofs.lemmas.Grind.{common_steps}
use Rattle.std.proofs.lemmas.List.Folds.{list_all-append}
use Rattle.lsp_frames.specs.Lines.{line_meaning}
use Rattle.lsp_frames.specs.Heads.{Breaks, Step, Goes, Completes, Shows, step, head_from}
use Rattle.lsp_frames.specs.Frames.{lines_text, Say, HasNoLf}
use Rattle.lsp_frames.specs.declared.frame.FrameFault.{FrameFault}
use Rattle.lsp_frames.specs.declared.frame.FrameFault.TheVariants.{HeadTooLong}
use Rattle.lsp_frames.specs.declared.line.Fields.{Fields}
use Rattle.lsp_frames.specs.declared.line.Line.TheVariants.{Fault}
use Rattle.lsp_frames.proofs.Reading.{after_step, head_from-cons, head_from-nil}
use Rattle.lsp_frames.proofs.Saying.{is_no_lf, IsMore, meaning_more}
use Rattle.lsp_frames.proofs.Steps.{step_goes, ShowsAs, InLine, FullAtLf, FullElsewhere, step_shows}

-- Behind a line under way, so many of the bytes show the fault: in a line, or since they fill the head.
pub data Showing (limit : ℕ) (fields : Fields) (line : List ℕ) (room : ℕ) (text : List ℕ) (fault : FrameFault) : Type 0 where
  ByLine : (lines : List (List ℕ)) (after : Fields) (last : List ℕ) → Say limit fields lines after → HasNoLf last → line_meaning limit after last ≡ Fault fault → length text ≤ room → line ++ text ≡ lines_text lines ++ (last ++ 10 ∷ []) → Showing limit fields line room text fault
  ByLength : (lines : List (List ℕ)) (after : Fields) (part : List ℕ) → Say limit fields lines after → HasNoLf part → fault ≡ HeadTooLong → length text ≡ room → line ++ text ≡ lines_text lines ++ part → Showing limit fields line room text fault

pub record IsShown (limit : ℕ) (fields : Fields) (line : List ℕ) (room : ℕ) (bytes : List ℕ) (fault : FrameFault) : Type 0 where
  pub text : List ℕ
  pub more : List ℕ
  pub whole : bytes ≡ text ++ more
  pub shows : Showing limit fields line room text fault

lines_more : (line : List ℕ) (cr : List ℕ) (text : List ℕ) (lines : List (List ℕ)) (end : List ℕ) → line ≡ cr ++ 13 ∷ [] → text ≡ lines_text lines ++ end → line ++ 10 ∷ text ≡ lines_text (cr ∷ lines) ++ end
lines_more line cr text lines end e f =
    ap (λ (xs : List ℕ). xs ++ 10 ∷ text) e ∙ append_assoc cr (13 ∷ []) (10 ∷ text) ∙ ap (λ (xs : List ℕ). cr ++ 13 ∷ 10 ∷ xs) f
    ∙ sym (append_assoc cr (codes "\r\n") (lines_text lines ++ end)) ∙ sym (append_assoc (cr ++ codes "\r\n") (lines_text lines) end)

showing_lf : (limit : ℕ) (fields next : Fields) (line : List ℕ) (room : ℕ) (text : List ℕ) (fault : FrameFault) → IsMore limit fields next line → 2 ≤ room → Showing limit next [] (room - 1) text fault → Showing limit fields line room (10 ∷ text) fault
showing_lf limit fields next line room text fault more k (ByLine lines after last say no_lf says short whole) =
    ByLine (more.line ∷ lines) after last (next, more.judges, say) no_lf says (omega arith) (lines_more line more.line text lines (last ++ 10 ∷ []) more.whole whole)
showing_lf limit fields next line room text fault more k (ByLength lines after part say no_lf too_long long whole) =
    ByLength (more.line ∷ lines) after part (next, more.judges, say) no_lf too_long (omega arith) (lines_more line more.line text lines part more.whole whole)

showing_other : (limit : ℕ) (fields : Fields) (line : List ℕ) (room b : ℕ) (text : List ℕ) (fault : FrameFault) → 2 ≤ room → Showing limit fields (line ++ b ∷ []) (room - 1) text fault → Showing limit fields line room (b ∷ text) fault
showing_other limit fields line room b text fault k (ByLine lines after last say no_lf says short whole) =
    ByLine lines after last say no_lf says (omega arith) (sym (append_assoc line (b ∷ []) text) ∙ whole)
showing_other limit fields line room b text fault k (ByLength lines after part say no_lf too_long long whole) =
    ByLength lines after part say no_lf too_long (omega arith) (sym (append_assoc line (b ∷ []) text) ∙ whole)

pub no_lf_more : (line : List ℕ) (b : ℕ) → HasNoLf line → b ≢ 10 → HasNoLf (line ++ b ∷ [])
no_lf_more line b h k =
    let one : is_no_lf b ≡ true = grind (arith, common_steps) in
    rw (list_all-append is_no_lf line (b ∷ []), h, one)

shown_now : (limit : ℕ) (fields : Fields) (line : List ℕ) (room b : ℕ) (fault : FrameFault) → 1 ≤ room → HasNoLf line → ShowsAs limit fields line room b fault → Showing limit fields line room (b ∷ []) fault
shown_now limit fields line room b fault k no_lf (InLine lf says) = ByLine [] fields line refl no_lf says k (ap (λ (x : ℕ). line ++ x ∷ []) lf)
shown_now limit fields line room b fault k no_lf (FullAtLf next lf full too_long says) =
    let more : IsMore limit fields next line = meaning_more limit fields next line says in
    ByLength (more.line ∷ []) next [] (next, more.judges, refl) refl too_long (omega arith) (ap (λ (x : ℕ). line ++ x ∷ []) lf ∙ lines_more line more.line [] [] [] more.whole refl)
shown_now limit fields line room b fault k no_lf (FullElsewhere other full too_long) =
    ByLength [] fields (line ++ b ∷ []) refl (no_lf_more line b no_lf other) too_long (omega arith) refl

pub fault_shown : (limit : ℕ) (fields : Fields) (line : List ℕ) (room : ℕ) (bytes : List ℕ) (fault : FrameFault) → 1 ≤ room → HasNoLf line → head_from limit fields line room bytes ≡ Breaks fault → IsShown limit fields line room bytes fault
fault_shown limit fields line room [] fault k no_lf h = (let e = sym (head_from-nil limit fields line room) ∙ h in cc)
fault_shown limit fields line room (b ∷ bytes) fault k no_lf h =
    go (step limit fields line room b) refl (sym (head_from-cons limit fields line room b bytes) ∙ h) (λ next more r l m e. fault_shown limit next more r bytes fault l m e)
  where
    go : (s : Step) → step limit fields line room b ≡ s → after_step limit room bytes s ≡ Breaks fault → ((next : Fields) (more : List ℕ) (r : ℕ) → 1 ≤ r → HasNoLf more → head_from limit next more r bytes ≡ Breaks fault → IsShown limit next more r bytes fault) → IsShown limit fields line room (b ∷ bytes) fault
    go (Goes next more) e f again = elim (step_goes limit fields line room b next more e) [
      | inl lf ↦ (let g : head_from limit next [] (room - 1) bytes ≡ Breaks fault = ap (λ (l : List ℕ). head_from limit next l (room - 1) bytes) (sym lf.1.empty) ∙ f in
          let rest : IsShown limit next [] (room - 1) bytes fault = again next [] (room - 1) (omega (arith, lf.1.has_room)) refl g in
          record {
            text = 10 ∷ rest.text;
            more = rest.more;
            whole = ap (λ (xs : List ℕ). b ∷ xs) rest.whole ∙ ap (λ (x : ℕ). x ∷ (rest.text ++ rest.more)) lf.0;
            shows = showing_lf limit fields next line room rest.text fault (meaning_more limit fields next line lf.1.says) lf.1.has_room rest.shows;
          })
      | inr on ↦ (let g : head_from limit fields (line ++ b ∷ []) (room - 1) bytes ≡ Breaks fault =
          ap (λ (x : Fields). head_from limit x (line ++ b ∷ []) (room - 1) bytes) on.1.same ∙ ap (λ (l : List ℕ). head_from limit next l (room - 1) bytes) on.1.adds ∙ f in
          let rest : IsShown limit fields (line ++ b ∷ []) (room - 1) bytes fault = again fields (line ++ b ∷ []) (room - 1) (omega (arith, on.1.has_room)) (no_lf_more line b no_lf on.0) g in
          record { text = b ∷ rest.text; more = rest.more; whole = ap (λ (xs : List ℕ). b ∷ xs) rest.whole; shows = showing_other limit fields line room b rest.text fault on.1.has_room rest.shows })
    ]
    go (Completes n foreign) e f again = cc
    go (Shows shown) e f again =
        let same : shown ≡ fault = cc in
        record { text = b ∷ []; more = bytes; whole = refl; shows = shown_now limit fields line room b fault k no_lf (step_shows limit fields line room b fault (e ∙ ap Shows same)) }
