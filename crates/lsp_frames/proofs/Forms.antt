-- A head that was read has lines, and a fault that was found is shown.
use Rattle.std.proofs.Common.{◌≡◌, ℕ, ◌+◌, ◌-◌, ◌≤◌, inl, inr, Bool, List, [], ◌∷◌, ◌++◌, length, Some, refl, ap, sym, ◌∙◌, arith, append_assoc, length-append, codes}
use Rattle.lsp_frames.specs.Lines.{line_meaning}
use Rattle.lsp_frames.specs.Heads.{Ends, Step, Goes, Completes, Shows, step, head_from}
use Rattle.lsp_frames.specs.Frames.{lines_text, head_text, Say}
use Rattle.lsp_frames.specs.declared.line.Fields.{Fields}
use Rattle.lsp_frames.specs.declared.line.Line.TheVariants.{End}
use Rattle.lsp_frames.proofs.Reading.{after_step, head_from-cons, head_from-nil}
use Rattle.lsp_frames.proofs.Saying.{IsMore, meaning_more, IsEnd, said_end}
use Rattle.lsp_frames.proofs.Steps.{step_goes, step_completes}

-- the bytes of a line under way and those behind it are a head and the rest
pub record IsHead (limit : ℕ) (fields : Fields) (line : List ℕ) (room : ℕ) (bytes : List ℕ) (n : ℕ) (foreign : Bool) (rest : List ℕ) : Type 0 where
  pub lines : List (List ℕ)
  pub say : Say limit fields lines (record { content_length = Some n; foreign = foreign })
  pub short : length (head_text lines) ≤ length line + room
  pub whole : line ++ bytes ≡ head_text lines ++ rest

-- an LF behind a line that says more fields
head_more : (limit : ℕ) (fields next : Fields) (line : List ℕ) (room : ℕ) (bytes : List ℕ) (n : ℕ) (foreign : Bool) (rest : List ℕ) → IsMore limit fields next line → 2 ≤ room → IsHead limit next [] (room - 1) bytes n foreign rest → IsHead limit fields line room (10 ∷ bytes) n foreign rest
head_more limit fields next line room bytes n foreign rest more k head =
    let size : length (head_text (more.line ∷ head.lines)) ≡ length more.line + 2 + length (head_text head.lines) =
    ap length (append_assoc (more.line ++ codes "\r\n") (lines_text head.lines) (codes "\r\n")) ∙ length-append (more.line ++ codes "\r\n") (head_text head.lines) ∙ ap (λ (m : ℕ). m + length (head_text head.lines)) (length-append more.line (codes "\r\n")) in
    let had : length line ≡ length more.line + 1 = ap length more.whole ∙ length-append more.line (13 ∷ []) in
    let lf : line ++ 10 ∷ bytes ≡ (more.line ++ codes "\r\n") ++ bytes =
    ap (λ (xs : List ℕ). xs ++ 10 ∷ bytes) more.whole ∙ append_assoc more.line (13 ∷ []) (10 ∷ bytes) ∙ sym (append_assoc more.line (codes "\r\n") bytes) in
    let short : length (head_text head.lines) ≤ length {A = ℕ} [] + (room - 1) = head.short in
    record {
      lines = more.line ∷ head.lines;
      say = (next, more.judges, head.say);
      short = omega arith;
      whole = lf ∙ ap (λ (xs : List ℕ). (more.line ++ codes "\r\n") ++ xs) head.whole
          ∙ sym (append_assoc (more.line ++ codes "\r\n") (head_text head.lines) rest)
          ∙ ap (λ (xs : List ℕ). xs ++ rest) (sym (append_assoc (more.line ++ codes "\r\n") (lines_text head.lines) (codes "\r\n")));
    }

-- the empty line
head_empty : (limit : ℕ) (fields : Fields) (line : List ℕ) (room : ℕ) (n : ℕ) (foreign : Bool) (rest : List ℕ) → IsEnd fields n foreign line → 1 ≤ room → IsHead limit fields line room (10 ∷ rest) n foreign rest
head_empty limit fields line room n foreign rest end k =
    let had : length line ≡ 1 = ap length end.whole in
    record { lines = []; say = end.says; short = omega arith; whole = ap (λ (xs : List ℕ). xs ++ 10 ∷ rest) end.whole }

-- another byte
head_other : (limit : ℕ) (fields : Fields) (line : List ℕ) (room b : ℕ) (bytes : List ℕ) (n : ℕ) (foreign : Bool) (rest : List ℕ) → 2 ≤ room → IsHead limit fields (line ++ b ∷ []) (room - 1) bytes n foreign rest → IsHead limit fields line room (b ∷ bytes) n foreign rest
head_other limit fields line room b bytes n foreign rest k head =
    let size : length (line ++ b ∷ []) ≡ length line + 1 = length-append line (b ∷ []) in
    let short : length (head_text head.lines) ≤ length (line ++ b ∷ []) + (room - 1) = head.short in
    record { lines = head.lines; say = head.say; short = omega arith; whole = sym (append_assoc line (b ∷ []) bytes) ∙ head.whole }

pub head_form : (limit : ℕ) (fields : Fields) (line : List ℕ) (room : ℕ) (bytes : List ℕ) (n : ℕ) (foreign : Bool) (rest : List ℕ) → 1 ≤ room → head_from limit fields line room bytes ≡ Ends n foreign rest → IsHead limit fields line room bytes n foreign rest
head_form limit fields line room [] n foreign rest k h = (let e = sym (head_from-nil limit fields line room) ∙ h in cc)
head_form limit fields line room (b ∷ bytes) n foreign rest k h =
    go (step limit fields line room b) refl (sym (head_from-cons limit fields line room b bytes) ∙ h) (λ next more r l e. head_form limit next more r bytes n foreign rest l e)
  where
    go : (s : Step) → step limit fields line room b ≡ s → after_step limit room bytes s ≡ Ends n foreign rest → ((next : Fields) (more : List ℕ) (r : ℕ) → 1 ≤ r → head_from limit next more r bytes ≡ Ends n foreign rest → IsHead limit next more r bytes n foreign rest) → IsHead limit fields line room (b ∷ bytes) n foreign rest
    go (Goes next more) e f again = elim (step_goes limit fields line room b next more e) [
      | inl lf ↦ (let g : head_from limit next [] (room - 1) bytes ≡ Ends n foreign rest = ap (λ (l : List ℕ). head_from limit next l (room - 1) bytes) (sym lf.1.empty) ∙ f in
          let head : IsHead limit next [] (room - 1) bytes n foreign rest = again next [] (room - 1) (omega (arith, lf.1.has_room)) g in
          rw lf.0 (head_more limit fields next line room bytes n foreign rest (meaning_more limit fields next line lf.1.says) lf.1.has_room head))
      | inr on ↦ (let g : head_from limit fields (line ++ b ∷ []) (room - 1) bytes ≡ Ends n foreign rest =
          ap (λ (x : Fields). head_from limit x (line ++ b ∷ []) (room - 1) bytes) on.1.same ∙ ap (λ (l : List ℕ). head_from limit next l (room - 1) bytes) on.1.adds ∙ f in
          head_other limit fields line room b bytes n foreign rest on.1.has_room (again fields (line ++ b ∷ []) (room - 1) (omega (arith, on.1.has_room)) g))
    ]
    go (Completes m fg) e f again =
        let done = step_completes limit fields line room b m fg e in
        let count : m ≡ n = cc in
        let kind : fg ≡ foreign = cc in
        let left : bytes ≡ rest = cc in
        let says : line_meaning limit fields line ≡ End n foreign = done.1 ∙ ap (λ (x : ℕ). End x fg) count ∙ ap (End n) kind in
        rw (done.0, left) (head_empty limit fields line room n foreign rest (said_end limit fields n foreign line says) k)
    go (Shows fault) e f again = cc
