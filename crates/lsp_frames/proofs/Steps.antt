-- What one byte of a head does, read backwards.
use Rattle.std.proofs.Common.{◌≡◌, ℕ, ◌≤◌, ◌≢◌, ◌⊎◌, inl, inr, Bool, eqb, leb, List, [], ◌∷◌, ◌++◌, refl, ap, sym, ◌∙◌, arith}
use Rattle.std.proofs.lemmas.Grind.{common_steps}
use Rattle.lsp_frames.specs.Lines.{line_meaning}
use Rattle.lsp_frames.specs.Heads.{Goes, Completes, Shows, within, line_step, step}
use Rattle.lsp_frames.specs.declared.frame.FrameFault.{FrameFault}
use Rattle.lsp_frames.specs.declared.frame.FrameFault.TheVariants.{HeadTooLong}
use Rattle.lsp_frames.specs.declared.line.Fields.{Fields}
use Rattle.lsp_frames.specs.declared.line.Line.{Line}
use Rattle.lsp_frames.specs.declared.line.Line.TheVariants.{More, End, Fault}
use Rattle.lsp_frames.proofs.Choices.{choice}

-- the head goes on

pub record GoesOn (room : ℕ) (fields next : Fields) (line more : List ℕ) : Type 0 where
  pub has_room : 2 ≤ room
  pub same : fields ≡ next
  pub adds : line ≡ more

within_goes : (room : ℕ) (fields next : Fields) (line more : List ℕ) → within room fields line ≡ Goes next more → GoesOn room fields next line more
within_goes room fields next line more h = elim (choice (leb room 1) _ _ _ h) [
  | inl hit ↦ cc
  | inr miss ↦ record { has_room = grind (arith, common_steps, miss.0); same = (let e = miss.1 in cc); adds = (let e = miss.1 in cc) }
]

pub record GoesAtLf (limit room : ℕ) (fields next : Fields) (line more : List ℕ) : Type 0 where
  pub has_room : 2 ≤ room
  pub says : line_meaning limit fields line ≡ More next
  pub empty : more ≡ []

line_goes : (limit room : ℕ) (fields next : Fields) (line more : List ℕ) (s : Line) → line_meaning limit fields line ≡ s → line_step room s ≡ Goes next more → GoesAtLf limit room fields next line more
line_goes limit room fields next line more (More f) e h =
    let on : GoesOn room f next [] more = within_goes room f next [] more h in
    record { has_room = on.has_room; says = e ∙ ap More on.same; empty = sym on.adds }
line_goes limit room fields next line more (End n foreign) e h = cc
line_goes limit room fields next line more (Fault fault) e h = cc

pub step_goes : (limit : ℕ) (fields : Fields) (line : List ℕ) (room b : ℕ) (next : Fields) (more : List ℕ) → step limit fields line room b ≡ Goes next more →
    ((b ≡ 10) × GoesAtLf limit room fields next line more) ⊎ ((b ≢ 10) × GoesOn room fields next (line ++ b ∷ []) more)
unfolding step
step_goes limit fields line room b next more h = elim (choice (eqb b 10) _ _ _ h) [
  | inl hit ↦ inl (grind (arith, common_steps, hit.0), line_goes limit room fields next line more (line_meaning limit fields line) refl hit.1)
  | inr miss ↦ inr (grind (arith, common_steps, miss.0), within_goes room fields next (line ++ b ∷ []) more miss.1)
]

-- the head ends

line_completes : (room n : ℕ) (foreign : Bool) (s : Line) → line_step room s ≡ Completes n foreign → s ≡ End n foreign
line_completes room n foreign (More f) h = elim (choice (leb room 1) _ _ _ h) [ inl hit ↦ cc | inr miss ↦ cc ]
line_completes room n foreign (End m f) h = cc
line_completes room n foreign (Fault fault) h = cc

pub step_completes : (limit : ℕ) (fields : Fields) (line : List ℕ) (room b n : ℕ) (foreign : Bool) → step limit fields line room b ≡ Completes n foreign → (b ≡ 10) × (line_meaning limit fields line ≡ End n foreign)
unfolding step
step_completes limit fields line room b n foreign h = elim (choice (eqb b 10) _ _ _ h) [
  | inl hit ↦ (grind (arith, common_steps, hit.0), line_completes room n foreign (line_meaning limit fields line) hit.1)
  | inr miss ↦ absurd (elim (choice (leb room 1) _ _ _ miss.1) [ inl a ↦ cc | inr b ↦ cc ])
]

-- the head shows a fault: in its line, or where it is full

pub data ShowsAs (limit : ℕ) (fields : Fields) (line : List ℕ) (room b : ℕ) (fault : FrameFault) : Type 0 where
  InLine : b ≡ 10 → line_meaning limit fields line ≡ Fault fault → ShowsAs limit fields line room b fault
  FullAtLf : (next : Fields) → b ≡ 10 → room ≤ 1 → fault ≡ HeadTooLong → line_meaning limit fields line ≡ More next → ShowsAs limit fields line room b fault
  FullElsewhere : b ≢ 10 → room ≤ 1 → fault ≡ HeadTooLong → ShowsAs limit fields line room b fault

within_shows : (room : ℕ) (fields : Fields) (line : List ℕ) (fault : FrameFault) → within room fields line ≡ Shows fault → (room ≤ 1) × (fault ≡ HeadTooLong)
within_shows room fields line fault h = elim (choice (leb room 1) _ _ _ h) [
  | inl hit ↦ (grind (arith, common_steps, hit.0), (let e = hit.1 in cc))
  | inr miss ↦ cc
]

line_shows : (limit : ℕ) (fields : Fields) (line : List ℕ) (room b : ℕ) (fault : FrameFault) (s : Line) → b ≡ 10 → line_meaning limit fields line ≡ s → line_step room s ≡ Shows fault → ShowsAs limit fields line room b fault
line_shows limit fields line room b fault (More f) lf e h =
    let full : (room ≤ 1) × (fault ≡ HeadTooLong) = within_shows room f [] fault h in
    FullAtLf f lf full.0 full.1 e
line_shows limit fields line room b fault (End n foreign) lf e h = cc
line_shows limit fields line room b fault (Fault other) lf e h = InLine lf (e ∙ (let same : other ≡ fault = cc in ap Fault same))

pub step_shows : (limit : ℕ) (fields : Fields) (line : List ℕ) (room b : ℕ) (fault : FrameFault) → step limit fields line room b ≡ Shows fault → ShowsAs limit fields line room b fault
unfolding step
step_shows limit fields line room b fault h = elim (choice (eqb b 10) _ _ _ h) [
  | inl hit ↦ line_shows limit fields line room b fault (line_meaning limit fields line) (grind (arith, common_steps, hit.0)) refl hit.1
  | inr miss ↦ (let full : (room ≤ 1) × (fault ≡ HeadTooLong) = within_shows room fields (line ++ b ∷ []) fault miss.1 in
      FullElsewhere (grind (arith, common_steps, miss.0)) full.0 full.1)
]
