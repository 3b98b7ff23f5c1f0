-- Reading a head byte by byte: what one byte does.
use Rattle.std.proofs.Common.{◌≡◌, ℕ, ◌-◌, ◌≤◌, ◌≢◌, Bool, List, [], ◌∷◌, ◌++◌, refl, arith}
use Rattle.std.proofs.lemmas.Grind.{common_steps}
use Rattle.lsp_frames.specs.Lines.{line_meaning}
use Rattle.lsp_frames.specs.Heads.{HeadRead, Ends, Breaks, Unended, Step, Goes, Completes, Shows, step, head_from}
use Rattle.lsp_frames.specs.declared.frame.FrameFault.{FrameFault}
use Rattle.lsp_frames.specs.declared.frame.FrameFault.TheVariants.{HeadTooLong}
use Rattle.lsp_frames.specs.declared.line.Fields.{Fields}
use Rattle.lsp_frames.specs.declared.line.Line.TheVariants as lines

-- what a step leads to, with these bytes behind it
abbrev pub after_step : ℕ → ℕ → List ℕ → Step → HeadRead
after_step limit room bytes (Goes next more) = head_from limit next more (room - 1) bytes
after_step limit room bytes (Completes n foreign) = Ends n foreign bytes
after_step limit room bytes (Shows fault) = Breaks fault

pub head_from-cons : (limit : ℕ) (fields : Fields) (line : List ℕ) (room b : ℕ) (bytes : List ℕ) → head_from limit fields line room (b ∷ bytes) ≡ after_step limit room bytes (step limit fields line room b)
unfolding head_from
head_from-cons limit fields line room b bytes =
    elim (step limit fields line room b) as (λ s. elim s [ Goes next more ↦ head_from limit next more (room - 1) bytes | Completes n foreign ↦ Ends n foreign bytes | Shows fault ↦ Breaks fault ] ≡ after_step limit room bytes s)
    [ Goes next more ↦ refl | Completes n foreign ↦ refl | Shows fault ↦ refl ]

pub head_from-nil : (limit : ℕ) (fields : Fields) (line : List ℕ) (room : ℕ) → head_from limit fields line room [] ≡ Unended (record { fields = fields; line = line; room = room })
unfolding head_from
head_from-nil limit fields line room = refl

pub step_other : (limit : ℕ) (fields : Fields) (line : List ℕ) (room b : ℕ) → b ≢ 10 → 2 ≤ room → step limit fields line room b ≡ Goes fields (line ++ b ∷ [])
unfolding step
step_other limit fields line room b h k = grind (arith, common_steps)

pub step_other_full : (limit : ℕ) (fields : Fields) (line : List ℕ) (room b : ℕ) → b ≢ 10 → room ≤ 1 → step limit fields line room b ≡ Shows HeadTooLong
unfolding step
step_other_full limit fields line room b h k = grind (arith, common_steps)

pub step_more : (limit : ℕ) (fields : Fields) (line : List ℕ) (room : ℕ) (next : Fields) → line_meaning limit fields line ≡ lines.More next → 2 ≤ room → step limit fields line room 10 ≡ Goes next []
unfolding step
step_more limit fields line room next h k = rw h (grind (arith, common_steps))

pub step_more_full : (limit : ℕ) (fields : Fields) (line : List ℕ) (room : ℕ) (next : Fields) → line_meaning limit fields line ≡ lines.More next → room ≤ 1 → step limit fields line room 10 ≡ Shows HeadTooLong
unfolding step
step_more_full limit fields line room next h k = rw h (grind (arith, common_steps))

pub step_end : (limit : ℕ) (fields : Fields) (line : List ℕ) (room n : ℕ) (foreign : Bool) → line_meaning limit fields line ≡ lines.End n foreign → step limit fields line room 10 ≡ Completes n foreign
unfolding step
step_end limit fields line room n foreign h = rw h

pub step_fault : (limit : ℕ) (fields : Fields) (line : List ℕ) (room : ℕ) (fault : FrameFault) → line_meaning limit fields line ≡ lines.Fault fault → step limit fields line room 10 ≡ Shows fault
unfolding step
step_fault limit fields line room fault h = rw h
