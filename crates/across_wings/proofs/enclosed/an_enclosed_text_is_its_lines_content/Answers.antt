use Rattle.across_wings.proofs.EnclosedTexts.{not-blank, whole-line}
use Rattle.across_wings.proofs.enclosed.an_enclosed_text_is_its_lines_content.Goals as goal

pub returns : goal.returns
returns c = record {
  whole = λ text enclosed. whole-line text enclosed;
  not_blank = λ text enclosed. not-blank text enclosed;
}
