use Rattle.across_wings.proofs.EnclosedTexts.{output-is, partial-is}
use Rattle.across_wings.proofs.enclosed.written_texts_are_enclosed.Goals as goal

pub returns : goal.returns
returns c = record {
  whole = λ table units items out. output-is table units items out;
  partial = λ table units items out. partial-is table units items out;
}
