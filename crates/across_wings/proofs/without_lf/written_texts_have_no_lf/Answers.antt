use Rattle.across_wings.proofs.Texts.{text-is}
use Rattle.across_wings.proofs.Items.{output-is, partial-is}
use Rattle.across_wings.proofs.without_lf.written_texts_have_no_lf.Goals as goal

pub returns : goal.returns
returns c = record {
  json = λ d. text-is d;
  whole = λ table units items out. output-is table units items out;
  partial = λ table units items out. partial-is table units items out;
}
