use Rattle.std.proofs.Common.{◌≡◌, ◌++◌, ◌∙◌, ap, append_assoc}
use Rattle.std.proofs.lemmas.Result.{on_ok_weaker}
use Rattle.conversation_judge.proofs.Ends.{array_found-is}
use Rattle.conversation_judge.specs.Said.{array_found}
use Rattle.conversation_rules.specs.Answers.{among_findings, array_findings}
use Rattle.conversation_judge.proofs.arrays.put_batch.Goals as goal

pub returns : goal.returns
returns c =
    let p = c.args.protocol in
    let s = c.args.sight in
    let m = c.args.message in
    let replies = c.args.replies.now in
    let fits = c.args.fits.now in
    let others = array_findings p s m replies fits in
    on_ok_weaker c.put_fits.result
    (λ (e : c.put_fits.new.findings.items ≡ array_found p s m replies fits c.put_among.new.findings.items).
    e ∙ array_found-is p s m replies fits c.put_among.new.findings.items
    ∙ ap (λ found. found ++ others) c.in_ok-put_among.ensures
    ∙ append_assoc c.args.findings.now.items (among_findings s m c.args.are_alone replies) others)
    c.put_fits.ensures
