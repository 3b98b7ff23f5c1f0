use Rattle.std.proofs.Common.{◌≡◌, ap, map, ◌∙◌, rules}
use Rattle.serde_json.specs.Read.{read}
use Rattle.rpc_messages.specs.Texts.{batch_text_of}
use Rattle.rpc_messages.proofs.BatchReadBack.{read-batch_text}
use Rattle.rpc_messages.proofs.answer.batch_text.Goals as goal

pub returns-clause-reads_back : goal.returns-clause-reads_back
returns-clause-reads_back c answers are shallow =
    let written : c.write_array.new.bytes.items ≡ batch_text_of (map (λ t. t.items) c.args.texts.now) = search rules in
    ap read written ∙ read-batch_text _ answers are shallow
