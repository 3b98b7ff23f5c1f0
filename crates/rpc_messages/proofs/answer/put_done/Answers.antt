-- A value's text is read back.
use Rattle.std.proofs.Common.{◌≡◌, ◌<◌, ◌++◌, ◌^◌, Some, ap, sym, ◌∙◌, arith}
use Rattle.std.specs.Prelude.{option_and_then}
use Rattle.serde_json.specs.Data.{boolean, number, unsigned}
use Rattle.serde_json.specs.Find.{as_bool, as_number, as_u64}
use Rattle.serde_json.specs.Written.{compact_text}
use Rattle.message_texts.specs.Texts.{result_text}
use Rattle.rpc_messages.proofs.AnswerTexts.{always, OnOk-map, boolean_is, boolean_is_read_back, unsigned_is, unsigned_is_read_back, unsigned_text}
use Rattle.rpc_messages.proofs.answer.put_done.Goals as goal

pub returns-in-Some-clause-text : goal.returns-in-Some-clause-text
returns-in-Some-clause-text c =
    let d = c.args.value.now in
    let n = c.in-Some.number in
    let found : Some n ≡ option_and_then as_u64 (as_number d) = sym c.in-Some.is ∙ c.as_u64.ensures ∙ ap (λ v. option_and_then as_u64 (as_number v)) c.as_value.ensures.value in
    let is : d ≡ number (unsigned n) = unsigned_is d n found in
    OnOk-map c.put_number.result (λ put. put ∙ ap (λ t. c.args.bytes.now.items ++ result_text c.args.id.now t) (unsigned_text n ∙ ap compact_text (sym is))) c.put_number.ensures.text

pub returns-in-Some-clause-reads_back : goal.returns-in-Some-clause-reads_back
returns-in-Some-clause-reads_back c =
    let d = c.args.value.now in
    let n = c.in-Some.number in
    let found : Some n ≡ option_and_then as_u64 (as_number d) = sym c.in-Some.is ∙ c.as_u64.ensures ∙ ap (λ v. option_and_then as_u64 (as_number v)) c.as_value.ensures.value in
    let fits : n < 2 ^ 64 = omega arith in
    always c.put_number.result (unsigned_is_read_back d n (unsigned_is d n found) fits)

pub returns-in-Some-as_bool-clause-text : goal.returns-in-Some-as_bool-clause-text
returns-in-Some-as_bool-clause-text c =
    let d = c.args.value.now in
    let b = c.in-Some-as_bool.truth in
    let found : Some b ≡ as_bool d = sym c.in-Some-as_bool.is ∙ c.as_bool.ensures ∙ ap as_bool c.as_value-2.ensures.value in
    let is : d ≡ boolean b = boolean_is d b found in
    OnOk-map c.write_result.result (λ put. put ∙ ap (λ t. c.args.bytes.now.items ++ result_text c.args.id.now t) (c.as_bytes.ensures.value ∙ c.truth_text.ensures ∙ ap compact_text (sym is))) c.write_result.ensures.text

pub returns-in-Some-as_bool-clause-reads_back : goal.returns-in-Some-as_bool-clause-reads_back
returns-in-Some-as_bool-clause-reads_back c =
    let d = c.args.value.now in
    let b = c.in-Some-as_bool.truth in
    let found : Some b ≡ as_bool d = sym c.in-Some-as_bool.is ∙ c.as_bool.ensures ∙ ap as_bool c.as_value-2.ensures.value in
    always c.write_result.result (boolean_is_read_back d b (boolean_is d b found))
