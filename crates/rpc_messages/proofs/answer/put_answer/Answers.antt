-- A response's text is that of its parts, and is read back where they are.
use Rattle.std.proofs.Common.{◌++◌, ◌∙◌, ap, sym, subst}
use Rattle.rpc_messages.specs.Texts.{answer_of, answer_text_of, standard_error}
use Rattle.rpc_messages.proofs.AnswerTexts.{result_is, error_is, fixed_is, id_read, error_sound, error_whole, done_reads_back, error_reads_back, fixed_sound, fixed_whole, OnOk-map, OnOk-map2, ReadsBack}
use Rattle.rpc_messages.proofs.answer.put_answer.Goals as goal

pub returns-in-Done-clause-text : goal.returns-in-Done-clause-text
returns-in-Done-clause-text c =
    let id = c.args.id.now in
    OnOk-map c.put_done.result (λ put. put ∙ ap (λ text. c.args.bytes.now.items ++ text) (result_is id c.in-Done.value ∙ ap (answer_text_of id) (sym c.in-Done.is))) c.put_done.ensures.text

pub returns-in-Done-clause-reads_back : goal.returns-in-Done-clause-reads_back
returns-in-Done-clause-reads_back c =
    let id = c.args.id.now in
    OnOk-map2 c.put_done.result
    (λ fits back. subst ReadsBack (ap (answer_of id) (sym c.in-Done.is)) (done_reads_back id c.in-Done.value (id_read id fits) back.back back.whole))
    c.put_done.ensures.fits c.put_done.ensures.reads_back

pub returns-in-Error-clause-text : goal.returns-in-Error-clause-text
returns-in-Error-clause-text c =
    let id = c.args.id.now in
    OnOk-map c.put_error.result (λ put. put ∙ ap (λ text. c.args.bytes.now.items ++ text) (error_is id c.in-Error.error ∙ ap (answer_text_of id) (sym c.in-Error.is))) c.put_error.ensures.text

pub returns-in-Error-clause-reads_back : goal.returns-in-Error-clause-reads_back
returns-in-Error-clause-reads_back c =
    let id = c.args.id.now in
    let e = c.in-Error.error in
    OnOk-map2 c.put_error.result
    (λ fits back. subst ReadsBack (ap (answer_of id) (sym c.in-Error.is)) (error_reads_back id e (id_read id fits.0) (error_sound e fits.1 back) (error_whole e back)))
    c.put_error.ensures.fits c.put_error.ensures.reads_back

pub returns-in-Standard-clause-text : goal.returns-in-Standard-clause-text
returns-in-Standard-clause-text c =
    let id = c.args.id.now in
    OnOk-map c.write_fixed_error.result
    (λ put. put ∙ ap (λ text. c.args.bytes.now.items ++ text) (fixed_is id c.in-Standard.standard ∙ ap (answer_text_of id) (sym c.in-Standard.is))) c.write_fixed_error.ensures.text

pub returns-in-Standard-clause-reads_back : goal.returns-in-Standard-clause-reads_back
returns-in-Standard-clause-reads_back c =
    let id = c.args.id.now in
    let s = c.in-Standard.standard in
    OnOk-map c.write_fixed_error.result
    (λ fits. subst ReadsBack (ap (answer_of id) (sym c.in-Standard.is)) (error_reads_back id (standard_error s) (id_read id fits) (λ shallow. fixed_sound s) (fixed_whole s)))
    c.write_fixed_error.ensures.fits
