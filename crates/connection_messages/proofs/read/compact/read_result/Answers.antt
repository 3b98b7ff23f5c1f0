use Rattle.std.proofs.Common.{◌<◌, sym, ap, ◌∙◌, arith}
use Rattle.std.specs.Prelude.{codes}
use Rattle.json.specs.Find.{get}
use Rattle.connection_messages.specs.declared.entry.Entry.TheVariants.{Reply}
use Rattle.connection_messages.specs.declared.reply.Reply.TheVariants.{Result}
use Rattle.connection_messages.proofs.Enveloped.{member_found, member_absent, key_is, result_entry_is}
use Rattle.connection_messages.proofs.read.compact.read_result.Goals as goal

pub returns : goal.returns
returns c rules j numbers names version no_method =
    let e = c.args.envelope.now in
    let parts = c.in-Some-Some-None in
    let result = member_found e.result parts.result (get (codes "result") j) parts.is-1 names.result in
    let no_error = member_absent e.error (get (codes "error") j) parts.is-2 names.error in
    let positive : 0 < c.in-Some.key = omega (arith, c.if-key-eq0.false) in
    let key = key_is e.id parts.id c.in-Some.key j parts.is-0 (sym c.in-Some.ensures) positive numbers names.id in
    ap (λ s. Reply c.in-Some.key (Result s)) (c.in_ok-copy_text.ensures ∙ sym result.2) ∙ result_entry_is rules j result.0 c.in-Some.key version no_method result.1 no_error key
