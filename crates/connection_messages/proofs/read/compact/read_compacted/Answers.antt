use Rattle.std.proofs.Common.{◌≡◌, ◌∙◌, IfOk, IfSome, false, sym, ap, subst}
use Rattle.std.specs.Str.{IsUtf8}
use Rattle.json.specs.Lex.{tokens}
use Rattle.json_texts.specs.declared.spaced.CompactText.{CompactText}
use Rattle.json_texts.proofs.ReadBack.{value_of-same}
use Rattle.connection_messages.specs.Reading.{unit_of, unit_of_reading}
use Rattle.connection_messages.specs.declared.read.unit.TheConstants.{MOST_DEPTH_IN}
use Rattle.connection_messages.proofs.Enveloped.{some_holds}
use Rattle.connection_messages.proofs.read.compact.read_compacted.Goals as goal

pub returns-in-Some : goal.returns-in-Some
returns-in-Some c =
    let text = c.args.text.now in
    let compact = c.in-Some.compact.text in
    let same : tokens compact ≡ tokens text = some_holds (λ (r : CompactText). tokens r.text ≡ tokens text) c.in_ok-compact.field-0 c.in-Some.compact c.in-Some.is c.in_ok-compact.ensures.same in
    let lent : c.as_str.result.now ≡ compact = c.as_str.ensures in
    let utf8 : IsUtf8 compact = subst (λ l. IsUtf8 l) lent c.as_str.utf8 in
    let unit : unit_of c.args.rules false c.as_str.result.now ≡ unit_of c.args.rules false text =
    ap (unit_of c.args.rules false) lent ∙ ap (unit_of_reading c.args.rules) (sym (value_of-same MOST_DEPTH_IN text compact c.utf8.text utf8 same)) in
    subst (λ v. IfOk c.read_compact.result (λ u. IfSome u (λ read. read ≡ v))) unit c.read_compact.ensures
