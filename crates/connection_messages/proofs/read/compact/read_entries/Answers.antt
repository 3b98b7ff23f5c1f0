use Rattle.std.proofs.Common.{◌≡◌, ◌+◌, ◌∷◌, [], ◌++◌, get_or, length, refl, subst, sym, ap, ◌∙◌}
use Rattle.json.specs.Json.{object}
use Rattle.connection_messages.specs.Envelope.{GivesEntry, HasBatch}
use Rattle.connection_messages.proofs.Enveloped.{some_holds}
use Rattle.connection_messages.proofs.Noted.{AreBehind, element, entry_behind, batch_is}
use Rattle.connection_messages.proofs.read.compact.read_entries.Goals as goal

pub returns-then-at-bytes : goal.returns-then-at-bytes
returns-then-at-bytes c =
    let text = c.args.text.now in
    let same : c.as_bytes-bytes.result.now ≡ text = c.as_bytes-bytes.ensures.value in
    let end = c.in-Some.end in
    let h = c.in-Some.ensures.envelope in
    let gives : GivesEntry c.args.rules c.note_object.new.self c.in-Some-2.entry =
    some_holds (GivesEntry c.args.rules c.note_object.new.self) c.in_ok-entry.field-0 c.in-Some-2.entry c.in-Some-2.is c.in_ok-entry.ensures in
    let pushed : c.push.new.self.items ≡ c.loop-at.entries.items ++ c.in-Some-2.entry ∷ [] = c.in_ok-push.ensures.items in
    let bracket : get_or text end 0 ≡ 93 = ap (λ t. get_or t end 0) (sym same) ∙ c.if-next-eq93.true in
    let first : get_or text 0 0 ≡ 91 = ap (λ t. get_or t 0 0) (sym same) ∙ c.if-bytes-ne91.false in
    let whole : end + 1 ≡ length text = c.if-at-bytes.true ∙ ap length same in
    subst (λ es. HasBatch c.args.rules text es) (sym pushed)
    (batch_is c.args.rules text text c.loop-at.at end c.loop-at.entries.items c.in-Some-2.entry (element 125 text c.note_object.new.self c.loop-at.at end h) (gives (object h.members) h.numbers h.names) bracket
    c.loop-at.invariant first whole refl c.utf8.text)

pub loop-at-preserved : goal.loop-at-preserved
loop-at-preserved c =
    let text = c.args.text.now in
    let same : c.as_bytes-bytes.result.now ≡ text = c.as_bytes-bytes.ensures.value in
    let end = c.in-Some.end in
    let h = c.in-Some.ensures.envelope in
    let gives : GivesEntry c.args.rules c.note_object.new.self c.in-Some-2.entry =
    some_holds (GivesEntry c.args.rules c.note_object.new.self) c.in_ok-entry.field-0 c.in-Some-2.entry c.in-Some-2.is c.in_ok-entry.ensures in
    let pushed : c.push.new.self.items ≡ c.loop-at.entries.items ++ c.in-Some-2.entry ∷ [] = c.in_ok-push.ensures.items in
    let comma : get_or text end 0 ≡ 44 = ap (λ t. get_or t end 0) (sym same) ∙ c.if-next-ne44.false in
    subst (λ es. AreBehind c.args.rules text (end + 1) es) (sym pushed)
    (entry_behind c.args.rules text c.loop-at.at end c.loop-at.entries.items c.in-Some-2.entry (element 125 text c.note_object.new.self c.loop-at.at end h) (gives (object h.members) h.numbers h.names) comma
    c.loop-at.invariant)
