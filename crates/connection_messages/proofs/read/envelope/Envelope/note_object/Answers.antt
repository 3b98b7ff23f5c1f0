use Rattle.std.proofs.Common.{◌≡◌, ◌+◌, ◌-◌, take, drop, get_or, length, subst, sym, ap, ◌∙◌, arith}
use Rattle.std.specs.Str.{IsCharBoundary}
use Rattle.std.proofs.lemmas.Str.{IsCharBoundary-after_ascii}
use Rattle.json_texts.specs.Texts.{json_text}
use Rattle.json_texts.proofs.Placed.{part_is}
use Rattle.connection_messages.proofs.Noted.{AreNoted, nothing, nothing_noted, nothing_behind, with_member, more_behind, last_behind, noted_as, envelope_is}
use Rattle.connection_messages.proofs.read.envelope.Envelope.note_object.Goals as goal
use Rattle.connection_messages.proofs.read.envelope.Envelope.note_object.Goals.{else-next-ne44-via-then-next-ne44+else-next-ne125, else-next-ne44-via-else-next-ne44}

pub loop-at-init : goal.loop-at-init
loop-at-init c = (omega arith, nothing, subst (λ e. AreNoted e nothing) (sym c.requires.empty) nothing_noted, nothing_behind c.args.levels c.as_bytes-bytes.result.now (c.args.start + 1))

pub range-requires-clause-start_boundary : goal.range-requires-clause-start_boundary
range-requires-clause-start_boundary c some =
    let from = c.in_ok-member.from in
    let text = c.args.text.now in
    let bounds = c.in_ok-member.ensures.bounds in
    let same : c.as_bytes-bytes.result.now ≡ text = c.as_bytes-bytes.ensures.value in
    let size : length c.as_bytes-bytes.result.now ≡ length text = ap length same in
    let colon : get_or text (from - 1) 0 ≡ 58 = ap (λ t. get_or t (from - 1) 0) (sym same) ∙ c.in_ok-member.ensures.colon in
    let low = bounds.0 in
    let high = bounds.1 in
    let place : from - 1 + 1 ≡ from = omega (arith, low) in
    subst (λ i. IsCharBoundary text i) place (IsCharBoundary-after_ascii text (from - 1) c.utf8.text (omega (arith, low, high, size)) (omega (arith, colon)))

pub returns-then-next-eq125-clause-envelope : goal.returns-then-next-eq125-clause-envelope
returns-then-next-eq125-clause-envelope c =
    let bytes = c.as_bytes-bytes.result.now in
    let same : bytes ≡ c.args.text.now = c.as_bytes-bytes.ensures.value in
    let at = c.loop-at.at in
    let from = c.in_ok-member.from in
    let end = c.in_ok-end.end in
    let n = c.in_ok-member.ensures.name.0 in
    let v = c.in_ok-end.ensures.value in
    let named = c.in_ok-member.ensures.bounds in
    let ended = c.in_ok-end.ensures.bounds in
    let low = ended.0 in
    let part : json_text v.value ≡ c.range.result.now =
    sym (part_is bytes (json_text v.value) from end v.stands (omega (arith, low)) ended.1) ∙ ap (λ t. take (end - from) (drop from t)) same ∙ sym c.range.ensures.value in
    let noted = noted_as c.loop-at.self c.note.new.self c.loop-at.invariant.1 c.in_ok-member.member n.name c.range.result v.value c.in_ok-member.ensures.name.1 part c.loop-at.invariant.2 c.note.ensures in
    let last = last_behind c.args.levels bytes (c.args.start + 1) at from end c.loop-at.invariant.1 n v c.if-next-eq125.true c.loop-at.invariant.3 in
    envelope_is c.args.levels c.args.text.now bytes c.note.new.self (with_member c.loop-at.invariant.1 n.name v.value) last.0 c.args.start (end + 1) same c.if-bytes-start-ne123.false last.1 last.2 noted

pub loop-at-preserved : goal.loop-at-preserved
loop-at-preserved c =
    let bytes = c.as_bytes-bytes.result.now in
    let same : bytes ≡ c.args.text.now = c.as_bytes-bytes.ensures.value in
    let at = c.loop-at.at in
    let from = c.in_ok-member.from in
    let end = c.in_ok-end.end in
    let n = c.in_ok-member.ensures.name.0 in
    let v = c.in_ok-end.ensures.value in
    let named = c.in_ok-member.ensures.bounds in
    let ended = c.in_ok-end.ensures.bounds in
    let low = ended.0 in
    let part : json_text v.value ≡ c.range.result.now =
    sym (part_is bytes (json_text v.value) from end v.stands (omega (arith, low)) ended.1) ∙ ap (λ t. take (end - from) (drop from t)) same ∙ sym c.range.ensures.value in
    let noted = noted_as c.loop-at.self c.note.new.self c.loop-at.invariant.1 c.in_ok-member.member n.name c.range.result v.value c.in_ok-member.ensures.name.1 part c.loop-at.invariant.2 c.note.ensures in
    let comma : get_or bytes end 0 ≡ 44 =
    elim c.else-next-ne44.branch [
      | else-next-ne44-via-then-next-ne44+else-next-ne125 w ↦ absurd (c.if-next-eq125.false w.if-next-ne125.false)
      | else-next-ne44-via-else-next-ne44 w ↦ w.if-next-ne44.false
    ] in
    (omega (arith, low, named.0, c.loop-at.invariant.0), with_member c.loop-at.invariant.1 n.name v.value, noted, more_behind c.args.levels bytes (c.args.start + 1) at from end c.loop-at.invariant.1 n v comma c.loop-at.invariant.3)
