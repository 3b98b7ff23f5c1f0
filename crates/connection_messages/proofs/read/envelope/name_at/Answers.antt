use Rattle.std.proofs.Common.{◌≡◌, ◌+◌, ◌-◌, ◌≤◌, take, drop, length, Some, sym, ap, ◌∙◌, arith, length-drop}
use Rattle.json_texts.specs.Standing.{HasName}
use Rattle.connection_messages.specs.Named.{member_of, name_len}
use Rattle.connection_messages.proofs.Enveloped.{some_holds}
use Rattle.connection_messages.proofs.Noted.{known_name, member_same, name_colon, whole_rest}
use Rattle.connection_messages.proofs.read.envelope.name_at.Goals as goal

pub returns-in-Some-clause-name : goal.returns-in-Some-clause-name
returns-in-Some-clause-name c =
    let text = c.args.text.now in
    let at = c.args.at in
    let len = c.in-Some.len in
    let is : c.of-member.result ≡ member_of (drop at text) = c.of-member.ensures.member ∙ ap member_of (whole_rest text at) in
    let known : name_len (member_of (drop at text)) ≡ Some len = ap name_len (sym is) ∙ sym c.name_len.ensures ∙ c.in-Some.is in
    let n : HasName text at (at + len) = known_name text at len known in
    (n, is ∙ member_same text at (at + len) n)

pub returns-in-Some-clause-colon : goal.returns-in-Some-clause-colon
returns-in-Some-clause-colon c =
    let text = c.args.text.now in
    let at = c.args.at in
    let len = c.in-Some.len in
    let rest = whole_rest text at in
    let size = ap length rest in
    let here : name_len c.of-member.result ≡ Some len = sym c.name_len.ensures ∙ c.in-Some.is in
    let known : name_len (member_of (drop at text)) ≡ Some len = ap name_len (sym (c.of-member.ensures.member ∙ ap member_of rest)) ∙ here in
    let bound = some_holds (λ n. (3 ≤ n) × (n ≤ length (take (length text - at) (drop at text)))) (name_len c.of-member.result) len here c.of-member.ensures.bound in
    name_colon text at (at + len) (known_name text at len known) (omega (arith, bound.0)) (omega (arith, bound.0, bound.1, size, length-drop at text))

pub returns-in_ok-name_end-in-None-clause-name : goal.returns-in_ok-name_end-in-None-clause-name
returns-in_ok-name_end-in-None-clause-name c =
    let text = c.args.text.now in
    let at = c.args.at in
    let n = c.in_ok-name_end-in-None.ensures.name in
    (n, c.of-member.ensures.member ∙ ap member_of (whole_rest text at) ∙ member_same text at c.in_ok-name_end-in-None.field-0 n)
