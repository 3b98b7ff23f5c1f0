use Rattle.std.proofs.Common.{[], ◌∷◌, cond, subst, sym, ap, ap₂, ◌∙◌, arith}
use Rattle.json.specs.Lex.{token, comma, operator_lexeme}
use Rattle.json.specs.Token as tokens
use Rattle.serde_json.specs.Data.{no_members, put}
use Rattle.rpc_messages.specs.Envelope.{envelope_of}
use Rattle.rpc_messages.specs.Held.{with_member}
use Rattle.rpc_messages.specs.Shown.{shown_envelope, shown_value}
use Rattle.value_reading.specs.Lexed.{Lexed}
use Rattle.value_reading.proofs.Lexemes.{no_blanks}
use Rattle.value_reading.proofs.Placed.{no_members_behind, member_behind, members_over}
use Rattle.rpc_messages.proofs.Envelopes.{envelope_of-put}
use Rattle.rpc_messages.proofs.Shown.{empty_shown, member_shown}
use Rattle.rpc_messages.proofs.read.direct.read_members.Goals as goal

pub loop-at-init : goal.loop-at-init
loop-at-init c =
    let text = c.args.text.now in
    let at = c.args.at.now in
    (omega arith, no_members, no_members_behind c.args.levels text at at (no_blanks text at), c.requires ∙ empty_shown c.args.with_params)

pub returns-then-branch-clause-members : goal.returns-then-branch-clause-members
returns-then-branch-clause-members c =
    let text = c.args.text.now in
    let at = c.args.at.now in
    let l = c.loop-at in
    let mid = c.read_name.new.at in
    let stop = c.read_member.new.at in
    let end = c.is_over.new.at in
    let named_there = c.in_ok-name.ensures.name in
    let k = named_there.0 in
    let n = c.in_ok-name.name in
    let read = c.in_ok-member.ensures.piece in
    let d = read.0 in
    let found = l.invariant.1 in
    let over = c.in_ok-is_over.ensures in
    let brace : Lexed text stop (token tokens.end_object ∷ []) end = subst (λ b. Lexed text stop (operator_lexeme (cond b 125 44) ∷ []) end) c.if-branch.true over.byte in (
      put k d found,
      members_over c.args.levels text k at l.at mid stop end d found named_there.1 read.1 over.ends brace l.invariant.2,
      c.keep.ensures ∙ ap₂ (with_member n) (read.2 ∙ ap (λ b. shown_value b d) c.is_wanted-is_wanted.ensures) l.invariant.3 ∙ member_shown c.args.with_params n d (envelope_of found)
          ∙ ap (λ m. shown_envelope c.args.with_params (with_member m d (envelope_of found))) (sym named_there.2)
          ∙ ap (shown_envelope c.args.with_params) (sym (envelope_of-put k d found)),
    )

pub loop-at-preserved : goal.loop-at-preserved
loop-at-preserved c =
    let text = c.args.text.now in
    let at = c.args.at.now in
    let l = c.loop-at in
    let mid = c.read_name.new.at in
    let stop = c.read_member.new.at in
    let next = c.is_over.new.at in
    let named_there = c.in_ok-name.ensures.name in
    let k = named_there.0 in
    let n = c.in_ok-name.name in
    let read = c.in_ok-member.ensures.piece in
    let d = read.0 in
    let found = l.invariant.1 in
    let over = c.in_ok-is_over.ensures in
    let comma_there : Lexed text stop (comma ∷ []) next = subst (λ b. Lexed text stop (operator_lexeme (cond b 125 44) ∷ []) next) c.if-branch.false over.byte in
    let before = l.invariant.0 in
    let named = c.in_ok-name.ensures.bounds in
    let bounds = c.in_ok-member.ensures.bounds in
    let passed = over.bounds in
    let less = named.0 in
    let lesser = bounds.0 in
    let least = passed.0 in (
      omega (arith, before, less, lesser, least),
      put k d found,
      member_behind c.args.levels text k at l.at mid stop next d found named_there.1 read.1 over.ends comma_there l.invariant.2,
      c.keep.ensures ∙ ap₂ (with_member n) (read.2 ∙ ap (λ b. shown_value b d) c.is_wanted-is_wanted.ensures) l.invariant.3 ∙ member_shown c.args.with_params n d (envelope_of found)
          ∙ ap (λ m. shown_envelope c.args.with_params (with_member m d (envelope_of found))) (sym named_there.2)
          ∙ ap (shown_envelope c.args.with_params) (sym (envelope_of-put k d found)),
    )
