use Rattle.std.proofs.Common.{◌≡◌, ◌-◌, length, Some, refl, sym, ap, ◌∙◌, arith}
use Rattle.json.specs.Json.{read_key, value}
use Rattle.json.proofs.Grammar.{read_key-shorter}
use Rattle.json_reading.specs.Piece.{piece_view}
use Rattle.json_reading.proofs.Reading.{member_read, member_refused, key_refused, members_over}
use Rattle.serde_json.specs.Data.{no_members, put}
use Rattle.rpc_messages.specs.Held.{envelope_view, name_of, with_member}
use Rattle.rpc_messages.proofs.Envelopes.{envelope_of-put}
use Rattle.rpc_messages.proofs.read.envelope.read_members.Goals as goal

pub members-init : goal.members-init
members-init c = (length c.args.reader.now, no_members, omega arith, refl, c.requires, omega arith)

pub returns-in_err-name-clause-refused : goal.returns-in_err-name-clause-refused
returns-in_err-name-clause-refused c refused =
    let l = c.members in
    l.invariant.3 ∙ key_refused (value c.args.depth) l.invariant.1 l.invariant.0 l.reader c.in_err-name.ensures.value

pub returns-in_err-member-clause-refused : goal.returns-in_err-member-clause-refused
returns-in_err-member-clause-refused c refused =
    let l = c.members in
    let k = c.in-Some.name.now in
    let s = c.next_key.new.self in
    let named : read_key l.reader ≡ Some (Some k, s) = grind arith in
    l.invariant.3 ∙ member_refused (value c.args.depth) l.invariant.1 l.invariant.0 k l.reader s named (c.read_piece.ensures.refused (grind arith))

pub members-preserved : goal.members-preserved
members-preserved c =
    let p = value c.args.depth in
    let l = c.members in
    let n = l.invariant.0 in
    let old = l.invariant.1 in
    let k = c.in-Some.name.now in
    let s = c.next_key.new.self in
    let named : read_key l.reader ≡ Some (Some k, s) = grind arith in
    let done = c.in_ok-member.ensures in
    let d = piece_view c.in_ok-member.member in
    let r = c.read_piece.new.reader in
    let less = read_key-shorter l.reader (Some k) s named in
    let lesser = done.shorter in (
      n - 1,
      put k d old,
      omega (arith, l.invariant.2),
      l.invariant.3 ∙ member_read p old n k l.reader s r d (omega (arith, l.invariant.2)) named done.ok,
      c.keep.ensures ∙ ap (λ n. with_member n d (envelope_view l.envelope)) c.of.ensures ∙ ap (with_member (name_of k) d) l.invariant.4 ∙ sym (envelope_of-put k d old),
      omega (arith, l.invariant.5),
    )

pub returns-clause-ok : goal.returns-clause-ok
returns-clause-ok c =
    let l = c.members in (
      l.invariant.1,
      l.invariant.3 ∙ members_over (value c.args.depth) l.invariant.1 l.invariant.0 l.reader c.next_key.new.self l.invariant.2 (grind arith),
      l.invariant.4,
    )
