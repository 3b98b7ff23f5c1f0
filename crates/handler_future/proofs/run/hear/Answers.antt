use Rattle.std.proofs.Common.{◌≡◌, ℕ, ◌<◌, ◌==◌, List, length, not, true, sym, ap, ◌∙◌, subst, arith}
use Rattle.std.specs.List.{filter, list_any}
use Rattle.handler_future.specs.Inner.Course.{Seen}
use Rattle.handler_future.specs.Evaluation.{Program}
use Rattle.handler_future.specs.Inner.Handler.{program_of, seen_course}
use Rattle.handler_future.specs.Inner.Standing.{Stands}
use Rattle.handler_future.specs.Front.{Heard, unheard, last_turns}
use Rattle.handler_future.proofs.Hearing.{hearing, stands-hears, fewer-wait}
use Rattle.handler_future.proofs.Polls.{stands-waits}
use Rattle.handler_future.proofs.run.hear.Goals as goal

pub returns-clause-kept : goal.returns-clause-kept
returns-clause-kept c =
    let r = c.args.run.now in
    let p : Program = program_of r in
    let now : Seen = seen_course r in
    let t = c.args.turn in
    let slice : c.as_slice.result.now ≡ now.waits = c.as_slice.ensures.value in
    let any : list_any (λ u. u == t) now.waits ≡ true = ap (list_any (λ u. u == t)) (sym slice) ∙ sym c.contains.ensures.value ∙ c.if-not-contains.false in
    let waits : c.drop_turn.new.waits.items ≡ filter (λ u. not (u == t)) now.waits = c.drop_turn.ensures in
    let heard : c.push_reserved.new.self.items ≡ (hearing t c.args.reply now).heard = c.push_reserved.ensures.items in
    let S : List ℕ → Heard → Type 0 = λ ws hs. Stands p r.phase (record now { waits = ws; heard = hs }) in
    let P : List ℕ → Type 0 = λ ws. S ws (hearing t c.args.reply now).heard in
    let Q : Heard → Type 0 = λ hs. S c.drop_turn.new.waits.items hs in
    let few = fewer-wait now.waits t any in
    let n : length c.drop_turn.new.waits.items ≡ length (filter (λ u. not (u == t)) now.waits) = ap length waits in
    let some : 0 < length now.waits = omega arith in
    let room = c.requires.room some in
    let pushed = c.push_reserved.ensures.len in
    let capacity = c.push_reserved.ensures.capacity in
    record {
      limits = c.requires.limits;
      room = λ _. omega arith;
      stands = subst Q (sym heard) (subst P (sym waits) (stands-hears p r.phase now t c.args.reply c.requires.stands any));
    }

-- one that isn't awaited changes nothing
pub returns-then-not-contains-clause-waits : goal.returns-then-not-contains-clause-waits
returns-then-not-contains-clause-waits c =
    let r = c.args.run.now in
    stands-waits (program_of r) r.phase (seen_course r) c.requires.stands

pub returns-clause-waits : goal.returns-clause-waits
returns-clause-waits c =
    let r = c.args.run.now in
    let p : Program = program_of r in
    let now : Seen = seen_course r in
    let t = c.args.turn in
    let slice : c.as_slice.result.now ≡ now.waits = c.as_slice.ensures.value in
    let any : list_any (λ u. u == t) now.waits ≡ true = ap (list_any (λ u. u == t)) (sym slice) ∙ sym c.contains.ensures.value ∙ c.if-not-contains.false in
    let waits : c.drop_turn.new.waits.items ≡ filter (λ u. not (u == t)) now.waits = c.drop_turn.ensures in
    let heard : c.push_reserved.new.self.items ≡ (hearing t c.args.reply now).heard = c.push_reserved.ensures.items in
    let P : List ℕ → Type 0 = λ ws. ws ≡ unheard (hearing t c.args.reply now).heard (last_turns now.messages) in
    let Q : Heard → Type 0 = λ hs. c.drop_turn.new.waits.items ≡ unheard hs (last_turns now.messages) in
    subst Q (sym heard) (subst P (sym waits) (stands-waits p r.phase (hearing t c.args.reply now) (stands-hears p r.phase now t c.args.reply c.requires.stands any)))
