use Rattle.std.proofs.Common.{◌+◌, [], ◌∷◌, ◌++◌, cond, true, false, refl, subst, sym, ◌∙◌, arith}
use Rattle.std.proofs.lemmas.Result.{on_ok_weaker}
use Rattle.json.specs.Lex.{token, comma, operator_lexeme}
use Rattle.json.specs.Token as tokens
use Rattle.serde_json.specs.Data.{null, boolean, number, string, array, object, put, no_items, no_members}
use Rattle.value_reading.specs.Lexed.{Lexed}
use Rattle.value_reading.proofs.Elements.{elements_before}
use Rattle.value_reading.proofs.Lexemes.{operator_behind}
use Rattle.value_reading.proofs.Placed.{string_read, true_read, false_read, null_read, read_behind, no_items_behind, item_behind, items_over, no_items_read, array_read, no_members_behind, member_behind, members_over, no_members_read, object_read, at_levels}
use Rattle.value_reading.proofs.passed.+container.Goals as goal

-- ---- items

pub pass_items-returns-then-next_byte-eq93-clause-items : goal.pass_items-returns-then-next_byte-eq93-clause-items
pass_items-returns-then-next_byte-eq93-clause-items t c =
    let text = c.args.text.now in
    let at = c.args.at.now in
    let next = c.next_byte.new.at in
    let bracket : Lexed text at (token tokens.end_array ∷ []) (next + 1) = operator_behind text at next 93 c.next_byte.ensures.blanks (sym c.next_byte.ensures.byte ∙ c.if-next_byte-eq93.true) refl in
    (no_items, no_items_read c.args.levels text at (next + 1) bracket)

pub pass_items-loop-at-init : goal.pass_items-loop-at-init
pass_items-loop-at-init t c =
    let blanks = c.next_byte.ensures.blanks in
    record { order = blanks.order; items = ([], no_items_behind c.args.levels c.args.text.now c.args.at.now c.next_byte.new.at blanks) }

pub pass_items-returns-then-branch-clause-items : goal.pass_items-returns-then-branch-clause-items
pass_items-returns-then-branch-clause-items t c =
    let text = c.args.text.now in
    let stop = c.pass_value.new.at in
    let end = c.is_over.new.at in
    let before = c.loop-at.invariant.items in
    let value = c.in_ok-pass_value.ensures.value in
    let over = c.in_ok-is_over.ensures in
    let bracket : Lexed text stop (token tokens.end_array ∷ []) end = subst (λ b. Lexed text stop (operator_lexeme (cond b 93 44) ∷ []) end) c.if-branch.true over.byte in (
      elements_before (before.0 ++ value.0 ∷ []) no_items,
      items_over c.args.levels text c.args.at.now c.loop-at.at stop end before.0 value.0 value.1 over.ends bracket before.1,
    )

pub pass_items-loop-at-preserved : goal.pass_items-loop-at-preserved
pass_items-loop-at-preserved t c =
    let text = c.args.text.now in
    let stop = c.pass_value.new.at in
    let next = c.is_over.new.at in
    let order = c.loop-at.invariant.order in
    let before = c.loop-at.invariant.items in
    let passed = c.in_ok-pass_value.ensures in
    let value = passed.value in
    let bounds = passed.bounds in
    let over = c.in_ok-is_over.ensures in
    let further = over.bounds in
    let comma_there : Lexed text stop (comma ∷ []) next = subst (λ b. Lexed text stop (operator_lexeme (cond b 93 44) ∷ []) next) c.if-branch.false over.byte in
    record {
      order = omega (arith, order, bounds.0, further.0);
      items = (before.0 ++ value.0 ∷ [], item_behind c.args.levels text c.args.at.now c.loop-at.at stop next before.0 value.0 value.1 over.ends comma_there before.1);
    }

-- ---- members

pub pass_members-returns-then-next_byte-eq125-clause-members : goal.pass_members-returns-then-next_byte-eq125-clause-members
pass_members-returns-then-next_byte-eq125-clause-members t c =
    let text = c.args.text.now in
    let at = c.args.at.now in
    let next = c.next_byte.new.at in
    let brace : Lexed text at (token tokens.end_object ∷ []) (next + 1) = operator_behind text at next 125 c.next_byte.ensures.blanks (sym c.next_byte.ensures.byte ∙ c.if-next_byte-eq125.true) refl in
    (no_members, no_members_read c.args.levels text at (next + 1) brace)

pub pass_members-loop-at-init : goal.pass_members-loop-at-init
pass_members-loop-at-init t c =
    let blanks = c.next_byte.ensures.blanks in
    record { order = blanks.order; members = (no_members, no_members_behind c.args.levels c.args.text.now c.args.at.now c.next_byte.new.at blanks) }

pub pass_members-returns-then-branch-clause-members : goal.pass_members-returns-then-branch-clause-members
pass_members-returns-then-branch-clause-members t c =
    let text = c.args.text.now in
    let mid = c.pass_name.new.at in
    let stop = c.pass_value.new.at in
    let end = c.is_over.new.at in
    let before = c.loop-at.invariant.members in
    let name = c.in_ok-pass_name.ensures.name in
    let value = c.in_ok-pass_value.ensures.value in
    let over = c.in_ok-is_over.ensures in
    let brace : Lexed text stop (token tokens.end_object ∷ []) end = subst (λ b. Lexed text stop (operator_lexeme (cond b 125 44) ∷ []) end) c.if-branch.true over.byte in (
      put name.0 value.0 before.0,
      members_over c.args.levels text name.0 c.args.at.now c.loop-at.at mid stop end value.0 before.0 name.1 value.1 over.ends brace before.1,
    )

pub pass_members-loop-at-preserved : goal.pass_members-loop-at-preserved
pass_members-loop-at-preserved t c =
    let text = c.args.text.now in
    let mid = c.pass_name.new.at in
    let stop = c.pass_value.new.at in
    let next = c.is_over.new.at in
    let order = c.loop-at.invariant.order in
    let before = c.loop-at.invariant.members in
    let named = c.in_ok-pass_name.ensures in
    let name = named.name in
    let named_bounds = named.bounds in
    let passed = c.in_ok-pass_value.ensures in
    let value = passed.value in
    let bounds = passed.bounds in
    let over = c.in_ok-is_over.ensures in
    let further = over.bounds in
    let comma_there : Lexed text stop (comma ∷ []) next = subst (λ b. Lexed text stop (operator_lexeme (cond b 125 44) ∷ []) next) c.if-branch.false over.byte in
    record {
      order = omega (arith, order, named_bounds.0, bounds.0, further.0);
      members = (put name.0 value.0 before.0, member_behind c.args.levels text name.0 c.args.at.now c.loop-at.at mid stop next value.0 before.0 name.1 value.1 over.ends comma_there before.1);
    }

-- ---- values

pub pass_value-returns-in-34-clause-value : goal.pass_value-returns-in-34-clause-value
pass_value-returns-in-34-clause-value t c =
    let text = c.args.text.now in
    let next = c.next_byte.new.at in
    let end = c.pass_string.new.at in
    on_ok_weaker c.pass_string.result
    (λ passed. (string passed.0, read_behind c.args.levels text c.args.at.now next end (string passed.0) c.next_byte.ensures.blanks (string_read c.args.levels text passed.0 next end passed.1)))
    c.pass_string.ensures.string

pub pass_value-returns-in-116-clause-value : goal.pass_value-returns-in-116-clause-value
pass_value-returns-in-116-clause-value t c =
    let text = c.args.text.now in
    let next = c.next_byte.new.at in
    let end = c.pass_word.new.at in
    on_ok_weaker c.pass_word.result
    (λ stands. (boolean true, read_behind c.args.levels text c.args.at.now next end (boolean true) c.next_byte.ensures.blanks (true_read c.args.levels text next end stands)))
    c.pass_word.ensures.word

pub pass_value-returns-in-102-clause-value : goal.pass_value-returns-in-102-clause-value
pass_value-returns-in-102-clause-value t c =
    let text = c.args.text.now in
    let next = c.next_byte.new.at in
    let end = c.pass_word-in-102.new.at in
    on_ok_weaker c.pass_word-in-102.result
    (λ stands. (boolean false, read_behind c.args.levels text c.args.at.now next end (boolean false) c.next_byte.ensures.blanks (false_read c.args.levels text next end stands)))
    c.pass_word-in-102.ensures.word

pub pass_value-returns-in-110-clause-value : goal.pass_value-returns-in-110-clause-value
pass_value-returns-in-110-clause-value t c =
    let text = c.args.text.now in
    let next = c.next_byte.new.at in
    let end = c.pass_word-in-110.new.at in
    on_ok_weaker c.pass_word-in-110.result
    (λ stands. (null, read_behind c.args.levels text c.args.at.now next end null c.next_byte.ensures.blanks (null_read c.args.levels text next end stands)))
    c.pass_word-in-110.ensures.word

pub pass_value-returns-in_default-clause-value : goal.pass_value-returns-in_default-clause-value
pass_value-returns-in_default-clause-value t c =
    let text = c.args.text.now in
    let next = c.next_byte.new.at in
    let end = c.pass_number.new.at in
    on_ok_weaker c.pass_number.result
    (λ passed.
    let d = number passed.0 in
    (d, read_behind c.args.levels text c.args.at.now next end d c.next_byte.ensures.blanks (at_levels c.args.levels text next end d passed.1)))
    c.pass_number.ensures.number

-- ---- arrays and objects

pub pass_container-returns-in-91-clause-container : goal.pass_container-returns-in-91-clause-container
pass_container-returns-in-91-clause-container t c =
    let text = c.args.text.now in
    let from = c.args.at.now in
    let seen = c.next_byte-bracket.ensures in
    let next = c.next_byte-bracket.new.at in
    let some = c.if-levels-eq0.false in
    let bracket : Lexed text from (token tokens.begin_array ∷ []) (next + 1) = operator_behind text from next 91 seen.blanks (sym seen.byte ∙ c.in-91.is) refl in
    on_ok_weaker c.pass_items.result
    (λ passed. (array passed.0, array_read c.args.levels text from (next + 1) c.pass_items.new.at passed.0 (omega (arith, some)) bracket passed.1, refl))
    c.pass_items.ensures.items

pub pass_container-returns-in-123-clause-container : goal.pass_container-returns-in-123-clause-container
pass_container-returns-in-123-clause-container t c =
    let text = c.args.text.now in
    let from = c.args.at.now in
    let seen = c.next_byte-bracket.ensures in
    let next = c.next_byte-bracket.new.at in
    let some = c.if-levels-eq0.false in
    let brace : Lexed text from (token tokens.begin_object ∷ []) (next + 1) = operator_behind text from next 123 seen.blanks (sym seen.byte ∙ c.in-123.is) refl in
    on_ok_weaker c.pass_members.result
    (λ passed. (object passed.0, object_read c.args.levels text from (next + 1) c.pass_members.new.at passed.0 (omega (arith, some)) brace passed.1, refl))
    c.pass_members.ensures.members
