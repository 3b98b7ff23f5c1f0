use Rattle.std.proofs.Common.{◌≡◌, ◌+◌, [], ◌∷◌, ◌++◌, map, string_bytes, cond, true, false, refl, subst, sym, ap, ◌∙◌, arith, rules}
use Rattle.json.specs.Lex.{token, comma, operator_lexeme}
use Rattle.json.specs.Token as tokens
use Rattle.serde_json.specs.Data.{null, boolean, number, string, put, no_items, unsigned}
use Rattle.serde_json.specs.View.{view, number_view, items_view, members_view, items_of}
use Rattle.serde_json.specs.declared.value.Value.{String, Number, Bool, Null, the_lemmas}
use Rattle.serde_json.proofs.Views.{view-Array, view-Object}
use Rattle.value_reading.specs.Lexed.{Lexed, IsRead, ItemsAreRead, MembersAreRead}
use Rattle.value_reading.proofs.Elements.{elements_before}
use Rattle.value_reading.proofs.Lexemes.{operator_behind}
use Rattle.value_reading.proofs.Placed.{string_read, whole_read, true_read, false_read, null_read, read_behind, ItemsBehind, no_items_behind, item_behind, items_over, no_items_read, elements_of, pushed_view, array_read, MembersBehind, no_members_behind, member_behind, members_over, no_members_read, inserted_view, object_read, at_levels}
use Rattle.value_reading.proofs.values.+value.Goals as goal

-- ---- items

pub read_items-returns-then-next_byte-eq93-clause-items : goal.read_items-returns-then-next_byte-eq93-clause-items
read_items-returns-then-next_byte-eq93-clause-items t c =
    let text = c.args.text.now in
    let at = c.args.at.now in
    let next = c.next_byte.new.at in
    let bracket : Lexed text at (token tokens.end_array ∷ []) (next + 1) = operator_behind text at next 93 c.next_byte.ensures.blanks (sym c.next_byte.ensures.byte ∙ c.if-next_byte-eq93.true) refl in
    subst (λ vs. ItemsAreRead c.args.levels text at (next + 1) (items_view vs)) (sym c.new-found.ensures.items) (no_items_read c.args.levels text at (next + 1) bracket)

pub read_items-loop-at-init : goal.read_items-loop-at-init
read_items-loop-at-init t c =
    let text = c.args.text.now in
    let at = c.args.at.now in
    let next = c.next_byte.new.at in
    let blanks = c.next_byte.ensures.blanks in
    let behind : ItemsBehind c.args.levels text at next (map view c.new-found.result.items) =
    subst (λ vs. ItemsBehind c.args.levels text at next (map view vs)) (sym c.new-found.ensures.items) (no_items_behind c.args.levels text at next blanks) in
    (blanks.order, behind)

pub read_items-returns-then-branch-clause-items : goal.read_items-returns-then-branch-clause-items
read_items-returns-then-branch-clause-items t c =
    let text = c.args.text.now in
    let at = c.args.at.now in
    let l = c.loop-at in
    let stop = c.push_item.new.at in
    let end = c.is_over.new.at in
    let item = c.in_ok-push_item.ensures.item in
    let v = item.0 in
    let ds = map view l.found.items in
    let over = c.in_ok-is_over.ensures in
    let bracket : Lexed text stop (token tokens.end_array ∷ []) end = subst (λ b. Lexed text stop (operator_lexeme (cond b 93 44) ∷ []) end) c.if-branch.true over.byte in
    let seen : ds ++ view v ∷ [] ≡ map view c.push_item.new.found.items = pushed_view l.found.items v c.push_item.new.found.items item.2 in
    let all : ItemsAreRead c.args.levels text at end (elements_before (ds ++ view v ∷ []) no_items) =
    items_over c.args.levels text at l.at stop end ds (view v) item.1 over.ends bracket l.invariant.1 in
    subst (λ ds. ItemsAreRead c.args.levels text at end ds) (elements_of (ds ++ view v ∷ []) ∙ ap items_of seen) all

pub read_items-loop-at-preserved : goal.read_items-loop-at-preserved
read_items-loop-at-preserved t c =
    let text = c.args.text.now in
    let at = c.args.at.now in
    let l = c.loop-at in
    let stop = c.push_item.new.at in
    let next = c.is_over.new.at in
    let item = c.in_ok-push_item.ensures.item in
    let v = item.0 in
    let ds = map view l.found.items in
    let over = c.in_ok-is_over.ensures in
    let comma_there : Lexed text stop (comma ∷ []) next = subst (λ b. Lexed text stop (operator_lexeme (cond b 93 44) ∷ []) next) c.if-branch.false over.byte in
    let seen : ds ++ view v ∷ [] ≡ map view c.push_item.new.found.items = pushed_view l.found.items v c.push_item.new.found.items item.2 in
    let behind : ItemsBehind c.args.levels text at next (map view c.push_item.new.found.items) =
    subst (λ ds. ItemsBehind c.args.levels text at next ds) seen (item_behind c.args.levels text at l.at stop next ds (view v) item.1 over.ends comma_there l.invariant.1) in
    let before = l.invariant.0 in
    let bounds = c.in_ok-push_item.ensures.bounds in
    let less = bounds.0 in
    let passed = over.bounds in
    let lesser = passed.0 in
    (omega (arith, before, less, lesser), behind)

-- ---- members

pub read_members-returns-then-next_byte-eq125-clause-members : goal.read_members-returns-then-next_byte-eq125-clause-members
read_members-returns-then-next_byte-eq125-clause-members t c =
    let text = c.args.text.now in
    let at = c.args.at.now in
    let next = c.next_byte.new.at in
    let brace : Lexed text at (token tokens.end_object ∷ []) (next + 1) = operator_behind text at next 125 c.next_byte.ensures.blanks (sym c.next_byte.ensures.byte ∙ c.if-next_byte-eq125.true) refl in
    subst (λ ms. MembersAreRead c.args.levels text at (next + 1) (members_view ms)) (sym c.new-found.ensures.empty) (no_members_read c.args.levels text at (next + 1) brace)

pub read_members-loop-at-init : goal.read_members-loop-at-init
read_members-loop-at-init t c =
    let text = c.args.text.now in
    let at = c.args.at.now in
    let next = c.next_byte.new.at in
    let blanks = c.next_byte.ensures.blanks in
    let behind : MembersBehind c.args.levels text at next (members_view c.new-found.result.entries) =
    subst (λ ms. MembersBehind c.args.levels text at next (members_view ms)) (sym c.new-found.ensures.empty) (no_members_behind c.args.levels text at next blanks) in
    (blanks.order, behind)

pub read_members-returns-then-branch-clause-members : goal.read_members-returns-then-branch-clause-members
read_members-returns-then-branch-clause-members t c =
    let text = c.args.text.now in
    let at = c.args.at.now in
    let l = c.loop-at in
    let mid = c.copy_name.new.at in
    let stop = c.read_value.new.at in
    let end = c.is_over.new.at in
    let k = string_bytes c.in_ok-key.key in
    let v = c.in_ok-member.member in
    let old = members_view l.found.entries in
    let over = c.in_ok-is_over.ensures in
    let brace : Lexed text stop (token tokens.end_object ∷ []) end = subst (λ b. Lexed text stop (operator_lexeme (cond b 125 44) ∷ []) end) c.if-branch.true over.byte in
    let inserted : put k (view v) old ≡ members_view c.insert.new.self.entries =
    inserted_view l.found.entries k c.in_ok-key.key v c.insert.new.self.entries refl c.in_ok-insert.ensures.entries in
    let all = members_over c.args.levels text k at l.at mid stop end (view v) old c.in_ok-key.ensures.name c.in_ok-member.ensures.value over.ends brace l.invariant.1 in
    subst (λ ms. MembersAreRead c.args.levels text at end ms) inserted all

pub read_members-loop-at-preserved : goal.read_members-loop-at-preserved
read_members-loop-at-preserved t c =
    let text = c.args.text.now in
    let at = c.args.at.now in
    let l = c.loop-at in
    let mid = c.copy_name.new.at in
    let stop = c.read_value.new.at in
    let next = c.is_over.new.at in
    let k = string_bytes c.in_ok-key.key in
    let v = c.in_ok-member.member in
    let old = members_view l.found.entries in
    let over = c.in_ok-is_over.ensures in
    let comma_there : Lexed text stop (comma ∷ []) next = subst (λ b. Lexed text stop (operator_lexeme (cond b 125 44) ∷ []) next) c.if-branch.false over.byte in
    let inserted : put k (view v) old ≡ members_view c.insert.new.self.entries =
    inserted_view l.found.entries k c.in_ok-key.key v c.insert.new.self.entries refl c.in_ok-insert.ensures.entries in
    let behind : MembersBehind c.args.levels text at next (members_view c.insert.new.self.entries) =
    subst (λ ms. MembersBehind c.args.levels text at next ms) inserted
    (member_behind c.args.levels text k at l.at mid stop next (view v) old c.in_ok-key.ensures.name c.in_ok-member.ensures.value over.ends comma_there l.invariant.1) in
    let before = l.invariant.0 in
    let named = c.in_ok-key.ensures.bounds in
    let bounds = c.in_ok-member.ensures.bounds in
    let less = named.0 in
    let lesser = bounds.0 in
    let passed = over.bounds in
    let least = passed.0 in
    (omega (arith, before, less, lesser, least), behind)

-- ---- the push of an item

pub push_item-returns-in_ok-push-in-Some-clause-item : goal.push_item-returns-in_ok-push-in-Some-clause-item
push_item-returns-in_ok-push-in-Some-clause-item t c =
    let text = c.args.text.now in
    let from = c.args.at.now in
    let next = c.next_byte.new.at in
    let end = c.in-Some.end in
    let n = c.in-Some.number in
    let whole = c.in-Some.ensures in
    let seen : view (Number c.from.result) ≡ number (number_view c.from.result) = search (rules, the_lemmas) in
    let same : view (Number c.from.result) ≡ number (unsigned n) = seen ∙ ap number c.from.ensures in (
      Number c.from.result,
      subst (λ d. IsRead c.args.levels text from end d) (sym same)
          (read_behind c.args.levels text from next end (number (unsigned n)) c.next_byte.ensures.blanks (whole_read c.args.levels text next end n whole.size whole.number)),
      c.in_ok-push-in-Some.ensures.items,
    )

pub push_item-returns-in_ok-push-in-None-clause-item : goal.push_item-returns-in_ok-push-in-None-clause-item
push_item-returns-in_ok-push-in-None-clause-item t c =
    let v = c.in_ok-item-in-None.item in (
      v,
      read_behind c.args.levels c.args.text.now c.args.at.now c.next_byte.new.at c.read_value.new.at (view v) c.next_byte.ensures.blanks c.in_ok-item-in-None.ensures.value,
      c.in_ok-push-in-None.ensures.items,
    )

-- ---- values

pub read_value-returns-in_ok-copy_string-in-34-clause-value : goal.read_value-returns-in_ok-copy_string-in-34-clause-value
read_value-returns-in_ok-copy_string-in-34-clause-value t c =
    let text = c.args.text.now in
    let next = c.next_byte.new.at in
    let end = c.copy_string.new.at in
    let s = c.in_ok-copy_string-in-34.field-0 in
    let seen : view (String s) ≡ string (string_bytes s) = search (rules, the_lemmas) in
    subst (λ d. IsRead c.args.levels text c.args.at.now end d) (sym seen)
    (read_behind c.args.levels text c.args.at.now next end (string (string_bytes s)) c.next_byte.ensures.blanks
    (string_read c.args.levels text (string_bytes s) next end c.in_ok-copy_string-in-34.ensures.string))

pub read_value-returns-in_ok-read_items-in-91-clause-value : goal.read_value-returns-in_ok-read_items-in-91-clause-value
read_value-returns-in_ok-read_items-in-91-clause-value t c =
    let text = c.args.text.now in
    let next = c.next_byte.new.at in
    let end = c.read_items.new.at in
    let found = c.in_ok-read_items-in-91.field-0 in
    let levels = c.args.levels in
    let some = c.if-levels-eq0.false in
    let bracket : Lexed text c.args.at.now (token tokens.begin_array ∷ []) (next + 1) =
    operator_behind text c.args.at.now next 91 c.next_byte.ensures.blanks (sym c.next_byte.ensures.byte ∙ c.in-91.is) refl in
    subst (λ d. IsRead levels text c.args.at.now end d) (sym (view-Array found))
    (array_read levels text c.args.at.now (next + 1) end (items_view found.items) (omega (arith, some)) bracket c.in_ok-read_items-in-91.ensures.items)

pub read_value-returns-in_ok-read_members-in-123-clause-value : goal.read_value-returns-in_ok-read_members-in-123-clause-value
read_value-returns-in_ok-read_members-in-123-clause-value t c =
    let text = c.args.text.now in
    let next = c.next_byte.new.at in
    let end = c.read_members.new.at in
    let found = c.in_ok-read_members-in-123.field-0 in
    let levels = c.args.levels in
    let some = c.if-levels-eq0-2.false in
    let brace : Lexed text c.args.at.now (token tokens.begin_object ∷ []) (next + 1) =
    operator_behind text c.args.at.now next 123 c.next_byte.ensures.blanks (sym c.next_byte.ensures.byte ∙ c.in-123.is) refl in
    subst (λ d. IsRead levels text c.args.at.now end d) (sym (view-Object found))
    (object_read levels text c.args.at.now (next + 1) end (members_view found.entries) (omega (arith, some)) brace c.in_ok-read_members-in-123.ensures.members)

pub read_value-returns-in_ok-pass_word-in-116-clause-value : goal.read_value-returns-in_ok-pass_word-in-116-clause-value
read_value-returns-in_ok-pass_word-in-116-clause-value t c =
    let text = c.args.text.now in
    let next = c.next_byte.new.at in
    let end = c.pass_word.new.at in
    let seen : view (Bool true) ≡ boolean true = search (rules, the_lemmas) in
    subst (λ d. IsRead c.args.levels text c.args.at.now end d) (sym seen)
    (read_behind c.args.levels text c.args.at.now next end (boolean true) c.next_byte.ensures.blanks (true_read c.args.levels text next end c.in_ok-pass_word-in-116.ensures.word))

pub read_value-returns-in_ok-pass_word-in-102-clause-value : goal.read_value-returns-in_ok-pass_word-in-102-clause-value
read_value-returns-in_ok-pass_word-in-102-clause-value t c =
    let text = c.args.text.now in
    let next = c.next_byte.new.at in
    let end = c.pass_word-in-102.new.at in
    let seen : view (Bool false) ≡ boolean false = search (rules, the_lemmas) in
    subst (λ d. IsRead c.args.levels text c.args.at.now end d) (sym seen)
    (read_behind c.args.levels text c.args.at.now next end (boolean false) c.next_byte.ensures.blanks (false_read c.args.levels text next end c.in_ok-pass_word-in-102.ensures.word))

pub read_value-returns-in_ok-pass_word-in-110-clause-value : goal.read_value-returns-in_ok-pass_word-in-110-clause-value
read_value-returns-in_ok-pass_word-in-110-clause-value t c =
    let text = c.args.text.now in
    let next = c.next_byte.new.at in
    let end = c.pass_word-in-110.new.at in
    let seen : view Null ≡ null = search (rules, the_lemmas) in
    subst (λ d. IsRead c.args.levels text c.args.at.now end d) (sym seen)
    (read_behind c.args.levels text c.args.at.now next end null c.next_byte.ensures.blanks (null_read c.args.levels text next end c.in_ok-pass_word-in-110.ensures.word))

pub read_value-returns-in_ok-read_number-in_default-clause-value : goal.read_value-returns-in_ok-read_number-in_default-clause-value
read_value-returns-in_ok-read_number-in_default-clause-value t c =
    let text = c.args.text.now in
    let next = c.next_byte.new.at in
    let end = c.read_number.new.at in
    let n = c.in_ok-read_number-in_default.field-0 in
    let seen : view (Number n) ≡ number (number_view n) = search (rules, the_lemmas) in
    subst (λ d. IsRead c.args.levels text c.args.at.now end d) (sym seen)
    (read_behind c.args.levels text c.args.at.now next end (number (number_view n)) c.next_byte.ensures.blanks
    (at_levels c.args.levels text next end (number (number_view n)) c.in_ok-read_number-in_default.ensures.number))
