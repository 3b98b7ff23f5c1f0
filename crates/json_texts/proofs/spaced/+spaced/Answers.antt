use Rattle.std.proofs.Common.{ℕ, Option, IfSome, ◌≡◌, ◌++◌, ◌∷◌, [], ◌+◌, ◌-◌, ◌<◌, ◌≤◌, suc, true, false, ap, sym, subst, refl, ◌∙◌, arith, get_or, length}
use Rattle.json_texts.specs.Compacting.{HasWrittenValue, HasWrittenItems, HasWrittenMembers, HasWrittenName, ReadsSame, With}
use Rattle.json_texts.specs.Known.{IsKnown}
use Rattle.json_texts.proofs.Lexed.{past_string, with_one, number_word, true_word, false_word, null_word}
use Rattle.json_texts.proofs.Blanks.{past_gap, byte_read, weaker}
use Rattle.json_texts.proofs.Placed.{true_value, false_value, null_value, number_value, some_weaker}
use Rattle.json_texts.proofs.Written as written
use Rattle.json_texts.proofs.Written.{MoreItems, MoreMembers}
use Rattle.json_texts.proofs.spaced.+spaced.Goals as goal

-- ---- items

pub append_items-returns-then-byte_at-eq93-clause-items : goal.append_items-returns-then-byte_at-eq93-clause-items
append_items-returns-then-byte_at-eq93-clause-items t c =
    let text = c.args.text.now in
    let gap = c.past_blanks.new.out in
    let bracket : get_or text c.in_ok-at.at 0 ≡ 93 = omega (arith, c.byte_at.ensures, c.if-byte_at-eq93.true) in
    subst (λ w. HasWrittenItems c.args.levels w (With gap text c.in_ok-at.kept (c.in_ok-at.at + 1))) c.in_ok-at.ensures.written
    (written.no_item c.args.levels text gap c.in_ok-at.kept c.in_ok-at.at c.in_ok-at.ensures.bounds.0 bracket)

pub append_items-returns-then-byte_at-eq93-clause-same : goal.append_items-returns-then-byte_at-eq93-clause-same
append_items-returns-then-byte_at-eq93-clause-same t c = λ r.
    let text = c.args.text.now in
    let gap = c.past_blanks.new.out in
    let bracket : get_or text c.in_ok-at.at 0 ≡ 93 = omega (arith, c.byte_at.ensures, c.if-byte_at-eq93.true) in
    byte_read text gap c.in_ok-at.kept c.in_ok-at.at 92 false c.in_ok-at.ensures.bounds.0 bracket refl
    (past_gap text (With c.args.out.now text c.args.kept c.args.from) (With gap text c.in_ok-at.kept c.in_ok-at.at) c.args.from c.in_ok-at.at false c.in_ok-at.ensures.blanks c.in_ok-at.ensures.written r)

pub append_items-loop-at-init : goal.append_items-loop-at-init
append_items-loop-at-init t c =
    let text = c.args.text.now in
    let levels = c.args.levels in
    let before = With c.args.out.now text c.args.kept c.args.from in
    let w = With c.past_blanks.new.out text c.in_ok-at.kept c.in_ok-at.at in
    let bounds = c.in_ok-at.ensures.bounds in
    record {
      order = (bounds.0, bounds.1, bounds.2);
      items = λ after m. subst (λ u. HasWrittenItems levels u after) c.in_ok-at.ensures.written (written.items_of_more levels w after m);
      same = λ r. past_gap text before w c.args.from c.in_ok-at.at false c.in_ok-at.ensures.blanks c.in_ok-at.ensures.written r;
    }

pub append_items-returns-then-next-eq93-clause-items : goal.append_items-returns-then-next-eq93-clause-items
append_items-returns-then-next-eq93-clause-items t c =
    let text = c.args.text.now in
    let levels = c.args.levels in
    let out = c.append_value.new.out in
    let gap = c.past_blanks-in-loop-at.new.out in
    let w = With c.loop-at.out text c.loop-at.kept c.loop-at.at in
    let w1 = With c.past_naturals.new.out text c.in_ok-at-2.field-0-1 c.in_ok-at-2.field-0-0 in
    let w2 = With out text c.in-Some.left c.in-Some.end in
    let w3 = With gap text c.in_ok-end-2.left c.in_ok-end-2.end in
    let end = c.in_ok-end-2.end in
    let bounds = c.in_ok-end-2.ensures.bounds in
    let numbers = c.in_ok-at-2.ensures.numbers in
    let value : HasWrittenValue levels w1 w3 =
    subst (λ u. HasWrittenValue levels w1 u) (sym c.in_ok-end-2.ensures.written)
    (subst (λ (r : Option (ℕ × ℕ)). IfSome r (λ e. HasWrittenValue levels w1 (With out text e.1 e.0))) c.in-Some.is c.in_ok-end.ensures.value) in
    let bracket : get_or text end 0 ≡ 93 = omega (arith, c.byte_at-next.ensures, c.if-next-eq93.true) in
    let after = With gap text c.in_ok-end-2.left (end + 1) in
    let last = written.last_item levels w1 w3 after value (with_one gap text c.in_ok-end-2.left end 92 bounds.0 bracket) in
    c.loop-at.invariant.items after (written.numbers_before levels numbers.0 numbers.1 w w1 after numbers.2 last)

pub append_items-returns-then-next-eq93-clause-same : goal.append_items-returns-then-next-eq93-clause-same
append_items-returns-then-next-eq93-clause-same t c = λ r.
    let text = c.args.text.now in
    let levels = c.args.levels in
    let out = c.append_value.new.out in
    let gap = c.past_blanks-in-loop-at.new.out in
    let w = With c.loop-at.out text c.loop-at.kept c.loop-at.at in
    let w1 = With c.past_naturals.new.out text c.in_ok-at-2.field-0-1 c.in_ok-at-2.field-0-0 in
    let w2 = With out text c.in-Some.left c.in-Some.end in
    let w3 = With gap text c.in_ok-end-2.left c.in_ok-end-2.end in
    let end = c.in_ok-end-2.end in
    let bounds = c.in_ok-end-2.ensures.bounds in
    let reads : ReadsSame text w c.loop-at.at false → ReadsSame text w3 end true =
    λ r. past_gap text w2 w3 c.in-Some.end end true c.in_ok-end-2.ensures.blanks c.in_ok-end-2.ensures.written
    (subst (λ (r : Option (ℕ × ℕ)). IfSome r (λ e. ReadsSame text w1 c.in_ok-at-2.field-0-0 false → ReadsSame text (With out text e.1 e.0) e.0 true)) c.in-Some.is c.in_ok-end.ensures.same
    (c.in_ok-at-2.ensures.same r)) in
    let bracket : get_or text end 0 ≡ 93 = omega (arith, c.byte_at-next.ensures, c.if-next-eq93.true) in
    byte_read text gap c.in_ok-end-2.left end 92 true bounds.0 bracket refl (reads (c.loop-at.invariant.same r))

pub append_items-loop-at-preserved : goal.append_items-loop-at-preserved
append_items-loop-at-preserved t c =
    let text = c.args.text.now in
    let levels = c.args.levels in
    let out = c.append_value.new.out in
    let gap = c.past_blanks-in-loop-at.new.out in
    let w = With c.loop-at.out text c.loop-at.kept c.loop-at.at in
    let w1 = With c.past_naturals.new.out text c.in_ok-at-2.field-0-1 c.in_ok-at-2.field-0-0 in
    let w2 = With out text c.in-Some.left c.in-Some.end in
    let w3 = With gap text c.in_ok-end-2.left c.in_ok-end-2.end in
    let end = c.in_ok-end-2.end in
    let bounds = c.in_ok-end-2.ensures.bounds in
    let numbers = c.in_ok-at-2.ensures.numbers in
    let value : HasWrittenValue levels w1 w3 =
    subst (λ u. HasWrittenValue levels w1 u) (sym c.in_ok-end-2.ensures.written)
    (subst (λ (r : Option (ℕ × ℕ)). IfSome r (λ e. HasWrittenValue levels w1 (With out text e.1 e.0))) c.in-Some.is c.in_ok-end.ensures.value) in
    let reads : ReadsSame text w c.loop-at.at false → ReadsSame text w3 end true =
    λ r. past_gap text w2 w3 c.in-Some.end end true c.in_ok-end-2.ensures.blanks c.in_ok-end-2.ensures.written
    (subst (λ (r : Option (ℕ × ℕ)). IfSome r (λ e. ReadsSame text w1 c.in_ok-at-2.field-0-0 false → ReadsSame text (With out text e.1 e.0) e.0 true)) c.in-Some.is c.in_ok-end.ensures.same
    (c.in_ok-at-2.ensures.same r)) in
    let comma : get_or text end 0 ≡ 44 = omega (arith, c.byte_at-next.ensures, c.if-next-ne44.false) in
    let passed = With gap text c.in_ok-end-2.left (end + 1) in
    let next = With c.past_blanks-in-loop-at-2.new.out text c.in_ok-at-3.field-0-1 c.in_ok-at-3.field-0-0 in
    let last = c.in_ok-at-3.ensures in
    let value_bounds = subst (λ (r : Option (ℕ × ℕ)). IfSome r (λ e. (e.1 ≤ e.0) × (c.in_ok-at-2.field-0-0 < e.0) × (e.0 ≤ length text))) c.in-Some.is c.in_ok-end.ensures.bounds in
    record {
      order = (last.bounds.0, omega (arith, last.bounds.1, bounds, value_bounds, c.in_ok-at-2.ensures.bounds, c.loop-at.invariant.order), last.bounds.2);
      items = λ after m. c.loop-at.invariant.items after
          (written.numbers_before levels numbers.0 numbers.1 w w1 after numbers.2
          (written.more_items levels w1 w3 next after value (last.written ∙ with_one gap text c.in_ok-end-2.left end 43 bounds.0 comma) m));
      same = λ r. past_gap text passed next (end + 1) c.in_ok-at-3.field-0-0 false last.blanks last.written
          (byte_read text gap c.in_ok-end-2.left end 43 true bounds.0 comma refl (reads (c.loop-at.invariant.same r)));
    }

-- ---- members

pub append_members-returns-then-byte_at-eq125-clause-members : goal.append_members-returns-then-byte_at-eq125-clause-members
append_members-returns-then-byte_at-eq125-clause-members t c =
    let text = c.args.text.now in
    let gap = c.past_blanks.new.out in
    let brace : get_or text c.in_ok-at.at 0 ≡ 125 = omega (arith, c.byte_at.ensures, c.if-byte_at-eq125.true) in
    subst (λ w. HasWrittenMembers c.args.levels w (With gap text c.in_ok-at.kept (c.in_ok-at.at + 1))) c.in_ok-at.ensures.written
    (written.no_member c.args.levels text gap c.in_ok-at.kept c.in_ok-at.at c.in_ok-at.ensures.bounds.0 brace)

pub append_members-returns-then-byte_at-eq125-clause-same : goal.append_members-returns-then-byte_at-eq125-clause-same
append_members-returns-then-byte_at-eq125-clause-same t c = λ r.
    let text = c.args.text.now in
    let gap = c.past_blanks.new.out in
    let brace : get_or text c.in_ok-at.at 0 ≡ 125 = omega (arith, c.byte_at.ensures, c.if-byte_at-eq125.true) in
    byte_read text gap c.in_ok-at.kept c.in_ok-at.at 124 false c.in_ok-at.ensures.bounds.0 brace refl
    (past_gap text (With c.args.out.now text c.args.kept c.args.from) (With gap text c.in_ok-at.kept c.in_ok-at.at) c.args.from c.in_ok-at.at false c.in_ok-at.ensures.blanks c.in_ok-at.ensures.written r)

pub append_members-returns-then-byte_at-eq125-clause-longest : goal.append_members-returns-then-byte_at-eq125-clause-longest
append_members-returns-then-byte_at-eq125-clause-longest t c = λ k.
    let text = c.args.text.now in
    let gap = c.past_blanks.new.out in
    let before = With c.args.out.now text c.args.kept c.args.from in
    let brace : get_or text c.in_ok-at.at 0 ≡ 125 = omega (arith, c.byte_at.ensures, c.if-byte_at-eq125.true) in
    written.known_stays c.args.levels before (125 ∷ []) (With gap text c.in_ok-at.kept (c.in_ok-at.at + 1)) c.args.longest.now
    (with_one gap text c.in_ok-at.kept c.in_ok-at.at 124 c.in_ok-at.ensures.bounds.0 brace ∙ ap (λ l. l ++ 125 ∷ []) c.in_ok-at.ensures.written) k

pub append_members-loop-at-init : goal.append_members-loop-at-init
append_members-loop-at-init t c =
    let text = c.args.text.now in
    let levels = c.args.levels in
    let before = With c.args.out.now text c.args.kept c.args.from in
    let w = With c.past_blanks.new.out text c.in_ok-at.kept c.in_ok-at.at in
    let bounds = c.in_ok-at.ensures.bounds in
    record {
      order = (bounds.0, bounds.1, bounds.2);
      members = λ after m. subst (λ u. HasWrittenMembers levels u after) c.in_ok-at.ensures.written (written.members_of_more levels w after m);
      same = λ r. past_gap text before w c.args.from c.in_ok-at.at false c.in_ok-at.ensures.blanks c.in_ok-at.ensures.written r;
      longest = λ k. subst (λ u. IsKnown levels u c.args.longest.now) (sym c.in_ok-at.ensures.written) k;
    }

pub append_members-returns-then-next-eq125-clause-members : goal.append_members-returns-then-next-eq125-clause-members
append_members-returns-then-next-eq125-clause-members t c =
    let text = c.args.text.now in
    let levels = c.args.levels in
    let named = c.append_name.new.out in
    let out = c.append_value.new.out in
    let gap = c.past_blanks-in-loop-at.new.out in
    let w = With c.loop-at.out text c.loop-at.kept c.loop-at.at in
    let w1 = With named text c.in-Some.left c.in-Some.value in
    let w2 = With out text c.in-Some-2.left c.in-Some-2.end in
    let w3 = With gap text c.in_ok-end-2.left c.in_ok-end-2.end in
    let end = c.in_ok-end-2.end in
    let bounds = c.in_ok-end-2.ensures.bounds in
    let name : HasWrittenName w w1 = subst (λ (r : Option (ℕ × ℕ)). IfSome r (λ e. HasWrittenName w (With named text e.1 e.0))) c.in-Some.is c.in_ok-value.ensures.name in
    let value : HasWrittenValue levels w1 w3 =
    subst (λ u. HasWrittenValue levels w1 u) (sym c.in_ok-end-2.ensures.written)
    (subst (λ (r : Option (ℕ × ℕ)). IfSome r (λ e. HasWrittenValue levels w1 (With out text e.1 e.0))) c.in-Some-2.is c.in_ok-end.ensures.value) in
    let brace : get_or text end 0 ≡ 125 = omega (arith, c.byte_at-next.ensures, c.if-next-eq125.true) in
    let after = With gap text c.in_ok-end-2.left (end + 1) in
    c.loop-at.invariant.members after (written.last_member levels w w1 w3 after name value (with_one gap text c.in_ok-end-2.left end 124 bounds.0 brace))

pub append_members-returns-then-next-eq125-clause-same : goal.append_members-returns-then-next-eq125-clause-same
append_members-returns-then-next-eq125-clause-same t c = λ r.
    let text = c.args.text.now in
    let levels = c.args.levels in
    let named = c.append_name.new.out in
    let out = c.append_value.new.out in
    let gap = c.past_blanks-in-loop-at.new.out in
    let w = With c.loop-at.out text c.loop-at.kept c.loop-at.at in
    let w1 = With named text c.in-Some.left c.in-Some.value in
    let w2 = With out text c.in-Some-2.left c.in-Some-2.end in
    let w3 = With gap text c.in_ok-end-2.left c.in_ok-end-2.end in
    let end = c.in_ok-end-2.end in
    let bounds = c.in_ok-end-2.ensures.bounds in
    let reads : ReadsSame text w c.loop-at.at false → ReadsSame text w3 end true =
    λ r. past_gap text w2 w3 c.in-Some-2.end end true c.in_ok-end-2.ensures.blanks c.in_ok-end-2.ensures.written
    (subst (λ (r : Option (ℕ × ℕ)). IfSome r (λ e. ReadsSame text w1 c.in-Some.value false → ReadsSame text (With out text e.1 e.0) e.0 true)) c.in-Some-2.is c.in_ok-end.ensures.same
    (subst (λ (r : Option (ℕ × ℕ)). IfSome r (λ e. ReadsSame text w c.loop-at.at false → ReadsSame text (With named text e.1 e.0) e.0 false)) c.in-Some.is c.in_ok-value.ensures.same r)) in
    let brace : get_or text end 0 ≡ 125 = omega (arith, c.byte_at-next.ensures, c.if-next-eq125.true) in
    byte_read text gap c.in_ok-end-2.left end 124 true bounds.0 brace refl (reads (c.loop-at.invariant.same r))

pub append_members-returns-then-next-eq125-clause-longest : goal.append_members-returns-then-next-eq125-clause-longest
append_members-returns-then-next-eq125-clause-longest t c = λ k.
    let text = c.args.text.now in
    let levels = c.args.levels in
    let named = c.append_name.new.out in
    let out = c.append_value.new.out in
    let gap = c.past_blanks-in-loop-at.new.out in
    let w = With c.loop-at.out text c.loop-at.kept c.loop-at.at in
    let w1 = With named text c.in-Some.left c.in-Some.value in
    let w2 = With out text c.in-Some-2.left c.in-Some-2.end in
    let w3 = With gap text c.in_ok-end-2.left c.in_ok-end-2.end in
    let end = c.in_ok-end-2.end in
    let bounds = c.in_ok-end-2.ensures.bounds in
    let name : HasWrittenName w w1 = subst (λ (r : Option (ℕ × ℕ)). IfSome r (λ e. HasWrittenName w (With named text e.1 e.0))) c.in-Some.is c.in_ok-value.ensures.name in
    let value : HasWrittenValue levels w1 w3 =
    subst (λ u. HasWrittenValue levels w1 u) (sym c.in_ok-end-2.ensures.written)
    (subst (λ (r : Option (ℕ × ℕ)). IfSome r (λ e. HasWrittenValue levels w1 (With out text e.1 e.0))) c.in-Some-2.is c.in_ok-end.ensures.value) in
    let name_bounds : (c.in-Some.left ≤ c.in-Some.value) × (c.loop-at.at < c.in-Some.value) × (c.in-Some.value ≤ length text) =
    subst (λ (r : Option (ℕ × ℕ)). IfSome r (λ e. (e.1 ≤ e.0) × (c.loop-at.at < e.0) × (e.0 ≤ length text))) c.in-Some.is c.in_ok-value.ensures.bounds in
    let value_bounds : (c.in-Some-2.left ≤ c.in-Some-2.end) × (c.in-Some.value < c.in-Some-2.end) × (c.in-Some-2.end ≤ length text) =
    subst (λ (r : Option (ℕ × ℕ)). IfSome r (λ e. (e.1 ≤ e.0) × (c.in-Some.value < e.0) × (e.0 ≤ length text))) c.in-Some-2.is c.in_ok-end.ensures.bounds in
    let starts = written.with_length named text c.in-Some.left c.in-Some.value name_bounds.0 name_bounds.2 in
    let ends = written.with_length out text c.in-Some-2.left c.in-Some-2.end value_bounds.0 value_bounds.2 in
    let whole : length w3 ≡ length w2 = ap length c.in_ok-end-2.ensures.written in
    let longest : IsKnown levels w c.loop-at.longest → IsKnown levels w3 c.note.new.self =
    written.longer_known levels w w1 w3 c.loop-at.longest c.note.new.self (c.len.result + (c.in-Some.value - c.in-Some.left)) (c.len-in-loop-at.result + (c.in-Some-2.end - c.in-Some-2.left)) name value
    (omega (arith, starts, c.len.ensures.value)) (omega (arith, ends, whole, c.len-in-loop-at.ensures.value)) c.note.ensures in
    let brace : get_or text end 0 ≡ 125 = omega (arith, c.byte_at-next.ensures, c.if-next-eq125.true) in
    written.known_stays levels w3 (125 ∷ []) (With gap text c.in_ok-end-2.left (end + 1)) c.note.new.self (with_one gap text c.in_ok-end-2.left end 124 bounds.0 brace) (longest (c.loop-at.invariant.longest k))

pub append_members-loop-at-preserved : goal.append_members-loop-at-preserved
append_members-loop-at-preserved t c =
    let text = c.args.text.now in
    let levels = c.args.levels in
    let named = c.append_name.new.out in
    let out = c.append_value.new.out in
    let gap = c.past_blanks-in-loop-at.new.out in
    let w = With c.loop-at.out text c.loop-at.kept c.loop-at.at in
    let w1 = With named text c.in-Some.left c.in-Some.value in
    let w2 = With out text c.in-Some-2.left c.in-Some-2.end in
    let w3 = With gap text c.in_ok-end-2.left c.in_ok-end-2.end in
    let end = c.in_ok-end-2.end in
    let bounds = c.in_ok-end-2.ensures.bounds in
    let name : HasWrittenName w w1 = subst (λ (r : Option (ℕ × ℕ)). IfSome r (λ e. HasWrittenName w (With named text e.1 e.0))) c.in-Some.is c.in_ok-value.ensures.name in
    let value : HasWrittenValue levels w1 w3 =
    subst (λ u. HasWrittenValue levels w1 u) (sym c.in_ok-end-2.ensures.written)
    (subst (λ (r : Option (ℕ × ℕ)). IfSome r (λ e. HasWrittenValue levels w1 (With out text e.1 e.0))) c.in-Some-2.is c.in_ok-end.ensures.value) in
    let reads : ReadsSame text w c.loop-at.at false → ReadsSame text w3 end true =
    λ r. past_gap text w2 w3 c.in-Some-2.end end true c.in_ok-end-2.ensures.blanks c.in_ok-end-2.ensures.written
    (subst (λ (r : Option (ℕ × ℕ)). IfSome r (λ e. ReadsSame text w1 c.in-Some.value false → ReadsSame text (With out text e.1 e.0) e.0 true)) c.in-Some-2.is c.in_ok-end.ensures.same
    (subst (λ (r : Option (ℕ × ℕ)). IfSome r (λ e. ReadsSame text w c.loop-at.at false → ReadsSame text (With named text e.1 e.0) e.0 false)) c.in-Some.is c.in_ok-value.ensures.same r)) in
    let name_bounds : (c.in-Some.left ≤ c.in-Some.value) × (c.loop-at.at < c.in-Some.value) × (c.in-Some.value ≤ length text) =
    subst (λ (r : Option (ℕ × ℕ)). IfSome r (λ e. (e.1 ≤ e.0) × (c.loop-at.at < e.0) × (e.0 ≤ length text))) c.in-Some.is c.in_ok-value.ensures.bounds in
    let value_bounds : (c.in-Some-2.left ≤ c.in-Some-2.end) × (c.in-Some.value < c.in-Some-2.end) × (c.in-Some-2.end ≤ length text) =
    subst (λ (r : Option (ℕ × ℕ)). IfSome r (λ e. (e.1 ≤ e.0) × (c.in-Some.value < e.0) × (e.0 ≤ length text))) c.in-Some-2.is c.in_ok-end.ensures.bounds in
    let starts = written.with_length named text c.in-Some.left c.in-Some.value name_bounds.0 name_bounds.2 in
    let ends = written.with_length out text c.in-Some-2.left c.in-Some-2.end value_bounds.0 value_bounds.2 in
    let whole : length w3 ≡ length w2 = ap length c.in_ok-end-2.ensures.written in
    let longest : IsKnown levels w c.loop-at.longest → IsKnown levels w3 c.note.new.self =
    written.longer_known levels w w1 w3 c.loop-at.longest c.note.new.self (c.len.result + (c.in-Some.value - c.in-Some.left)) (c.len-in-loop-at.result + (c.in-Some-2.end - c.in-Some-2.left)) name value
    (omega (arith, starts, c.len.ensures.value)) (omega (arith, ends, whole, c.len-in-loop-at.ensures.value)) c.note.ensures in
    let comma : get_or text end 0 ≡ 44 = omega (arith, c.byte_at-next.ensures, c.if-next-ne44.false) in
    let passed = With gap text c.in_ok-end-2.left (end + 1) in
    let next = With c.past_blanks-in-loop-at-2.new.out text c.in_ok-at-2.field-0-1 c.in_ok-at-2.field-0-0 in
    let last = c.in_ok-at-2.ensures in
    let one = last.written ∙ with_one gap text c.in_ok-end-2.left end 43 bounds.0 comma in
    record {
      order = (last.bounds.0, omega (arith, last.bounds.1, bounds, value_bounds, name_bounds, c.loop-at.invariant.order), last.bounds.2);
      members = λ after m. c.loop-at.invariant.members after (written.more_members levels w w1 w3 next after name value one m);
      same = λ r. past_gap text passed next (end + 1) c.in_ok-at-2.field-0-0 false last.blanks last.written
          (byte_read text gap c.in_ok-end-2.left end 43 true bounds.0 comma refl (reads (c.loop-at.invariant.same r)));
      longest = λ k. written.known_stays levels w3 (44 ∷ []) next c.note.new.self one (longest (c.loop-at.invariant.longest k));
    }

-- ---- values

pub append_value-returns-in-34-clause-value : goal.append_value-returns-in-34-clause-value
append_value-returns-in-34-clause-value t c =
    let text = c.args.text.now in
    let out = c.args.out.now in
    let new = c.append_string.new.out in
    let quote : get_or text c.args.from 0 ≡ 34 = omega (arith, c.byte_at.ensures, c.in-34.is) in
    written.found_weaker c.append_string.result (λ e s. written.string_written c.args.levels text out (With new text e.1 e.0) c.args.kept c.args.from e.0 c.requires.0 quote s) c.append_string.ensures.string

pub append_value-returns-in-34-clause-same : goal.append_value-returns-in-34-clause-same
append_value-returns-in-34-clause-same t c =
    let text = c.args.text.now in
    let out = c.args.out.now in
    let new = c.append_string.new.out in
    let quote : get_or text c.args.from 0 ≡ 34 = omega (arith, c.byte_at.ensures, c.in-34.is) in
    written.found_weaker c.append_string.result (λ e s r. weaker text (With new text e.1 e.0) e.0 (past_string text out (With new text e.1 e.0) c.args.kept c.args.from e.0 c.requires.0 quote r s))
    c.append_string.ensures.string

pub append_value-returns-in-Some-clause-value : goal.append_value-returns-in-Some-clause-value
append_value-returns-in-Some-clause-value t c =
    let text = c.args.text.now in
    let levels = c.args.levels in
    let out = c.args.out.now in
    let new = c.append_items.new.out in
    let opened : get_or text c.args.from 0 ≡ 91 = omega (arith, c.byte_at.ensures, c.in-91.is) in
    let above : levels ≡ suc (levels - 1) = omega (arith, c.if-levels-eq0.false) in
    written.array_written levels (levels - 1) text out (With new text c.in-Some.kept c.in-Some.end) c.args.kept c.args.from c.requires.0 opened above
    (subst (λ (r : Option (ℕ × ℕ)). IfSome r (λ e. HasWrittenItems (levels - 1) (With out text c.args.kept (c.args.from + 1)) (With new text e.1 e.0))) c.in-Some.is c.in_ok-end-in-91.ensures.items)

pub append_value-returns-in-Some-clause-same : goal.append_value-returns-in-Some-clause-same
append_value-returns-in-Some-clause-same t c = λ r.
    let text = c.args.text.now in
    let out = c.args.out.now in
    let new = c.append_items.new.out in
    let from = c.args.from in
    let opened : get_or text from 0 ≡ 91 = omega (arith, c.byte_at.ensures, c.in-91.is) in
    weaker text (With new text c.in-Some.kept c.in-Some.end) c.in-Some.end
    (subst (λ (r : Option (ℕ × ℕ)). IfSome r (λ e. ReadsSame text (With out text c.args.kept (from + 1)) (from + 1) false → ReadsSame text (With new text e.1 e.0) e.0 false)) c.in-Some.is
    c.in_ok-end-in-91.ensures.same (byte_read text out c.args.kept from 90 false c.requires.0 opened refl r))

pub append_value-returns-in-Some-2-clause-value : goal.append_value-returns-in-Some-2-clause-value
append_value-returns-in-Some-2-clause-value t c =
    let text = c.args.text.now in
    let levels = c.args.levels in
    let out = c.args.out.now in
    let new = c.append_members.new.out in
    let opened : get_or text c.args.from 0 ≡ 123 = omega (arith, c.byte_at.ensures, c.in-123.is) in
    let above : levels ≡ suc (levels - 1) = omega (arith, c.if-levels-eq0-2.false) in
    written.object_written levels (levels - 1) text out (With new text c.in-Some-2.kept c.in-Some-2.end) c.args.kept c.args.from c.requires.0 opened above
    (subst (λ (r : Option (ℕ × ℕ)). IfSome r (λ e. HasWrittenMembers (levels - 1) (With out text c.args.kept (c.args.from + 1)) (With new text e.1 e.0))) c.in-Some-2.is c.in_ok-end-in-123.ensures.members)

pub append_value-returns-in-Some-2-clause-same : goal.append_value-returns-in-Some-2-clause-same
append_value-returns-in-Some-2-clause-same t c = λ r.
    let text = c.args.text.now in
    let out = c.args.out.now in
    let new = c.append_members.new.out in
    let from = c.args.from in
    let opened : get_or text from 0 ≡ 123 = omega (arith, c.byte_at.ensures, c.in-123.is) in
    weaker text (With new text c.in-Some-2.kept c.in-Some-2.end) c.in-Some-2.end
    (subst (λ (r : Option (ℕ × ℕ)). IfSome r (λ e. ReadsSame text (With out text c.args.kept (from + 1)) (from + 1) false → ReadsSame text (With new text e.1 e.0) e.0 false)) c.in-Some-2.is
    c.in_ok-end-in-123.ensures.same (byte_read text out c.args.kept from 122 false c.requires.0 opened refl r))

pub append_value-returns-in-116-clause-value : goal.append_value-returns-in-116-clause-value
append_value-returns-in-116-clause-value t c =
    let text = c.args.text.now in
    let from = c.args.from in
    let found = c.word_end.result in
    let ended = c.ended_word.ensures in
    written.word_written c.args.levels text c.args.out.now c.args.kept from found c.ended_word.result c.requires.0
    (some_weaker found (λ end w. true_value c.args.levels text from end w) c.word_end.ensures.word) (written.word_bounds text from 4 found c.word_end.ensures.bounds c.word_end.ensures.within)
    ended.end ended.kept

pub append_value-returns-in-116-clause-same : goal.append_value-returns-in-116-clause-same
append_value-returns-in-116-clause-same t c =
    let text = c.args.text.now in
    let from = c.args.from in
    let found = c.word_end.result in
    let ended = c.ended_word.ensures in
    written.word_read text c.args.out.now c.args.kept from found c.ended_word.result c.requires.0
    (some_weaker found (λ end w. true_word text from end w) c.word_end.ensures.word) (written.word_bounds text from 4 found c.word_end.ensures.bounds c.word_end.ensures.within)
    ended.end ended.kept ended.ended

pub append_value-returns-in-102-clause-value : goal.append_value-returns-in-102-clause-value
append_value-returns-in-102-clause-value t c =
    let text = c.args.text.now in
    let from = c.args.from in
    let found = c.word_end-in-102.result in
    let ended = c.ended_word-in-102.ensures in
    written.word_written c.args.levels text c.args.out.now c.args.kept from found c.ended_word-in-102.result c.requires.0
    (some_weaker found (λ end w. false_value c.args.levels text from end w) c.word_end-in-102.ensures.word) (written.word_bounds text from 5 found c.word_end-in-102.ensures.bounds c.word_end-in-102.ensures.within)
    ended.end ended.kept

pub append_value-returns-in-102-clause-same : goal.append_value-returns-in-102-clause-same
append_value-returns-in-102-clause-same t c =
    let text = c.args.text.now in
    let from = c.args.from in
    let found = c.word_end-in-102.result in
    let ended = c.ended_word-in-102.ensures in
    written.word_read text c.args.out.now c.args.kept from found c.ended_word-in-102.result c.requires.0
    (some_weaker found (λ end w. false_word text from end w) c.word_end-in-102.ensures.word) (written.word_bounds text from 5 found c.word_end-in-102.ensures.bounds c.word_end-in-102.ensures.within)
    ended.end ended.kept ended.ended

pub append_value-returns-in-110-clause-value : goal.append_value-returns-in-110-clause-value
append_value-returns-in-110-clause-value t c =
    let text = c.args.text.now in
    let from = c.args.from in
    let found = c.word_end-in-110.result in
    let ended = c.ended_word-in-110.ensures in
    written.word_written c.args.levels text c.args.out.now c.args.kept from found c.ended_word-in-110.result c.requires.0
    (some_weaker found (λ end w. null_value c.args.levels text from end w) c.word_end-in-110.ensures.word) (written.word_bounds text from 4 found c.word_end-in-110.ensures.bounds c.word_end-in-110.ensures.within)
    ended.end ended.kept

pub append_value-returns-in-110-clause-same : goal.append_value-returns-in-110-clause-same
append_value-returns-in-110-clause-same t c =
    let text = c.args.text.now in
    let from = c.args.from in
    let found = c.word_end-in-110.result in
    let ended = c.ended_word-in-110.ensures in
    written.word_read text c.args.out.now c.args.kept from found c.ended_word-in-110.result c.requires.0
    (some_weaker found (λ end w. null_word text from end w) c.word_end-in-110.ensures.word) (written.word_bounds text from 4 found c.word_end-in-110.ensures.bounds c.word_end-in-110.ensures.within)
    ended.end ended.kept ended.ended

pub append_value-returns-in-48-to-57-clause-value : goal.append_value-returns-in-48-to-57-clause-value
append_value-returns-in-48-to-57-clause-value t c =
    let text = c.args.text.now in
    let from = c.args.from in
    let found = c.number_end.result in
    let ended = c.ended_word-in-48-to-57.ensures in
    written.word_written c.args.levels text c.args.out.now c.args.kept from found c.ended_word-in-48-to-57.result c.requires.0
    (some_weaker found (λ end n. number_value c.args.levels text from end n) c.number_end.ensures.number) (written.number_bounds text from found c.number_end.ensures.bounds) ended.end ended.kept

pub append_value-returns-in-48-to-57-clause-same : goal.append_value-returns-in-48-to-57-clause-same
append_value-returns-in-48-to-57-clause-same t c =
    let text = c.args.text.now in
    let from = c.args.from in
    let found = c.number_end.result in
    let ended = c.ended_word-in-48-to-57.ensures in
    written.word_read text c.args.out.now c.args.kept from found c.ended_word-in-48-to-57.result c.requires.0
    (some_weaker found (λ end n. number_word text from end n) c.number_end.ensures.number) (written.number_bounds text from found c.number_end.ensures.bounds) ended.end ended.kept ended.ended

pub append_value-returns-in_default-clause-value : goal.append_value-returns-in_default-clause-value
append_value-returns-in_default-clause-value t c =
    let text = c.args.text.now in
    let from = c.args.from in
    let found = c.number_end-in_default.result in
    let ended = c.ended_word-in_default.ensures in
    written.word_written c.args.levels text c.args.out.now c.args.kept from found c.ended_word-in_default.result c.requires.0
    (some_weaker found (λ end n. number_value c.args.levels text from end n) c.number_end-in_default.ensures.number) (written.number_bounds text from found c.number_end-in_default.ensures.bounds) ended.end ended.kept

pub append_value-returns-in_default-clause-same : goal.append_value-returns-in_default-clause-same
append_value-returns-in_default-clause-same t c =
    let text = c.args.text.now in
    let from = c.args.from in
    let found = c.number_end-in_default.result in
    let ended = c.ended_word-in_default.ensures in
    written.word_read text c.args.out.now c.args.kept from found c.ended_word-in_default.result c.requires.0
    (some_weaker found (λ end n. number_word text from end n) c.number_end-in_default.ensures.number) (written.number_bounds text from found c.number_end-in_default.ensures.bounds) ended.end ended.kept ended.ended
