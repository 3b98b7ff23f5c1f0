use Rattle.std.proofs.Common.{◌≡◌, ◌+◌, [], ◌∷◌, ◌++◌, length, length-append, map, cond, subst, sym, ap, ap₂, ◌∙◌, arith}
use Rattle.std.proofs.lemmas.List.{map-append}
use Rattle.json.specs.Lex.{token, comma, operator_lexeme}
use Rattle.json.specs.Token as tokens
use Rattle.serde_json.specs.Data.{object, no_items}
use Rattle.serde_json.specs.Read.{max_depth}
use Rattle.rpc_messages.specs.Entry.{entry_seen, entry_of}
use Rattle.value_reading.specs.Lexed.{Lexed}
use Rattle.value_reading.proofs.Elements.{elements_before}
use Rattle.value_reading.proofs.Lexemes.{no_blanks}
use Rattle.value_reading.proofs.Placed.{no_items_behind, item_behind, items_over, array_read}
use Rattle.rpc_messages.proofs.Elements.{entries_of-all}
use Rattle.rpc_messages.proofs.read.direct.read_entries.Goals as goal

pub loop-at-init : goal.loop-at-init
loop-at-init c =
    let text = c.args.text.now in
    let from = c.pass.new.at in
    let opened = c.in_ok-pass.ensures in
    let bounds = opened.bounds in
    let above = bounds.0 in
    (omega (arith, above), from, [], opened.byte, no_items_behind 126 text from from (no_blanks text from), ap (map entry_seen) c.new-entries.ensures.items)

pub returns-then-branch : goal.returns-then-branch
returns-then-branch c =
    let text = c.args.text.now in
    let at = c.args.at.now in
    let l = c.loop-at in
    let stop = c.read_entry.new.at in
    let end = c.is_over.new.at in
    let from = l.invariant.1 in
    let ds = l.invariant.2 in
    let e = c.in_ok-entry.entry in
    let done = c.in_ok-entry.ensures.entry in
    let d = object done.0 in
    let over = c.in_ok-is_over.ensures in
    let bracket : Lexed text stop (token tokens.end_array ∷ []) end = subst (λ b. Lexed text stop (operator_lexeme (cond b 93 44) ∷ []) end) c.if-branch.true over.byte in
    let all = elements_before (ds ++ d ∷ []) no_items in
    let read = items_over 126 text from l.at stop end ds d done.1 over.ends bracket l.invariant.4 in
    let pushed = c.in_ok-push.ensures.items in
    let size : length c.push.new.self.items ≡ length l.entries.items + 1 = ap length pushed ∙ length-append l.entries.items (e ∷ []) in (
      all,
      array_read max_depth text at from end all (omega arith) l.invariant.3 read,
      ap (map entry_seen) pushed ∙ map-append entry_seen l.entries.items (e ∷ [])
          ∙ ap₂ (λ xs ys. xs ++ ys) l.invariant.5 (ap (λ e. e ∷ []) done.2) ∙ sym (map-append entry_of ds (d ∷ [])) ∙ entries_of-all (ds ++ d ∷ []),
      omega (arith, size),
    )

pub loop-at-preserved : goal.loop-at-preserved
loop-at-preserved c =
    let text = c.args.text.now in
    let l = c.loop-at in
    let stop = c.read_entry.new.at in
    let next = c.is_over.new.at in
    let from = l.invariant.1 in
    let ds = l.invariant.2 in
    let e = c.in_ok-entry.entry in
    let done = c.in_ok-entry.ensures.entry in
    let d = object done.0 in
    let over = c.in_ok-is_over.ensures in
    let comma_there : Lexed text stop (comma ∷ []) next = subst (λ b. Lexed text stop (operator_lexeme (cond b 93 44) ∷ []) next) c.if-branch.false over.byte in
    let before = l.invariant.0 in
    let bounds = c.in_ok-entry.ensures.bounds in
    let passed = over.bounds in
    let less = bounds.0 in
    let lesser = passed.0 in (
      omega (arith, before, less, lesser),
      from,
      ds ++ d ∷ [],
      l.invariant.3,
      item_behind 126 text from l.at stop next ds d done.1 over.ends comma_there l.invariant.4,
      ap (map entry_seen) c.in_ok-push.ensures.items ∙ map-append entry_seen l.entries.items (e ∷ [])
          ∙ ap₂ (λ xs ys. xs ++ ys) l.invariant.5 (ap (λ e. e ∷ []) done.2) ∙ sym (map-append entry_of ds (d ∷ [])),
    )
