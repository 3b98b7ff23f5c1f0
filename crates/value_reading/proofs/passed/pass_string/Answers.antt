use Rattle.std.proofs.Common.{◌-◌, ◌++◌, take, drop, refl, sym, ◌∙◌}
use Rattle.std.proofs.lemmas.Result.{on_ok_weaker}
use Rattle.value_reading.proofs.Quoted.{plain_lexed, run_bytes, rest_behind, string_lexed}
use Rattle.value_reading.proofs.passed.pass_string.Goals as goal

pub returns-then-byte_at-eq34-clause-string : goal.returns-then-byte_at-eq34-clause-string
returns-then-byte_at-eq34-clause-string c =
    let text = c.args.text.now in
    let at = c.open.new.at in
    let end = c.in_ok-end.end in
    let s = take (end - at) (drop at text) in
    let opened = c.in_ok-end.ensures in
    (s, plain_lexed text s c.args.at.now at end opened.opens opened.stop (sym c.byte_at.ensures ∙ c.if-byte_at-eq34.true) refl)

pub returns-clause-string : goal.returns-clause-string
returns-clause-string c =
    let text = c.args.text.now in
    let from = c.args.at.now in
    let at = c.open.new.at in
    let mid = c.in_ok-end.end in
    let end = c.pass_rest.new.at in
    let opened = c.in_ok-end.ensures in
    let s = take (mid - at) (drop at text) in
    on_ok_weaker c.pass_rest.result
    (λ rest. (s ++ rest.0, string_lexed text (s ++ rest.0) from at end opened.opens (rest_behind text s rest.0 at mid end (run_bytes text at mid opened.stop) rest.1)))
    c.pass_rest.ensures.string
