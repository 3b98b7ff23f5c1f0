use Rattle.std.proofs.Common.{◌≡◌, ap, sym, ◌∙◌}
use Rattle.std.specs.Prelude.{◌==◌}
use Rattle.std.specs.Int.{w64, to_le_bytes}
use Rattle.std.specs.List.{starts_with}
use Rattle.json_texts.proofs.Begun.{begins_both, stands_both, whole_rest}
use Rattle.json_texts.proofs.words.begins.Goals as goal

pub returns-then-found-wanted-clause-value : goal.returns-then-found-wanted-clause-value
returns-then-found-wanted-clause-value g c =
    let text = c.args.text.now in
    let first = c.args.first.now in
    let same : c.in-Some.there.now ≡ first = sym c.eight-found.ensures ∙ ap (to_le_bytes w64) c.if-found-wanted.true ∙ c.eight-wanted.ensures in
    c.follows.ensures.value ∙ ap (λ rest. starts_with ◌==◌ rest c.args.others.now) (whole_rest text 8)
    ∙ begins_both text first c.args.others.now 8 c.told-first (sym c.in-Some.ensures.cases.same ∙ same)

pub returns-then-found-wanted-clause-stands : goal.returns-then-found-wanted-clause-stands
returns-then-found-wanted-clause-stands g c = λ is.
    let first = c.args.first.now in
    let same : c.in-Some.there.now ≡ first = sym c.eight-found.ensures ∙ ap (to_le_bytes w64) c.if-found-wanted.true ∙ c.eight-wanted.ensures in
    stands_both c.args.text.now first c.args.others.now 8 (sym c.in-Some.ensures.cases.same ∙ same) (c.follows.ensures.stands is)
