use Rattle.std.proofs.Common.{◌≡◌, ◌+◌, ◌-◌, take, drop, get_or, length, sym, ap, ◌∙◌, arith}
use Rattle.std.proofs.lemmas.Str.{IsCharBoundary-after_ascii}
use Rattle.json.specs.Print.{quoted}
use Rattle.connection_messages.proofs.Quoted.{plain_within}
use Rattle.connection_messages.proofs.read.compact.plain.Goals as goal

pub range-requires-clause-start_boundary : goal.range-requires-clause-start_boundary
range-requires-clause-start_boundary c some =
    let text = c.args.part.now in
    let same : c.as_bytes-bytes.result.now ≡ text = c.as_bytes-bytes.ensures.value in
    let first : get_or text 0 0 ≡ 34 = ap (λ t. get_or t 0 0) (sym same) ∙ c.if-bytes-ne34.false in
    let size = ap length same in
    IsCharBoundary-after_ascii text 0 c.utf8.part (omega (arith, size, c.if-bytes-lt2.false)) (omega (arith, first))

pub returns : goal.returns
returns c =
    let bytes = c.as_bytes-bytes.result.now in
    let same : bytes ≡ c.args.part.now = c.as_bytes-bytes.ensures.value in
    let last = length bytes - 1 in
    let inside : last ≡ 1 + _ = sym c.if-plain_end-last.false ∙ c.plain_end.ensures.value in
    sym same ∙ plain_within bytes last c.if-bytes-ne34.false c.if-bytes-last-ne34.false (omega (arith, c.if-bytes-lt2.false)) inside
    ∙ ap (λ t. quoted (take (last - 1) (drop 1 t))) same ∙ ap quoted (sym c.range.ensures.value)
