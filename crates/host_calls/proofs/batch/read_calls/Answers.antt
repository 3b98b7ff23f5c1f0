-- Each turn reads one call more.
use Rattle.std.proofs.Common.{◌≡◌, List, [], ◌∷◌, ◌++◌, Bool, if◌then◌else◌, refl, sym, ap, ◌∙◌, subst}
use Rattle.std.proofs.lemmas.List.{append-nil}
use Rattle.connection_messages.specs.declared.outgoing.Outgoing.{Outgoing}
use Rattle.host_calls.specs.Batches.{parts, AreOutgoings}
use Rattle.host_calls.proofs.Cutting.{Made, parts-short, parts-next, made-none, made-one, made-all}
use Rattle.host_calls.proofs.batch.read_calls.Goals as goal

pub loop-method-init : goal.loop-method-init
loop-method-init c =
    let all = parts c.args.bytes.now c.args.lengths.now in let texts = c.if-not-are_texts.ensures.0 refl in
    let Made_so : List Outgoing → Type 0 = λ made. Made all all made in
    (texts, subst Made_so (sym c.new-outgoings.ensures.items) (made-none all texts))

pub loop-method-preserved : goal.loop-method-preserved
loop-method-preserved c =
    let all = parts c.args.bytes.now c.args.lengths.now in
    let rest = c.loop-method.rest.now in let left = c.loop-method.left.now in let part = c.cut-part.result in let behind = parts part.behind.now c.in-Some.behind.now in
    let made = c.loop-method.outgoings.items in let it = c.in_ok-outgoing.outgoing in
    let pushed : c.push.new.self.items ≡ made ++ it ∷ [] = c.push.ensures.items ∙ ap (λ (b : Bool). if b then made ++ it ∷ [] else made) c.if-is_err.ensures.negation in
    let Made_so : List Outgoing → Type 0 = λ made. Made all behind made in (
      c.loop-method.invariant.0,
      subst Made_so (sym pushed) (made-one all (parts rest left) behind (part.name.now, part.text.now) made it c.loop-method.invariant.1
          (parts-next rest left c.in-Some.behind.now part.name.now part.text.now part.behind.now c.in-Some.method c.in-Some.params
          c.in-Some.ensures c.cut-part.ensures.name c.cut-part.ensures.text c.cut-part.ensures.behind)
          c.in_ok-outgoing.ensures.ok),
    )

pub returns-clause-ok : goal.returns-clause-ok
returns-clause-ok c =
    let all = parts c.args.bytes.now c.args.lengths.now in let rest = c.loop-method.rest.now in let left = c.loop-method.left.now in let made = c.loop-method.outgoings.items in
    let Are_so : List Outgoing → Type 0 = λ os. AreOutgoings all os in
    subst Are_so (append-nil made) (made-all all (parts rest left) made c.loop-method.invariant.1 (parts-short rest left c.in_default.ensures))
