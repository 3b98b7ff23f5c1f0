-- The ring's end stays the same.
use Rattle.std.proofs.Common.{refl, ◌∙◌}
use Rattle.rtrb.specs.Ring.{SameConsumer}
use Rattle.rtrb.specs.declared.consumer.Consumer.{Consumer}

module _ {T A P : Type 0} where
  pub same-ring : (c : Consumer T A P) → SameConsumer c c
  same-ring c = ((refl, refl, refl, refl), refl)

  pub same-on : (a b c : Consumer T A P) → SameConsumer a b → SameConsumer b c → SameConsumer a c
  same-on a b c first next = (
    (next.0.0 ∙ first.0.0, next.0.1 ∙ first.0.1, next.0.2 ∙ first.0.2, next.0.3 ∙ first.0.3),
    next.1 ∙ first.1,
  )
