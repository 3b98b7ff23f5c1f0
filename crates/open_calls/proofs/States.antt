-- The state that is seen after a change.
use Rattle.std.proofs.Common.{◌≡◌, ap, ◌∙◌}

-- what a function gives of what the fields are seen as, it gives of the state
pub through : {A : Type 0} (change : A → A) (new inside state : A) → inside ≡ state → new ≡ change inside → new ≡ change state
through change new inside state seen is = is ∙ ap change seen
