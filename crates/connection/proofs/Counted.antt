-- The calls of a unit, one entry after another.
use Rattle.std.proofs.Common.{◌≡◌, ◌≤◌, ◌<◌, ℕ, ◌+◌, List, [], ◌∷◌, ◌++◌, take, length, get_or, sym, ap, ◌∙◌, append-nil, arith}
use Rattle.std.proofs.lemmas.List.{take_more}
use Rattle.connection_messages.specs.declared.entry.Entry.{Entry}
use Rattle.connection_messages.specs.declared.entry.Entry.TheVariants.{Call, Cancel, Reply, Stray, Invalid}
use Rattle.connection_history.specs.Stream.{call_in, calls_in}
use Rattle.connection_history.proofs.Streams.{length-calls_in-append}

pub calls_more : (es : List Entry) (n : ℕ) (e : Entry) → n < length es → e ≡ get_or es n e
    → length (calls_in (take (n + 1) es)) ≡ length (calls_in (take n es)) + length (call_in e)
calls_more es n e within is =
    ap (λ xs. length (calls_in xs)) (take_more es n e within ∙ ap (λ x. take n es ++ x ∷ []) (sym is))
    ∙ length-calls_in-append (take n es) (e ∷ []) ∙ ap (λ cs. length (calls_in (take n es)) + length cs) (append-nil (call_in e))

pub calls_few : (e : Entry) → length (call_in e) ≤ 1
calls_few (Call c) = omega arith
calls_few (Cancel id) = omega arith
calls_few (Reply k r) = omega arith
calls_few Stray = omega arith
calls_few Invalid = omega arith
