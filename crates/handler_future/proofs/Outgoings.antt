-- A list of calls made one after the other.
use Rattle.std.proofs.Common.{◌≡◌, List, [], ◌∷◌, ◌++◌, Result, Ok, Err, refl, ap, sym, ◌∙◌, append_assoc, append-nil}
use Rattle.serde_json.specs.Data.{Members}
use Rattle.rpc_messages.specs.declared.outgoing.Outgoing.{Outgoing}
use Rattle.message_ids.specs.declared.standard.Standard.{Standard}
use Rattle.method_templates.specs.declared.step.ListedCall.{ListedCall}
use Rattle.handler_future.specs.Act.{outgoing_of, outgoings_of}
use Rattle.handler_future.specs.Results.{and_then}

-- these calls, and then those of the list's rest
abbrev pub beside : List Outgoing → Result (List Outgoing) Standard → Result (List Outgoing) Standard
beside os (Ok ps) = Ok (os ++ ps)
beside os (Err s) = Err s

pub record MadeBefore (registers : Members) (list : List ListedCall) (os : List Outgoing) (rest : List ListedCall) : Type 0 where
  pub made : outgoings_of registers list ≡ beside os (outgoings_of registers rest)

beside-more : (os : List Outgoing) (o : Outgoing) (r : Result (List Outgoing) Standard) → beside os (and_then r (λ ps. Ok (o ∷ ps))) ≡ beside (os ++ o ∷ []) r
beside-more os o (Ok ps) = ap Ok (sym (append_assoc os (o ∷ []) ps))
beside-more os o (Err s) = refl

pub made_none : (registers : Members) (list : List ListedCall) → MadeBefore registers list [] list
made_none registers list = record { made = none (outgoings_of registers list) }
  where
    none : (r : Result (List Outgoing) Standard) → r ≡ beside [] r
    none (Ok ps) = refl
    none (Err s) = refl

pub made_more : (registers : Members) (list : List ListedCall) (os : List Outgoing) (c : ListedCall) (rest : List ListedCall) (o : Outgoing) → MadeBefore registers list os (c ∷ rest)
    → outgoing_of registers c.method c.params ≡ Ok o → MadeBefore registers list (os ++ o ∷ []) rest
made_more registers list os c rest o before made =
    record { made = before.made ∙ ap (λ r. beside os (and_then r (λ p. and_then (outgoings_of registers rest) (λ ps. Ok (p ∷ ps))))) made ∙ beside-more os o (outgoings_of registers rest) }

pub made_fault : (registers : Members) (list : List ListedCall) (os : List Outgoing) (c : ListedCall) (rest : List ListedCall) (s : Standard) → MadeBefore registers list os (c ∷ rest)
    → outgoing_of registers c.method c.params ≡ Err s → outgoings_of registers list ≡ Err s
made_fault registers list os c rest s before made =
    before.made ∙ ap (λ r. beside os (and_then r (λ p. and_then (outgoings_of registers rest) (λ ps. Ok (p ∷ ps))))) made

pub made_all : (registers : Members) (list : List ListedCall) (os : List Outgoing) → MadeBefore registers list os [] → outgoings_of registers list ≡ Ok os
made_all registers list os before = before.made ∙ ap Ok (append-nil os)
