-- What a judge has seen, said by numbers.
use Rattle.std.proofs.Common.{◌≡◌, ℕ, List, [], ◌∷◌, ◌++◌, Bool, true, false, Option, Some, Ok, option_map, refl, subst}
use Rattle.std.specs.Prelude.{option_and_then}
use Rattle.content_streams.specs.declared.ending.HowEnded.{HowEnded}
use Rattle.content_streams.specs.declared.framing.Framing.{Framing}
use Rattle.conversation_judge.specs.Judged.{Judged, Stands, with_seen}
use Rattle.conversation_judge.specs.Said.{ended_as}
use Rattle.conversation_rules.specs.Judging.{Seen, Wrote}
use Rattle.conversation_rules.specs.declared.finding.Finding.{Finding}
use Rattle.conversation_rules.specs.declared.finding.Limits.{Limits}
use Rattle.conversation_rules.specs.declared.protocol.Protocol.{Protocol}
use Rattle.conversation_rules.specs.declared.side.Side.{Side}
use Rattle.judge_calls.specs.Seeing.{Sees, HasSeen, side_of, how_of, wrote_by, ended_by}

-- what the calls of a judge say where they see something
abbrev pub KeepsStanding : Judged → Judged → Seen → Type 0
KeepsStanding a b it = (protocol : Protocol) (framing : Framing) (limits : Limits) (seen : List Seen) (told : List Finding)
    → Stands protocol framing limits a seen told → Stands protocol framing limits b (seen ++ it ∷ []) told

goes_on : (stopped : Bool) → (stopped ≡ true → false ≡ true) → stopped ≡ false
goes_on true never = absurd (let e : false ≡ true = never refl in cc)
goes_on false never = refl

pub sees : (a b : Judged) (it : Seen) → b ≡ with_seen it a → KeepsStanding a b it → (a.is_stopped ≡ true → false ≡ true) → Sees a b it
sees a b it is stands never = (goes_on a.is_stopped never, is, stands)

module _ (a b : Judged) where
  pub wrote : (n : ℕ) (bytes : List ℕ) (side : Side) → Some side ≡ side_of n → Sees a b (Wrote side bytes) → HasSeen a b (wrote_by n bytes) (Ok tt)
  wrote n bytes side is seen = subst (λ (o : Option Side). HasSeen a b (option_map (λ side. Wrote side bytes) o) (Ok tt)) is seen

  pub ended : (n m : ℕ) (side : Side) (how : HowEnded) → Some side ≡ side_of n → Some how ≡ how_of m → Sees a b (ended_as side how) → HasSeen a b (ended_by n m) (Ok tt)
  ended n m side how is how_is seen =
      subst (λ (o : Option Side). HasSeen a b (option_and_then (λ side. option_map (ended_as side) (how_of m)) o) (Ok tt)) is
      (subst (λ (o : Option HowEnded). HasSeen a b (option_map (ended_as side) o) (Ok tt)) how_is seen)
