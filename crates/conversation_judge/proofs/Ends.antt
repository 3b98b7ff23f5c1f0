-- Two lists side by side, and where one of them has ended.
use Rattle.std.proofs.Common.{◌≡◌, ℕ, zero, suc, ◌≤◌, List, [], ◌∷◌, ◌++◌, Option, refl, sym, ap, ◌∙◌, drop, length, append_assoc, append-nil, arith}
use Rattle.std.specs.Prelude.{min}
use Rattle.std.proofs.Math.Seq.{drop-nil}
use Rattle.conversation_judge.specs.Said.{array_found, found_with}
use Rattle.conversation_reading.specs.declared.entry.WrittenId.{WrittenId}
use Rattle.conversation_rules.specs.Answers.{Each, taken_findings, array_findings, each_of}
use Rattle.conversation_rules.specs.declared.finding.Finding.{Finding}
use Rattle.conversation_rules.specs.declared.finding.Message.{Message}
use Rattle.conversation_rules.specs.declared.found.Fit.{Fit}
use Rattle.conversation_rules.specs.declared.protocol.Protocol.{Protocol}
use Rattle.conversation_rules.specs.declared.reply.Reply.{Reply}
use Rattle.conversation_rules.specs.declared.reply.Sight.{Sight}

module _ (protocol : Protocol) (sight : Sight) (message : Message) where
  each_of-none : (replies : List Reply) (each : Each) → each_of protocol sight message replies [] each ≡ each
  each_of-none [] each = refl
  each_of-none (reply ∷ replies) each = refl

  pub each_end : (replies : List Reply) (ids : List (Option WrittenId)) (at : ℕ) (each : Each) → min (length replies) (length ids) ≤ at → each_of protocol sight message (drop at replies) (drop at ids) each ≡ each
  each_end [] ids at each h = ap (λ rs. each_of protocol sight message rs (drop at ids) each) (drop-nil at)
  each_end (reply ∷ replies) [] at each h = ap (λ is. each_of protocol sight message (drop at (reply ∷ replies)) is each) (drop-nil at) ∙ each_of-none (drop at (reply ∷ replies)) each
  each_end (reply ∷ replies) (id ∷ ids) zero each h = absurd (let f : min (suc (length replies)) (suc (length ids)) ≤ 0 = h in omega (arith, f))
  each_end (reply ∷ replies) (id ∷ ids) (suc at) each h = each_end replies ids at each (let f : min (suc (length replies)) (suc (length ids)) ≤ suc at = h in omega (arith, f))

  array_found-none : (replies : List Reply) (found : List Finding) → array_found protocol sight message replies [] found ≡ found
  array_found-none [] found = refl
  array_found-none (reply ∷ replies) found = refl

  pub found_end : (replies : List Reply) (fits : List (Option Fit)) (at : ℕ) (found : List Finding) → min (length replies) (length fits) ≤ at → array_found protocol sight message (drop at replies) (drop at fits) found ≡ found
  found_end [] fits at found h = ap (λ rs. array_found protocol sight message rs (drop at fits) found) (drop-nil at)
  found_end (reply ∷ replies) [] at found h = ap (λ fs. array_found protocol sight message (drop at (reply ∷ replies)) fs found) (drop-nil at) ∙ array_found-none (drop at (reply ∷ replies)) found
  found_end (reply ∷ replies) (fit ∷ fits) zero found h = absurd (let f : min (suc (length replies)) (suc (length fits)) ≤ 0 = h in omega (arith, f))
  found_end (reply ∷ replies) (fit ∷ fits) (suc at) found h = found_end replies fits at found (let f : min (suc (length replies)) (suc (length fits)) ≤ suc at = h in omega (arith, f))

  pub array_found-is : (replies : List Reply) (fits : List (Option Fit)) (found : List Finding) → array_found protocol sight message replies fits found ≡ found ++ array_findings protocol sight message replies fits
  unfolding found_with
  array_found-is [] fits found = sym (append-nil found)
  array_found-is (reply ∷ replies) [] found = sym (append-nil found)
  array_found-is (reply ∷ replies) (fit ∷ fits) found =
      let one = taken_findings protocol sight message reply fit in
      array_found-is replies fits (found ++ one) ∙ append_assoc found one (array_findings protocol sight message replies fits)
