use Rattle.std.proofs.Common.{◌≡◌, ◌-◌, ℕ, List, false, sym, ap, ◌∙◌, subst, arith, rules}
use Rattle.std.specs.BTreeMap.{is_at}
use Rattle.std.specs.Map.{lookup}
use Rattle.std.specs.Ordering.{nat_cmp}
use Rattle.conversation_rules.specs.Runs.{AreRuns, has_number, with_number}
use Rattle.conversation_ids.specs.Next.{next_run, put}
use Rattle.conversation_ids.proofs.Running.{puts, with-runs}
use Rattle.conversation_ids.proofs.runs.Runs.insert.Goals as goal

pub invariant_of-self-2 : goal.invariant_of-self-2
invariant_of-self-2 c =
    let n : ℕ = c.args.number in
    let es : List (ℕ × ℕ) = c.self.inside.firsts.entries in
    let missing : has_number n es ≡ false = ap (has_number n) c.self.view_is ∙ c.requires.missing in
    let before : c.copied-before.result ≡ lookup (is_at (nat_cmp (n - 1))) es = search rules in
    let next : c.last_behind-next.result ≡ next_run n es = c.last_behind-next.ensures ∙ ap (next_run n) (sym c.self.view_is) in
    let entries : c.put.new.firsts.entries ≡ with_number n es =
    c.in_ok-put.ensures.ok ∙ ap (λ b. put n b c.last_behind-next.result es) before ∙ ap (λ x. put n (lookup (is_at (nat_cmp (n - 1))) es) x es) next ∙ puts 0 n es c.requires.positive c.self.invariant missing in
    subst (AreRuns 0) (sym entries) (with-runs 0 n es (omega arith) c.self.invariant missing)

pub returns-clause-ok : goal.returns-clause-ok
returns-clause-ok c =
    let n : ℕ = c.args.number in
    let es : List (ℕ × ℕ) = c.self.inside.firsts.entries in
    let missing : has_number n es ≡ false = ap (has_number n) c.self.view_is ∙ c.requires.missing in
    let before : c.copied-before.result ≡ lookup (is_at (nat_cmp (n - 1))) es = search rules in
    let next : c.last_behind-next.result ≡ next_run n es = c.last_behind-next.ensures ∙ ap (next_run n) (sym c.self.view_is) in
    c.in_ok-put.ensures.ok ∙ ap (λ b. put n b c.last_behind-next.result es) before ∙ ap (λ x. put n (lookup (is_at (nat_cmp (n - 1))) es) x es) next ∙ puts 0 n es c.requires.positive c.self.invariant missing
    ∙ ap (with_number n) c.self.view_is
