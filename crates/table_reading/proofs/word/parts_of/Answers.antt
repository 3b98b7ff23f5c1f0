use Rattle.std.proofs.Common.{◌≡◌, ◌≢◌, ◌==◌, ℕ, ◌<◌, List, length, get_or, true, false, arith, lit<, Some, None}
use Rattle.std.proofs.lemmas.Bool.Decides.{nat_tests}
use Rattle.std.proofs.lemmas.Grind.{common_steps}
use Rattle.std.proofs.lemmas.List.Sums.{position_or_len_is}
use Rattle.std.proofs.lemmas.Str.Pattern.{find_char}
use Rattle.std.specs.List.{position_or_len}
use Rattle.table_reading.proofs.word.parts_of.Goals as goal

differs : (a b : ℕ) → a ≢ b → (a == b) ≡ false
differs a b h = grind (arith, nat_tests)

same : (a b : ℕ) → a ≡ b → (a == b) ≡ true
same a b h = grind (arith, nat_tests)

first_at : (s : List ℕ) (i : ℕ) → i < length s → get_or s i 0 ≡ 47 → ((k : ℕ) → k < i → get_or s k 0 ≢ 47) → position_or_len (λ b. b == 47) s ≡ i
first_at s i within here before = position_or_len_is (λ b. b == 47) s i 0 (omega arith) (λ k h. differs (get_or s k 0) 47 (before k h)) (λ h. same (get_or s i 0) 47 here)

nowhere : (s : List ℕ) → ((k : ℕ) → k < length s → get_or s k 0 ≢ 47) → position_or_len (λ b. b == 47) s ≡ length s
nowhere s none = position_or_len_is (λ b. b == 47) s (length s) 0 (omega arith) (λ k h. differs (get_or s k 0) 47 (none k h)) (λ h. absurd (omega arith))

pub returns-in-Some-clause-name : goal.returns-in-Some-clause-name
returns-in-Some-clause-name c =
    let (within, here, before) = find_char 47 c.args.text.now (Some c.in-Some.place) c.in-Some.ensures.cases (lit< tt) in
    rw (first_at c.args.text.now c.in-Some.place within here before) c.split_at.ensures.front

pub returns-in-Some-clause-pointer : goal.returns-in-Some-clause-pointer
returns-in-Some-clause-pointer c =
    let (within, here, before) = find_char 47 c.args.text.now (Some c.in-Some.place) c.in-Some.ensures.cases (lit< tt) in
    rw (first_at c.args.text.now c.in-Some.place within here before) c.split_at.ensures.back

pub returns-in-None-clause-name : goal.returns-in-None-clause-name
returns-in-None-clause-name c =
    rw (nowhere c.args.text.now (find_char 47 c.args.text.now None c.in-None.ensures.cases (lit< tt))) (grind (arith, common_steps))

pub returns-in-None-clause-pointer : goal.returns-in-None-clause-pointer
returns-in-None-clause-pointer c =
    rw (nowhere c.args.text.now (find_char 47 c.args.text.now None c.in-None.ensures.cases (lit< tt))) (grind (arith, common_steps))
