-- What is kept of what is asked: by what is owed, and by what may have been refused.
use Rattle.std.proofs.Common.{◌≡◌, ◌⊎◌, inl, inr, ◌==◌, ◌&&◌, not, ℕ, zero, suc, ◌+◌, ◌-◌, ◌^◌, ◌≤◌, ◌<◌, Bool, true, false, if◌then◌else◌, List, [], ◌∷◌, refl, ap, ◌∙◌, arith}
use Rattle.std.proofs.Math.Nat.{min-eq_left, min-eq_right}
use Rattle.std.proofs.lemmas.Bool.{cases_lt, eqb-true}
use Rattle.conversation_rules.specs.Speakers.{one_more, one_less}
use Rattle.conversation_rules.specs.declared.finding.Finding.{Finding}
use Rattle.conversation_rules.specs.declared.reply.Refusals.{Refusals}
use Rattle.our_side.specs.Asked.{Question, alone, together, by_array, under_null}
use Rattle.our_side.specs.Breaking.{is_note, is_of_answers}
use Rattle.our_side.specs.Expected.{NoneOf}
use Rattle.our_side.proofs.Walking.{Each}

-- ---- findings that accuse nobody

abbrev pub Mild : Finding → Type 0
Mild finding = (is_of_answers finding.rule && not (is_note finding.level)) ≡ false

pub mild_none : (fs : List Finding) → NoneOf is_of_answers fs → Each Mild fs
mild_none [] none = tt
mild_none (f ∷ fs) none = (ap (λ b. b && not (is_note f.level)) none.0, mild_none fs none.1)

-- ---- counts

-- so many arrays may be refused still, of which nothing is owed; and so many of what is open may have been
abbrev pub spare : Question → Refusals → ℕ
spare (alone id) r = 0
spare (together ids) r = 0
spare by_array r = 0
spare under_null r = r.unowed

abbrev pub gone : Question → Refusals → ℕ
gone (alone id) r = 0
gone (together ids) r = 0
gone by_array r = 0
gone under_null r = r.refused

-- the largest count stands for any number
abbrev pub IsMost : Question → Refusals → Type 0
IsMost (alone id) r = ⊥
IsMost (together ids) r = ⊥
IsMost by_array r = ⊥
IsMost under_null r = r.unowed ≡ 2 ^ 64 - 1

-- what is open is enough for what is asked
abbrev pub Enough : Question → Refusals → ℕ → ℕ → Type 0
Enough q r asked there = IsMost q r ⊎ (asked + gone q r ≤ there + spare q r)

-- so much is answered, or asked, between two moments
pub record Leaves (q : Question) (before after : Refusals) (was now answered : ℕ) : Type 0 where
  pub most : IsMost q before → IsMost q after
  pub left : IsMost q after ⊎ (was + spare q before + gone q after ≤ now + spare q after + gone q before + answered)

pub record Asks (q : Question) (before after : Refusals) (was now asked : ℕ) : Type 0 where
  pub most : IsMost q before → IsMost q after
  pub left : IsMost q after ⊎ (was + spare q before + asked + gone q after ≤ now + spare q after + gone q before)

module _ (q : Question) (before after : Refusals) (was now n : ℕ) where
  pub enough_left : (asked more : ℕ) → Leaves q before after was now n → Enough q before asked (was + more) → Enough q after asked (now + more + n)
  enough_left asked more it (inl most) = inl (it.most most)
  enough_left asked more it (inr le) = from it.left
    where
      from : IsMost q after ⊎ (was + spare q before + gone q after ≤ now + spare q after + gone q before + n) → Enough q after asked (now + more + n)
      from (inl most) = inl most
      from (inr less) = inr (omega (arith, le, less))

  pub enough_asked : (asked more : ℕ) → Asks q before after was now n → Enough q before asked (was + (n + more)) → Enough q after asked (now + more)
  enough_asked asked more it (inl most) = inl (it.most most)
  enough_asked asked more it (inr le) = from it.left
    where
      from : IsMost q after ⊎ (was + spare q before + n + gone q after ≤ now + spare q after + gone q before) → Enough q after asked (now + more)
      from (inl most) = inl most
      from (inr less) = inr (omega (arith, le, less))

-- less is enough for less
pub enough_less : (q : Question) (r : Refusals) (asked there less more : ℕ) → Enough q r asked there → less + there ≤ asked + more → Enough q r less more
enough_less q r asked there less more (inl most) le = inl most
enough_less q r asked there less more (inr enough) le = inr (omega (arith, enough, le))

-- nothing changed but what is open
pub same_left : (q : Question) (r : Refusals) (was now n : ℕ) → was ≤ now + n → Leaves q r r was now n
same_left q r was now n le = record { most = λ most. most; left = inr (omega (arith, le)) }

-- ---- one more, and one less

pub more_most : (n : ℕ) → n ≡ 2 ^ 64 - 1 → one_more n ≡ 2 ^ 64 - 1
more_most n is = ap one_more is

pub one_more_is : (n : ℕ) → (one_more n ≡ 2 ^ 64 - 1) ⊎ (one_more n ≡ n + 1)
one_more_is n = from (cases_lt (n + 1) (2 ^ 64 - 1))
  where
    from : ((n + 1) < (2 ^ 64 - 1)) ⊎ ((2 ^ 64 - 1) ≤ (n + 1)) → (one_more n ≡ 2 ^ 64 - 1) ⊎ (one_more n ≡ n + 1)
    from (inl lt) = inr (min-eq_left (omega (arith, lt)))
    from (inr le) = inl (min-eq_right le)

pub less_most : (n : ℕ) → n ≡ 2 ^ 64 - 1 → one_less n ≡ 2 ^ 64 - 1
less_most n is = ap one_less is

pub one_less_is : (n : ℕ) → not (n == 0) ≡ true → (one_less n ≡ 2 ^ 64 - 1) ⊎ (one_less n + 1 ≡ n)
one_less_is zero some = absurd (let no : false ≡ true = some in cc)
one_less_is (suc n) some = from (suc n == 2 ^ 64 - 1) refl
  where
    from : (b : Bool) → (suc n == 2 ^ 64 - 1) ≡ b → (one_less (suc n) ≡ 2 ^ 64 - 1) ⊎ (one_less (suc n) + 1 ≡ suc n)
    from true is = inl (less_most (suc n) (eqb-true (suc n) (2 ^ 64 - 1) is))
    from false is = inr (ap (λ b. (if b then suc n else suc n - 1) + 1) is ∙ (let same : suc n - 1 + 1 ≡ suc n = omega arith in same))
