-- A number that is noted under marks, or forgotten.
use Rattle.std.proofs.Common.{◌≡◌, ◌<◌, ◌+◌, ℕ, length, drop, get_or, drop-cons, add-one, ◌==◌, ◌&&◌, ◌||◌, Bool, true, false, not, if◌then◌else◌, List, ◌∷◌, Result, Ok, Err, OnOk, OnErr, refl, ap, sym, subst, ◌∙◌, eq-eqb}
use Rattle.std.proofs.lemmas.Bool.{eqb-true}
use Rattle.std.specs.List.{list_any}
use Rattle.conversation_contents.specs.Numbers.{has_number, Keeps}
use Rattle.conversation_open.specs.Marked.{IsSameButUnder, IsWithout, StandsUnder}
use Rattle.conversation_contents.specs.declared.numbers_by_mark.NumbersByMark.{NumbersByMark}
use Rattle.conversation_ids.specs.OwedMarks.{unreadable_mark, huge_mark, batch_mark, content_has}
use Rattle.conversation_rules.specs.Owed.{Owed, Due}

pub and_no : (a : Bool) → (a && false) ≡ false
and_no true = refl
and_no false = refl

-- ---- one mark

hit : (a b : ℕ) (was : Bool) → (if (a == a) && (b == b) then true else was) ≡ true
hit a b was = ap (λ x. if x && (b == b) then true else was) (eq-eqb a a refl) ∙ ap (λ y. if y then true else was) (eq-eqb b b refl)

kept : (b was : Bool) → was ≡ true → (if b then true else was) ≡ true
kept true was is = refl
kept false was is = is

missed : (mark number was : Bool) → (number && mark) ≡ false → (if mark && number then true else was) ≡ was
missed true true was is = absurd (let e : true ≡ false = is in cc)
missed true false was is = refl
missed false number was is = refl

module _ (new old : NumbersByMark) (mark number : ℕ) (noted : (m n : ℕ) → has_number new m n ≡ (if (mark == m) && (number == n) then true else has_number old m n)) where
  pub noted_here : StandsUnder (λ m. mark == m) number new
  noted_here m is = subst (λ k. has_number new k number ≡ true) (eqb-true mark m is) (noted mark number ∙ hit mark number (has_number old mark number))

  pub noted_kept : Keeps new old
  noted_kept m n there = noted m n ∙ kept ((mark == m) && (number == n)) (has_number old m n) there

  pub noted_others : IsSameButUnder (λ m. mark == m) number new old
  noted_others m n other = noted m n ∙ missed (mark == m) (number == n) (has_number old m n) other

-- where it has that
pub either : {X E P Q R : Type 0} (r : Result X E) → OnOk r P → OnErr r Q → (P → R) → (Q → R) → R
either (Ok x) ok err f g = f ok
either (Err e) ok err f g = g err

under_flag : (a b c : Bool) → b ≡ true → (a && (b && c)) ≡ false → (a && c) ≡ false
under_flag a true c is none = none
under_flag a false c is none = absurd (let e : false ≡ true = is in cc)

module _ {E : Type 0} (r : Result Unit E) (new old : NumbersByMark) (holds : Bool) (mark number : ℕ) (is : holds ≡ true)
    (ok : OnOk r ((m n : ℕ) → has_number new m n ≡ (if (mark == m) && (number == n) then true else has_number old m n))) (err : OnErr r ((m n : ℕ) → has_number new m n ≡ has_number old m n)) where
  pub flag_noted : OnOk r (StandsUnder (λ m. holds && mark == m) number new)
  flag_noted = from r ok
    where
      from : (r : Result Unit E) → OnOk r ((m n : ℕ) → has_number new m n ≡ (if (mark == m) && (number == n) then true else has_number old m n)) → OnOk r (StandsUnder (λ m. holds && mark == m) number new)
      from (Ok x) noted = λ m both. noted_here new old mark number noted m (second holds (mark == m) both)
        where
          second : (a b : Bool) → (a && b) ≡ true → b ≡ true
          second true b both = both
          second false b both = cc
      from (Err e) none = tt

  pub flag_kept : Keeps new old
  flag_kept = either r ok err (noted_kept new old mark number) (λ same m n there. same m n ∙ there)

  pub flag_others : IsSameButUnder (λ m. holds && mark == m) number new old
  flag_others = λ m n none. either r ok err (λ noted. noted_others new old mark number noted m n (under_flag (number == n) holds (mark == m) is none)) (λ same. same m n)

pub no_flag : (marks : NumbersByMark) (holds : Bool) (mark number : ℕ) → holds ≡ false → StandsUnder (λ m. holds && mark == m) number marks
no_flag marks holds mark number isnt = λ m both. absurd (let e : false ≡ true = sym (ap (λ h. h && (mark == m)) isnt) ∙ both in cc)

gone : (mark number was : Bool) → (if mark && number then false else was) ≡ (was && not (number && mark))
gone true true true = refl
gone true true false = refl
gone true false true = refl
gone true false false = refl
gone false true true = refl
gone false true false = refl
gone false false true = refl
gone false false false = refl

pub forgotten : (new old : NumbersByMark) (mark number : ℕ) (is_of : ℕ → Bool) → ((m n : ℕ) → has_number new m n ≡ (if (mark == m) && (number == n) then false else has_number old m n)) →
    ((m : ℕ) → (mark == m) ≡ is_of m) → IsWithout is_of number new old
forgotten new old mark number is_of is same = λ m n.
    is m n ∙ gone (mark == m) (number == n) (has_number old m n) ∙ ap (λ b. has_number old m n && not ((number == n) && b)) (same m)

-- as far as no other has this mark
pub unless_left : (mark : ℕ) (left : ℕ → Bool) → left mark ≡ false → (m : ℕ) → (mark == m) ≡ ((mark == m) && not (left m))
unless_left mark left none m = from (mark == m) refl
  where
    from : (b : Bool) → (mark == m) ≡ b → b ≡ (b && not (left m))
    from true is = sym (ap not (sym (ap left (eqb-true mark m is)) ∙ none))
    from false is = refl

pub left_there : (mark : ℕ) (left : ℕ → Bool) → left mark ≡ true → (m : ℕ) → ((mark == m) && not (left m)) ≡ false
left_there mark left there m = from (mark == m) refl
  where
    from : (b : Bool) → (mark == m) ≡ b → (b && not (left m)) ≡ false
    from true is = ap not (sym (ap left (eqb-true mark m is)) ∙ there)
    from false is = refl

-- ---- none, and several

stays : (was number : Bool) → was ≡ (was && not (number && false))
stays true true = refl
stays true false = refl
stays false number = refl

pub without_none : (marks : NumbersByMark) (number : ℕ) (is_of : ℕ → Bool) → ((m : ℕ) → is_of m ≡ false) → IsWithout is_of number marks marks
without_none marks number is_of none = λ m n. stays (has_number marks m n) (number == n) ∙ ap (λ b. has_number marks m n && not ((number == n) && b)) (sym (none m))

pub both_gone : (was n a b : Bool) → ((was && not (n && a)) && not (n && b)) ≡ (was && not (n && (a || b)))
both_gone true true true b = refl
both_gone true true false b = refl
both_gone true false a b = refl
both_gone false n a b = refl

pub without_both : (new mid old : NumbersByMark) (number : ℕ) (a b : ℕ → Bool) → IsWithout a number mid old → IsWithout b number new mid → IsWithout (λ m. a m || b m) number new old
without_both new mid old number a b first second = λ m n.
    second m n ∙ ap (λ x. x && not ((number == n) && b m)) (first m n) ∙ both_gone (has_number old m n) (number == n) (a m) (b m)

pub without_same : (new old : NumbersByMark) (number : ℕ) (a b : ℕ → Bool) → ((m : ℕ) → a m ≡ b m) → IsWithout a number new old → IsWithout b number new old
without_same new old number a b same is = λ m n. is m n ∙ ap (λ x. has_number old m n && not ((number == n) && x)) (same m)

-- ---- a content and its entries

flag_same : (r a : Bool) (k j m : ℕ) → r ≡ a → k ≡ j → (r && (k == m)) ≡ (a && (j == m))
flag_same r a k j m flag mark = ap (λ x. x && (k == m)) flag ∙ ap (λ x. a && (x == m)) mark

pub without_content : (last second first old : NumbersByMark) (number : ℕ) (due : Due) (unreadable huge batch : Bool) (i j k : ℕ) → unreadable ≡ due.is_unreadable → huge ≡ due.has_huge → batch ≡ due.is_batch →
    i ≡ unreadable_mark → j ≡ huge_mark → k ≡ batch_mark →
    IsWithout (λ m. unreadable && i == m) number first old → IsWithout (λ m. huge && j == m) number second first → IsWithout (λ m. batch && k == m) number last second →
    IsWithout (λ mark. content_has mark due) number last old
without_content last second first old number due unreadable huge batch i j k is_unreadable has_huge is_batch i_is j_is k_is one two three =
    without_both last first old number (λ m. due.is_unreadable && unreadable_mark == m) (λ m. (due.has_huge && huge_mark == m) || (due.is_batch && batch_mark == m))
    (without_same first old number (λ m. unreadable && i == m) (λ m. due.is_unreadable && unreadable_mark == m) (λ m. flag_same unreadable due.is_unreadable i unreadable_mark m is_unreadable i_is) one)
    (without_both last second first number (λ m. due.has_huge && huge_mark == m) (λ m. due.is_batch && batch_mark == m)
    (without_same second first number (λ m. huge && j == m) (λ m. due.has_huge && huge_mark == m) (λ m. flag_same huge due.has_huge j huge_mark m has_huge j_is) two)
    (without_same last second number (λ m. batch && k == m) (λ m. due.is_batch && batch_mark == m) (λ m. flag_same batch due.is_batch k batch_mark m is_batch k_is) three))

pub drop_here : {X : Type 0} (xs : List X) (i : ℕ) (x : X) → i < length xs → x ≡ get_or xs i x → drop i xs ≡ x ∷ drop (i + 1) xs
drop_here xs i x lt is = rw (drop-cons xs i x lt, add-one, ← is)

pub entries_gone : (is_of : ℕ → Owed → Bool) (entry : ℕ → Bool) (new old : NumbersByMark) (number : ℕ) (entries rest : List Owed) (owed : Owed) (all : ℕ → ℕ → Bool) → entries ≡ owed ∷ rest → ((mark : ℕ) → entry mark ≡ is_of mark owed) →
    IsWithout entry number new old → ((mark n : ℕ) → (has_number old mark n && not ((number == n) && list_any (is_of mark) entries)) ≡ all mark n) →
    (mark n : ℕ) → (has_number new mark n && not ((number == n) && list_any (is_of mark) rest)) ≡ all mark n
entries_gone is_of entry new old number entries rest owed all is same gone before = λ mark n.
    ap (λ b. b && not ((number == n) && list_any (is_of mark) rest)) (gone mark n)
    ∙ both_gone (has_number old mark n) (number == n) (entry mark) (list_any (is_of mark) rest)
    ∙ ap (λ b. has_number old mark n && not ((number == n) && (b || list_any (is_of mark) rest))) (same mark)
    ∙ ap (λ es. has_number old mark n && not ((number == n) && list_any (is_of mark) es)) (sym is)
    ∙ before mark n
