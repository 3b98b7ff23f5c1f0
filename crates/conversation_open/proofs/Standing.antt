-- Contents that stand under their marks, after a change.
use Rattle.std.proofs.Common.{◌≡◌, ℕ, ◌==◌, ◌&&◌, ◌||◌, Bool, true, false, not, cond, List, [], ◌∷◌, ◌++◌, Option, Some, None, refl, ap, sym, subst, ◌∙◌, eq-eqb, option_map}
use Rattle.std.specs.Option.{option_map_or}
use Rattle.std.proofs.lemmas.Bool.{eqb-true}
use Rattle.number_windows.specs.Numbered.{at, without, changed_at}
use Rattle.number_windows.proofs.Numbered.{unchanged}
use Rattle.number_windows.proofs.Rows.{at_come, at_gone, at_replaced}
use Rattle.conversation_contents.specs.Numbers.{has_number, Keeps}
use Rattle.conversation_open.specs.Marked.{IsSameButUnder, IsWithout, StandsUnder}
use Rattle.conversation_open.proofs.Noting.{and_no}
use Rattle.conversation_open.specs.Open.{StandAs}
use Rattle.conversation_open.specs.Within.{StandWithin}
use Rattle.conversation_contents.specs.declared.numbers_by_mark.NumbersByMark.{NumbersByMark}
use Rattle.conversation_rules.specs.Owed.{Due}

-- ---- contents change at one number

pub stands_at : (has : ℕ → Due → Bool) (new old : NumbersByMark) (now was : List (ℕ × Due)) (number : ℕ) (here : Option Due) → StandAs has old was →
    ((k : ℕ) → at k now ≡ cond (number == k) here (at k was)) → ((mark : ℕ) → has_number new mark number ≡ option_map_or (has mark) here false) →
    ((mark k : ℕ) → (number == k) ≡ false → has_number new mark k ≡ has_number old mark k) → StandAs has new now
stands_at has new old now was number here stood changes is_here elsewhere = λ mark k. from mark k (number == k) refl ∙ ap (λ o. option_map_or (has mark) o false) (sym (changes k))
  where
    from : (mark k : ℕ) (b : Bool) → (number == k) ≡ b → has_number new mark k ≡ option_map_or (has mark) (cond b here (at k was)) false
    from mark k true same = subst (λ n. has_number new mark n ≡ option_map_or (has mark) here false) (eqb-true number k same) (is_here mark)
    from mark k false other = elsewhere mark k other ∙ stood mark k

-- where it stood already
pub at_changed : (now was : List (ℕ × Due)) (number : ℕ) (f : Due → Due) → now ≡ changed_at number f was → (k : ℕ) → at k now ≡ cond (number == k) (option_map f (at number was)) (at k was)
at_changed now was number f is = from (at number was) refl
  where
    missing : (k : ℕ) (b : Bool) → at number was ≡ None → (number == k) ≡ b → at k was ≡ cond b None (at k was)
    missing k true none same = ap (λ n. at n was) (sym (eqb-true number k same)) ∙ none
    missing k false none apart = refl

    from : (o : Option Due) → at number was ≡ o → (k : ℕ) → at k now ≡ cond (number == k) (option_map f o) (at k was)
    from (Some due) there = at_replaced number f due was now is there
    from None none = λ k. ap (at k) (is ∙ sym (unchanged number f was none)) ∙ missing k (number == k) none refl

-- ---- a content comes or goes

noted : (new old same both : Bool) → (both ≡ true → new ≡ true) → (both ≡ false → new ≡ old) → new ≡ (old || both)
noted new true same true is isnt = is refl
noted new false same true is isnt = is refl
noted new true same false is isnt = isnt refl
noted new false same false is isnt = isnt refl

-- each is noted, and nothing else
pub all_noted : (new old : NumbersByMark) (number : ℕ) (is_of : ℕ → Bool) → StandsUnder is_of number new → IsSameButUnder is_of number new old →
    (mark n : ℕ) → has_number new mark n ≡ (has_number old mark n || ((number == n) && is_of mark))
all_noted new old number is_of stands others = λ mark n. noted (has_number new mark n) (has_number old mark n) (number == n) ((number == n) && is_of mark) (there mark n) (others mark n)
  where
    there : (mark n : ℕ) → ((number == n) && is_of mark) ≡ true → has_number new mark n ≡ true
    there mark n is = from (number == n) refl is
      where
        from : (b : Bool) → (number == n) ≡ b → (b && is_of mark) ≡ true → has_number new mark n ≡ true
        from true same holds = subst (λ k. has_number new mark k ≡ true) (eqb-true number n same) (stands mark holds)
        from false other holds = absurd (let e : false ≡ true = holds in cc)

here_by : (old is_of same : Bool) → same ≡ true → old ≡ false → (old || (same && is_of)) ≡ is_of
here_by true is_of same is none = absurd (let e : true ≡ false = none in cc)
here_by false is_of true is none = refl
here_by false is_of false is none = absurd (let e : false ≡ true = is in cc)

and_yes : (a : Bool) → (a && true) ≡ a
and_yes true = refl
and_yes false = refl

module _ (has : ℕ → Due → Bool) (new old : NumbersByMark) (now was : List (ℕ × Due)) (number : ℕ) (stood : StandAs has old was) where
  pub stands_come : (due : Due) (is_of : ℕ → Bool) → now ≡ was ++ (number, due) ∷ [] → at number was ≡ None → ((mark : ℕ) → is_of mark ≡ has mark due) →
      StandsUnder is_of number new → IsSameButUnder is_of number new old → StandAs has new now
  stands_come due is_of is none same stands others =
      let all = all_noted new old number is_of stands others in
      stands_at has new old now was number (Some due) stood (at_come number due was now is none)
      (λ mark. all mark number
      ∙ here_by (has_number old mark number) (is_of mark) (number == number) (eq-eqb number number refl) (stood mark number ∙ ap (λ o. option_map_or (has mark) o false) none)
      ∙ same mark)
      (λ mark k apart. others mark k (ap (λ b. b && is_of mark) apart))

  pub stands_gone : (due : Due) → now ≡ without number was → at number was ≡ Some due → IsWithout (λ mark. has mark due) number new old → StandAs has new now
  stands_gone due is there gone =
      stands_at has new old now was number None stood (at_gone number was now is)
      (λ mark. gone mark number ∙ ap (λ b. has_number old mark number && not (b && has mark due)) (eq-eqb number number refl)
      ∙ ap (λ b. b && not (has mark due)) (stood mark number ∙ ap (λ o. option_map_or (has mark) o false) there) ∙ neither (has mark due))
      (λ mark k apart. gone mark k ∙ ap (λ b. has_number old mark k && not (b && has mark due)) apart ∙ and_yes (has_number old mark k))
    where
      neither : (b : Bool) → (b && not b) ≡ false
      neither true = refl
      neither false = refl

-- none went
pub stands_less : (has : ℕ → Due → Bool) (marks : NumbersByMark) (now was : List (ℕ × Due)) (number : ℕ) → StandAs has marks was → now ≡ without number was → at number was ≡ None → StandAs has marks now
stands_less has marks now was number stood is none =
    stands_at has marks marks now was number None stood (at_gone number was now is) (λ mark. stood mark number ∙ ap (λ o. option_map_or (has mark) o false) none) (λ mark k apart. refl)

-- what was noted is taken back
pub taken_back : (has : ℕ → Due → Bool) (new mid old : NumbersByMark) (was : List (ℕ × Due)) (number : ℕ) (is_of gone : ℕ → Bool) → StandAs has old was → at number was ≡ None →
    ((mark : ℕ) → is_of mark ≡ true → gone mark ≡ true) → IsSameButUnder is_of number mid old → IsWithout gone number new mid → StandAs has new was
taken_back has new mid old was number is_of gone stood none within others without = λ mark n.
    without mark n ∙ from mark n (number == n) refl (gone mark) refl
  where
    hidden : (mark n : ℕ) (b : Bool) → gone mark ≡ false → is_of mark ≡ b → ((number == n) && b) ≡ false
    hidden mark n true isnt is = absurd (let e : true ≡ false = sym (within mark is) ∙ isnt in cc)
    hidden mark n false isnt is = and_no (number == n)

    from : (mark n : ℕ) (same : Bool) → (number == n) ≡ same → (g : Bool) → gone mark ≡ g → (has_number mid mark n && not (same && g)) ≡ option_map_or (has mark) (at n was) false
    from mark n true same true is =
        and_no (has_number mid mark n) ∙ sym (ap (λ o. option_map_or (has mark) o false) (ap (λ k. at k was) (sym (eqb-true number n same)) ∙ none))
    from mark n true same false is =
        and_yes (has_number mid mark n) ∙ others mark n (hidden mark n (is_of mark) is refl) ∙ stood mark n
    from mark n false other g is = and_yes (has_number mid mark n) ∙ others mark n (ap (λ b. b && is_of mark) other) ∙ stood mark n

-- ---- one is changed

module _ (is_one : Due → Bool) (has : ℕ → Due → Bool) (is_of : ℕ → Bool) (number : ℕ) where
  abbrev one_has : ℕ → Due → Bool
  one_has mark due = is_one due && has mark due

  abbrev stand : ℕ → Option Due → Bool
  stand mark content = option_map_or (one_has mark) content false

  abbrev may : Bool → ℕ → Option Due → Bool
  may same mark content = option_map_or (λ due. is_one due && (has mark due || (same && is_of mark))) content false

  -- one more entry
  more_of : (old one has_it same of_it : Bool) → same ≡ true → old ≡ (one && has_it) → (old || (same && (one && of_it))) ≡ (one && (has_it || of_it))
  more_of old true true same of_it is so = ap (λ b. b || (same && of_it)) so
  more_of old true false same of_it is so = ap (λ b. b || (same && of_it)) so ∙ ap (λ b. b && of_it) is
  more_of old false has_it true of_it is so = ap (λ b. b || false) so
  more_of old false has_it false of_it is so = ap (λ b. b || false) so

  pub stands_more : (new old : NumbersByMark) (now was : List (ℕ × Due)) (f : Due → Due) (due : Due) (b : Bool) → StandAs one_has old was → now ≡ changed_at number f was → at number was ≡ Some due →
      b ≡ is_one due → is_one due ≡ is_one (f due) → ((mark : ℕ) → (has mark due || is_of mark) ≡ has mark (f due)) →
      StandsUnder (λ mark. b && is_of mark) number new → IsSameButUnder (λ mark. b && is_of mark) number new old → StandAs one_has new now
  stands_more new old now was f due b stood is there kind stays more stands others =
      let all = all_noted new old number (λ mark. b && is_of mark) stands others in
      stands_at one_has new old now was number (Some (f due)) stood (at_replaced number f due was now is there)
      (λ mark. all mark number ∙ ap (λ k. has_number old mark number || ((number == number) && (k && is_of mark))) kind
      ∙ more_of (has_number old mark number) (is_one due) (has mark due) (number == number) (is_of mark) (eq-eqb number number refl) (stood mark number ∙ ap (stand mark) there)
      ∙ ap (λ k. k && (has mark due || is_of mark)) stays ∙ ap (λ k. is_one (f due) && k) (more mark))
      (λ mark k apart. others mark k (ap (λ same. same && (b && is_of mark)) apart))

  -- ---- and may stand under more

  wider : (a b c : Bool) → (a && b) ≡ true → (a && (b || c)) ≡ true
  wider true true c is = refl
  wider true false c is = absurd (let e : false ≡ true = is in cc)
  wider false b c is = is

  exact : (mark : ℕ) (o : Option Due) (same x : Bool) → x ≡ stand mark o →
      (stand mark o ≡ true → x ≡ true) × (x ≡ true → may same mark o ≡ true)
  exact mark None same x is = (λ holds. is ∙ holds, λ there. sym is ∙ there)
  exact mark (Some d) same x is = (λ holds. is ∙ holds, λ there. wider (is_one d) (has mark d) (same && is_of mark) (sym is ∙ there))

  between : (mark : ℕ) (o : Option Due) (x : Bool) →
      (stand mark o ≡ true → x ≡ true) × (x ≡ true → may false mark o ≡ true) → x ≡ stand mark o
  between mark None true both = sym (both.1 refl)
  between mark None false both = refl
  between mark (Some d) x both = from x (is_one d) (has mark d) both
    where
      from : (x a b : Bool) → ((a && b) ≡ true → x ≡ true) × (x ≡ true → (a && (b || false)) ≡ true) → x ≡ (a && b)
      from x true true both = both.0 refl
      from true true false both = sym (both.1 refl)
      from false true false both = refl
      from true false b both = sym (both.1 refl)
      from false false b both = refl

  left : (x a b c : Bool) → ((a && b) ≡ true → x ≡ true) → (x ≡ true → (a && (b || c)) ≡ true) → (x && not (a && (c && not b))) ≡ (a && b)
  left x true true true low high = ap (λ y. y && true) (low refl)
  left x true true false low high = ap (λ y. y && true) (low refl)
  left true true false true low high = refl
  left false true false true low high = refl
  left true true false false low high = sym (high refl)
  left false true false false low high = refl
  left true false b c low high = sym (high refl)
  left false false b c low high = refl

  -- what it has lost is forgotten
  pub stands_left : (new old : NumbersByMark) (es : List (ℕ × Due)) (due : Due) → StandWithin is_one has is_of number old es → at number es ≡ Some due →
      IsWithout (λ mark. is_one due && (is_of mark && not (has mark due))) number new old → StandAs one_has new es
  stands_left new old es due within there gone = λ mark n. gone mark n ∙ from mark n (number == n) refl (within mark n)
    where
      from : (mark n : ℕ) (same : Bool) → (number == n) ≡ same →
          (stand mark (at n es) ≡ true → has_number old mark n ≡ true)
          × (has_number old mark n ≡ true → may (number == n) mark (at n es) ≡ true) →
          (has_number old mark n && not (same && (is_one due && (is_of mark && not (has mark due))))) ≡ stand mark (at n es)
      from mark n true same both =
          let here : at n es ≡ Some due = ap (λ k. at k es) (sym (eqb-true number n same)) ∙ there in
          left (has_number old mark n) (is_one due) (has mark due) (is_of mark)
          (λ holds. both.0 (ap (stand mark) here ∙ holds))
          (λ holds. sym (ap (λ b. is_one due && (has mark due || (b && is_of mark))) same) ∙ sym (ap (may (number == n) mark) here) ∙ both.1 holds)
          ∙ sym (ap (stand mark) here)
      from mark n false other both =
          and_yes (has_number old mark n)
          ∙ between mark (at n es) (has_number old mark n)
          (both.0, λ holds. sym (ap (λ b. may b mark (at n es)) other) ∙ both.1 holds)

  pub stands_none : (marks : NumbersByMark) (es : List (ℕ × Due)) → StandWithin is_one has is_of number marks es → at number es ≡ None → StandAs one_has marks es
  stands_none marks es within none = λ mark n. between mark (at n es) (has_number marks mark n) ((within mark n).0, λ holds. from mark n (number == n) refl ((within mark n).1 holds))
    where
      from : (mark n : ℕ) (same : Bool) → (number == n) ≡ same → may (number == n) mark (at n es) ≡ true →
          may false mark (at n es) ≡ true
      from mark n true same holds =
          let here : at n es ≡ None = ap (λ k. at k es) (sym (eqb-true number n same)) ∙ none in
          absurd (let e : false ≡ true = sym (ap (may (number == n) mark) here) ∙ holds in cc)
      from mark n false other holds = sym (ap (λ b. may b mark (at n es)) other) ∙ holds

  -- noted, if at all
  pub within_noted : (new old : NumbersByMark) (es : List (ℕ × Due)) (due : Due) (b : Bool) → StandAs one_has old es → at number es ≡ Some due → b ≡ is_one due →
      Keeps new old → IsSameButUnder (λ mark. b && is_of mark) number new old → StandWithin is_one has is_of number new es
  within_noted new old es due b stood there kind kept others = λ mark n. (λ holds. kept mark n (stood mark n ∙ holds), λ holds. from mark n (number == n) refl holds)
    where
      here : (same a h o : Bool) → same ≡ true → (same && (a && o)) ≡ true → (a && (h || (same && o))) ≡ true
      here true true true o is both = refl
      here true true false o is both = both
      here true false h o is both = both
      here false a h o is both = absurd (let e : false ≡ true = is in cc)

      same_as : (mark n : ℕ) (hidden : ((number == n) && (b && is_of mark)) ≡ false) → has_number new mark n ≡ true → may (number == n) mark (at n es) ≡ true
      same_as mark n hidden = (exact mark (at n es) (number == n) (has_number new mark n) (others mark n hidden ∙ stood mark n)).1

      from : (mark n : ℕ) (same : Bool) → (number == n) ≡ same → has_number new mark n ≡ true → may (number == n) mark (at n es) ≡ true
      from mark n true same holds = by ((number == n) && (b && is_of mark)) refl
        where
          by : (both : Bool) → ((number == n) && (b && is_of mark)) ≡ both → may (number == n) mark (at n es) ≡ true
          by true both =
              ap (may (number == n) mark) (ap (λ k. at k es) (sym (eqb-true number n same)) ∙ there)
              ∙ here (number == n) (is_one due) (has mark due) (is_of mark) same (sym (ap (λ k. (number == n) && (k && is_of mark)) kind) ∙ both)
          by false both = same_as mark n both holds
      from mark n false other holds = same_as mark n (ap (λ same. same && (b && is_of mark)) other) holds

  -- a change takes no marks but these, and brings none
  pub within_changed : (marks : NumbersByMark) (now was : List (ℕ × Due)) (f : Due → Due) → StandAs one_has marks was → now ≡ changed_at number f was →
      ((due : Due) → at number was ≡ Some due → (is_one due ≡ is_one (f due)) × ((mark : ℕ) → (has mark (f due) ≡ true → has mark due ≡ true) × (has mark due ≡ true → (has mark (f due) || is_of mark) ≡ true))) →
      StandWithin is_one has is_of number marks now
  within_changed marks now was f stood is changes = λ mark n.
      subst (λ o. (stand mark o ≡ true → has_number marks mark n ≡ true)
      × (has_number marks mark n ≡ true → may (number == n) mark o ≡ true))
      (sym (at_changed now was number f is n)) (from mark n (number == n) refl)
    where
      at_one : (mark : ℕ) (x a c h g : Bool) → a ≡ c → x ≡ (a && h) → (g ≡ true → h ≡ true) → (h ≡ true → (g || is_of mark) ≡ true) → ((c && g) ≡ true → x ≡ true) × (x ≡ true → (c && (g || is_of mark)) ≡ true)
      at_one mark x a true h g kind so low high = (λ holds. so ∙ ap (λ b. b && h) kind ∙ low holds, λ there. high (sym (so ∙ ap (λ b. b && h) kind) ∙ there))
      at_one mark x a false h g kind so low high = (λ holds. absurd (let e : false ≡ true = holds in cc), λ there. sym (so ∙ ap (λ b. b && h) kind) ∙ there)

      changed : (mark n : ℕ) (o : Option Due) → at number was ≡ o → at n was ≡ o →
          (stand mark (option_map f o) ≡ true → has_number marks mark n ≡ true)
          × (has_number marks mark n ≡ true → may true mark (option_map f o) ≡ true)
      changed mark n None there here = (λ holds. absurd (let e : false ≡ true = holds in cc), λ holds. sym (stood mark n ∙ ap (stand mark) here) ∙ holds)
      changed mark n (Some due) there here =
          let change = changes due there in
          at_one mark (has_number marks mark n) (is_one due) (is_one (f due)) (has mark due) (has mark (f due)) change.0 (stood mark n ∙ ap (stand mark) here) (change.1 mark).0 (change.1 mark).1

      from : (mark n : ℕ) (same : Bool) → (number == n) ≡ same →
          (stand mark (cond same (option_map f (at number was)) (at n was)) ≡ true → has_number marks mark n ≡ true)
          × (has_number marks mark n ≡ true → may (number == n) mark (cond same (option_map f (at number was)) (at n was)) ≡ true)
      from mark n true same =
          let both = changed mark n (at number was) refl (ap (λ k. at k was) (sym (eqb-true number n same))) in
          (both.0, λ holds. ap (λ b. may b mark (option_map f (at number was))) same ∙ both.1 holds)
      from mark n false other = exact mark (at n was) (number == n) (has_number marks mark n) (stood mark n)
