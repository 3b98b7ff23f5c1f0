-- The index after a change, and what is next in it.
use Rattle.std.proofs.Common.{◌≡◌, ℕ, ◌<◌, ◌==◌, ◌&&◌, ◌||◌, Bool, true, false, not, List, [], ◌∷◌, ◌++◌, Option, Some, None, option_map, cond, refl, ap, sym, ◌∙◌, arith}
use Rattle.std.specs.Prelude.{MatchOption, option_and_then}
use Rattle.std.proofs.lemmas.Bool.{eqb-true}
use Rattle.std.specs.List.{list_any, slice_get}
use Rattle.std.specs.Option.{option_map_or}
use Rattle.number_windows.specs.Numbered.{at, without, changed_at}
use Rattle.conversation_ids.specs.Marks.{mark_of}
use Rattle.conversation_ids.specs.OwedMarks.{is_mark, marks_have, entry_has, content_has, due_has, request_has, uncancelled_has}
use Rattle.conversation_ids.specs.declared.entry_marks.EntryMarks.{EntryMarks}
use Rattle.conversation_open.specs.Marked.{has_among, set_of, earlier_of, of_kind, KeepsBoth, IsBothWithout, IsNotedAs, IsSameBothBut}
use Rattle.conversation_contents.specs.Numbers.{has_number}
use Rattle.conversation_open.specs.Open.{among_has, among_is_due, is_among, is_due_by, AreFixedBehind, AreFixedBetween, AreMarked, AreUncancelled, IsIndexed, IsNoneBetween, IsNoneBehind}
use Rattle.conversation_contents.specs.Settled.{and_owed, and_removed}
use Rattle.conversation_open.specs.Within.{AreMarkedWithin, IsIndexedWithin}
use Rattle.conversation_open.specs.declared.among.Among.{Among}
use Rattle.conversation_open.specs.declared.among.Among.TheVariants.{Singles, Batches, All}
use Rattle.conversation_open.specs.declared.index.Index.{Index}
use Rattle.conversation_open.specs.declared.marked_contents.MarkedContents.{MarkedContents}
use Rattle.conversation_open.specs.declared.marked_contents.Which.{Which}
use Rattle.conversation_open.specs.declared.marked_contents.Which.TheVariants.{Any, Uncancelled}
use Rattle.conversation_open.proofs.Noting.{and_no}
use Rattle.conversation_contents.proofs.Cases.{either_false}
use Rattle.conversation_open.proofs.Entries.{owed_marks, owed_requests, bare_marks, bare_requests, removed_none, removed_marks, removed_requests, cancelled_marks, cancelled_requests, lost_cancelled, uncancelled}
use Rattle.conversation_open.proofs.EachKind.{noted_singles, noted_batches, kept_singles, kept_batches, same_singles, same_batches, gone_singles, gone_batches}
use Rattle.conversation_open.proofs.Standing.{at_changed, stands_come, stands_gone, stands_less, stands_more, stands_left, stands_none, taken_back, within_noted, within_changed}
use Rattle.conversation_open.proofs.Uncancelled.{due_marked, due_uncancelled, fixed_by}
use Rattle.conversation_reading.specs.declared.entry.WrittenId.{WrittenId}
use Rattle.conversation_rules.specs.Dues.{cancelled_in}
use Rattle.conversation_rules.specs.Owed.{Owed, Due}

-- ---- what stands behind a number

abbrev which_has : Which → ℕ → Due → Bool
which_has Any = due_has
which_has Uncancelled = uncancelled_has

kind_has : (which : Which) (is_one : Due → Bool) (contents : MarkedContents) (entries : List (ℕ × Due)) (mark n : ℕ) (due : Due) → AreMarked is_one contents entries → at n entries ≡ Some due →
    has_number (set_of which contents) mark n ≡ (is_one due && which_has which mark due)
kind_has Any is_one contents entries mark n due marked there = marked.all mark n ∙ ap (λ o. option_map_or (λ d. is_one d && due_has mark d) o false) there
kind_has Uncancelled is_one contents entries mark n due marked there = marked.uncancelled mark n ∙ ap (λ o. option_map_or (λ d. is_one d && uncancelled_has mark d) o false) there

kinds : (single batch is_batch has : Bool) → single ≡ (not is_batch && has) → batch ≡ (is_batch && has) → (single || batch) ≡ false → has ≡ false
kinds single batch true has s b none = sym b ∙ (either_false single batch none).1
kinds single batch false has s b none = sym s ∙ (either_false single batch none).0

-- what no number stands under isn't there
module _ (index : Index) (entries : List (ℕ × Due)) (is : IsIndexed index entries) where
  none_among : (which : Which) (among : Among) (mark n : ℕ) (due : Due) → at n entries ≡ Some due → has_among among which index mark n ≡ false → (is_among among due && which_has which mark due) ≡ false
  none_among which Singles mark n due there none = sym (kind_has which (λ d. not d.is_batch) index.singles entries mark n due is.singles there) ∙ none
  none_among which Batches mark n due there none = sym (kind_has which (λ d. d.is_batch) index.batches entries mark n due is.batches there) ∙ none
  none_among which All mark n due there none =
      kinds (has_number (set_of which index.singles) mark n) (has_number (set_of which index.batches) mark n) due.is_batch (which_has which mark due)
      (kind_has which (λ d. not d.is_batch) index.singles entries mark n due is.singles there) (kind_has which (λ d. d.is_batch) index.batches entries mark n due is.batches there) none

-- so what is next is the first of which this may hold
found_in : (has : ℕ → Bool) (P : Due → Type 0) (entries : List (ℕ × Due)) (after : ℕ) (next : Option ℕ) → ((n : ℕ) (due : Due) → at n entries ≡ Some due → has n ≡ false → P due) →
    MatchOption next ((n : ℕ) → after < n → has n ≡ false) (λ number. (after < number) × ((n : ℕ) → after < n → n < number → has n ≡ false)) →
    MatchOption next ((n : ℕ) (due : Due) → after < n → at n entries ≡ Some due → P due) (λ number. (after < number) × ((n : ℕ) (due : Due) → after < n → n < number → at n entries ≡ Some due → P due))
found_in has P entries after None holds found = λ n due over there. holds n due there (found n over)
found_in has P entries after (Some number) holds found = (found.0, λ n due over under there. holds n due there (found.1 n over under))

among_by : (among : Among) (mark : ℕ) (due : Due) → (is_among among due && due_has mark due) ≡ false → among_has among mark due ≡ false
among_by Singles mark due none = none
among_by Batches mark due none = none
among_by All mark due none = none

due_by : (one has is_due : Bool) → (has ≡ false → is_due ≡ false) → (one && has) ≡ false → (one && is_due) ≡ false
due_by true has is_due fails none = fails none
due_by false has is_due fails none = refl

module _ (index : Index) (entries : List (ℕ × Due)) (is : IsIndexed index entries) where
  pub next_in : (among : Among) (mark after : ℕ) (next : Option ℕ) →
      MatchOption next ((n : ℕ) → after < n → has_among among Any index mark n ≡ false) (λ number. (after < number) × ((n : ℕ) → after < n → n < number → has_among among Any index mark n ≡ false)) →
      MatchOption next (IsNoneBehind (among_has among mark) after entries) (λ number. (after < number) × IsNoneBetween (among_has among mark) after number entries)
  next_in among mark after next found =
      found_in (has_among among Any index mark) (λ due. among_has among mark due ≡ false) entries after next
      (λ n due there none. among_by among mark due (none_among index entries is Any among mark n due there none)) found

  -- what must be answered
  pub next_due_in : (among : Among) (mark after : ℕ) (next : Option ℕ) →
      MatchOption next ((n : ℕ) → after < n → has_among among Any index mark n ≡ false) (λ number. (after < number) × ((n : ℕ) → after < n → n < number → has_among among Any index mark n ≡ false)) →
      MatchOption next (IsNoneBehind (among_is_due among mark) after entries) (λ number. (after < number) × IsNoneBetween (among_is_due among mark) after number entries)
  next_due_in among mark after next found =
      found_in (has_among among Any index mark) (λ due. among_is_due among mark due ≡ false) entries after next
      (λ n due there none. due_by (is_among among due) (due_has mark due) (list_any (is_due_by mark) due.entries) (due_marked mark due) (none_among index entries is Any among mark n due there none)) found

  pub next_due_uncancelled : (among : Among) (mark after : ℕ) (next : Option ℕ) → AreUncancelled entries →
      MatchOption next ((n : ℕ) → after < n → has_among among Uncancelled index mark n ≡ false) (λ number. (after < number) × ((n : ℕ) → after < n → n < number → has_among among Uncancelled index mark n ≡ false)) →
      MatchOption next (IsNoneBehind (among_is_due among mark) after entries) (λ number. (after < number) × IsNoneBetween (among_is_due among mark) after number entries)
  next_due_uncancelled among mark after next all found =
      found_in (has_among among Uncancelled index mark) (λ due. among_is_due among mark due ≡ false) entries after next
      (λ n due there none. due_by (is_among among due) (uncancelled_has mark due) (list_any (is_due_by mark) due.entries) (due_uncancelled mark due (all n due there))
      (none_among index entries is Uncancelled among mark n due there none)) found

  -- by a cancel they stay what they are
  pub next_cancelled : (id : WrittenId) (settles flag : Bool) (after : ℕ) (next : Option ℕ) → (settles && not flag) ≡ false → (flag ≡ true → AreUncancelled entries) →
      MatchOption next ((n : ℕ) → after < n → has_among All Uncancelled index (mark_of id) n ≡ false) (λ number. (after < number) × ((n : ℕ) → after < n → n < number → has_among All Uncancelled index (mark_of id) n ≡ false)) →
      MatchOption next (AreFixedBehind (cancelled_in settles id) after entries) (λ number. (after < number) × AreFixedBetween (cancelled_in settles id) after number entries)
  next_cancelled id settles flag after next not_all kept found =
      found_in (has_among All Uncancelled index (mark_of id)) (λ due. cancelled_in settles id due ≡ due) entries after next
      (λ n due there none. fixed_by settles flag id due not_all (λ on. kept on n due there) (none_among index entries is Uncancelled All (mark_of id) n due there none)) found

pub next_settled : (entries : List (ℕ × Due)) (id : WrittenId) (settles : Bool) (after : ℕ) (next : Option ℕ) →
    MatchOption next (IsNoneBehind (among_has All (mark_of id)) after entries) (λ number. (after < number) × IsNoneBetween (among_has All (mark_of id)) after number entries) →
    MatchOption next (AreFixedBehind (cancelled_in settles id) after entries) (λ number. (after < number) × AreFixedBetween (cancelled_in settles id) after number entries)
next_settled entries id settles after None found = λ n due over there. uncancelled settles id due (found n due over there)
next_settled entries id settles after (Some number) found = (found.0, λ n due over under there. uncancelled settles id due (found.1 n due over under there))

-- ---- the contents of a kind after a change

under : (a b c : Bool) → (b ≡ true → c ≡ true) → (a && b) ≡ true → (a && c) ≡ true
under true b c more is = more is
under false b c more is = is

module _ (is_one : Due → Bool) where
  -- a content comes
  come : (new old : MarkedContents) (now was : List (ℕ × Due)) (number : ℕ) (due : Due) → AreMarked is_one old was → now ≡ was ++ (number, due) ∷ [] → at number was ≡ None → due.entries ≡ [] →
      IsNotedAs (λ mark. is_one due && content_has mark due) (λ mark. is_one due && false) number new → IsSameBothBut (λ mark. is_one due && content_has mark due) (λ mark. is_one due && false) number new old → AreMarked is_one new now
  come new old now was number due marked is none bare noted others = record {
    all = stands_come (λ mark d. is_one d && due_has mark d) new.all old.all now was number marked.all due (λ mark. is_one due && content_has mark due) is none
        (λ mark. ap (λ b. is_one due && b) (bare_marks mark due bare)) noted.all others.all;
    uncancelled = stands_come (λ mark d. is_one d && uncancelled_has mark d) new.uncancelled old.uncancelled now was number marked.uncancelled due (λ mark. is_one due && false) is none
        (λ mark. ap (λ b. is_one due && b) (bare_requests mark due bare)) noted.uncancelled others.uncancelled;
  }

  -- and is taken back
  back : (new mid old : MarkedContents) (was : List (ℕ × Due)) (number : ℕ) (due : Due) → AreMarked is_one old was → at number was ≡ None → due.entries ≡ [] →
      IsSameBothBut (λ mark. is_one due && content_has mark due) (λ mark. is_one due && false) number mid old → IsBothWithout (λ mark. is_one due && due_has mark due) (λ mark. is_one due && uncancelled_has mark due) number new mid → AreMarked is_one new was
  back new mid old was number due marked none bare others without = record {
    all = taken_back (λ mark d. is_one d && due_has mark d) new.all mid.all old.all was number (λ mark. is_one due && content_has mark due) (λ mark. is_one due && due_has mark due) marked.all none
        (λ mark. under (is_one due) (content_has mark due) (due_has mark due) (λ is. sym (bare_marks mark due bare) ∙ is)) others.all without.all;
    uncancelled = taken_back (λ mark d. is_one d && uncancelled_has mark d) new.uncancelled mid.uncancelled old.uncancelled was number (λ mark. is_one due && false) (λ mark. is_one due && uncancelled_has mark due) marked.uncancelled none
        (λ mark is. absurd (let e : false ≡ true = sym (and_no (is_one due)) ∙ is in cc)) others.uncancelled without.uncancelled;
  }

  -- a content goes
  gone : (new old : MarkedContents) (now was : List (ℕ × Due)) (number : ℕ) (due : Due) → AreMarked is_one old was → now ≡ without number was → at number was ≡ Some due →
      IsBothWithout (λ mark. is_one due && due_has mark due) (λ mark. is_one due && uncancelled_has mark due) number new old → AreMarked is_one new now
  gone new old now was number due marked is there without = record {
    all = stands_gone (λ mark d. is_one d && due_has mark d) new.all old.all now was number marked.all due is there without.all;
    uncancelled = stands_gone (λ mark d. is_one d && uncancelled_has mark d) new.uncancelled old.uncancelled now was number marked.uncancelled due is there without.uncancelled;
  }

  less : (contents : MarkedContents) (now was : List (ℕ × Due)) (number : ℕ) → AreMarked is_one contents was → now ≡ without number was → at number was ≡ None → AreMarked is_one contents now
  less contents now was number marked is none = record {
    all = stands_less (λ mark d. is_one d && due_has mark d) contents.all now was number marked.all is none;
    uncancelled = stands_less (λ mark d. is_one d && uncancelled_has mark d) contents.uncancelled now was number marked.uncancelled is none;
  }

  -- none does
  same : (contents : MarkedContents) (now was : List (ℕ × Due)) → AreMarked is_one contents was → ((k : ℕ) → at k was ≡ at k now) → AreMarked is_one contents now
  same contents now was marked equal = record {
    all = λ mark k. marked.all mark k ∙ ap (λ o. option_map_or (λ d. is_one d && due_has mark d) o false) (equal k);
    uncancelled = λ mark k. marked.uncancelled mark k ∙ ap (λ o. option_map_or (λ d. is_one d && uncancelled_has mark d) o false) (equal k);
  }

  module _ (entry : EntryMarks) (number : ℕ) where
    -- an entry comes
    owe : (new old : MarkedContents) (now was : List (ℕ × Due)) (owed : Owed) (due : Due) (b : Bool) → ((mark : ℕ) → marks_have entry mark ≡ entry_has mark owed) → ((mark : ℕ) → is_mark entry.request mark ≡ request_has mark owed) →
        AreMarked is_one old was → now ≡ changed_at number (and_owed owed) was → at number was ≡ Some due → b ≡ is_one due → is_one due ≡ is_one (and_owed owed due) →
        IsNotedAs (λ mark. b && marks_have entry mark) (λ mark. b && is_mark entry.request mark) number new → IsSameBothBut (λ mark. b && marks_have entry mark) (λ mark. b && is_mark entry.request mark) number new old → AreMarked is_one new now
    owe new old now was owed due b has_entry has_request marked is there kind stays noted others = record {
      all = stands_more is_one due_has (marks_have entry) number new.all old.all now was (and_owed owed) due b marked.all is there kind stays
          (λ mark. ap (λ x. due_has mark due || x) (has_entry mark) ∙ owed_marks mark owed due) noted.all others.all;
      uncancelled = stands_more is_one uncancelled_has (is_mark entry.request) number new.uncancelled old.uncancelled now was (and_owed owed) due b marked.uncancelled is there kind stays
          (λ mark. ap (λ x. uncancelled_has mark due || x) (has_request mark) ∙ owed_requests mark owed due) noted.uncancelled others.uncancelled;
    }

    -- or was noted, and didn't come
    note : (new old : MarkedContents) (was : List (ℕ × Due)) (due : Due) (b : Bool) → AreMarked is_one old was → at number was ≡ Some due → b ≡ is_one due →
        KeepsBoth new old → IsSameBothBut (λ mark. b && marks_have entry mark) (λ mark. b && is_mark entry.request mark) number new old → AreMarkedWithin is_one entry number new was
    note new old was due b marked there kind kept others = record {
      all = within_noted is_one due_has (marks_have entry) number new.all old.all was due b marked.all there kind kept.all others.all;
      uncancelled = within_noted is_one uncancelled_has (is_mark entry.request) number new.uncancelled old.uncancelled was due b marked.uncancelled there kind kept.uncancelled others.uncancelled;
    }

    -- a content loses some of its marks
    change : (contents : MarkedContents) (now was : List (ℕ × Due)) (f : Due → Due) → AreMarked is_one contents was → now ≡ changed_at number f was → ((due : Due) → is_one due ≡ is_one (f due)) →
        ((due : Due) → at number was ≡ Some due → (mark : ℕ) → (due_has mark (f due) ≡ true → due_has mark due ≡ true) × (due_has mark due ≡ true → (due_has mark (f due) || marks_have entry mark) ≡ true)) →
        ((due : Due) → at number was ≡ Some due → (mark : ℕ) → (uncancelled_has mark (f due) ≡ true → uncancelled_has mark due ≡ true) × (uncancelled_has mark due ≡ true → (uncancelled_has mark (f due) || is_mark entry.request mark) ≡ true)) →
        AreMarkedWithin is_one entry number contents now
    change contents now was f marked is stays marks requests = record {
      all = within_changed is_one due_has (marks_have entry) number contents.all now was f marked.all is (λ d there. (stays d, marks d there));
      uncancelled = within_changed is_one uncancelled_has (is_mark entry.request) number contents.uncancelled now was f marked.uncancelled is (λ d there. (stays d, requests d there));
    }

    -- and is forgotten under these
    leave : (new old : MarkedContents) (now : List (ℕ × Due)) (due : Due) → AreMarkedWithin is_one entry number old now → at number now ≡ Some due →
        IsBothWithout (λ mark. is_one due && (marks_have entry mark && not (due_has mark due))) (λ mark. is_one due && (is_mark entry.request mark && not (uncancelled_has mark due))) number new old → AreMarked is_one new now
    leave new old now due within there without = record {
      all = stands_left is_one due_has (marks_have entry) number new.all old.all now due within.all there without.all;
      uncancelled = stands_left is_one uncancelled_has (is_mark entry.request) number new.uncancelled old.uncancelled now due within.uncancelled there without.uncancelled;
    }

    miss : (contents : MarkedContents) (now : List (ℕ × Due)) → AreMarkedWithin is_one entry number contents now → at number now ≡ None → AreMarked is_one contents now
    miss contents now within none = record {
      all = stands_none is_one due_has (marks_have entry) number contents.all now within.all none;
      uncancelled = stands_none is_one uncancelled_has (is_mark entry.request) number contents.uncancelled now within.uncancelled none;
    }

-- ---- the index after a change

abbrev single : Due → Bool
single due = not due.is_batch

abbrev batch : Due → Bool
batch due = due.is_batch

-- a content comes
pub indexed_come : (new old : Index) (now was : List (ℕ × Due)) (number : ℕ) (due : Due) → IsIndexed old was → now ≡ was ++ (number, due) ∷ [] → at number was ≡ None → due.entries ≡ [] →
    IsNotedAs (λ mark. content_has mark due) (λ mark. false) number (of_kind due.is_batch new) → IsSameBothBut (λ mark. content_has mark due) (λ mark. false) number (of_kind due.is_batch new) (of_kind due.is_batch old) →
    of_kind (not due.is_batch) new ≡ of_kind (not due.is_batch) old → IsIndexed new now
indexed_come new old now was number due index is none bare noted others other_kind = record {
  singles = come single new.singles old.singles now was number due index.singles is none bare (noted_singles due.is_batch (λ mark. content_has mark due) (λ mark. false) number new noted)
      (same_singles due.is_batch (λ mark. content_has mark due) (λ mark. false) number new old others other_kind);
  batches = come batch new.batches old.batches now was number due index.batches is none bare (noted_batches due.is_batch (λ mark. content_has mark due) (λ mark. false) number new noted)
      (same_batches due.is_batch (λ mark. content_has mark due) (λ mark. false) number new old others other_kind);
}

-- and is taken back
pub indexed_back : (new mid old : Index) (was : List (ℕ × Due)) (number : ℕ) (due : Due) → IsIndexed old was → at number was ≡ None → due.entries ≡ [] →
    IsSameBothBut (λ mark. content_has mark due) (λ mark. false) number (of_kind due.is_batch mid) (of_kind due.is_batch old) → of_kind (not due.is_batch) mid ≡ of_kind (not due.is_batch) old →
    IsBothWithout (λ mark. due_has mark due) (λ mark. uncancelled_has mark due) number (of_kind due.is_batch new) (of_kind due.is_batch mid) → of_kind (not due.is_batch) new ≡ of_kind (not due.is_batch) mid → IsIndexed new was
indexed_back new mid old was number due index none bare others noted_kind without other_kind = record {
  singles = back single new.singles mid.singles old.singles was number due index.singles none bare (same_singles due.is_batch (λ mark. content_has mark due) (λ mark. false) number mid old others noted_kind)
      (gone_singles due.is_batch (λ mark. due_has mark due) (λ mark. uncancelled_has mark due) number new mid without other_kind);
  batches = back batch new.batches mid.batches old.batches was number due index.batches none bare (same_batches due.is_batch (λ mark. content_has mark due) (λ mark. false) number mid old others noted_kind)
      (gone_batches due.is_batch (λ mark. due_has mark due) (λ mark. uncancelled_has mark due) number new mid without other_kind);
}

-- a content goes
pub indexed_gone : (new old : Index) (now was : List (ℕ × Due)) (number : ℕ) (due : Due) → IsIndexed old was → now ≡ without number was → at number was ≡ Some due →
    IsBothWithout (λ mark. due_has mark due) (λ mark. uncancelled_has mark due) number (of_kind due.is_batch new) (of_kind due.is_batch old) → of_kind (not due.is_batch) new ≡ of_kind (not due.is_batch) old → IsIndexed new now
indexed_gone new old now was number due index is there without other_kind = record {
  singles = gone single new.singles old.singles now was number due index.singles is there (gone_singles due.is_batch (λ mark. due_has mark due) (λ mark. uncancelled_has mark due) number new old without other_kind);
  batches = gone batch new.batches old.batches now was number due index.batches is there (gone_batches due.is_batch (λ mark. due_has mark due) (λ mark. uncancelled_has mark due) number new old without other_kind);
}

pub indexed_less : (index : Index) (now was : List (ℕ × Due)) (number : ℕ) → IsIndexed index was → now ≡ without number was → at number was ≡ None → IsIndexed index now
indexed_less index now was number indexed is none = record {
  singles = less single index.singles now was number indexed.singles is none;
  batches = less batch index.batches now was number indexed.batches is none;
}

-- an entry comes
module _ (entry : EntryMarks) (owed : Owed) (has_entry : (mark : ℕ) → marks_have entry mark ≡ entry_has mark owed) (has_request : (mark : ℕ) → is_mark entry.request mark ≡ request_has mark owed) where
  pub indexed_owed : (new old : Index) (now was : List (ℕ × Due)) (number : ℕ) (due : Due) (is_batch : Bool) → IsIndexed old was → now ≡ changed_at number (and_owed owed) was → at number was ≡ Some due → is_batch ≡ due.is_batch →
      IsNotedAs (marks_have entry) (is_mark entry.request) number (of_kind is_batch new) → IsSameBothBut (marks_have entry) (is_mark entry.request) number (of_kind is_batch new) (of_kind is_batch old) →
      of_kind (not is_batch) new ≡ of_kind (not is_batch) old → IsIndexed new now
  indexed_owed new old now was number due is_batch index is there kind noted others other_kind = record {
    singles = owe single entry number new.singles old.singles now was owed due (not is_batch) has_entry has_request index.singles is there (ap not kind) refl
        (noted_singles is_batch (marks_have entry) (is_mark entry.request) number new noted) (same_singles is_batch (marks_have entry) (is_mark entry.request) number new old others other_kind);
    batches = owe batch entry number new.batches old.batches now was owed due is_batch has_entry has_request index.batches is there kind refl
        (noted_batches is_batch (marks_have entry) (is_mark entry.request) number new noted) (same_batches is_batch (marks_have entry) (is_mark entry.request) number new old others other_kind);
  }

  -- an entry goes
  pub within_removed : (index : Index) (now was : List (ℕ × Due)) (number place : ℕ) → IsIndexed index was → now ≡ changed_at number (and_removed place) was → Some owed ≡ option_and_then (λ d. slice_get d.entries place) (at number was) →
      IsIndexedWithin entry number index now
  within_removed index now was number place indexed is got = record {
    singles = change single entry number index.singles now was (and_removed place) indexed.singles is (λ d. refl) marks requests;
    batches = change batch entry number index.batches now was (and_removed place) indexed.batches is (λ d. refl) marks requests;
  }
    where
      either : (all left gone of_it : Bool) → all ≡ (left || gone) → of_it ≡ gone → (left ≡ true → all ≡ true) × (all ≡ true → (left || of_it) ≡ true)
      either all true gone of_it is same = (λ holds. is, λ holds. refl)
      either all false gone of_it is same = (λ holds. absurd (let e : false ≡ true = holds in cc), λ holds. same ∙ sym is ∙ holds)

      taken : (d : Due) → at number was ≡ Some d → slice_get d.entries place ≡ Some owed
      taken d there = sym (got ∙ ap (option_and_then (λ x. slice_get x.entries place)) there)

      marks : (d : Due) → at number was ≡ Some d → (mark : ℕ) → (due_has mark (and_removed place d) ≡ true → due_has mark d ≡ true) × (due_has mark d ≡ true → (due_has mark (and_removed place d) || marks_have entry mark) ≡ true)
      marks d there mark = either (due_has mark d) (due_has mark (and_removed place d)) (entry_has mark owed) (marks_have entry mark) (removed_marks mark place d owed (taken d there)) (has_entry mark)

      requests : (d : Due) → at number was ≡ Some d → (mark : ℕ) → (uncancelled_has mark (and_removed place d) ≡ true → uncancelled_has mark d ≡ true) × (uncancelled_has mark d ≡ true → (uncancelled_has mark (and_removed place d) || is_mark entry.request mark) ≡ true)
      requests d there mark = either (uncancelled_has mark d) (uncancelled_has mark (and_removed place d)) (request_has mark owed) (is_mark entry.request mark) (removed_requests mark place d owed (taken d there)) (has_request mark)

-- none goes
pub indexed_same : (index : Index) (now was : List (ℕ × Due)) (number place : ℕ) → IsIndexed index was → now ≡ changed_at number (and_removed place) was → None ≡ option_and_then (λ d. slice_get d.entries place) (at number was) → IsIndexed index now
indexed_same index now was number place indexed is none = record {
  singles = same single index.singles now was indexed.singles equal;
  batches = same batch index.batches now was indexed.batches equal;
}
  where
    unchanged_by : (o : Option Due) → None ≡ option_and_then (λ d. slice_get d.entries place) o → o ≡ option_map (and_removed place) o
    unchanged_by None none = refl
    unchanged_by (Some d) none = ap (λ es. Some (record d { entries = es })) (sym (removed_none d.entries place (sym none)))

    kept : (k : ℕ) (b : Bool) → (number == k) ≡ b → at k was ≡ cond b (at number was) (at k was)
    kept k true same = ap (λ n. at n was) (sym (eqb-true number k same))
    kept k false other = refl

    equal : (k : ℕ) → at k was ≡ at k now
    equal k = kept k (number == k) refl ∙ ap (λ o. cond (number == k) o (at k was)) (unchanged_by (at number was) none) ∙ sym (at_changed now was number (and_removed place) is k)

-- an entry may have been noted, and didn't come
pub within_owed : (entry : EntryMarks) (new old : Index) (was : List (ℕ × Due)) (number : ℕ) (due : Due) (is_batch : Bool) → IsIndexed old was → at number was ≡ Some due → is_batch ≡ due.is_batch →
    KeepsBoth (of_kind is_batch new) (of_kind is_batch old) → IsSameBothBut (marks_have entry) (is_mark entry.request) number (of_kind is_batch new) (of_kind is_batch old) →
    of_kind (not is_batch) new ≡ of_kind (not is_batch) old → IsIndexedWithin entry number new was
within_owed entry new old was number due is_batch index there kind kept others other_kind = record {
  singles = note single entry number new.singles old.singles was due (not is_batch) index.singles there (ap not kind) (kept_singles is_batch new old kept other_kind)
      (same_singles is_batch (marks_have entry) (is_mark entry.request) number new old others other_kind);
  batches = note batch entry number new.batches old.batches was due is_batch index.batches there kind (kept_batches is_batch new old kept other_kind)
      (same_batches is_batch (marks_have entry) (is_mark entry.request) number new old others other_kind);
}

-- a cancel reached a content
pub within_cancelled : (entry : EntryMarks) (index : Index) (now was : List (ℕ × Due)) (number : ℕ) (settles : Bool) (id : WrittenId) → IsIndexed index was → now ≡ changed_at number (cancelled_in settles id) was →
    ((mark : ℕ) → is_mark entry.request mark ≡ (mark_of id == mark)) → IsIndexedWithin entry number index now
within_cancelled entry index now was number settles id indexed is request = record {
  singles = change single entry number index.singles now was (cancelled_in settles id) indexed.singles is (λ d. refl) marks requests;
  batches = change batch entry number index.batches now was (cancelled_in settles id) indexed.batches is (λ d. refl) marks requests;
}
  where
    first : (a b : Bool) → a ≡ true → (a || b) ≡ true
    first true b holds = refl
    first false b holds = cc

    marks : (d : Due) → at number was ≡ Some d → (mark : ℕ) → (due_has mark (cancelled_in settles id d) ≡ true → due_has mark d ≡ true) × (due_has mark d ≡ true → (due_has mark (cancelled_in settles id d) || marks_have entry mark) ≡ true)
    marks d there mark = (λ holds. sym (cancelled_marks mark settles id d) ∙ holds, λ holds. first (due_has mark (cancelled_in settles id d)) (marks_have entry mark) (cancelled_marks mark settles id d ∙ holds))

    requests : (d : Due) → at number was ≡ Some d → (mark : ℕ) → (uncancelled_has mark (cancelled_in settles id d) ≡ true → uncancelled_has mark d ≡ true) × (uncancelled_has mark d ≡ true → (uncancelled_has mark (cancelled_in settles id d) || is_mark entry.request mark) ≡ true)
    requests d there mark = (cancelled_requests mark settles id d, λ holds. ap (λ b. uncancelled_has mark (cancelled_in settles id d) || b) (request mark) ∙ lost_cancelled mark settles id d holds)

-- what it has lost is forgotten
pub indexed_left : (entry : EntryMarks) (new old : Index) (now : List (ℕ × Due)) (number : ℕ) (due : Due) → IsIndexedWithin entry number old now → at number now ≡ Some due →
    IsBothWithout (λ mark. marks_have entry mark && not (due_has mark due)) (λ mark. is_mark entry.request mark && not (uncancelled_has mark due)) number (of_kind due.is_batch new) (of_kind due.is_batch old) →
    of_kind (not due.is_batch) new ≡ of_kind (not due.is_batch) old → IsIndexed new now
indexed_left entry new old now number due within there without other_kind = record {
  singles = leave single entry number new.singles old.singles now due within.singles there
      (gone_singles due.is_batch (λ mark. marks_have entry mark && not (due_has mark due)) (λ mark. is_mark entry.request mark && not (uncancelled_has mark due)) number new old without other_kind);
  batches = leave batch entry number new.batches old.batches now due within.batches there
      (gone_batches due.is_batch (λ mark. marks_have entry mark && not (due_has mark due)) (λ mark. is_mark entry.request mark && not (uncancelled_has mark due)) number new old without other_kind);
}

pub indexed_none : (entry : EntryMarks) (index : Index) (now : List (ℕ × Due)) (number : ℕ) → IsIndexedWithin entry number index now → at number now ≡ None → IsIndexed index now
indexed_none entry index now number within none = record {
  singles = miss single entry number index.singles now within.singles none;
  batches = miss batch entry number index.batches now within.batches none;
}

-- two of what is next: the earlier one
next_none : (a b : Bool) → a ≡ false → b ≡ false → (a || b) ≡ false
next_none a b no_a no_b = ap (λ x. x || b) no_a ∙ no_b

pub next_both : (p q : ℕ → Bool) (after : ℕ) (first second : Option ℕ) →
    MatchOption first ((n : ℕ) → after < n → p n ≡ false) (λ number. (after < number) × ((n : ℕ) → after < n → n < number → p n ≡ false)) →
    MatchOption second ((n : ℕ) → after < n → q n ≡ false) (λ number. (after < number) × ((n : ℕ) → after < n → n < number → q n ≡ false)) →
    MatchOption (earlier_of first second) ((n : ℕ) → after < n → (p n || q n) ≡ false) (λ number. (after < number) × ((n : ℕ) → after < n → n < number → (p n || q n) ≡ false))
next_both p q after None None no_p no_q = λ n over. next_none (p n) (q n) (no_p n over) (no_q n over)
next_both p q after None (Some b) no_p no_q = (no_q.0, λ n over under. next_none (p n) (q n) (no_p n over) (no_q.1 n over under))
next_both p q after (Some a) None no_p no_q = (no_p.0, λ n over under. next_none (p n) (q n) (no_p.1 n over under) (no_q n over))
next_both p q after (Some a) (Some b) no_p no_q = (
  (let above_a = no_p.0 in let above_b = no_q.0 in omega (arith, above_a, above_b)),
  λ n over under. next_none (p n) (q n) (no_p.1 n over (omega (arith, under))) (no_q.1 n over (omega (arith, under))),
)
