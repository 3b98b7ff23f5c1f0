-- The two kinds of contents of an index, one of which was changed.
use Rattle.std.proofs.Common.{◌≡◌, ℕ, ◌&&◌, Bool, true, false, not, refl, ap, ◌∙◌}
use Rattle.conversation_contents.specs.Numbers.{has_number}
use Rattle.conversation_open.specs.Marked.{of_kind, KeepsBoth, IsBothWithout, IsNotedAs, IsSameBothBut}
use Rattle.conversation_open.specs.declared.index.Index.{Index}
use Rattle.conversation_open.specs.declared.marked_contents.MarkedContents.{MarkedContents}
use Rattle.conversation_open.proofs.Noting.{without_none}

-- ---- those that were not

none_noted : (is_of request : ℕ → Bool) (number : ℕ) (contents : MarkedContents) → IsNotedAs (λ m. false && is_of m) (λ m. false && request m) number contents
none_noted is_of request number contents = record {
  all = λ mark is. absurd (let e : false ≡ true = is in cc);
  uncancelled = λ mark is. absurd (let e : false ≡ true = is in cc);
}

module _ (now was : MarkedContents) (same : now ≡ was) where
  all_kept : KeepsBoth now was
  all_kept = record {
    all = λ mark n there. ap (λ c. has_number c.all mark n) same ∙ there;
    uncancelled = λ mark n there. ap (λ c. has_number c.uncancelled mark n) same ∙ there;
  }

  all_same : (is_of request : ℕ → Bool) (number : ℕ) → IsSameBothBut (λ m. false && is_of m) (λ m. false && request m) number now was
  all_same is_of request number = record {
    all = λ mark n none. ap (λ c. has_number c.all mark n) same;
    uncancelled = λ mark n none. ap (λ c. has_number c.uncancelled mark n) same;
  }

  none_gone : (is_of request : ℕ → Bool) (number : ℕ) → IsBothWithout (λ m. false && is_of m) (λ m. false && request m) number now was
  none_gone is_of request number = record {
    all = λ mark n. ap (λ c. has_number c.all mark n) same ∙ without_none was.all number (λ m. false && is_of m) (λ m. refl) mark n;
    uncancelled = λ mark n. ap (λ c. has_number c.uncancelled mark n) same ∙ without_none was.uncancelled number (λ m. false && request m) (λ m. refl) mark n;
  }

-- ---- each kind

pub noted_singles : (is_batch : Bool) (is_of request : ℕ → Bool) (number : ℕ) (index : Index) → IsNotedAs is_of request number (of_kind is_batch index) →
    IsNotedAs (λ m. not is_batch && is_of m) (λ m. not is_batch && request m) number index.singles
noted_singles true is_of request number index noted = none_noted is_of request number index.singles
noted_singles false is_of request number index noted = noted

pub noted_batches : (is_batch : Bool) (is_of request : ℕ → Bool) (number : ℕ) (index : Index) → IsNotedAs is_of request number (of_kind is_batch index) →
    IsNotedAs (λ m. is_batch && is_of m) (λ m. is_batch && request m) number index.batches
noted_batches true is_of request number index noted = noted
noted_batches false is_of request number index noted = none_noted is_of request number index.batches

pub kept_singles : (is_batch : Bool) (now was : Index) → KeepsBoth (of_kind is_batch now) (of_kind is_batch was) → of_kind (not is_batch) now ≡ of_kind (not is_batch) was → KeepsBoth now.singles was.singles
kept_singles true now was kept other = all_kept now.singles was.singles other
kept_singles false now was kept other = kept

pub kept_batches : (is_batch : Bool) (now was : Index) → KeepsBoth (of_kind is_batch now) (of_kind is_batch was) → of_kind (not is_batch) now ≡ of_kind (not is_batch) was → KeepsBoth now.batches was.batches
kept_batches true now was kept other = kept
kept_batches false now was kept other = all_kept now.batches was.batches other

pub same_singles : (is_batch : Bool) (is_of request : ℕ → Bool) (number : ℕ) (now was : Index) → IsSameBothBut is_of request number (of_kind is_batch now) (of_kind is_batch was) → of_kind (not is_batch) now ≡ of_kind (not is_batch) was →
    IsSameBothBut (λ m. not is_batch && is_of m) (λ m. not is_batch && request m) number now.singles was.singles
same_singles true is_of request number now was others other = all_same now.singles was.singles other is_of request number
same_singles false is_of request number now was others other = others

pub same_batches : (is_batch : Bool) (is_of request : ℕ → Bool) (number : ℕ) (now was : Index) → IsSameBothBut is_of request number (of_kind is_batch now) (of_kind is_batch was) → of_kind (not is_batch) now ≡ of_kind (not is_batch) was →
    IsSameBothBut (λ m. is_batch && is_of m) (λ m. is_batch && request m) number now.batches was.batches
same_batches true is_of request number now was others other = others
same_batches false is_of request number now was others other = all_same now.batches was.batches other is_of request number

pub gone_singles : (is_batch : Bool) (is_of request : ℕ → Bool) (number : ℕ) (now was : Index) → IsBothWithout is_of request number (of_kind is_batch now) (of_kind is_batch was) → of_kind (not is_batch) now ≡ of_kind (not is_batch) was →
    IsBothWithout (λ m. not is_batch && is_of m) (λ m. not is_batch && request m) number now.singles was.singles
gone_singles true is_of request number now was gone other = none_gone now.singles was.singles other is_of request number
gone_singles false is_of request number now was gone other = gone

pub gone_batches : (is_batch : Bool) (is_of request : ℕ → Bool) (number : ℕ) (now was : Index) → IsBothWithout is_of request number (of_kind is_batch now) (of_kind is_batch was) → of_kind (not is_batch) now ≡ of_kind (not is_batch) was →
    IsBothWithout (λ m. is_batch && is_of m) (λ m. is_batch && request m) number now.batches was.batches
gone_batches true is_of request number now was gone other = gone
gone_batches false is_of request number now was gone other = none_gone now.batches was.batches other is_of request number
