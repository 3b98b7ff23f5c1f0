-- What is kept of cancels by which a request may be left, and whether an array was guessed.
use Rattle.std.proofs.Common.{◌≡◌, ◌||◌, ◌&&◌, ℕ, suc, ◌+◌, Bool, true, false, List, [], ◌∷◌, refl, ap, arith}
use Rattle.conversation_reading.specs.declared.entry.Entry.{Entry}
use Rattle.conversation_reading.specs.declared.reading.Reading.{Reading}
use Rattle.conversation_reading.specs.declared.reading.Reading.TheVariants.{Foreign, NotText, NotJson, OverLimits, HalfPair, Single, Array}
use Rattle.conversation_rules.specs.Contents.{reading_outcome, opened, have_huge, behind_entries, guesses, reply_ids}
use Rattle.conversation_rules.specs.Entries.{may_leave, behind_entry}
use Rattle.conversation_rules.specs.Speakers.{Speaker, Pair}
use Rattle.conversation_rules.specs.declared.finding.Message.{Message}
use Rattle.conversation_rules.specs.declared.protocol.Protocol.{Protocol}
use Rattle.our_side.specs.Asked.{as_number, leaving, leaves_by}

pub either_false : (b c : Bool) → (b || c) ≡ false → (b ≡ false) × (c ≡ false)
either_false true c is = absurd (let no : true ≡ false = is in cc)
either_false false c is = (refl, is)

-- ---- of the side that wrote it

module _ (protocol : Protocol) where
  entries_cancel : (at : ℕ) (entries : List Entry) (own : Speaker) → (behind_entries protocol at entries own).has_cancelled ≡ false → (own.has_cancelled ≡ false) × (leaving protocol entries ≡ 0)
  entries_cancel at [] own is = (is, refl)
  entries_cancel at (entry ∷ entries) own is =
      let rest = entries_cancel (suc at) entries (behind_entry protocol at entry own) is in
      let parts = either_false own.has_cancelled (may_leave protocol entry) rest.0 in
      (parts.0, (let none = ap as_number parts.1 in let more = rest.1 in omega (arith, none, more)))

  entries_guessed : (at : ℕ) (entries : List Entry) (own : Speaker) → (behind_entries protocol at entries own).is_guessed ≡ own.is_guessed
  entries_guessed at [] own = refl
  entries_guessed at (entry ∷ entries) own = entries_guessed (suc at) entries (behind_entry protocol at entry own)

  module _ (is_unfinished : Bool) (message : Message) (pair : Pair) where
    -- it sent none before, and none is in this content
    pub asker_cancel : (reading : Reading) → (reading_outcome protocol is_unfinished message pair reading).pair.own.has_cancelled ≡ false → (pair.own.has_cancelled ≡ false) × (leaves_by protocol reading ≡ 0)
    asker_cancel Foreign is = (is, refl)
    asker_cancel NotText is = (is, refl)
    asker_cancel NotJson is = (is, refl)
    asker_cancel OverLimits is = (is, refl)
    asker_cancel HalfPair is = (is, refl)
    asker_cancel (Single entry) is =
        let parts = either_false pair.own.has_cancelled (may_leave protocol entry) is in
        (parts.0, (let none = ap as_number parts.1 in omega (arith, none)))
    asker_cancel (Array []) is = (is, refl)
    asker_cancel (Array (entry ∷ entries)) is = entries_cancel 1 (entry ∷ entries) (opened message true (have_huge (entry ∷ entries)) pair.own) is

    pub asker_guessed : (reading : Reading) → (reading_outcome protocol is_unfinished message pair reading).pair.own.is_guessed ≡ pair.own.is_guessed
    asker_guessed Foreign = refl
    asker_guessed NotText = refl
    asker_guessed NotJson = refl
    asker_guessed OverLimits = refl
    asker_guessed HalfPair = refl
    asker_guessed (Single entry) = refl
    asker_guessed (Array []) = refl
    asker_guessed (Array (entry ∷ entries)) = entries_guessed 1 (entry ∷ entries) (opened message true (have_huge (entry ∷ entries)) pair.own)

    -- ---- of the other side

    pub other_cancel : (reading : Reading) → (reading_outcome protocol is_unfinished message pair reading).pair.other.has_cancelled ≡ pair.other.has_cancelled
    other_cancel Foreign = refl
    other_cancel NotText = refl
    other_cancel NotJson = refl
    other_cancel OverLimits = refl
    other_cancel HalfPair = refl
    other_cancel (Single entry) = refl
    other_cancel (Array []) = refl
    other_cancel (Array (entry ∷ entries)) = refl

    -- an array of this content had to be guessed
    abbrev pub guesses_by : Reading → Bool
    guesses_by Foreign = false
    guesses_by NotText = false
    guesses_by NotJson = false
    guesses_by OverLimits = false
    guesses_by HalfPair = false
    guesses_by (Single entry) = false
    guesses_by (Array []) = false
    guesses_by (Array (entry ∷ entries)) = guesses pair.other (reply_ids (entry ∷ entries))

    pub other_guessed : (reading : Reading) → (reading_outcome protocol is_unfinished message pair reading).pair.other.is_guessed ≡ false → (pair.other.is_guessed ≡ false) × (guesses_by reading ≡ false)
    other_guessed Foreign is = (is, refl)
    other_guessed NotText is = (is, refl)
    other_guessed NotJson is = (is, refl)
    other_guessed OverLimits is = (is, refl)
    other_guessed HalfPair is = (is, refl)
    other_guessed (Single entry) is = (is, refl)
    other_guessed (Array []) is = (is, refl)
    other_guessed (Array (entry ∷ entries)) is = either_false pair.other.is_guessed (guesses pair.other (reply_ids (entry ∷ entries))) is
