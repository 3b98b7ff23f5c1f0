-- Numbers that stand in an array, and the items behind them.
use Rattle.std.proofs.Common.{◌≡◌, ℕ, ◌+◌, ◌-◌, ◌<◌, ◌≤◌, true, List, [], ◌∷◌, ◌++◌, length, drop, get_or, Option, Some, refl, sym, ap, ◌∙◌, subst, arith, append_assoc, length-append, length-drop}
use Rattle.std.specs.List.{prefix_len, AllByRecursion}
use Rattle.json.specs.Print.{IsNumber}
use Rattle.json_texts.specs.Standing.{Stands, HasNumber}
use Rattle.json_texts.specs.Found.{is_of_number, ends_number, FindsValue}
use Rattle.json_texts.specs.Naturals.{with_commas, HasNumberItems, HasLastNumbers}
use Rattle.json_texts.proofs.Placed.{MoreItems, last_item, more_items, number_value, number_is_some}
use Rattle.json_texts.proofs.FoundStrings.{part_behind, first_is}
use Rattle.json_texts.proofs.FoundNumbers.{begins, number_first, run_is, any_found}
use Rattle.json_texts.proofs.FoundValues.{FindsMoreItems, last_item_found, more_items_found, begun_at}

module _ (levels : ℕ) (text : List ℕ) where
  -- a number, and a byte behind it that ends it
  record First (number : List ℕ) (at close : ℕ) (behind : List ℕ) : Type 0 where
    has : HasNumber text at (at + length number)
    byte : get_or text (at + length number) 0 ≡ close
    next : drop (at + length number + 1) text ≡ behind
    finds : FindsValue levels text at (Some (at + length number))

  found_value : (number rest : List ℕ) (at : ℕ) → IsNumber number → ends_number rest ≡ true → drop at text ≡ number ++ rest → FindsValue levels text at (Some (at + length number))
  found_value [] rest at is ended here = absurd (let some = number_is_some [] is in omega (arith, some))
  found_value (x ∷ xs) rest at is ended here =
      let number = x ∷ xs in
      let run = run_is text number rest at (at + prefix_len is_of_number (drop at text)) refl is ended here in
      begun_at levels text at (Some (at + length number)) (ap begins (first_is text (xs ++ rest) at x here) ∙ number_first x xs is) (any_found text at (at + length number) (sym run.0))

  first : (number behind : List ℕ) (at close : ℕ) → IsNumber number → ends_number (close ∷ behind) ≡ true → drop at text ≡ number ++ close ∷ behind → First number at close behind
  first number behind at close is ended here =
      let rest = part_behind text number (close ∷ behind) at here in
      record {
        has = record { number = number; is = is; stands = here ∙ ap (λ l. number ++ l) (sym rest) };
        byte = first_is text behind (at + length number) close rest;
        next = part_behind text (close ∷ []) behind (at + length number) rest;
        finds = found_value number (close ∷ behind) at is ended here;
      }

  abbrev Place : List (List ℕ) → ℕ → ℕ → Type 0
  Place ns at mid = mid ≡ at + length (with_commas ns)

  next_place : (n : List ℕ) (ns : List (List ℕ)) (at mid : ℕ) → Place (n ∷ ns) at mid → Place ns (at + length n + 1) mid
  next_place n ns at mid place = let size = length-append n (44 ∷ with_commas ns) in omega (arith, place, size)

  stand : (ns : List (List ℕ)) → AllByRecursion IsNumber ns → (at mid end : ℕ) → Place ns at mid → Stands text at (with_commas ns) mid → MoreItems levels text mid end → MoreItems levels text at end
  stand [] are at mid end place stands more = let same : mid ≡ at = omega (arith, place) in subst (λ k. MoreItems levels text k end) same more
  stand (n ∷ ns) are at mid end place stands more =
      let f = first n (with_commas ns ++ drop mid text) at 44 are.0 refl (stands ∙ append_assoc n (44 ∷ with_commas ns) (drop mid text)) in
      let stop = at + length n in
      more_items levels text at stop end (number_value levels text at stop f.has) f.byte (stand ns are.1 (stop + 1) mid end (next_place n ns at mid place) f.next more)

  find : (ns : List (List ℕ)) → AllByRecursion IsNumber ns → (at mid : ℕ) (found : Option ℕ) → Place ns at mid → Stands text at (with_commas ns) mid → FindsMoreItems levels text mid found
      → FindsMoreItems levels text at found
  find [] are at mid found place stands more = let same : mid ≡ at = omega (arith, place) in subst (λ k. FindsMoreItems levels text k found) same more
  find (n ∷ ns) are at mid found place stands more =
      let f = first n (with_commas ns ++ drop mid text) at 44 are.0 refl (stands ∙ append_assoc n (44 ∷ with_commas ns) (drop mid text)) in
      let stop = at + length n in
      more_items_found levels text at stop found f.finds f.byte (find ns are.1 (stop + 1) mid found (next_place n ns at mid place) f.next more)

  place_of : (part : List ℕ) (at mid : ℕ) → Stands text at part mid → at ≤ mid → mid ≤ length text → mid ≡ at + length part
  place_of part at mid stands low high =
      let sizes : length text - at ≡ length part + (length text - mid) =
      sym (length-drop at text) ∙ ap length stands ∙ length-append part (drop mid text) ∙ ap (λ n. length part + n) (length-drop mid text) in
      omega (arith, sizes, low, high)

  abbrev Within : ℕ → ℕ → Type 0
  Within at mid = (at ≤ mid) × (mid ≤ length text)

  pub items_behind_numbers : (at mid end : ℕ) → HasNumberItems text at mid → Within at mid → MoreItems levels text mid end → MoreItems levels text at end
  items_behind_numbers at mid end items within more =
      stand items.numbers items.are at mid end (place_of (with_commas items.numbers) at mid items.stands within.0 within.1) items.stands more

  pub found_behind_numbers : (at mid : ℕ) (found : Option ℕ) → HasNumberItems text at mid → Within at mid → FindsMoreItems levels text mid found → FindsMoreItems levels text at found
  found_behind_numbers at mid found items within more =
      find items.numbers items.are at mid found (place_of (with_commas items.numbers) at mid items.stands within.0 within.1) items.stands more

  -- the last numbers of an array
  record Closed (at end : ℕ) : Type 0 where
    stand_so : MoreItems levels text at end
    find_so : FindsMoreItems levels text at (Some end)
    some : at < end

  closed : (at end : ℕ) → HasLastNumbers text at end → Within at end → Closed at end
  closed at end l within =
      let numbers = with_commas l.numbers in
      let close = l.last ++ 93 ∷ [] in
      let others = drop end text in
      let mid = at + length numbers in
      let stop = mid + length l.last in
      let here : drop at text ≡ numbers ++ (close ++ others) = l.stands ∙ append_assoc numbers close others in
      let rest : drop mid text ≡ close ++ others = part_behind text numbers (close ++ others) at here in
      let stands : Stands text at numbers mid = here ∙ ap (λ r. numbers ++ r) (sym rest) in
      let f = first l.last others mid 93 l.is refl (rest ∙ append_assoc l.last (93 ∷ []) others) in
      let sizes = length-append numbers close in
      let size = length-append l.last (93 ∷ []) in
      let place = place_of (numbers ++ close) at end l.stands within.0 within.1 in
      let same : stop + 1 ≡ end = omega (arith, place, sizes, size) in
      subst (Closed at) same (record {
        stand_so = stand l.numbers l.are at mid (stop + 1) refl stands (last_item levels text mid stop (number_value levels text mid stop f.has) f.byte);
        find_so = find l.numbers l.are at mid (Some (stop + 1)) refl stands (last_item_found levels text mid stop f.finds f.byte);
        some = omega arith;
      })

  pub last_numbers : (at end : ℕ) → HasLastNumbers text at end → Within at end → MoreItems levels text at end
  last_numbers at end l within = (closed at end l within).stand_so

  pub last_numbers_found : (at end : ℕ) → HasLastNumbers text at end → Within at end → FindsMoreItems levels text at (Some end)
  last_numbers_found at end l within = (closed at end l within).find_so

  pub last_numbers_are_some : (at end : ℕ) → HasLastNumbers text at end → Within at end → at < end
  last_numbers_are_some at end l within = (closed at end l within).some
