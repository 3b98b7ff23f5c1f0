-- Values are found to their ends, one behind another.
use Rattle.std.proofs.Common.{◌≡◌, ℕ, suc, ◌+◌, ◌-◌, ◌<◌, ◌≤◌, true, false, List, [], ◌∷◌, ◌++◌, length, drop, get_or, Option, Some, None, is_some, unwrap_or, refl, sym, ap, ◌∙◌, arith, append_assoc, append-nil, length-append}
use Rattle.std.proofs.lemmas.Bool.{true≢false, false≢true}
use Rattle.std.specs.Char.{is_ascii_digit}
use Rattle.std.proofs.lemmas.List.{drop_all}
use Rattle.json.specs.Json.{Json, null, boolean, number, string, array, object, Items, no_items, item, Members, no_members, member}
use Rattle.json.specs.Print.{escape, quoted, print, print_from}
use Rattle.json.specs.Tree.{json_tokens, items_tokens, members_tokens, items_depth, members_depth, HasNumbers, ItemsHaveNumbers, MembersHaveNumbers}
use Rattle.json_texts.specs.Texts.{json_text}
use Rattle.json_texts.specs.Found.{IsShort, ItemsHaveShortEscapes, MembersHaveShortEscapes, ends_number, Finds, FindsValue, FindsItems, FindsMembers, FindsName, FindsString, FindsNumber, FindsWord}
use Rattle.json_texts.proofs.Placed.{number_is_some, print-behind, comma_first, print-last_item, print-last_member, key_first, print-key}
use Rattle.json_texts.proofs.FoundStrings.{part_behind, first_is}
use Rattle.json_texts.proofs.FoundNumbers.{begins, begins_low, number_first}

end_is : (r : Option ℕ) (end n : ℕ) → r ≡ Some end → r ≡ Some n → end ≡ n
end_is r end n e f = ap (λ o. unwrap_or o 0) (sym e ∙ f)

-- ---- the first byte

-- a value begins with no bracket that closes
record Begins (j : Json) : Type 0 where
  first : ℕ
  more : List ℕ
  is : json_text j ≡ first ∷ more
  opens : first ≡ 93 → ⊥

value_begins : (j : Json) → HasNumbers j → Begins j
unfolding json_text print_from
value_begins null numbers = record { first = 110; more = 117 ∷ 108 ∷ 108 ∷ []; is = refl; opens = λ e. omega (arith, e) }
value_begins (boolean true) numbers = record { first = 116; more = 114 ∷ 117 ∷ 101 ∷ []; is = refl; opens = λ e. omega (arith, e) }
value_begins (boolean false) numbers = record { first = 102; more = 97 ∷ 108 ∷ 115 ∷ 101 ∷ []; is = refl; opens = λ e. omega (arith, e) }
value_begins (number []) numbers = absurd (let some = number_is_some [] numbers in omega (arith, some))
value_begins (number (x ∷ xs)) numbers = record { first = x; more = xs ++ []; is = refl; opens = λ e. let low = begins_low x (number_first x xs numbers) in omega (arith, e, low) }
value_begins (string s) numbers = record { first = 34; more = (escape s ++ 34 ∷ []) ++ []; is = refl; opens = λ e. omega (arith, e) }
value_begins (array js) numbers = record { first = 91; more = print (items_tokens js); is = refl; opens = λ e. omega (arith, e) }
value_begins (object ms) numbers = record { first = 123; more = print (members_tokens ms); is = refl; opens = λ e. omega (arith, e) }

-- ---- items

-- an item at least, and the bracket
abbrev pub FindsMoreItems : ℕ → List ℕ → ℕ → Option ℕ → Type 0
FindsMoreItems levels text at found =
    (j : Json) (js : Items) (rest : List ℕ) → ItemsHaveNumbers (item j js) → ItemsHaveShortEscapes (item j js) → items_depth (item j js) ≤ levels
    → Finds text at found (print (items_tokens (item j js))) rest

-- what stands behind a value ends a number
item_ends : (js : Items) (rest : List ℕ) → ends_number (print_from true (items_tokens js) ++ rest) ≡ true
item_ends no_items rest = ap (λ (l : List ℕ). ends_number (l ++ rest)) print-last_item
item_ends (item j js) rest = ap (λ (l : List ℕ). ends_number (l ++ rest)) (comma_first j (items_tokens js))

-- the first item's end, and what stands behind it
record First (text : List ℕ) (at : ℕ) (found : Option ℕ) (j : Json) (behind : List ℕ) : Type 0 where
  end : found ≡ Some (at + length (json_text j))
  stands : drop (at + length (json_text j)) text ≡ behind

first_item : (levels : ℕ) (text : List ℕ) (at : ℕ) (found : Option ℕ) → FindsValue levels text at found → (j : Json) (js : Items) (rest : List ℕ) → ItemsHaveNumbers (item j js)
    → ItemsHaveShortEscapes (item j js) → items_depth (item j js) ≤ levels → drop at text ≡ print (items_tokens (item j js)) ++ rest
    → First text at found j (print_from true (items_tokens js) ++ rest)
unfolding FindsValue
first_item levels text at found finds j js rest numbers short shallow stands =
    let behind = print_from true (items_tokens js) ++ rest in
    let here : drop at text ≡ json_text j ++ behind =
    stands ∙ ap (λ (l : List ℕ). l ++ rest) (print-behind j (items_tokens js)) ∙ append_assoc (json_text j) (print_from true (items_tokens js)) rest in
    record {
      end = finds j behind numbers.0 short.0 (omega (arith, shallow)) (item_ends js rest) here;
      stands = part_behind text (json_text j) behind at here;
    }

after_some : (js : Items) → 0 < length (print_from true (items_tokens js))
after_some no_items = let size = ap (λ (l : List ℕ). length l) print-last_item in omega (arith, size)
after_some (item j js) = let size = ap (λ (l : List ℕ). length l) (comma_first j (items_tokens js)) in omega (arith, size)

nothing_past : (text part rest : List ℕ) (at : ℕ) → length text ≤ at → 0 < length part → drop at text ≡ part ++ rest → ⊥
nothing_past text part rest at past some stands =
    let size : 0 ≡ length part + length rest = ap length (sym (drop_all at text past) ∙ stands) ∙ length-append part rest in
    omega (arith, size, some)

-- the length of items, from that of the first
items_size : (j : Json) (js : Items) → length (print (items_tokens (item j js))) ≡ length (json_text j) + length (print_from true (items_tokens js))
items_size j js = ap length (print-behind j (items_tokens js)) ∙ length-append (json_text j) (print_from true (items_tokens js))

pub items_of_more_found : (levels : ℕ) (text : List ℕ) (from : ℕ) (found : Option ℕ) → (get_or text from 0 ≡ 93 → ⊥) → FindsMoreItems levels text from found → FindsItems levels text from found
unfolding FindsItems print_from
items_of_more_found levels text from found other finds no_items rest numbers short shallow stands = absurd (other (first_is text rest from 93 stands))
items_of_more_found levels text from found other finds (item j js) rest numbers short shallow stands = finds j js rest numbers short shallow stands

pub no_items_found : (levels : ℕ) (text : List ℕ) (from : ℕ) → get_or text from 0 ≡ 93 → FindsItems levels text from (Some (from + 1))
unfolding FindsItems print_from
no_items_found levels text from is no_items rest numbers short shallow stands = refl
no_items_found levels text from is (item j js) rest numbers short shallow stands =
    let b = value_begins j numbers.0 in
    let here : drop from text ≡ b.first ∷ ((b.more ++ print_from true (items_tokens js)) ++ rest) =
    stands ∙ ap (λ (l : List ℕ). l ++ rest) (print-behind j (items_tokens js) ∙ ap (λ (l : List ℕ). l ++ print_from true (items_tokens js)) b.is) in
    absurd (b.opens (sym (first_is text _ from b.first here) ∙ is))

-- where no value is found
pub no_item_found : (levels : ℕ) (text : List ℕ) (at : ℕ) (found : Option ℕ) → FindsValue levels text at None → FindsMoreItems levels text at found
no_item_found levels text at found finds j js rest numbers short shallow stands =
    let f = first_item levels text at None finds j js rest numbers short shallow stands in
    absurd (false≢true (ap is_some f.end))

-- where the last item is found
pub last_item_found : (levels : ℕ) (text : List ℕ) (at end : ℕ) → FindsValue levels text at (Some end) → get_or text end 0 ≡ 93 → FindsMoreItems levels text at (Some (end + 1))
last_item_found levels text at end finds is j no_items rest numbers short shallow stands =
    let f = first_item levels text at (Some end) finds j no_items rest numbers short shallow stands in
    let place = end_is _ end _ refl f.end in
    let size : length (print (items_tokens (item j no_items))) ≡ length (json_text j) + 1 = items_size j no_items ∙ ap (λ (l : List ℕ). length (json_text j) + length l) print-last_item in
    let whole : end + 1 ≡ at + length (print (items_tokens (item j no_items))) = omega (arith, place, size) in
    ap Some whole
last_item_found levels text at end finds is j (item i others) rest numbers short shallow stands =
    let f = first_item levels text at (Some end) finds j (item i others) rest numbers short shallow stands in
    let place = end_is _ end _ refl f.end in
    let comma : get_or text end 0 ≡ 44 =
    ap (λ n. get_or text n 0) place ∙ first_is text _ (at + length (json_text j)) 44 (f.stands ∙ ap (λ (l : List ℕ). l ++ rest) (comma_first i (items_tokens others))) in
    absurd (omega (arith, is, comma))

-- where more items follow
pub more_items_found : (levels : ℕ) (text : List ℕ) (at end : ℕ) (found : Option ℕ) → FindsValue levels text at (Some end) → get_or text end 0 ≡ 44 → FindsMoreItems levels text (end + 1) found
    → FindsMoreItems levels text at found
more_items_found levels text at end found finds is more j no_items rest numbers short shallow stands =
    let f = first_item levels text at (Some end) finds j no_items rest numbers short shallow stands in
    let place = end_is _ end _ refl f.end in
    let bracket : get_or text end 0 ≡ 93 =
    ap (λ n. get_or text n 0) place ∙ first_is text _ (at + length (json_text j)) 93 (f.stands ∙ ap (λ (l : List ℕ). l ++ rest) print-last_item) in
    absurd (omega (arith, is, bracket))
more_items_found levels text at end found finds is more j (item i others) rest numbers short shallow stands =
    let f = first_item levels text at (Some end) finds j (item i others) rest numbers short shallow stands in
    let place = end_is _ end _ refl f.end in
    let comma = comma_first i (items_tokens others) in
    let behind : drop (end + 1) text ≡ print (items_tokens (item i others)) ++ rest =
    part_behind text (44 ∷ []) _ end (ap (λ n. drop n text) place ∙ f.stands ∙ ap (λ (l : List ℕ). l ++ rest) comma) in
    let size : length (print (items_tokens (item j (item i others)))) ≡ length (json_text j) + suc (length (print (items_tokens (item i others)))) =
    items_size j (item i others) ∙ ap (λ (l : List ℕ). length (json_text j) + length l) comma in
    let whole : end + 1 + length (print (items_tokens (item i others))) ≡ at + length (print (items_tokens (item j (item i others)))) = omega (arith, place, size) in
    more i others rest numbers.1 short.1 (omega (arith, shallow)) behind ∙ ap Some whole

-- where neither a comma nor a bracket is behind an item
pub other_items_found : (levels : ℕ) (text : List ℕ) (at end : ℕ) (found : Option ℕ) → FindsValue levels text at (Some end) → (get_or text end 0 ≡ 93 → ⊥) → (get_or text end 0 ≡ 44 → ⊥)
    → FindsMoreItems levels text at found
other_items_found levels text at end found finds bracket comma j no_items rest numbers short shallow stands =
    let f = first_item levels text at (Some end) finds j no_items rest numbers short shallow stands in
    let place = end_is _ end _ refl f.end in
    absurd (bracket (ap (λ n. get_or text n 0) place ∙ first_is text _ (at + length (json_text j)) 93 (f.stands ∙ ap (λ (l : List ℕ). l ++ rest) print-last_item)))
other_items_found levels text at end found finds bracket comma j (item i others) rest numbers short shallow stands =
    let f = first_item levels text at (Some end) finds j (item i others) rest numbers short shallow stands in
    let place = end_is _ end _ refl f.end in
    absurd (comma (ap (λ n. get_or text n 0) place ∙ first_is text _ (at + length (json_text j)) 44 (f.stands ∙ ap (λ (l : List ℕ). l ++ rest) (comma_first i (items_tokens others)))))

-- past the end
pub past_items_found : (levels : ℕ) (text : List ℕ) (at : ℕ) (found : Option ℕ) → length text ≤ at → FindsMoreItems levels text at found
past_items_found levels text at found past j js rest numbers short shallow stands =
    let size = items_size j js in
    let some = after_some js in
    absurd (nothing_past text (print (items_tokens (item j js))) rest at past (omega (arith, size, some)) stands)

-- ---- members

-- a member at least, and the brace
abbrev pub FindsMoreMembers : ℕ → List ℕ → ℕ → Option ℕ → Type 0
FindsMoreMembers levels text at found =
    (k : List ℕ) (j : Json) (ms : Members) (rest : List ℕ) → MembersHaveNumbers (member k j ms) → MembersHaveShortEscapes (member k j ms) → members_depth (member k j ms) ≤ levels
    → Finds text at found (print (members_tokens (member k j ms))) rest

-- what stands behind a member's value
member_ends : (ms : Members) (rest : List ℕ) → ends_number (print_from true (members_tokens ms) ++ rest) ≡ true
member_ends no_members rest = ap (λ (l : List ℕ). ends_number (l ++ rest)) print-last_member
member_ends (member k j ms) rest = ap (λ (l : List ℕ). ends_number (l ++ rest)) (key_first k (json_tokens j ++ members_tokens ms))

after_member_some : (ms : Members) → 0 < length (print_from true (members_tokens ms))
after_member_some no_members = let size = ap (λ (l : List ℕ). length l) print-last_member in omega (arith, size)
after_member_some (member k j ms) = let size = ap (λ (l : List ℕ). length l) (key_first k (json_tokens j ++ members_tokens ms)) in omega (arith, size)

abbrev name_text : List ℕ → List ℕ
name_text k = quoted k ++ 58 ∷ []

members_are : (k : List ℕ) (j : Json) (ms : Members) → print (members_tokens (member k j ms)) ≡ name_text k ++ (json_text j ++ print_from true (members_tokens ms))
members_are k j ms = print-key k (json_tokens j ++ members_tokens ms) ∙ ap (λ l. name_text k ++ l) (print-behind j (members_tokens ms))

-- the length of members, from that of the first
members_size : (k : List ℕ) (j : Json) (ms : Members)
    → length (print (members_tokens (member k j ms))) ≡ length (name_text k) + (length (json_text j) + length (print_from true (members_tokens ms)))
members_size k j ms =
    ap length (members_are k j ms) ∙ length-append (name_text k) (json_text j ++ print_from true (members_tokens ms))
    ∙ ap (λ n. length (name_text k) + n) (length-append (json_text j) (print_from true (members_tokens ms)))

-- the first name's end
first_name : (text : List ℕ) (at : ℕ) (found : Option ℕ) → FindsName text at found → (k : List ℕ) (j : Json) (ms : Members) (rest : List ℕ) → IsShort k
    → drop at text ≡ print (members_tokens (member k j ms)) ++ rest
    → (found ≡ Some (at + length (name_text k))) × (drop (at + length (name_text k)) text ≡ json_text j ++ (print_from true (members_tokens ms) ++ rest))
unfolding FindsName
first_name text at found finds k j ms rest short stands =
    let behind = json_text j ++ (print_from true (members_tokens ms) ++ rest) in
    let here : drop at text ≡ name_text k ++ behind =
    stands ∙ ap (λ (l : List ℕ). l ++ rest) (members_are k j ms) ∙ append_assoc (name_text k) (json_text j ++ print_from true (members_tokens ms)) rest
    ∙ ap (λ l. name_text k ++ l) (append_assoc (json_text j) (print_from true (members_tokens ms)) rest) in
    (finds k behind short here, part_behind text (name_text k) behind at here)

-- the first member's end, and what stands behind it
record FirstMember (text : List ℕ) (at mid : ℕ) (found : Option ℕ) (k : List ℕ) (j : Json) (behind : List ℕ) : Type 0 where
  name : mid ≡ at + length (name_text k)
  end : found ≡ Some (mid + length (json_text j))
  stands : drop (mid + length (json_text j)) text ≡ behind

first_member : (levels : ℕ) (text : List ℕ) (at mid : ℕ) (found : Option ℕ) → FindsName text at (Some mid) → FindsValue levels text mid found → (k : List ℕ) (j : Json) (ms : Members) (rest : List ℕ)
    → MembersHaveNumbers (member k j ms) → MembersHaveShortEscapes (member k j ms) → members_depth (member k j ms) ≤ levels → drop at text ≡ print (members_tokens (member k j ms)) ++ rest
    → FirstMember text at mid found k j (print_from true (members_tokens ms) ++ rest)
unfolding FindsValue
first_member levels text at mid found named finds k j ms rest numbers short shallow stands =
    let behind = print_from true (members_tokens ms) ++ rest in
    let n = first_name text at (Some mid) named k j ms rest short.0 stands in
    let place : mid ≡ at + length (name_text k) = end_is _ mid _ refl n.0 in
    let here : drop mid text ≡ json_text j ++ behind = ap (λ i. drop i text) place ∙ n.1 in
    record {
      name = place;
      end = finds j behind numbers.0 short.1 (omega (arith, shallow)) (member_ends ms rest) here;
      stands = part_behind text (json_text j) behind mid here;
    }

pub members_of_more_found : (levels : ℕ) (text : List ℕ) (from : ℕ) (found : Option ℕ) → (get_or text from 0 ≡ 125 → ⊥) → FindsMoreMembers levels text from found
    → FindsMembers levels text from found
unfolding FindsMembers print_from
members_of_more_found levels text from found other finds no_members rest numbers short shallow stands = absurd (other (first_is text rest from 125 stands))
members_of_more_found levels text from found other finds (member k j ms) rest numbers short shallow stands = finds k j ms rest numbers short shallow stands

pub no_members_found : (levels : ℕ) (text : List ℕ) (from : ℕ) → get_or text from 0 ≡ 125 → FindsMembers levels text from (Some (from + 1))
unfolding FindsMembers print_from
no_members_found levels text from is no_members rest numbers short shallow stands = refl
no_members_found levels text from is (member k j ms) rest numbers short shallow stands =
    let quote = first_is text _ from 34 (stands ∙ ap (λ (l : List ℕ). l ++ rest) (members_are k j ms)) in
    absurd (omega (arith, is, quote))

-- where no name is found
pub no_member_found : (levels : ℕ) (text : List ℕ) (at : ℕ) (found : Option ℕ) → FindsName text at None → FindsMoreMembers levels text at found
no_member_found levels text at found named k j ms rest numbers short shallow stands =
    absurd (false≢true (ap is_some (first_name text at None named k j ms rest short.0 stands).0))

-- where no value is found
pub bare_member_found : (levels : ℕ) (text : List ℕ) (at mid : ℕ) (found : Option ℕ) → FindsName text at (Some mid) → FindsValue levels text mid None → FindsMoreMembers levels text at found
bare_member_found levels text at mid found named finds k j ms rest numbers short shallow stands =
    let f = first_member levels text at mid None named finds k j ms rest numbers short shallow stands in
    absurd (false≢true (ap is_some f.end))

-- where the last member is found
pub last_member_found : (levels : ℕ) (text : List ℕ) (at mid end : ℕ) → FindsName text at (Some mid) → FindsValue levels text mid (Some end) → get_or text end 0 ≡ 125
    → FindsMoreMembers levels text at (Some (end + 1))
last_member_found levels text at mid end named finds is k j no_members rest numbers short shallow stands =
    let f = first_member levels text at mid (Some end) named finds k j no_members rest numbers short shallow stands in
    let name = f.name in
    let place = end_is _ end _ refl f.end in
    let size : length (print (members_tokens (member k j no_members))) ≡ length (name_text k) + (length (json_text j) + 1) =
    members_size k j no_members ∙ ap (λ (l : List ℕ). length (name_text k) + (length (json_text j) + length l)) print-last_member in
    let whole : end + 1 ≡ at + length (print (members_tokens (member k j no_members))) = omega (arith, place, size, name) in
    ap Some whole
last_member_found levels text at mid end named finds is k j (member l i others) rest numbers short shallow stands =
    let f = first_member levels text at mid (Some end) named finds k j (member l i others) rest numbers short shallow stands in
    let place = end_is _ end _ refl f.end in
    let comma : get_or text end 0 ≡ 44 =
    ap (λ n. get_or text n 0) place ∙ first_is text _ (mid + length (json_text j)) 44 (f.stands ∙ ap (λ (l : List ℕ). l ++ rest) (key_first l (json_tokens i ++ members_tokens others))) in
    absurd (omega (arith, is, comma))

-- where more members follow
pub more_members_found : (levels : ℕ) (text : List ℕ) (at mid end : ℕ) (found : Option ℕ) → FindsName text at (Some mid) → FindsValue levels text mid (Some end) → get_or text end 0 ≡ 44
    → FindsMoreMembers levels text (end + 1) found → FindsMoreMembers levels text at found
more_members_found levels text at mid end found named finds is more k j no_members rest numbers short shallow stands =
    let f = first_member levels text at mid (Some end) named finds k j no_members rest numbers short shallow stands in
    let place = end_is _ end _ refl f.end in
    let brace : get_or text end 0 ≡ 125 =
    ap (λ n. get_or text n 0) place ∙ first_is text _ (mid + length (json_text j)) 125 (f.stands ∙ ap (λ (l : List ℕ). l ++ rest) print-last_member) in
    absurd (omega (arith, is, brace))
more_members_found levels text at mid end found named finds is more k j (member l i others) rest numbers short shallow stands =
    let f = first_member levels text at mid (Some end) named finds k j (member l i others) rest numbers short shallow stands in
    let name = f.name in
    let place = end_is _ end _ refl f.end in
    let comma = key_first l (json_tokens i ++ members_tokens others) in
    let behind : drop (end + 1) text ≡ print (members_tokens (member l i others)) ++ rest =
    part_behind text (44 ∷ []) _ end (ap (λ n. drop n text) place ∙ f.stands ∙ ap (λ (l : List ℕ). l ++ rest) comma) in
    let size : length (print (members_tokens (member k j (member l i others)))) ≡ length (name_text k) + (length (json_text j) + suc (length (print (members_tokens (member l i others))))) =
    members_size k j (member l i others) ∙ ap (λ (l : List ℕ). length (name_text k) + (length (json_text j) + length l)) comma in
    let whole : end + 1 + length (print (members_tokens (member l i others))) ≡ at + length (print (members_tokens (member k j (member l i others)))) = omega (arith, place, size, name) in
    more l i others rest numbers.1 short.2 (omega (arith, shallow)) behind ∙ ap Some whole

-- where neither a comma nor a brace is behind a member
pub other_members_found : (levels : ℕ) (text : List ℕ) (at mid end : ℕ) (found : Option ℕ) → FindsName text at (Some mid) → FindsValue levels text mid (Some end) → (get_or text end 0 ≡ 125 → ⊥)
    → (get_or text end 0 ≡ 44 → ⊥) → FindsMoreMembers levels text at found
other_members_found levels text at mid end found named finds brace comma k j no_members rest numbers short shallow stands =
    let f = first_member levels text at mid (Some end) named finds k j no_members rest numbers short shallow stands in
    let place = end_is _ end _ refl f.end in
    absurd (brace (ap (λ n. get_or text n 0) place ∙ first_is text _ (mid + length (json_text j)) 125 (f.stands ∙ ap (λ (l : List ℕ). l ++ rest) print-last_member)))
other_members_found levels text at mid end found named finds brace comma k j (member l i others) rest numbers short shallow stands =
    let f = first_member levels text at mid (Some end) named finds k j (member l i others) rest numbers short shallow stands in
    let place = end_is _ end _ refl f.end in
    absurd (comma (ap (λ n. get_or text n 0) place ∙ first_is text _ (mid + length (json_text j)) 44 (f.stands ∙ ap (λ (l : List ℕ). l ++ rest) (key_first l (json_tokens i ++ members_tokens others)))))

-- past the end
pub past_members_found : (levels : ℕ) (text : List ℕ) (at : ℕ) (found : Option ℕ) → length text ≤ at → FindsMoreMembers levels text at found
past_members_found levels text at found past k j ms rest numbers short shallow stands =
    let size = members_size k j ms in
    let some = after_member_some ms in
    absurd (nothing_past text (print (members_tokens (member k j ms))) rest at past (omega (arith, size, some)) stands)

-- ---- values, by their first bytes

module _ (levels : ℕ) (text : List ℕ) (from : ℕ) (found : Option ℕ) where
  value_by : (b : ℕ) → get_or text from 0 ≡ b → (b ≡ 34 → FindsString text (from + 1) found) → (b ≡ 91 → (below : ℕ) → levels ≡ suc below → FindsItems below text (from + 1) found)
      → (b ≡ 123 → (below : ℕ) → levels ≡ suc below → FindsMembers below text (from + 1) found) → (b ≡ 116 → FindsWord text from (116 ∷ 114 ∷ 117 ∷ 101 ∷ []) found)
      → (b ≡ 102 → FindsWord text from (102 ∷ 97 ∷ 108 ∷ 115 ∷ 101 ∷ []) found) → (b ≡ 110 → FindsWord text from (110 ∷ 117 ∷ 108 ∷ 108 ∷ []) found)
      → (begins b ≡ true → FindsNumber text from found) → FindsValue levels text from found
  unfolding FindsValue FindsString FindsItems FindsMembers FindsWord FindsNumber json_text print_from
  value_by b is s a o t f n m null rest numbers short shallow ended stands = n (sym is ∙ first_is text _ from 110 stands) rest stands
  value_by b is s a o t f n m (boolean true) rest numbers short shallow ended stands = t (sym is ∙ first_is text _ from 116 stands) rest stands
  value_by b is s a o t f n m (boolean false) rest numbers short shallow ended stands = f (sym is ∙ first_is text _ from 102 stands) rest stands
  value_by b is s a o t f n m (number []) rest numbers short shallow ended stands = absurd (let some = number_is_some [] numbers in omega (arith, some))
  value_by b is s a o t f n m (number (x ∷ xs)) rest numbers short shallow ended stands =
      let begun : begins b ≡ true = ap begins (sym is ∙ first_is text _ from x stands) ∙ number_first x xs numbers in
      let same : (x ∷ xs) ++ [] ≡ x ∷ xs = append-nil (x ∷ xs) in
      m begun (x ∷ xs) rest numbers ended (stands ∙ ap (λ (l : List ℕ). l ++ rest) same) ∙ ap (λ (l : List ℕ). Some (from + length l)) (sym same)
  value_by b is s a o t f n m (string c) rest numbers short shallow ended stands =
      let part = escape c ++ 34 ∷ [] in
      let same : part ++ [] ≡ part = append-nil part in
      let inside : drop (from + 1) text ≡ part ++ rest = part_behind text (34 ∷ []) (part ++ rest) from (stands ∙ ap (λ (l : List ℕ). 34 ∷ (l ++ rest)) same) in
      let place : from + 1 + length part ≡ from + suc (length part) = omega arith in
      s (sym is ∙ first_is text _ from 34 stands) c rest short inside ∙ ap Some place ∙ ap (λ (l : List ℕ). Some (from + suc (length l))) (sym same)
  value_by b is s a o t f n m (array js) rest numbers short shallow ended stands =
      let above : levels ≡ suc (levels - 1) = omega (arith, shallow) in
      let inside = part_behind text (91 ∷ []) (print (items_tokens js) ++ rest) from stands in
      let place : from + 1 + length (print (items_tokens js)) ≡ from + suc (length (print (items_tokens js))) = omega arith in
      a (sym is ∙ first_is text _ from 91 stands) (levels - 1) above js rest numbers short (omega (arith, shallow)) inside ∙ ap Some place
  value_by b is s a o t f n m (object ms) rest numbers short shallow ended stands =
      let above : levels ≡ suc (levels - 1) = omega (arith, shallow) in
      let inside = part_behind text (123 ∷ []) (print (members_tokens ms) ++ rest) from stands in
      let place : from + 1 + length (print (members_tokens ms)) ≡ from + suc (length (print (members_tokens ms))) = omega arith in
      o (sym is ∙ first_is text _ from 123 stands) (levels - 1) above ms rest numbers short (omega (arith, shallow)) inside ∙ ap Some place

  pub string_at : get_or text from 0 ≡ 34 → FindsString text (from + 1) found → FindsValue levels text from found
  string_at is s =
      value_by 34 is (λ e. s) (λ e. absurd (omega (arith, e))) (λ e. absurd (omega (arith, e))) (λ e. absurd (omega (arith, e))) (λ e. absurd (omega (arith, e))) (λ e. absurd (omega (arith, e)))
      (λ e. absurd (false≢true e))

  pub array_at : get_or text from 0 ≡ 91 → ((below : ℕ) → levels ≡ suc below → FindsItems below text (from + 1) found) → FindsValue levels text from found
  array_at is a =
      value_by 91 is (λ e. absurd (omega (arith, e))) (λ e. a) (λ e. absurd (omega (arith, e))) (λ e. absurd (omega (arith, e))) (λ e. absurd (omega (arith, e))) (λ e. absurd (omega (arith, e)))
      (λ e. absurd (false≢true e))

  pub object_at : get_or text from 0 ≡ 123 → ((below : ℕ) → levels ≡ suc below → FindsMembers below text (from + 1) found) → FindsValue levels text from found
  object_at is o =
      value_by 123 is (λ e. absurd (omega (arith, e))) (λ e. absurd (omega (arith, e))) (λ e. o) (λ e. absurd (omega (arith, e))) (λ e. absurd (omega (arith, e))) (λ e. absurd (omega (arith, e)))
      (λ e. absurd (false≢true e))

  pub true_at : get_or text from 0 ≡ 116 → FindsWord text from (116 ∷ 114 ∷ 117 ∷ 101 ∷ []) found → FindsValue levels text from found
  true_at is t =
      value_by 116 is (λ e. absurd (omega (arith, e))) (λ e. absurd (omega (arith, e))) (λ e. absurd (omega (arith, e))) (λ e. t) (λ e. absurd (omega (arith, e))) (λ e. absurd (omega (arith, e)))
      (λ e. absurd (false≢true e))

  pub false_at : get_or text from 0 ≡ 102 → FindsWord text from (102 ∷ 97 ∷ 108 ∷ 115 ∷ 101 ∷ []) found → FindsValue levels text from found
  false_at is f =
      value_by 102 is (λ e. absurd (omega (arith, e))) (λ e. absurd (omega (arith, e))) (λ e. absurd (omega (arith, e))) (λ e. absurd (omega (arith, e))) (λ e. f) (λ e. absurd (omega (arith, e)))
      (λ e. absurd (false≢true e))

  pub null_at : get_or text from 0 ≡ 110 → FindsWord text from (110 ∷ 117 ∷ 108 ∷ 108 ∷ []) found → FindsValue levels text from found
  null_at is n =
      value_by 110 is (λ e. absurd (omega (arith, e))) (λ e. absurd (omega (arith, e))) (λ e. absurd (omega (arith, e))) (λ e. absurd (omega (arith, e))) (λ e. absurd (omega (arith, e))) (λ e. n)
      (λ e. absurd (false≢true e))

  pub number_at : (b : ℕ) → get_or text from 0 ≡ b → (b ≡ 34 → ⊥) → (b ≡ 91 → ⊥) → (b ≡ 123 → ⊥) → (b ≡ 116 → ⊥) → (b ≡ 102 → ⊥) → (b ≡ 110 → ⊥) → FindsNumber text from found
      → FindsValue levels text from found
  number_at b is s a o t f n m = value_by b is (λ e. absurd (s e)) (λ e. absurd (a e)) (λ e. absurd (o e)) (λ e. absurd (t e)) (λ e. absurd (f e)) (λ e. absurd (n e)) (λ e. m)

  not_begun : (b c : ℕ) → begins b ≡ true → begins c ≡ false → b ≡ c → ⊥
  not_begun b c is other e = true≢false (sym is ∙ ap begins e ∙ other)

  -- a number, by its first byte
  pub begun_at : begins (get_or text from 0) ≡ true → FindsNumber text from found → FindsValue levels text from found
  begun_at is m =
      let other = not_begun (get_or text from 0) in
      number_at (get_or text from 0) refl (other 34 is refl) (other 91 is refl) (other 123 is refl) (other 116 is refl) (other 102 is refl) (other 110 is refl) m

  not_digit : (b c : ℕ) → is_ascii_digit b ≡ true → is_ascii_digit c ≡ false → b ≡ c → ⊥
  not_digit b c is other e = true≢false (sym is ∙ ap is_ascii_digit e ∙ other)

  pub digit_at : is_ascii_digit (get_or text from 0) ≡ true → FindsNumber text from found → FindsValue levels text from found
  digit_at is m =
      let other = not_digit (get_or text from 0) in
      number_at (get_or text from 0) refl (other 34 is refl) (other 91 is refl) (other 123 is refl) (other 116 is refl) (other 102 is refl) (other 110 is refl) m
