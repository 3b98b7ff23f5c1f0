-- What an object holds once a member was taken out of it.
use Rattle.std.proofs.Common.{◌≡◌, ℕ, List, [], ◌∷◌, String, Global, Bool, true, false, Some, cond, true≢false, string_bytes, nat_cmp, refl, sym, ap, ◌∙◌, bytes_eq}
use Rattle.std.proofs.lemmas.Map.Text.{is_eq-slice_cmp}
use Rattle.std.proofs.lemmas.Slice.Eq.{bytes_eq-Decides}
use Rattle.std.specs.BTreeMap.{is_at}
use Rattle.std.specs.Cmp.Lexicographic.{slice_cmp}
use Rattle.std.specs.Map.{remove_entry}
use Rattle.std.specs.Ordering.{match_ordering}
use Rattle.serde_json.specs.Find.{get_member}
use Rattle.serde_json.specs.View.{view, members_view}
use Rattle.serde_json.specs.declared.value.Value.{Value}
use Rattle.serde_json.proofs.Views.{member_later}

-- the test of a look-up by the name
abbrev pub named : List ℕ → String Global → Bool
named name = is_at (λ k. slice_cmp nat_cmp name (string_bytes k))

-- the names that one that was taken isn't
apart : (q name k : List ℕ) → bytes_eq q name ≡ false → bytes_eq name k ≡ true → (q ≡ k → ⊥)
apart q name k other same is =
    true≢false (sym ((bytes_eq-Decides q name).1 (is ∙ sym ((bytes_eq-Decides name k).0 same))) ∙ other)

at_entry : (b : Bool) (q name : List ℕ) (e : String Global × Value) (es rest : List (String Global × Value)) → named name e.0 ≡ b → bytes_eq q name ≡ false
    → get_member q (members_view rest) ≡ get_member q (members_view es) → get_member q (members_view (cond b es (e ∷ rest))) ≡ get_member q (members_view (e ∷ es))
at_entry true q name e es rest is other later = sym (member_later q e es (apart q name (string_bytes e.0) other (sym (is_eq-slice_cmp name (string_bytes e.0)) ∙ is)))
at_entry false q name e es rest is other later = ap (λ d. match_ordering (slice_cmp nat_cmp q (string_bytes e.0)) d (Some (view e.1)) d) later

-- every other name keeps its value
pub get_member-remove_entry : (q name : List ℕ) (es : List (String Global × Value)) → bytes_eq q name ≡ false
    → get_member q (members_view (remove_entry (named name) es)) ≡ get_member q (members_view es)
get_member-remove_entry q name [] other = refl
get_member-remove_entry q name (e ∷ es) other = at_entry _ q name e es _ refl other (get_member-remove_entry q name es other)
