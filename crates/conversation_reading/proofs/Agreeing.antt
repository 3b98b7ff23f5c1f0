-- What an entry is, and whether it breaks a rule.
use Rattle.std.proofs.Common.{◌≡◌, ◌||◌, ◌&&◌, Bool, true, false, refl, ap, ◌∙◌, if◌then◌else◌}
use Rattle.std.specs.Prelude.{not, codes}
use Rattle.json.specs.Json.{Json}
use Rattle.conversation_reading.specs.Twice.{has_twice}
use Rattle.conversation_reading.specs.Strictly.{has, there_in, is_object, no_object, call_faults, answer_faults, faults_of, has_fault, call_kind, kind_of, is_message, entry_of}
use Rattle.conversation_reading.specs.declared.entry.There.{There}
use Rattle.conversation_reading.specs.declared.entry.Kind.TheVariants.{BrokenAnswer, Answer, Invalid}

-- a method, an id, an outcome, whether a rule is broken, and whether a member stands twice: where there is neither a method nor an
-- outcome, a rule is
by_members : (m i o f t : Bool) → (m ≡ false → o ≡ false → f ≡ true)
    → is_message (if m then call_kind f i else (if o then (if f || t then BrokenAnswer else Answer) else Invalid)) ≡ not (f || (not m && t))
by_members true true o true t h = refl
by_members true true o false t h = refl
by_members true false o true t h = refl
by_members true false o false t h = refl
by_members false i true true t h = refl
by_members false i true false true h = refl
by_members false i true false false h = refl
by_members false i false true t h = refl
by_members false i false false t h = let e : false ≡ true = h refl refl in cc

kind_agrees : (there : There) (f t : Bool) → (there.method ≡ false → (there.result || there.error) ≡ false → f ≡ true)
    → is_message (kind_of there f t) ≡ not (f || (not there.method && t))
kind_agrees there f t h = by_members there.method there.id (there.result || there.error) f t h

sixth_is_enough : (a b c d e f g : Bool) → f ≡ true → (a || b || c || d || e || f || g) ≡ true
sixth_is_enough true b c d e f g h = refl
sixth_is_enough false true c d e f g h = refl
sixth_is_enough false false true d e f g h = refl
sixth_is_enough false false false true e f g h = refl
sixth_is_enough false false false false true f g h = refl
sixth_is_enough false false false false false true g h = refl
sixth_is_enough false false false false false false g h = cc

neither_is_told : (both any : Bool) → any ≡ false → (both || not any) ≡ true
neither_is_told true any h = refl
neither_is_told false true h = cc
neither_is_told false false h = refl

-- an object without a method, a result and an error
answer_is_faulty : (j : Json) (there : There) → (there.result || there.error) ≡ false → has_fault (answer_faults j there) ≡ true
answer_is_faulty j there h =
    let f = answer_faults j there in
    sixth_is_enough f.object f.version f.method f.params f.id f.outcome f.error (neither_is_told (there.result && there.error) (there.result || there.error) h)

neither_is_faulty : (j : Json) → (there_in j).method ≡ false → ((there_in j).result || (there_in j).error) ≡ false → has_fault (faults_of j) ≡ true
neither_is_faulty j no_method no_outcome = by_object (is_object j) refl
  where
    by_object : (b : Bool) → is_object j ≡ b → has_fault (faults_of j) ≡ true
    by_object false is = ap (λ b. has_fault (if b then (if has (codes "method") j then call_faults j else answer_faults j (there_in j)) else no_object)) is
    by_object true is =
        ap (λ b. has_fault (if b then (if has (codes "method") j then call_faults j else answer_faults j (there_in j)) else no_object)) is
        ∙ ap (λ m. has_fault (if m then call_faults j else answer_faults j (there_in j))) no_method
        ∙ answer_is_faulty j (there_in j) no_outcome

pub kinds_agree : (j : Json) → is_message (entry_of j).kind ≡ not (has_fault (faults_of j) || (not (has (codes "method") j) && has_twice j))
kinds_agree j = kind_agrees (there_in j) (has_fault (faults_of j)) (has_twice j) (neither_is_faulty j)
