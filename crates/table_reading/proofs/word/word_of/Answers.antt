use Rattle.std.proofs.Common.{◌≡◌, ◌≢◌, ◌==◌, ℕ, List, [], ◌∷◌, false, refl, ap, arith, lit<, None}
use Rattle.std.proofs.lemmas.Bool.Decides.{nat_tests}
use Rattle.std.proofs.lemmas.Str.Pattern.{strip_prefix_char}
use Rattle.serde_json.specs.Data.{string}
use Rattle.method_templates.specs.Shape.{plain}
use Rattle.table_reading.specs.Templates.{shape_of_text}
use Rattle.table_reading.proofs.word.word_of.Goals as goal

literal : (s : List ℕ) → ((rest : List ℕ) → s ≢ 36 ∷ rest) → plain (string s) ≡ shape_of_text s
literal [] h = refl
literal (b ∷ s) h =
    let other : b ≢ 36 = λ e. h s (ap (λ x. x ∷ s) e) in
    let test : (b == 36) ≡ false = grind (arith, nat_tests) in
    rw test

pub returns-in-None : goal.returns-in-None
returns-in-None c = literal c.args.text.now (strip_prefix_char 36 c.args.text.now None c.in-None.ensures.cases (lit< tt))
