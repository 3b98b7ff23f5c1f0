use Rattle.std.proofs.Common.{◌≡◌, ℕ, ◌+◌, ◌/◌, ◌%◌, ◌<◌, ◌≤◌, List, [], ◌∷◌, ◌++◌, sym, ap, ◌∙◌, arith}
use Rattle.std.specs.Prelude.{Result, Ok, Err, OnOk}
use Rattle.std.specs.Char.{encode_utf8}
use Rattle.std.proofs.lemmas.Bool.{lt-ltb, le-ltb}
use Rattle.json_texts.proofs.escapes.append_character.Goals as goal

two : (c : ℕ) → 128 ≤ c → c < 2048 → encode_utf8 c ≡ (192 + c / 64) ∷ (128 + c % 64) ∷ []
unfolding encode_utf8
two c low high = rw (le-ltb c 128 low, lt-ltb c 2048 high)

three : (c : ℕ) → 2048 ≤ c → c < 65536 → encode_utf8 c ≡ (224 + c / 4096) ∷ (128 + c / 64 % 64) ∷ (128 + c % 64) ∷ []
unfolding encode_utf8
three c low high = rw (le-ltb c 128 (omega (arith, low)), le-ltb c 2048 low, lt-ltb c 65536 high)

four : (c : ℕ) → 65536 ≤ c → encode_utf8 c ≡ (240 + c / 262144) ∷ (128 + c / 4096 % 64) ∷ (128 + c / 64 % 64) ∷ (128 + c % 64) ∷ []
unfolding encode_utf8
four c low = rw (le-ltb c 128 (omega (arith, low)), le-ltb c 2048 (omega (arith, low)), le-ltb c 65536 low)

appended : {E : Type 0} (r : Result Unit E) (new old bytes character : List ℕ) → character ≡ bytes → OnOk r (new ≡ old ++ bytes) → OnOk r (new ≡ old ++ character)
appended (Ok u) new old bytes character same h = h ∙ ap (λ l. old ++ l) (sym same)
appended (Err e) new old bytes character same h = h

pub returns-then-unit-lt2048 : goal.returns-then-unit-lt2048
returns-then-unit-lt2048 c = appended c.append-then-unit-lt2048.result _ _ _ _ (two c.args.character (omega (arith, c.if-unit-lt128.false)) c.if-unit-lt2048.true) c.append-then-unit-lt2048.ensures

pub returns-then-unit-lt65536 : goal.returns-then-unit-lt65536
returns-then-unit-lt65536 c = appended c.append-then-unit-lt65536.result _ _ _ _ (three c.args.character (omega (arith, c.if-unit-lt2048.false)) c.if-unit-lt65536.true) c.append-then-unit-lt65536.ensures

pub returns : goal.returns
returns c = appended c.append-2.result _ _ _ _ (four c.args.character (omega (arith, c.if-unit-lt65536.false))) c.append-2.ensures
