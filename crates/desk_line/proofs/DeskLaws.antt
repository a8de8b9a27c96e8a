-- Laws of the line with an answer.
use Prim.Native.Nat.{ℕ, ◌+◌, ◌≤◌, ◌<◌}
use native.Mathlib.Omega.{arith}
use mathlib.Core.Path.{◌≡◌, refl, sym, subst}
use mathlib.Core.List.{List, [], ◌∷◌, ◌++◌}
use lib.ListN.{length, replicate}
use Rattle.base.specs.steps.Laying.{Laid}
use Rattle.base.specs.Lists.{overlaid}
use Rattle.text.specs.Decimal.{decimal}
use Rattle.text.specs.Texts.{line}
use Rattle.text.proofs.DecimalLaws.{decimal_short}
use Rattle.text.proofs.TextLaws.{told_more}
use Rattle.desk_line.specs.Desk.{answer_word, answer_line, Tells}

-- "answer " stands in the buffer, and the number and the line end are laid behind it
pub answer_told : {n answer bytes : ℕ} {text : List ℕ} → n ≡ answer
    → Laid 7 (decimal n ++ (10 ∷ [])) (answer_word ++ (32 ∷ replicate 4 0)) text bytes
    → Tells (answer_line answer) bytes text
unfolding answer_line line overlaid
answer_told {n} {answer} {bytes} {text} e f =
    subst (λ (k : ℕ). Tells (answer_line k) bytes text) e
    (told_more {text = answer_word ++ (32 ∷ [])} (record { bytes_are = refl; text_is = refl }) f)

pub line_fits : (n : ℕ) → n < 256 → 7 + (length (decimal n) + 1) ≤ 11
line_fits n h = omega (arith, decimal_short n 3 (omega arith) (omega arith))

-- no line
pub none_told : {written : List ℕ} {bytes : ℕ} {text : List ℕ} → written ≡ [] → bytes ≡ 0 → text ≡ replicate 11 0
    → Tells written bytes text
unfolding overlaid
none_told {written} {bytes} {text} e b t =
    subst (λ (l : List ℕ). Tells l bytes text) (sym e) (record { bytes_are = b; text_is = t })
