-- `word::read::all_letters` meets its contract: the first n half bytes are those of the first n / 2 bytes, or of all
-- bytes if there are fewer, and one more half byte if n is odd.
use Prim.Native.Nat.{ℕ, ◌+◌, ◌*◌, ◌-◌, ◌/◌, min}
use mathlib.Core.Path.{◌≡◌, refl, sym, ap, ap₂, ◌∙◌}
use mathlib.Core.Bool.{Bool, ◌&&◌}
use mathlib.Core.List.{List}
use native.Mathlib.Omega.{arith}
use lib.ListN.{length, take}
use Rattle.std.proofs.lemmas.List.{take_min}
use Rattle.base.specs.Lists.{every}
use Rattle.base.specs.Digits.{halves}
use Rattle.base.proofs.ListLaws.{every_more_all}
use Rattle.base.proofs.DigitLaws.{take_halves}
use Rattle.word.specs.Letters.{is_letter}
use Rattle.word.proofs.read.all_letters.Goals as goal

-- the first k bytes, or all of them, have the first 2 * k half bytes
whole_tested : (part : List ℕ) (k m : ℕ) {b : Bool} → m ≡ min k (length part)
    → b ≡ every is_letter (halves (take m part))
    → b ≡ every is_letter (take (2 * k) (halves part))
whole_tested part k m e t =
    t ∙ ap (λ (l : List ℕ). every is_letter (halves l)) (ap (λ (j : ℕ). take j part) e ∙ take_min k part)
    ∙ ap (every is_letter) (sym (take_halves k part))

pub returns-then-n-eq0 : goal.returns-then-n-eq0
returns-then-n-eq0 c =
    let a = c.args in
    let even : 2 * (a.n / 2) ≡ a.n = omega arith in
    whole_tested a.part.now (a.n / 2) c.min.result c.min.ensures c.whole_letters-whole.ensures
    ∙ ap (λ (j : ℕ). every is_letter (take j (halves a.part.now))) even

pub returns : goal.returns
returns c =
    let a = c.args in
    let hs = halves a.part.now in
    let odd : 2 * (a.n / 2) ≡ a.n - 1 = omega arith in
    let all : a.n - 1 + 1 ≡ a.n = omega arith in
    ap₂ (λ (x y : Bool). x && y)
    (whole_tested a.part.now (a.n / 2) c.min.result c.min.ensures c.whole_letters-whole.ensures
    ∙ ap (λ (j : ℕ). every is_letter (take j hs)) odd)
    (c.is_letter.ensures ∙ ap is_letter c.half.ensures)
    ∙ sym (every_more_all is_letter refl hs (a.n - 1))
    ∙ ap (λ (j : ℕ). every is_letter (take j hs)) all
