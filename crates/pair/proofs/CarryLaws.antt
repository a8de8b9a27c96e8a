-- A letter's own column and its sign, as the code reads them from the letter's code.
use Prim.Native.Nat.{ℕ, ◌%◌, ◌<◌}
use mathlib.Core.Path.{◌≡◌, sym, ap, ◌∙◌}
use mathlib.Core.Bool.{Bool, true, ◌&&◌}
use mathlib.Core.Logic.{⊎_elim}
use native.Mathlib.Omega.{arith}
use borrow.Author.Tests.{le-leb}
use lib.Dec.{leb}
use Rattle.base.proofs.ListLaws.{and_true}
use Rattle.word.specs.Letters.{is_letter, is_inverse}
use Rattle.word.proofs.LetterLaws.{letter_cases}

-- a letter's own column has a column after it: it is at most 6
pub column_below : (c : ℕ) → is_letter c ≡ true → c % 8 < 7
column_below c e = ⊎_elim (λ p. omega arith) (λ p. omega arith) (letter_cases c e)

-- a letter is an inverse exactly if its code is 8 or more
pub sign : (c : ℕ) → is_letter c ≡ true → leb 8 c ≡ is_inverse c
sign c e =
    sym (and_true (leb 8 c))
    ∙ ap (λ (b : Bool). leb 8 c && b) (sym (le-leb c 14 (⊎_elim (λ p. omega arith) (λ p. p.1) (letter_cases c e))))
