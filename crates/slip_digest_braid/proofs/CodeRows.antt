-- The row of codes that the code multiplies in is the way between two levels: one test that antt computes over all
-- levels.
use Prim.Native.Nat.{ℕ, ◌-◌, ◌≤◌, ◌<◌}
use mathlib.Core.Path.{◌≡◌, refl, sym, ap, ◌∙◌}
use mathlib.Core.Bool.{Bool, true, cond, ◌&&◌}
use mathlib.Core.List.{List, [], ◌∷◌}
use native.Mathlib.Omega.{arith}
use borrow.Author.Tests.{lt-ltb, le-ltb}
use lib.Dec.{ltb}
use lib.ListN.{take, drop}
use Rattle.base.specs.Lists.{every, equal, values_from, values}
use Rattle.base.proofs.ListLaws.{and_left, and_right, every_values, equal_true}
use Rattle.word.specs.Letters.{is_letter}
use Rattle.slip_digest_braid.specs.steps.Ways.{way}

abbrev upwards : ℕ → ℕ → List ℕ
upwards l m = take (m - l) (drop l (8 ∷ 9 ∷ 10 ∷ 11 ∷ 12 ∷ 13 ∷ 14 ∷ []))

abbrev downwards : ℕ → ℕ → List ℕ
downwards l m = take (7 - m - (7 - l)) (drop (7 - l) (6 ∷ 5 ∷ 4 ∷ 3 ∷ 2 ∷ 1 ∷ 0 ∷ []))

abbrev way_row : ℕ → ℕ → Bool → List ℕ
way_row l m up = cond up (upwards l m) (downwards l m)

abbrev row_rule : ℕ → ℕ → Bool
row_rule l m = every is_letter (way l m) && equal (way_row l m (ltb l m)) (way l m)

rows : every (λ l. every (row_rule l) (values (λ m. m) 8)) (values (λ l. l) 8) ≡ true
unfolding values_from every equal way
rows = refl

module _ (l m : ℕ) (hl : l ≤ 7) (hm : m ≤ 7) where
  row_rule_lem : row_rule l m ≡ true
  row_rule_lem =
      every_values (row_rule l) (λ m. m) 8
      (every_values (λ l. every (row_rule l) (values (λ m. m) 8)) (λ l. l) 8 rows l (omega arith)) m (omega arith)

  row_is : way_row l m (ltb l m) ≡ way l m
  row_is = equal_true _ _ (and_right (every is_letter (way l m)) (equal (way_row l m (ltb l m)) (way l m)) row_rule_lem)

  pub way_letters : every is_letter (way l m) ≡ true
  way_letters = and_left (every is_letter (way l m)) (equal (way_row l m (ltb l m)) (way l m)) row_rule_lem

  pub row_up : l < m → upwards l m ≡ way l m
  row_up h = ap (way_row l m) (sym (lt-ltb l m h)) ∙ row_is

  pub row_down : m ≤ l → downwards l m ≡ way l m
  row_down h = ap (way_row l m) (sym (le-ltb l m h)) ∙ row_is
