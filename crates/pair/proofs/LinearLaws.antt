-- A letter is linear in the rows of a matrix, over any binary field. A letter multiplied into a product of two matrices
-- is multiplied into the second factor.
use Prim.Native.Nat.{ℕ, ◌+◌, ◌<◌}
use mathlib.Core.Path.{◌≡◌, refl, sym, ap, ◌∙◌}
use mathlib.Core.Bool.{Bool, true, false, cond}
use mathlib.Core.List.{List}
use native.Mathlib.Omega.{arith}
use Rattle.field.specs.Binary.{Operations, BinaryField}
use Rattle.field.proofs.Ring.{mul_left_comm}
use Rattle.matrix.specs.Layout.{entry, matrix_of}
use Rattle.matrix.specs.Product.{sum, row_by, matrix_product}
use Rattle.matrix.proofs.LayoutLaws.{entry_matrix_of, matrix_of_ext}
use Rattle.matrix.proofs.SumLaws.{sum_ext, sum_add, mul_sum}
use Rattle.matrix.proofs.ProductLaws.{row_by_ext}
use Rattle.word.specs.Letters.{is_letter, is_inverse, generator}
use Rattle.pair.specs.Action.{Share, t_value, positive_share, inverse_share, share_of, row_after, pair_of, letter_on}
use Rattle.pair.proofs.RowLaws.{Near, before, own, after, other, near, placed, row_after_is, row_after_same}
use Rattle.word.proofs.LetterLaws.{generator_below}

-- the map takes weighted sums of elements to weighted sums
abbrev Linear : Operations → (ℕ → ℕ) → Type 0
Linear F f =
    (n : ℕ) (weights xs : ℕ → ℕ)
    → f (sum F (λ k. F.mul (weights k) (xs k)) n) ≡ sum F (λ k. F.mul (weights k) (f (xs k))) n

-- all three maps of a share are linear
record LinearShare (F : Operations) (s : Share) : Type 0 where
  before : Linear F s.before
  own : Linear F s.own
  after : Linear F s.after

module _ {F : Operations} (L : BinaryField F) where
  multiple : (t : ℕ) → Linear F (λ x. F.mul t x)
  multiple t n weights xs =
      mul_sum L t (λ k. F.mul (weights k) (xs k)) n
      ∙ sum_ext F (λ k. F.mul t (F.mul (weights k) (xs k))) (λ k. F.mul (weights k) (F.mul t (xs k))) n
      (λ k h. mul_left_comm L t (weights k) (xs k))

  itself : Linear F (λ x. x)
  itself n weights xs = refl

  linear_share : (inverse : Bool) (s t : ℕ) → LinearShare F (cond inverse (inverse_share F s) (positive_share F t))
  linear_share true s t = record { before = itself; own = multiple s; after = multiple s }
  linear_share false s t = record { before = multiple t; own = multiple t; after = itself }

  -- an entry plus what it gains, where both are weighted sums
  gains : (f : ℕ → ℕ) → Linear F f → (n : ℕ) (weights xs ys : ℕ → ℕ)
      → F.add (sum F (λ k. F.mul (weights k) (xs k)) n) (f (sum F (λ k. F.mul (weights k) (ys k)) n))
      ≡ sum F (λ k. F.mul (weights k) (F.add (xs k) (f (ys k)))) n
  gains f l n weights xs ys =
      ap (F.add (sum F (λ k. F.mul (weights k) (xs k)) n)) (l n weights ys)
      ∙ sym (sum_ext F (λ k. F.mul (weights k) (F.add (xs k) (f (ys k))))
      (λ k. F.add (F.mul (weights k) (xs k)) (F.mul (weights k) (f (ys k)))) n
      (λ k h. L.mul_add (weights k) (xs k) (f (ys k)))
      ∙ sum_add L (λ k. F.mul (weights k) (xs k)) (λ k. F.mul (weights k) (f (ys k))) n)

  placed_linear : {s : Share} → LinearShare F s → {c g : ℕ} (d : Near c g) (n : ℕ) (weights xs ys : ℕ → ℕ)
      → placed F s d (sum F (λ k. F.mul (weights k) (xs k)) n) (sum F (λ k. F.mul (weights k) (ys k)) n)
      ≡ sum F (λ k. F.mul (weights k) (placed F s d (xs k) (ys k))) n
  placed_linear {s} l (before e) n weights xs ys = gains s.before l.before n weights xs ys
  placed_linear {s} l (own e) n weights xs ys = l.own n weights ys
  placed_linear {s} l (after e) n weights xs ys = gains s.after l.after n weights xs ys
  placed_linear {s} l (other a b e) n weights xs ys = refl

  -- a row times a matrix and then the letter is the row times the matrix after the letter
  row_linear : {s : Share} → LinearShare F s → (g n : ℕ) (row : ℕ → ℕ) (m : ℕ → ℕ → ℕ) (c : ℕ)
      → row_after F s g (row_by F n row m) c ≡ row_by F n row (λ k. row_after F s g (m k)) c
  row_linear {s} l g n row m c =
      row_after_is F s (near c g) (row_by F n row m)
      ∙ placed_linear l (near c g) n row (λ k. m k c) (λ k. m k g)
      ∙ sym (sum_ext F (λ k. F.mul (row k) (row_after F s g (m k) c))
      (λ k. F.mul (row k) (placed F s (near c g) (m k c) (m k g))) n
      (λ k h. ap (F.mul (row k)) (row_after_is F s (near c g) (m k))))

  pub letter_product : (ts : List ℕ) (c : ℕ) (a m labels : List ℕ) → is_letter c ≡ true
      → (letter_on F ts c (pair_of (matrix_product F a m) labels)).matrix
      ≡ matrix_product F a (letter_on F ts c (pair_of m labels)).matrix
  unfolding letter_on share_of matrix_product
  letter_product ts c a m labels e =
      let g = generator c in
      let hg : g < 8 = omega (arith, generator_below c e) in
      let l =
      linear_share (is_inverse c) (F.inv (t_value ts labels (generator c + 1))) (t_value ts labels (generator c)) in
      let s = share_of F ts labels (is_inverse c) g in
      let product : ℕ → ℕ → ℕ = λ r. row_by F 8 (entry a r) (entry m) in
      let changed : ℕ → ℕ → ℕ = λ r. row_after F s g (entry m r) in
      matrix_of_ext (λ r. row_after F s g (entry (matrix_of product) r))
      (λ r. row_by F 8 (entry a r) (entry (matrix_of changed)))
      (λ r j hr hj.
      row_after_same F s g j (entry (matrix_of product) r) (product r) (entry_matrix_of product r j hr hj)
      (entry_matrix_of product r g hr hg)
      ∙ row_linear l g 8 (entry a r) (entry m) j
      ∙ sym (row_by_ext F 8 (entry a r) (entry a r) (entry (matrix_of changed)) changed j (λ k h. refl)
      (λ k h. entry_matrix_of changed k j h hj)))
