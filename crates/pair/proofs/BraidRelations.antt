-- The braid relations on pairs, over any binary field. A letter and its inverse cancel in both orders. Far letters
-- commute, whatever their signs. For neighbouring letters of one sign, j k j does what k j k does. Only cancellation
-- assumes that the T-values are not zero. No relation assumes that each label occurs once.
use Prim.Native.Nat.{ℕ, ◌+◌, ◌<◌, ◌≤◌}
use mathlib.Core.Path.{◌≡◌, refl, sym, ap, ap₂, ◌∙◌}
use mathlib.Core.Bool.{Bool, true}
use mathlib.Core.List.{List}
use mathlib.Core.Logic.{inl, inr}
use native.Mathlib.Omega.{arith}
use lib.ListN.{length}
use Rattle.field.specs.Binary.{Operations, BinaryField}
use Rattle.word.specs.Letters.{is_letter, is_inverse, generator, inverse}
use Rattle.pair.specs.declared.Pair.{Pair}
use Rattle.pair.specs.Action.{Share, share_of, rows_on, pair_of, letter_on}
use Rattle.pair.specs.Good.{TValues, GoodPair}
use Rattle.matrix.specs.Layout.{Matrix}
use Rattle.word.specs.Strands.{swapped}
use Rattle.word.proofs.StrandLaws.{length_swapped, swapped_below, swapped_twice, swapped_far, swapped_braid}
use Rattle.pair.proofs.ShareLaws.{share_keeps, share_undone, share_far, share_braids, rows_good, rows_undone}
use Rattle.pair.proofs.ShareLaws.{rows_far, rows_braid}
use Rattle.word.proofs.LetterLaws.{Apart, Neighbours, generator_below, inverse_generator, inverse_sign}

-- the matrix of a good pair consists of elements
pub good_matrix : {F : Operations} {p : Pair} → GoodPair F p → Matrix F.size p.matrix
good_matrix good = record { size = good.entries; below = good.entry_below }

-- a good pair is the pair of its matrix and its list
pub good_pair : {F : Operations} {p : Pair} → GoodPair F p → pair_of p.matrix p.labels ≡ p
good_pair {F} {p} good =
    λ j. record { matrix = p.matrix; labels = p.labels; positions = sym good.positions_are j }

module _ {F : Operations} (L : BinaryField F) (ts : List ℕ) where
  -- every code, letter or not, keeps a pair good
  pub letter_good : (c : ℕ) (p : Pair) → GoodPair F p → GoodPair F (letter_on F ts c p)
  unfolding letter_on
  letter_good c p good =
      let g = generator c in
      let l = p.labels in
      let m =
      rows_good L (share_of F ts l (is_inverse c) g) g p.matrix (share_keeps L ts l (is_inverse c) g)
      good.entry_below in
      record {
        entries = m.size;
        entry_below = m.below;
        strands = length_swapped g l ∙ good.strands;
        label_below = swapped_below g l good.label_below;
        positions_are = refl;
      }

  -- A letter, then its inverse. c may be an inverse letter, so the law covers both orders.
  pub letter_inverse : (c : ℕ) (p : Pair) → TValues F ts → is_letter c ≡ true → GoodPair F p
      → letter_on F ts (inverse c) (letter_on F ts c p) ≡ p
  unfolding letter_on
  letter_inverse c p tv e good =
      let g : ℕ = generator c in
      let l : List ℕ = p.labels in
      let s : Share = share_of F ts l (is_inverse c) g in
      let h : g < 7 = generator_below c e in
      let n : g + 1 < length l = omega (arith, good.strands) in
      ap₂ (λ (b : Bool) (k : ℕ). pair_of (rows_on F (share_of F ts (swapped g l) b k) k (rows_on F s g p.matrix))
      (swapped k (swapped g l)))
      (inverse_sign c e) (inverse_generator c e)
      ∙ ap₂ pair_of
      (rows_undone (share_undone L ts l (is_inverse c) g n tv good.label_below) g p.matrix (omega arith)
      (good_matrix good))
      (swapped_twice g l n)
      ∙ good_pair good

  -- far letters commute, whatever their signs
  far_up : (c d : ℕ) (p : Pair) → is_letter d ≡ true → generator c + 2 ≤ generator d → GoodPair F p
      → letter_on F ts d (letter_on F ts c p) ≡ letter_on F ts c (letter_on F ts d p)
  unfolding letter_on
  far_up c d p e f good =
      let g : ℕ = generator c in
      let k : ℕ = generator d in
      let l : List ℕ = p.labels in
      let s : Share = share_of F ts l (is_inverse c) g in
      let t : Share = share_of F ts l (is_inverse d) k in
      let h : k < 7 = generator_below d e in
      ap₂ pair_of
      (ap (λ (u : Share). rows_on F u k (rows_on F s g p.matrix))
      (share_far F ts l (is_inverse d) g k (omega arith) (omega arith) (omega arith))
      ∙ rows_far L s t g k p.matrix f (omega arith)
      ∙ sym (ap (λ (u : Share). rows_on F u g (rows_on F t k p.matrix))
      (share_far F ts l (is_inverse c) k g (omega arith) (omega arith) (omega arith))))
      (swapped_far g k l f (omega (arith, good.strands)))

  pub far_commutation : (c d : ℕ) (p : Pair) → is_letter c ≡ true → is_letter d ≡ true → Apart c d → GoodPair F p
      → letter_on F ts d (letter_on F ts c p) ≡ letter_on F ts c (letter_on F ts d p)
  far_commutation c d p e e' (inl f) good = far_up c d p e' f good
  far_commutation c d p e e' (inr f) good = sym (far_up d c p e f good)

  -- the braid relation for neighbouring letters of one sign
  braid_up : (j k : ℕ) (p : Pair) → is_letter k ≡ true → is_inverse j ≡ is_inverse k → generator j + 1 ≡ generator k
      → GoodPair F p
      → letter_on F ts j (letter_on F ts k (letter_on F ts j p))
      ≡ letter_on F ts k (letter_on F ts j (letter_on F ts k p))
  unfolding letter_on
  braid_up j k p e s f good =
      let h : generator j + 2 < length p.labels = omega (arith, generator_below k e, good.strands) in
      rw (← f, ← s)
      (ap₂ pair_of
      (rows_braid (share_braids L ts p.labels (is_inverse j) (generator j) h) (generator j) p.matrix
      (omega (arith, good.strands)))
      (swapped_braid (generator j) p.labels h))

  pub braid_relation : (j k : ℕ) (p : Pair) → is_letter j ≡ true → is_letter k ≡ true → is_inverse j ≡ is_inverse k
      → Neighbours j k → GoodPair F p
      → letter_on F ts j (letter_on F ts k (letter_on F ts j p))
      ≡ letter_on F ts k (letter_on F ts j (letter_on F ts k p))
  braid_relation j k p e e' s (inl f) good = braid_up j k p e' s f good
  braid_relation j k p e e' s (inr f) good = sym (braid_up k j p e (sym s) f good)
