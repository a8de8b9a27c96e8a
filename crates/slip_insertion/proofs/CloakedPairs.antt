-- A word that brings the identity matrix with a list back, list included, brings every matrix with that list back, over
-- any binary field. The reason: multiplication by a word is linear in the rows of the matrix. Such a word may be
-- inserted wherever a word reaches that list, and the whole word still reaches the same pair.
use Prim.Native.Nat.{ℕ}
use mathlib.Core.Path.{◌≡◌, refl, sym, ap, ◌∙◌}
use mathlib.Core.List.{List, [], ◌∷◌, ◌++◌}
use lib.ListN.{take, drop, take-append-drop}
use Rattle.field.specs.Binary.{Operations, BinaryField}
use Rattle.matrix.specs.Product.{identity, matrix_product}
use Rattle.matrix.proofs.ProductLaws.{identity_right}
use Rattle.word.specs.Letters.{generator}
use Rattle.word.specs.Strands.{swapped}
use Rattle.word.proofs.LetterLaws.{Lettered, lettered_cons}
use Rattle.pair.specs.declared.Pair.{Pair}
use Rattle.pair.specs.Action.{pair_of, identity_with, letter_on, word_on}
use Rattle.pair.specs.Good.{GoodPair}
use Rattle.pair.proofs.BraidRelations.{good_matrix, good_pair}
use Rattle.pair.proofs.LinearLaws.{letter_product}
use Rattle.pair.proofs.WordLaws.{word_on_append, codes_good}
use Rattle.slip_insertion.specs.Insertion.{inserted_at}

module _ {F : Operations} (L : BinaryField F) (ts : List ℕ) where
  -- a word multiplied into a product of matrices is multiplied into the second factor
  word_product : (w a m labels : List ℕ) → Lettered w
      → word_on F ts w (pair_of (matrix_product F a m) labels)
      ≡ pair_of (matrix_product F a (word_on F ts w (pair_of m labels)).matrix)
      (word_on F ts w (pair_of m labels)).labels
  unfolding word_on letter_on
  word_product [] a m labels e = refl
  word_product (c ∷ w) a m labels e =
      let l = lettered_cons c w e in
      ap (λ (t : List ℕ). word_on F ts w (pair_of t (swapped (generator c) labels)))
      (letter_product L ts c a m labels l.0)
      ∙ word_product w a (letter_on F ts c (pair_of m labels)).matrix (swapped (generator c) labels) l.1

  -- the identity with a list comes back, so every matrix with that list does
  every_matrix_back : (w : List ℕ) → Lettered w → (p : Pair) → GoodPair F p
      → word_on F ts w (identity_with p.labels) ≡ identity_with p.labels → word_on F ts w p ≡ p
  every_matrix_back w e p good back =
      let m : List ℕ = p.matrix in
      let labels : List ℕ = p.labels in
      let one : matrix_product F m identity ≡ m = identity_right L m (good_matrix good) in
      sym (ap (word_on F ts w) (good_pair good))
      ∙ ap (λ (t : List ℕ). word_on F ts w (pair_of t labels)) (sym one)
      ∙ word_product w m identity labels e
      ∙ ap (λ (q : Pair). pair_of (matrix_product F m q.matrix) q.labels) back
      ∙ ap (λ (t : List ℕ). pair_of t labels) one
      ∙ good_pair good

  -- a word v brings back the list that w reaches from p at a place: with v inserted there, w carries p where it did
  pub inserted_carries : (place : ℕ) (v w : List ℕ) → Lettered v → (p : Pair) → GoodPair F p
      → word_on F ts v (identity_with (word_on F ts (take place w) p).labels)
      ≡ identity_with (word_on F ts (take place w) p).labels
      → word_on F ts (inserted_at place v w) p ≡ word_on F ts w p
  inserted_carries place v w ev p good b =
      let there : Pair = word_on F ts (take place w) p in
      word_on_append F ts (take place w) (v ++ drop place w) p
      ∙ word_on_append F ts v (drop place w) there
      ∙ ap (word_on F ts (drop place w)) (every_matrix_back v ev there (codes_good L ts (take place w) p good) b)
      ∙ sym (word_on_append F ts (take place w) (drop place w) p)
      ∙ ap (λ (u : List ℕ). word_on F ts u p) (take-append-drop place w)
