-- A word keeps a matrix invertible or not invertible, over any binary field and under T-values other than zero. The
-- matrix that a word reaches from a pair is invertible exactly if the pair's matrix is.
use Prim.Native.Nat.{ℕ}
use mathlib.Core.Path.{◌≡◌, refl, sym, ap, ◌∙◌}
use mathlib.Core.Bool.{Bool, true, false, false≢true}
use mathlib.Core.List.{List, [], ◌∷◌}
use mathlib.Core.Logic.{◌↔◌}
use Rattle.base.proofs.ListLaws.{not_true_false}
use Rattle.field.specs.Binary.{Operations, BinaryField}
use Rattle.matrix.specs.Layout.{entry, Matrix}
use Rattle.matrix.specs.Product.{identity, matrix_product}
use Rattle.matrix.specs.Elimination.{invertible, HasInverse}
use Rattle.matrix.proofs.ProductLaws.{product_elements, identity_elements, product_assoc, identity_right}
use Rattle.matrix.proofs.Invertible.{invertible_iff}
use Rattle.word.specs.Letters.{is_letter, generator, inverse}
use Rattle.word.proofs.LetterLaws.{Lettered, lettered_cons, inverse_letter}
use Rattle.pair.specs.declared.Pair.{Pair}
use Rattle.word.specs.Strands.{swapped}
use Rattle.pair.specs.Action.{pair_of, identity_with, letter_on, word_on}
use Rattle.pair.specs.Good.{TValues, GoodPair}
use Rattle.pair.proofs.LinearLaws.{letter_product}
use Rattle.pair.proofs.BraidRelations.{good_matrix, letter_good, letter_inverse}
use Rattle.pair.proofs.WordLaws.{letter_reads, codes_good}

-- a good pair stays good with another matrix of elements
good_with : {F : Operations} {p : Pair} → GoodPair F p → (m : List ℕ) → Matrix F.size m
    → GoodPair F (pair_of m p.labels)
good_with good m elements =
    record {
      entries = elements.size;
      entry_below = elements.below;
      strands = good.strands;
      label_below = good.label_below;
      positions_are = refl;
    }

-- the labels after a letter do not depend on the matrix
letter_parts : (F : Operations) (ts : List ℕ) (c : ℕ) (m labels : List ℕ)
    → letter_on F ts c (pair_of m labels)
    ≡ pair_of (letter_on F ts c (pair_of m labels)).matrix (swapped (generator c) labels)
unfolding letter_on
letter_parts F ts c m labels = refl

module _ {F : Operations} (L : BinaryField F) (ts : List ℕ) (tv : TValues F ts) where
  module _ (c : ℕ) (e : is_letter c ≡ true) (p : Pair) (good : GoodPair F p) where
    -- `there` is the letter on the identity. `back` is the inverse letter on the identity with the labels that the
    -- letter leaves.
    abbrev there : List ℕ
    there = (letter_on F ts c (identity_with p.labels)).matrix

    abbrev back : List ℕ
    back = (letter_on F ts (inverse c) (identity_with (swapped (generator c) p.labels))).matrix

    there_elements : Matrix F.size there
    there_elements =
        good_matrix (letter_good L ts c (identity_with p.labels) (good_with good identity (identity_elements L)))

    there_back : matrix_product F there back ≡ identity
    there_back =
        sym (letter_product L ts (inverse c) there identity (swapped (generator c) p.labels) (inverse_letter c e))
        ∙ ap (λ (m : List ℕ). (letter_on F ts (inverse c) (pair_of m (swapped (generator c) p.labels))).matrix)
        (identity_right L there there_elements)
        ∙ ap (λ (q : Pair). (letter_on F ts (inverse c) q).matrix) (sym (letter_parts F ts c identity p.labels))
        ∙ ap (λ (q : Pair). q.matrix)
        (letter_inverse L ts c (identity_with p.labels) tv e (good_with good identity (identity_elements L)))

    -- If the matrix after the letter has an inverse b, the matrix before it has the inverse `there` × b.
    letter_back : HasInverse F (letter_on F ts c p).matrix → HasInverse F p.matrix
    letter_back h =
        record {
          inverse = matrix_product F there b;
          inverts =
              record {
                elements = product_elements L there b;
                gives_identity = product_assoc L there b p.matrix ∙ ap (matrix_product F there) reached ∙ there_back;
              };
        }
      where
        b : List ℕ
        b = h.inverse

        after : (letter_on F ts c (pair_of (matrix_product F b p.matrix) p.labels)).matrix ≡ identity
        after =
            letter_product L ts c b p.matrix p.labels e
            ∙ ap (λ (q : Pair). matrix_product F b q.matrix) (letter_reads F ts c p)
            ∙ h.inverts.gives_identity

        reached : matrix_product F b p.matrix ≡ back
        reached =
            sym (ap (λ (q : Pair). q.matrix)
            (letter_inverse L ts c (pair_of (matrix_product F b p.matrix) p.labels) tv e
            (good_with good (matrix_product F b p.matrix) (product_elements L b p.matrix))))
            ∙ ap (λ (q : Pair). (letter_on F ts (inverse c) q).matrix)
            (letter_parts F ts c (matrix_product F b p.matrix) p.labels)
            ∙ ap (λ (m : List ℕ). (letter_on F ts (inverse c) (pair_of m (swapped (generator c) p.labels))).matrix)
            after

  letter_has_inverse : (c : ℕ) → is_letter c ≡ true → (p : Pair) → GoodPair F p
      → HasInverse F (letter_on F ts c p).matrix ↔ HasInverse F p.matrix
  letter_has_inverse c e p good = (
    letter_back c e p good,
    λ h. letter_back (inverse c) (inverse_letter c e) (letter_on F ts c p) (letter_good L ts c p good)
        (rw (letter_inverse L ts c p tv e good) h),
  )

  word_has_inverse : (w : List ℕ) → Lettered w → (p : Pair) → GoodPair F p
      → HasInverse F (word_on F ts w p).matrix ↔ HasInverse F p.matrix
  unfolding word_on
  word_has_inverse [] e p good = (λ h. h, λ h. h)
  word_has_inverse (c ∷ w) e p good =
      let l = lettered_cons c w e in
      let rest = word_has_inverse w l.1 (letter_on F ts c p) (letter_good L ts c p good) in
      let first = letter_has_inverse c l.0 p good in
      (λ h. first.0 (rest.0 h), λ h. rest.1 (first.1 h))

  -- elimination gives the same answer before the word and after it
  pub word_invertible : (w : List ℕ) → Lettered w → (p : Pair) → GoodPair F p
      → invertible F 8 (entry (word_on F ts w p).matrix) ≡ invertible F 8 (entry p.matrix)
  word_invertible w e p good =
      equal _ _ (λ t. there_iff.1 (both.0 (after_iff.0 t))) (λ t. after_iff.1 (both.1 (there_iff.0 t)))
    where
      after_iff : (invertible F 8 (entry (word_on F ts w p).matrix) ≡ true) ↔ HasInverse F (word_on F ts w p).matrix
      after_iff = invertible_iff L (word_on F ts w p).matrix (good_matrix (codes_good L ts w p good))

      there_iff : (invertible F 8 (entry p.matrix) ≡ true) ↔ HasInverse F p.matrix
      there_iff = invertible_iff L p.matrix (good_matrix good)

      both : HasInverse F (word_on F ts w p).matrix ↔ HasInverse F p.matrix
      both = word_has_inverse w e p good

      equal : (a b : Bool) → (a ≡ true → b ≡ true) → (b ≡ true → a ≡ true) → a ≡ b
      equal true b f g = sym (f refl)
      equal false b f g = sym (not_true_false b (λ t. false≢true (g t)))
