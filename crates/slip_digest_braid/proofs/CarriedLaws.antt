-- Words that carry every good pair to the same pair. The relation is reflexive and transitive, and holds inside longer
-- words. A word and its freely reduced word are such words: a letter and its inverse after it leave a pair as it was.
use Prim.Native.Nat.{ℕ}
use mathlib.Core.Path.{◌≡◌, refl, sym, ap, ◌∙◌}
use mathlib.Core.Bool.{true}
use mathlib.Core.List.{List, [], ◌∷◌, ◌++◌}
use Rattle.field.specs.Binary.{Operations, BinaryField}
use Rattle.word.specs.Letters.{is_letter}
use Rattle.word.specs.Reduction.{in_front, reduced}
use Rattle.word.proofs.LetterLaws.{Lettered, lettered_cons}
use Rattle.word.proofs.ReductionLaws.{in_front_cases}
use Rattle.pair.specs.declared.Pair.{Pair}
use Rattle.pair.specs.Action.{letter_on, word_on}
use Rattle.pair.specs.Good.{TValues, GoodPair}
use Rattle.pair.proofs.BraidRelations.{letter_good, letter_inverse}
use Rattle.pair.proofs.WordLaws.{word_on_append, codes_good}
use Rattle.slip_digest_braid.specs.steps.Ways.{SameCarried}

pub same_none : (w : List ℕ) → SameCarried w w
same_none w = record { carried = λ F L ts tv p good. refl }

pub same_then : {x y z : List ℕ} → SameCarried x y → SameCarried y z → SameCarried x z
same_then s t = record { carried = λ F L ts tv p good. t.carried F L ts tv p good ∙ s.carried F L ts tv p good }

pub same_append : {x y u v : List ℕ} → SameCarried x y → SameCarried u v → SameCarried (x ++ u) (y ++ v)
same_append {x} {y} {u} {v} s t =
    record {
      carried = λ F L ts tv p good.
          word_on_append F ts y v p
          ∙ t.carried F L ts tv (word_on F ts y p) (codes_good L ts y p good)
          ∙ ap (word_on F ts u) (s.carried F L ts tv p good)
          ∙ sym (word_on_append F ts x u p);
    }

pub same_inside : (u v : List ℕ) {x y : List ℕ} → SameCarried x y → SameCarried (u ++ (x ++ v)) (u ++ (y ++ v))
same_inside u v s = same_append (same_none u) (same_append s (same_none v))

module _ {F : Operations} (L : BinaryField F) (ts : List ℕ) (tv : TValues F ts) where
  in_front_on : (c : ℕ) → is_letter c ≡ true → (p : Pair) → GoodPair F p → (w : List ℕ)
      → word_on F ts (in_front c w) p ≡ word_on F ts w (letter_on F ts c p)
  unfolding word_on
  in_front_on c e p good =
      in_front_cases (λ w v. word_on F ts v p ≡ word_on F ts w (letter_on F ts c p)) c
      (λ v. ap (word_on F ts v) (sym (letter_inverse L ts c p tv e good))) (λ v n. refl)

  reduced_on : (w : List ℕ) → Lettered w → (p : Pair) → GoodPair F p → word_on F ts (reduced w) p ≡ word_on F ts w p
  unfolding word_on reduced
  reduced_on [] e p good = refl
  reduced_on (c ∷ w) e p good =
      let t = lettered_cons c w e in
      in_front_on c t.0 p good (reduced w) ∙ reduced_on w t.1 (letter_on F ts c p) (letter_good L ts c p good)

pub reduced_same : (w : List ℕ) → Lettered w → SameCarried w (reduced w)
reduced_same w e = record { carried = λ F L ts tv p good. reduced_on L ts tv w e p good }
