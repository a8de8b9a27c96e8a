-- The generating relations: a letter and its inverse are the same braid as the empty word, far letters commute, and
-- j k j is the same braid as k j k for neighbouring letters of one sign.
use Prim.Native.Nat.{ℕ}
use mathlib.Core.Path.{◌≡◌, sym, ap, ◌∙◌}
use mathlib.Core.Bool.{true}
use mathlib.Core.List.{List, [], ◌∷◌}
use mathlib.Core.Logic.{inl, inr}
use native.Mathlib.Omega.{arith}
use lib.IntN.{ℤ, ◌+ℤ◌, +ℤ_comm}
use lib.ListN.{length}
use Rattle.base.specs.Lists.{every, tally}
use Rattle.word.specs.Letters.{is_letter, is_inverse, generator, inverse}
use Rattle.word.specs.Exponent.{exponent_sum}
use Rattle.word.specs.Strands.{list_after}
use Rattle.word.proofs.LetterLaws.{inverse_letter, inverse_generator, generator_below, Apart, Neighbours}
use Rattle.word.proofs.ExponentLaws.{exponent_append, same_sign, opposite}
use Rattle.word.proofs.StrandLaws.{swapped_twice, swapped_far, swapped_braid}
use Rattle.pair.specs.Action.{word_on}
use Rattle.pair.proofs.BraidRelations.{letter_inverse, far_commutation, braid_relation}
use Rattle.word_crossing.proofs.PartLaws.{crossings_cancelled, crossings_exchanged, crossings_braided}
use Rattle.braid_same.specs.SameBraid.{SameBraid}

-- c may be an inverse letter, so the law covers both orders
pub cancelled : (c : ℕ) → is_letter c ≡ true → SameBraid (c ∷ inverse c ∷ []) []
unfolding every word_on list_after tally exponent_sum
cancelled c e =
    record {
      letters = rw (e, inverse_letter c e);
      carried = λ F L ts tv p good. sym (letter_inverse L ts c p tv e good);
      exponent = sym (exponent_append (c ∷ []) (inverse c ∷ []) ∙ opposite c e);
      lists =
          λ labels l. rw (inverse_generator c e)
          (sym (swapped_twice (generator c) labels (omega (arith, generator_below c e))));
      crossed = crossings_cancelled c e;
    }

module _ (c d : ℕ) (e : is_letter c ≡ true) (e' : is_letter d ≡ true) where
  pub exchanged : Apart c d → SameBraid (c ∷ d ∷ []) (d ∷ c ∷ [])
  unfolding every word_on list_after
  exchanged f =
      record {
        letters = rw (e, e');
        carried = λ F L ts tv p good. sym (far_commutation L ts c d p e e' f good);
        exponent =
            exponent_append (d ∷ []) (c ∷ [])
            ∙ +ℤ_comm (exponent_sum (d ∷ [])) (exponent_sum (c ∷ []))
            ∙ sym (exponent_append (c ∷ []) (d ∷ []));
        lists = lists f;
        crossed = crossings_exchanged c d e e' f;
      }
    where
      lists : Apart c d → (labels : List ℕ) → length labels ≡ 8
          → list_after labels (d ∷ c ∷ []) ≡ list_after labels (c ∷ d ∷ [])
      lists (inl f) labels l =
          sym (swapped_far (generator c) (generator d) labels f (omega (arith, generator_below d e')))
      lists (inr f) labels l = swapped_far (generator d) (generator c) labels f (omega (arith, generator_below c e))

  -- c stands for j, and d for k
  pub braided : is_inverse c ≡ is_inverse d → Neighbours c d → SameBraid (c ∷ d ∷ c ∷ []) (d ∷ c ∷ d ∷ [])
  unfolding every word_on list_after
  braided s f =
      record {
        letters = rw (e, e');
        carried = λ F L ts tv p good. sym (braid_relation L ts c d p e e' s f good);
        exponent = sum d c ∙ (λ i. sym sign i +ℤ (sign i +ℤ sym sign i)) ∙ sym (sum c d);
        lists = lists f;
        crossed = crossings_braided c d e e' s f;
      }
    where
      sign : exponent_sum (c ∷ []) ≡ exponent_sum (d ∷ [])
      sign = same_sign c d e e' s

      sum : (j k : ℕ)
          → exponent_sum (j ∷ k ∷ j ∷ []) ≡ exponent_sum (j ∷ []) +ℤ (exponent_sum (k ∷ []) +ℤ exponent_sum (j ∷ []))
      sum j k =
          exponent_append (j ∷ []) (k ∷ j ∷ [])
          ∙ ap (λ (m : ℤ). exponent_sum (j ∷ []) +ℤ m) (exponent_append (k ∷ []) (j ∷ []))

      lists : Neighbours c d → (labels : List ℕ) → length labels ≡ 8
          → list_after labels (d ∷ c ∷ d ∷ []) ≡ list_after labels (c ∷ d ∷ c ∷ [])
      lists (inl n) labels l = rw (← n) (sym (swapped_braid (generator c) labels (omega (arith, generator_below d e'))))
      lists (inr n) labels l = rw (← n) (swapped_braid (generator d) labels (omega (arith, generator_below c e)))
