-- Pairs whose two lists are inverse to each other. Question 6 accepts exactly these. A matrix and a list of 0 to 7,
-- each once, make such a pair, and a letter or a word takes such a pair to such a pair, over any operations.
use Prim.Native.Nat.{ℕ, ◌+◌, ◌-◌, ◌≤◌, ◌<◌}
use mathlib.Core.Path.{◌≡◌, refl, sym, ap, ◌∙◌}
use mathlib.Core.Bool.{true}
use mathlib.Core.List.{List, [], ◌∷◌}
use native.Mathlib.Omega.{arith}
use lib.ListN.{length, get_or}
use Rattle.base.specs.Lists.{every, tally, values_from, each_once}
use Rattle.field.specs.Binary.{Operations}
use Rattle.matrix.specs.Product.{identity}
use Rattle.word.specs.Letters.{is_letter, generator}
use Rattle.word.specs.Strands.{strands_in_order, is_order, are_inverse, swapped}
use Rattle.word.proofs.LetterLaws.{Lettered, lettered_cons, generator_below}
use Rattle.word.proofs.StrandLaws.{length_swapped}
use Rattle.word.proofs.PositionLaws.{order_below, inverse_order, position_within, label_there, position_there}
use Rattle.word.proofs.PositionLaws.{inverse_by_places, order_inverse, order_swapped}
use Rattle.pair.specs.declared.Pair.{Pair}
use Rattle.pair.specs.Action.{pair_of, letter_on, word_on, start}
use Rattle.pair.specs.InverseLists.{InverseLists}

-- a pair with eight labels that passes question 6
pub record Passes6 (p : Pair) : Type 0 where
  pub strands : length p.labels ≡ 8
  pub passed : are_inverse p.labels p.positions ≡ true

-- a pair that passes question 6 has inverse lists
pub inverse_lists : (p : Pair) → Passes6 p → InverseLists p
inverse_lists p e =
    record {
      order = inverse_order p.labels p.positions e.strands e.passed;
      position_within = position_within p.labels p.positions e.strands e.passed;
      label_there = label_there p.labels p.positions e.strands e.passed;
      position_there = λ i h b.
          position_there p.labels p.positions e.strands e.passed (i - 1) (omega arith) ∙ same i h;
    }
  where
    same : (i : ℕ) → 1 ≤ i → i - 1 + 1 ≡ i
    same i h = omega arith

-- a pair of eight labels and eight positions with inverse lists passes question 6
pub passes_6 : (p : Pair) → length p.labels ≡ 8 → length p.positions ≡ 8 → InverseLists p → Passes6 p
passes_6 p l l' e =
    record {
      strands = l;
      passed =
          inverse_by_places p.labels p.positions l l'
          (λ i h. (order_below p.labels e.order i, there i h));
    }
  where
    there : (i : ℕ) → i < 8 → get_or p.positions (get_or p.labels i 0) 0 ≡ i + 1
    there i h =
        let back : i + 1 - 1 ≡ i = omega arith in
        ap (λ (k : ℕ). get_or p.positions (get_or p.labels k 0) 0) (sym back)
        ∙ e.position_there (i + 1) (omega arith) (omega arith)

-- a pair put together from any matrix and a list of 0 to 7, each once
pub made_6 : (m labels : List ℕ) → length labels ≡ 8 → is_order labels ≡ true → Passes6 (pair_of m labels)
made_6 m labels l order = record { strands = l; passed = order_inverse labels order }

pub start_6 : Passes6 start
unfolding start each_once every tally values_from identity
start_6 = made_6 identity strands_in_order refl refl

-- a letter, whatever positions the pair had
pub letter_6 : (F : Operations) (ts : List ℕ) (c : ℕ) (p : Pair) → is_letter c ≡ true → length p.labels ≡ 8
    → is_order p.labels ≡ true → Passes6 (letter_on F ts c p)
unfolding letter_on
letter_6 F ts c p e l order =
    made_6 (letter_on F ts c p).matrix (swapped (generator c) p.labels)
    (length_swapped (generator c) p.labels ∙ l)
    (order_swapped (generator c) p.labels (omega (arith, generator_below c e, l)) order)

-- a word
pub word_6 : (F : Operations) (ts w : List ℕ) (p : Pair) → Lettered w → Passes6 p → Passes6 (word_on F ts w p)
unfolding word_on
word_6 F ts [] p letters e = e
word_6 F ts (c ∷ w) p letters e =
    let l = lettered_cons c w letters in
    word_6 F ts w (letter_on F ts c p) l.1
    (letter_6 F ts c p l.0 e.strands (inverse_order p.labels p.positions e.strands e.passed))
