-- The positions after a letter. Where two lists are inverse to each other, and two neighbouring labels change places,
-- only the positions of these two labels change.
use Prim.Native.Nat.{ℕ, ◌+◌, ◌<◌}
use mathlib.Core.Path.{◌≡◌, ap, ◌∙◌}
use mathlib.Core.List.{List}
use native.Mathlib.Decide.{ℕ_discrete}
use native.Mathlib.Omega.{arith}
use lib.ListN.{length, get_or, set, length-set}
use lib.Seq.{get_or-set_same, get_or-set_other}
use Rattle.word.specs.Strands.{inverse_list, swapped}
use Rattle.word.proofs.StrandLaws.{length_swapped, swapped_first, swapped_second, swapped_other, swapped_below}
use Rattle.word.proofs.PositionLaws.{order_below, inverse_order, inverse_is, position_there, inverse_by_places}
use Rattle.pair_multiplier.specs.steps.InversePositions.{InversePositions}

module _ (labels positions : List ℕ) (placed : InversePositions labels positions) where
  -- every label is below 8
  pub label_below : (k : ℕ) → get_or labels k 0 < 8
  label_below = order_below labels (inverse_order labels positions placed.strands placed.inverse)

  -- the position of the label at place i
  there : (i : ℕ) → i < 8 → get_or positions (get_or labels i 0) 0 ≡ i + 1
  there = position_there labels positions placed.strands placed.inverse

  -- labels at two places differ
  differ : (i j : ℕ) → i < 8 → j < 8 → (i ≡ j → ⊥) → get_or labels i 0 ≡ get_or labels j 0 → ⊥
  differ i j b d n e =
      let same : get_or positions (get_or labels i 0) 0 ≡ get_or positions (get_or labels j 0) 0 =
      ap (λ (a : ℕ). get_or positions a 0) e in
      n (omega (arith, same, there i b, there j d))

  module _ (g : ℕ) (h : g < 7) where
    abbrev own : ℕ
    own = get_or labels g 0

    abbrev next : ℕ
    next = get_or labels (g + 1) 0

    abbrev first : List ℕ
    first = set positions next (g + 1)

    abbrev after : List ℕ
    after = set first own (g + 2)

    each : (i : ℕ) → i < 8 → Dec (i ≡ g) → Dec (i ≡ g + 1) → get_or after (get_or (swapped g labels) i 0) 0 ≡ i + 1
    each i b (yes e) d =
        rw e
        (ap (λ (a : ℕ). get_or after a 0) (swapped_first g labels (omega (arith, placed.strands)))
        ∙ get_or-set_other first own next (g + 2) 0 (differ (g + 1) g (omega arith) (omega arith) (λ z. omega arith))
        ∙ get_or-set_same positions next (g + 1) 0 (omega (arith, placed.places, label_below (g + 1))))
    each i b (no n) (yes e) =
        rw e
        (ap (λ (a : ℕ). get_or after a 0) (swapped_second g labels (omega (arith, placed.strands)))
        ∙ get_or-set_same first own (g + 2) 0
        (omega (arith, length-set positions next (g + 1), placed.places, label_below g))
        ∙ two)
      where
        two : g + 2 ≡ g + 1 + 1
        two = omega arith
    each i b (no n) (no m) =
        ap (λ (a : ℕ). get_or after a 0) (swapped_other g labels i n m)
        ∙ get_or-set_other first own (get_or labels i 0) (g + 2) 0 (differ i g b (omega arith) n)
        ∙ get_or-set_other positions next (get_or labels i 0) (g + 1) 0 (differ i (g + 1) b (omega arith) m)
        ∙ there i b

    -- the two stored positions make the inverse list of the new list
    pub followed : after ≡ inverse_list (swapped g labels)
    followed =
        inverse_is (swapped g labels) after strands
        (inverse_by_places (swapped g labels) after strands
        (length-set first own (g + 2) ∙ length-set positions next (g + 1) ∙ placed.places)
        (λ i b. (swapped_below g labels label_below i, each i b (ℕ_discrete i g) (ℕ_discrete i (g + 1)))))
      where
        strands : length (swapped g labels) ≡ 8
        strands = length_swapped g labels ∙ placed.strands
