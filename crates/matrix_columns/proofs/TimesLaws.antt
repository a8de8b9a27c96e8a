-- A column times a number, bit by bit: what one more bit of each lane adds to the product so far.
use Prim.Native.Nat.{ℕ, ◌+◌, ◌*◌, ◌/◌, ◌%◌, ◌^◌, ◌<◌}
use mathlib.Core.Path.{◌≡◌, sym, ap, ap₂, ◌∙◌}
use native.Mathlib.Nat.{div-one, div-div-eq-div-mul, pow-suc}
use native.Mathlib.Numerals.{add-one}
use lib.Bits.{bit_xor, bit_and}
use Rattle.matrix_columns.specs.steps.Lanes.{lane, ones, chosen, InLanes}
use Rattle.matrix_columns.proofs.LaneLaws.{lane_zero, lane_xor, masked, masked_fits}

-- `rest` holds the column's bits from bit i on; `total` is the product so far, by the constants of the bits before i
pub record Multiplied (c : ℕ → ℕ) (column i total rest : ℕ) : Type 0 where
  pub rest_is : rest ≡ column / 2 ^ i
  pub total_is : InLanes total (λ j. chosen c i (lane j column))

pub none_multiplied : (c : ℕ → ℕ) (column : ℕ) → Multiplied c column 0 0 column
unfolding chosen
none_multiplied c column = record { rest_is = sym (div-one column); total_is = λ j h. lane_zero j }

one_bit : (c : ℕ → ℕ) (column i : ℕ) → i < 8 → c i < 256 → (j : ℕ) → j < 8
    → lane j (bit_and (column / 2 ^ i) 0x0101010101010101 * c i) ≡ lane j column / 2 ^ i % 2 * c i
unfolding ones
one_bit c column i hi hc j hj = masked (c i) hc i j column hi hj

pub next_multiplied : (c : ℕ → ℕ) (column i total rest : ℕ) → i < 8 → c i < 256 → Multiplied c column i total rest
    → Multiplied c column (i + 1) (bit_xor total (bit_and rest 0x0101010101010101 * c i)) (rest / 2)
unfolding chosen
next_multiplied c column i total rest hi hc m =
    record {
      rest_is = ap (λ (x : ℕ). x / 2) m.rest_is ∙ div-div-eq-div-mul column (2 ^ i) 2
          ∙ ap (λ (x : ℕ). column / x) (sym (pow-suc 2 i) ∙ ap (λ (k : ℕ). 2 ^ k) (sym (add-one i)));
      total_is = λ j h.
          lane_xor j total (bit_and rest 0x0101010101010101 * c i)
          ∙ ap₂ bit_xor (m.total_is j h)
          (ap (λ (x : ℕ). lane j (bit_and x 0x0101010101010101 * c i)) m.rest_is ∙ one_bit c column i hi hc j h)
          ∙ ap (λ (k : ℕ). chosen c k (lane j column)) (sym (add-one i));
    }

-- a masked number times a byte fits in 64 bits
pub fits : (rest c : ℕ) → c < 256 → bit_and rest 0x0101010101010101 * c < 2 ^ 64
unfolding ones
fits rest c h = masked_fits c h rest
