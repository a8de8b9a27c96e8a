-- Good pairs and T-values follow from the tests that files and the multiplier make.
use Prim.Native.Nat.{ℕ, ◌<◌}
use mathlib.Core.Path.{◌≡◌}
use mathlib.Core.Bool.{true, not}
use mathlib.Core.List.{List}
use native.Mathlib.Omega.{arith}
use borrow.Author.Tests.{eqb-false, not-true}
use lib.Dec.{eqb}
use lib.ListN.{length, get_or}
use Rattle.base.proofs.ListLaws.{every_get_d}
use Rattle.base.proofs.DigitLaws.{all_below}
use Rattle.field.specs.Fields.{operations}
use Rattle.field.specs.declared.Field.{Field}
use Rattle.field.proofs.Fields.{binary}
use Rattle.pair.specs.declared.Pair.{Pair}
use Rattle.word.specs.Strands.{are_inverse}
use Rattle.word.proofs.PositionLaws.{order_below, inverse_order, inverse_is}
use Rattle.pair_operands.specs.Operands.{elements, nonzero}
use Rattle.pair.specs.Good.{TValues, GoodPair}

pub tested_pair : (f : Field) (p : Pair) → length p.matrix ≡ 64 → length p.labels ≡ 8
    → elements f p.matrix ≡ true → are_inverse p.labels p.positions ≡ true
    → GoodPair (operations f) p
tested_pair f p m l e i =
    record {
      entries = m;
      entry_below = all_below (operations f).size p.matrix (binary f).zero_below e;
      strands = l;
      label_below = order_below p.labels (inverse_order p.labels p.positions l i);
      positions_are = inverse_is p.labels p.positions l i;
    }

pub tested_values : (f : Field) (ts : List ℕ) → length ts ≡ 8 → elements f ts ≡ true → nonzero ts ≡ true
    → TValues (operations f) ts
tested_values f ts l e n =
    record {
      above_zero = λ a h. positive (get_or ts a 0) (every_get_d (λ t. not (eqb t 0)) ts n a (omega arith));
      below_size = λ a h. all_below (operations f).size ts (binary f).zero_below e a;
    }
  where
    positive : (t : ℕ) → not (eqb t 0) ≡ true → 0 < t
    positive t h = let d : t ≡ 0 → ⊥ = eqb-false t 0 (not-true (eqb t 0) h) in omega arith
