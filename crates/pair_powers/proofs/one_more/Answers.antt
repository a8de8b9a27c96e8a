-- `pair_powers::one_more` meets its contract.
use Prim.Native.Nat.{ℕ}
use mathlib.Core.Path.{ap}
use lib.Bits.{bit_xor}
use Rattle.pair_powers.specs.declared.Gains.{Gains}
use Rattle.pair_powers.specs.steps.Powers.{one_more}
use Rattle.pair_powers.proofs.one_more.Goals as goal

-- the numbers after the letter, by the new own number
unfoldable made : Gains → ℕ → Gains
made n x = record { left = bit_xor n.left x; own = x; right = bit_xor n.right n.own }

pub returns : goal.returns
unfolding one_more made
returns c = λ p degree t there.
    ap (made c.args.gains) (c.product-own.ensures p degree t there)
