-- `desk_slip::says_256` meets its contract: an input of less than three bytes says less.
use mathlib.Core.Path.{sym, ap}
use lib.Dec.{eqb}
use Prim.Native.Nat.{ℕ}
use Rattle.desk_slip.proofs.SlipLaws.{short_names}
use Rattle.desk_slip.proofs.says_256.Goals as goal

pub returns-then-input-lt3 : goal.returns-then-input-lt3
returns-then-input-lt3 c =
    sym (short_names c.args.input.now c.if-input-lt3.true
    (λ k. (c.type_inv.input k).fits))

pub returns : goal.returns
returns c = ap (λ (n : ℕ). eqb n 256) c.two_bytes.ensures.0
