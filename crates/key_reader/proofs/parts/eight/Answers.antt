-- `key_reader::parts::eight` meets its contract: the last eight digits of the number.
use Prim.Native.Nat.{ℕ}
use mathlib.Core.Path.{ap₂, ◌∙◌}
use native.Mathlib.Omega.{arith}
use lib.Pow.{pow_pos, pow_mono}
use Rattle.base.specs.Digits.{digits}
use Rattle.base.proofs.RowLaws.{eight_before}
use Rattle.key_reader.proofs.parts.eight.Goals as goal

pub spell-requires : goal.spell-requires
spell-requires c =
    rw c.power.ensures (pow_pos c.args.bits, pow_mono {j = 8} c.requires.0)

pub returns : goal.returns
returns c =
    let a = c.args in
    c.spell.ensures
    ∙ ap₂ (λ (t v : ℕ). digits t 8 v) c.power.ensures c.eight_bytes-number.ensures
    ∙ eight_before a.bits a.file.now a.end (λ i. omega (arith, c.type_inv.file i))
    c.requires.0 c.requires.1 c.requires.2
