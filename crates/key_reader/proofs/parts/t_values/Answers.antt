-- `key_reader::parts::t_values` meets its contract.
use Prim.Native.Nat.{ℕ, ◌-◌}
use mathlib.Core.Path.{◌≡◌, ap₂, ◌∙◌}
use native.Mathlib.Omega.{arith}
use Rattle.base.specs.Digits.{part}
use Rattle.base.specs.Packing.{row_bytes, unpacked_row}
use Rattle.key.specs.Keys.{t_values_of}
use Rattle.key_reader.proofs.parts.t_values.Goals as goal

pub returns : goal.returns
unfolding t_values_of
returns c =
    let a = c.args in
    let size : a.bits ≡ row_bytes a.bits 8 = omega arith in
    let at : c.first_place.result - a.bits ≡ 3 = omega (arith, c.first_place.ensures) in
    c.eight.ensures ∙ ap₂ (λ (k n : ℕ). unpacked_row a.bits 8 (part k n a.file.now)) at size
