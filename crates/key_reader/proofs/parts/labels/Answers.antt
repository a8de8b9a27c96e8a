-- `key_reader::parts::labels` meets its contract.
use Prim.Native.Nat.{ℕ, ◌-◌}
use mathlib.Core.Path.{◌≡◌, ap, ◌∙◌}
use native.Mathlib.Omega.{arith}
use Rattle.base.specs.Digits.{part}
use Rattle.base.specs.Packing.{unpacked_row}
use Rattle.key.specs.Keys.{key_labels}
use Rattle.key.specs.steps.Places.{key_place}
use Rattle.key_reader.proofs.parts.labels.Goals as goal

pub returns : goal.returns
unfolding key_labels
returns c =
    let a = c.args in
    let at : c.second_place.result - 3 ≡ key_place a.bits 4 = omega (arith, c.second_place.ensures) in
    c.eight.ensures ∙ ap (λ (k : ℕ). unpacked_row 3 8 (part k 3 a.file.now)) at
