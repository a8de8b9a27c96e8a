-- `word::read::is_filled` meets its contract: at most one half byte is left, and past the end 0 is read.
use Prim.Native.Nat.{ℕ, ◌+◌, ◌≤◌}
use mathlib.Core.Path.{refl, sym, ap, ◌∙◌}
use native.Mathlib.Omega.{arith}
use lib.Dec.{eqb}
use lib.ListN.{length}
use Rattle.base.specs.Digits.{halves}
use Rattle.base.proofs.ListLaws.{every_last}
use Rattle.base.proofs.DigitLaws.{length_halves}
use Rattle.word.proofs.read.is_filled.Goals as goal

pub returns : goal.returns
returns c =
    let a = c.args in
    let hs = halves a.part.now in
    let l : length hs ≤ a.n + 1 = omega (arith, length_halves a.part.now) in
    ap (λ (h : ℕ). eqb h 0) c.half.ensures ∙ sym (every_last (λ h. eqb h 0) refl hs a.n l)
