-- `word::codes::singly` meets its contract. The loop's invariant: the first 2 * k codes are half bytes of the bytes,
-- and the other codes are unchanged.
use Prim.Native.Nat.{ℕ, ◌+◌, ◌*◌, ◌/◌, ◌%◌, ◌<◌}
use mathlib.Core.Path.{◌≡◌, sym, ap, ap₂, ◌∙◌}
use mathlib.Core.List.{List, ◌++◌}
use native.Mathlib.Omega.{arith}
use lib.ListN.{length, take, drop, get_or, set}
use Rattle.base.specs.Digits.{halves}
use Rattle.base.proofs.ListLaws.{overlay_step, overlay_whole}
use Rattle.base.proofs.DigitLaws.{length_halves, half_even, half_odd}
use Rattle.word.proofs.codes.singly.Goals as goal

-- one more byte stores two more half bytes
two_more : (bytes row codes : List ℕ) (k : ℕ) → k < length bytes → 2 * k + 1 < length row
    → codes ≡ take (2 * k) (halves bytes) ++ drop (2 * k) row
    → set (set codes (2 * k) (get_or bytes k 0 / 16)) (2 * k + 1) (get_or bytes k 0 % 16)
    ≡ take (2 * (k + 1)) (halves bytes) ++ drop (2 * (k + 1)) row
two_more bytes row codes k h l e =
    let hs = halves bytes in
    let even : 2 * k % 2 ≡ 0 = omega arith in
    let odd : (2 * k + 1) % 2 ≡ 1 = omega arith in
    let low : 2 * k / 2 ≡ k = omega arith in
    let high : (2 * k + 1) / 2 ≡ k = omega arith in
    let next : 2 * k + 1 + 1 ≡ 2 * (k + 1) = omega arith in
    let first : get_or bytes k 0 / 16 ≡ get_or hs (2 * k) 0 =
    sym (half_even bytes (2 * k) even ∙ ap (λ (i : ℕ). get_or bytes i 0 / 16) low) in
    let second : get_or bytes k 0 % 16 ≡ get_or hs (2 * k + 1) 0 =
    sym (half_odd bytes (2 * k + 1) odd ∙ ap (λ (i : ℕ). get_or bytes i 0 % 16) high) in
    ap₂ (λ (r : List ℕ) (x : ℕ). set (set r (2 * k) x) (2 * k + 1) (get_or bytes k 0 % 16)) e first
    ∙ ap₂ (λ (r : List ℕ) (x : ℕ). set r (2 * k + 1) x)
    (overlay_step hs row (2 * k) (omega (arith, length_halves bytes)) (omega arith)) second
    ∙ overlay_step hs row (2 * k + 1) (omega (arith, length_halves bytes)) l
    ∙ ap (λ (i : ℕ). take i hs ++ drop i row) next

pub loop-k-preserved : goal.loop-k-preserved
loop-k-preserved c =
    let l = c.loop-k in
    let a = c.args in
    two_more a.bytes.now a.codes.now l.codes l.k (omega arith) (omega arith) l.invariant

pub returns : goal.returns
returns c =
    let l = c.loop-k in
    let a = c.args in
    l.invariant
    ∙ overlay_whole (halves a.bytes.now) a.codes.now (2 * l.k) (omega (arith, length_halves a.bytes.now))
