-- `word_store::write_groups` meets its contract. The loop's invariant: the first k groups are written, and the other
-- bytes of the output are unchanged.
use Prim.Native.Nat.{ℕ, ◌+◌, ◌-◌, ◌*◌, ◌≤◌, ◌<◌}
use mathlib.Core.Path.{◌≡◌, refl, ap, ◌∙◌}
use mathlib.Core.List.{List}
use native.Mathlib.Nat.{mul-zero, mul-le-mul_left, mul-suc}
use native.Mathlib.Omega.{arith}
use Rattle.base.specs.Lists.{overlaid}
use Rattle.base.specs.Digits.{digits}
use Rattle.word_store.proofs.GroupLaws.{groups, group_spelled}
use Rattle.word_store.proofs.write_groups.Goals as goal

-- the bytes of a group are within those of all groups
within : (n k groups : ℕ) → k < groups → n * k + n ≤ n * groups
within n k groups h = rw (← mul-suc) (mul-le-mul_left n (omega arith))

-- no group has no bytes
none : (n v : ℕ) (out : List ℕ) → out ≡ overlaid (digits 256 (n * 0) v) out
unfolding digits overlaid
none n v out = rw (mul-zero n) refl

pub loop-k-init : goal.loop-k-init
loop-k-init g c = none g.K.Kept.BYTES _ _

pub loop-k-preserved : goal.loop-k-preserved
loop-k-preserved g c =
    let l = c.loop-k in
    let a = c.args in
    let kept = g.K.Kept in
    let n : ℕ = kept.BYTES in
    let at : ℕ = c.BYTES.result * l.k in
    let start : at ≡ n * l.k = ap (λ (m : ℕ). m * l.k) c.BYTES.ensures in
    let room : n * l.k + n ≤ n * a.groups = within n l.k a.groups (omega arith) in
    group_spelled kept.of kept.base n g.met.K.Kept.full a.bytes.now a.out.now l.k (omega arith) at
    (at + c.BYTES-in-loop-k.result - at) c.eight.result l.out c.spell.new.dst start
    (omega (arith, c.BYTES-in-loop-k.ensures)) (omega (arith, start, room, c.requires.1)) l.invariant c.eight.ensures
    c.spell.ensures

pub returns : goal.returns
returns g c =
    let l = c.loop-k in
    let a = c.args in
    let kept = g.K.Kept in
    let e : l.k ≡ a.groups = omega arith in
    l.invariant
    ∙ ap (λ (i : ℕ). overlaid (groups kept.of kept.base kept.BYTES g.met.K.Kept.full a.bytes.now a.out.now i)
    a.out.now) e
