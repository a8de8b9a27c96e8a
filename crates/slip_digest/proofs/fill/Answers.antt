-- `slip_digest::fill` meets its contract. The loop's invariant: the codes so far are written, and `next` is the next
-- one.
use Prim.Native.Nat.{ℕ, ◌+◌, ◌*◌, ◌%◌}
use mathlib.Core.Path.{◌≡◌, refl, sym, ap, ◌∙◌}
use native.Mathlib.Nat.{add-zero, mul-zero, mod-eq_of_lt}
use native.Mathlib.Omega.{arith}
use lib.ListN.{length, take, set}
use lib.Seq.{take_all}
use Rattle.base.specs.Lists.{values_from}
use Rattle.slip_digest.proofs.RunLaws.{code_next, one_more}
use Rattle.slip_digest.proofs.fill.Goals as goal

pub loop-code-init : goal.loop-code-init
unfolding values_from
loop-code-init c =
    let a = c.args in
    let z : a.first + a.step * 0 ≡ a.first =
    ap (λ (x : ℕ). a.first + x) (mul-zero a.step) ∙ add-zero a.first in
    (sym (ap (λ (x : ℕ). x % 16) z ∙ mod-eq_of_lt c.requires.0), refl)

pub loop-code-preserved : goal.loop-code-preserved
loop-code-preserved c =
    let l = c.loop-code in
    let a = c.args in (
      ap (λ (x : ℕ). (x + a.step) % 16) l.invariant.0 ∙ code_next a.first a.step l.code-index,
      ap (λ (x : ℕ). take (l.code-index + 1) (set l.code-items l.code-index x)) l.invariant.0
          ∙ one_more a.first a.step l.code-items l.code-index (omega arith) l.invariant.1,
    )

pub returns : goal.returns
returns c =
    let l = c.loop-code in
    let all : l.code-index ≡ length c.args.run.now = omega arith in
    rw (take_all l.code-index l.code-items (omega arith), all) at l.invariant.1
