-- `word_replacement::put_inverses` meets its contract. The loop's invariant: the inverses of the last i entries are
-- written.
use Prim.Native.Nat.{ℕ, ◌+◌, ◌-◌}
use mathlib.Core.Path.{◌≡◌, refl, sym, ap, ◌∙◌}
use mathlib.Core.List.{List, [], ◌++◌, append-nil}
use native.Mathlib.Nat.{add-zero}
use native.Mathlib.Omega.{arith}
use lib.ListN.{take, drop, set, length-set, drop_of_length-le}
use Rattle.base.specs.Digits.{part}
use Rattle.base.proofs.PackLaws.{length_part}
use Rattle.word_dialect.specs.Dialect.{inverted}
use Rattle.word_replacement.proofs.EntryLaws.{inverse_more}
use Rattle.word_replacement.proofs.put_inverses.Goals as goal

pub loop-i-init : goal.loop-i-init
unfolding inverted
loop-i-init c =
    let a = c.args in
    let p = part a.from a.n a.rows.now in
    let none : drop (a.n - 0) p ≡ [] =
    drop_of_length-le p {i = a.n - 0} (omega (arith, length_part a.from a.n a.rows.now c.requires.1)) in (
      refl,
      ap (λ (k : ℕ). take k a.codes.now) (add-zero a.at)
          ∙ sym (ap (λ (w : List ℕ). take a.at a.codes.now ++ inverted w) none
          ∙ append-nil (take a.at a.codes.now)),
    )

pub loop-i-preserved : goal.loop-i-preserved
loop-i-preserved c =
    let a = c.args in
    let at : ℕ = a.at + c.loop-i.i in (
      length-set c.loop-i.codes at c.inverse.result ∙ c.loop-i.invariant.0,
      ap (λ (x : ℕ). take (a.at + (c.loop-i.i + 1)) (set c.loop-i.codes at x)) c.inverse.ensures
          ∙ inverse_more c.loop-i.codes a.codes.now a.rows.now a.at a.from a.n c.loop-i.i
          (omega arith)
          (omega (arith, c.loop-i.invariant.0, c.requires.0)) c.requires.1 c.loop-i.invariant.1,
    )

pub shape_of-codes : goal.shape_of-codes
shape_of-codes c = c.loop-i.invariant.0

pub returns : goal.returns
returns c =
    let l = c.loop-i in
    let a = c.args in
    let e : l.i ≡ a.n = omega arith in
    let z : a.n - l.i ≡ 0 = omega arith in
    ap (λ (k : ℕ). take (a.at + k) l.codes) (sym e) ∙ l.invariant.1
    ∙ ap (λ (k : ℕ). take a.at a.codes.now ++ inverted (drop k (part a.from a.n a.rows.now))) z
