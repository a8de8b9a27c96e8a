-- `pair_powers::level_powers` meets its contract. The loop's invariant: the constants of the first k powers are stored,
-- and `gains` has the numbers of the k-th power.
use Prim.Native.Nat.{ℕ}
use mathlib.Core.Path.{◌≡◌, subst, sym}
use native.Mathlib.Numerals.{add-one}
use native.Mathlib.Omega.{arith}
use Rattle.field.specs.Polynomial.{polynomials}
use Rattle.pair_powers.proofs.TableLaws.{Numbers, no_numbers, more_numbers, none_level, more_level}
use Rattle.pair_powers.proofs.level_powers.Goals as goal

pub loop-k-init : goal.loop-k-init
loop-k-init c =
    let a = c.args in
    let F = polynomials a.bits a.modulus in (
      none_level F a.bits a.constants.now a.j a.table.now c.requires.0 c.requires.1,
      no_numbers F a.bits a.constants.now a.j,
    )

pub loop-k-preserved : goal.loop-k-preserved
loop-k-preserved c =
    let l = c.loop-k in
    let a = c.args in
    let gains = c.one_more-gains.result in
    let numbers =
    more_numbers c.requires.4 a.constants.now a.j l.k l.gains c.one_more-once.result gains c.requires.5
    c.one_more-once.ensures c.one_more-gains.ensures l.invariant.1 in (
      more_level a.j l.k c.requires.3 l.invariant.0 numbers c.store.ensures,
      subst (λ (k : ℕ). Numbers (polynomials a.bits a.modulus) a.bits a.constants.now a.j k gains)
          (sym (add-one l.k)) numbers,
    )

pub returns : goal.returns
returns c =
    let l = c.loop-k in
    let e : l.k ≡ 4 = omega arith in
    rw e at l.invariant.0
