-- `word_replacement::letters_from` meets its contract. The loop's invariant: no filler stands from `from` up to place
-- k.
use Prim.Native.Nat.{◌-◌}
use native.Mathlib.Omega.{arith}
use Rattle.word_replacement.proofs.EntryLaws.{filler_here, filler_later, filler_none}
use Rattle.word_replacement.proofs.letters_from.Goals as goal

pub returns-then-rows-k-eq15 : goal.returns-then-rows-k-eq15
returns-then-rows-k-eq15 c =
    let a = c.args in
    omega (arith, filler_here a.rows.now c.loop-k.k (omega arith) c.if-rows-k-eq15.true, c.loop-k.invariant)

pub loop-k-preserved : goal.loop-k-preserved
loop-k-preserved c =
    let a = c.args in
    omega (arith, filler_later a.rows.now c.loop-k.k (omega arith) c.if-rows-k-eq15.false, c.loop-k.invariant)

pub returns : goal.returns
returns c =
    let a = c.args in
    omega (arith, filler_none a.rows.now c.loop-k.k (omega arith), c.loop-k.invariant)
