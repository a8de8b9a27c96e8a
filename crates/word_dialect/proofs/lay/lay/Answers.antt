-- `word_dialect::lay::lay` meets its contract: eight entries are copied, and the run is the first of them.
use Prim.Native.Nat.{◌+◌, ◌*◌, ◌≤◌}
use native.Mathlib.Omega.{arith}
use lib.ListN.{length, get_or}
use Rattle.word_dialect.proofs.TableLaws.{length_run, run_written}
use Rattle.word_dialect.proofs.lay.lay.Goals as goal

pub returns : goal.returns
returns c =
    let a = c.args in
    let t = a.table.now in
    let l = c.loop-i in
    let few : get_or t (8 * a.c + 7) 0 ≤ 7 = c.requires.0.few a.c c.requires.1 in
    let room : 8 * a.c + 8 ≤ length t = omega (arith, c.requires.0.size) in
    rw c.from.ensures (
      omega (arith, length_run t a.c room few),
      omega (arith, few),
      run_written t a.row.now l.row a.c a.at l.i c.requires.0 c.requires.1 (omega arith) (omega arith) l.invariant,
    )
