-- `handle_row::places::keep` meets its contract: the code, its place and the latest place before it are stored.
use mathlib.Core.Path.{refl}
use native.Mathlib.Omega.{arith}
use lib.ListN.{get_or}
use Rattle.handle_row.proofs.PlaceLaws.{tables_more}
use Rattle.handle_row.proofs.places.keep.Goals as goal

pub returns : goal.returns
returns c =
    let a = c.args in
    let o = c.requires.0 in
    let k = c.slot_of-s in
    record {
      row_is = refl;
      tables =
          rw k.ensures.0
          (tables_more a.row.now a.latest.now a.before.now a.left (get_or a.row.now a.right 0)
          (omega (arith, o.gap, o.within)) (omega (arith, o.gap, o.within, o.beside))
          (omega (arith, k.ensures.0, k.ensures.1)) c.requires.1);
    }
