-- `field_logarithms::logarithm` meets its contract: it gives the byte's entry.
use Prim.Native.Nat.{ℕ}
use mathlib.Core.Path.{ap, ◌∙◌}
use native.Mathlib.Omega.{arith}
use lib.ListN.{get_or}
use Rattle.field_logarithms.proofs.logarithm.Goals as goal

pub bounds-table-from : goal.bounds-table-from
bounds-table-from c = omega (arith, c.requires.near c.args.a (omega arith), c.from.ensures)

pub returns : goal.returns
returns c =
    record {
      byte = omega arith;
      entry = c.from-2.ensures ∙ ap (λ (k : ℕ). get_or c.args.table.now k 0) c.from.ensures;
    }
