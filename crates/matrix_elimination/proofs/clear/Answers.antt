-- `matrix_elimination::clear` meets its contract. Without a pivot the matrix is not invertible. With a pivot it is
-- invertible exactly if the cleared matrix is.
use Prim.Native.Nat.{ℕ, ◌+◌}
use mathlib.Core.Path.{refl, sym, ap, ◌∙◌}
use mathlib.Core.List.{List}
use native.Mathlib.Omega.{arith}
use lib.ListN.{get_or}
use Rattle.field.specs.Fields.{operations}
use Rattle.field.proofs.Fields.{degree, binary}
use Rattle.field.proofs.TableLaws.{inverse_at, reciprocals_short}
use Rattle.field_logarithms.specs.steps.Logarithms.{LogarithmsOf}
use Rattle.field_logarithms.proofs.PowerLaws.{same_number}
use Rattle.matrix.specs.Layout.{entry}
use Rattle.matrix.specs.Elimination.{pivot, invertible}
use Rattle.matrix.specs.steps.Sweeping.{Raised}
use Rattle.matrix.proofs.SweepLaws.{clear_none, clear_some}
use Rattle.matrix_elimination.proofs.clear.Goals as goal

-- the logarithms of row p before the exchange are the logarithms of row n after it
raised_logarithms : (n p : ℕ) (m a table logs : List ℕ) → Raised n p (n + 1) m a
    → LogarithmsOf table (entry m p) (n + 1) logs
    → LogarithmsOf table (entry a n) n logs
raised_logarithms n p m a table logs w l j h = same_number (sym (w.last j (omega arith))) (l j (omega arith))

pub returns-in_default : goal.returns-in_default
unfolding entry
returns-in_default c =
    let m = c.args.m.now in
    let n = c.args.n in (
      c.requires.0,
      clear_none (binary c.args.f) n m (pivot (λ i. entry m i n) n) refl (invertible (operations c.args.f) n (entry m))
          c.in_default.ensures.none,
    )

pub inverse-q-requires : goal.inverse-q-requires
inverse-q-requires c =
    reciprocals_short c.args.f c.args.inverses.now c.requires.2

pub sweep-requires : goal.sweep-requires
sweep-requires c = (
  c.raise-row.ensures.0.size,
  c.requires.1,
  raised_logarithms c.args.n _ c.args.m.now _ c.args.table.now c.raise-row.result
      c.raise-row.ensures.0 c.raise-row.ensures.2,
  c.requires.3,
)

pub returns : goal.returns
unfolding entry
returns c =
    let a = c.args in
    let m = a.m.now in
    let found = c.in-Some.ensures.some in (
      c.sweep.ensures.size,
      clear_some (binary a.f) a.n m c.in-Some.p found.0 c.inverse-q.result _ _ found.2
          (c.inverse-q.ensures ∙ inverse_at (degree a.f) a.inverses.now c.requires.2 _
          ∙ ap (λ (k : ℕ). (operations a.f).inv (get_or m k 0)) c.place.ensures.0)
          c.raise-row.ensures.0
          c.sweep.ensures (omega arith),
    )
