-- `matrix_product::multiplied` meets its contract. The loop's invariant: the columns before c hold the product.
use mathlib.Core.Path.{refl}
use native.Mathlib.Omega.{arith}
use lib.ListN.{get_or}
use Rattle.field.specs.Fields.{operations}
use Rattle.matrix.specs.Layout.{entry}
use Rattle.matrix.specs.Product.{row_by, matrix_product}
use Rattle.matrix.proofs.LayoutLaws.{by_entries}
use Rattle.matrix_product.proofs.MultiplyLaws.{all_near, columns_next}
use Rattle.matrix_product.proofs.multiplied.Goals as goal

pub loop-c-init : goal.loop-c-init
loop-c-init c = (refl, λ r k hr hk. absurd (omega arith))

pub column_logarithms-column-requires : goal.column_logarithms-column-requires
column_logarithms-column-requires c = (c.requires, omega arith)

pub fill_column-requires : goal.fill_column-requires
fill_column-requires c = (
  c.loop-c.invariant.0,
  c.requires,
  all_near c.requires (λ k. get_or c.args.a.now k 0) 64 c.logarithms_of-rows.result
      c.logarithms_of-rows.ensures.1,
  all_near c.requires (λ j. entry c.args.b.now j c.loop-c.c) 8 c.column_logarithms-column.result
      c.column_logarithms-column.ensures.1,
  omega arith,
)

pub loop-c-preserved : goal.loop-c-preserved
loop-c-preserved c = (
  c.fill_column.ensures.size,
  columns_next c.requires c.args.a.now c.logarithms_of-rows.result c.args.b.now
      c.logarithms_of-rows.ensures.1 c.loop-c.c c.loop-c.m _
      c.column_logarithms-column.result (omega arith) c.column_logarithms-column.ensures.1 c.fill_column.ensures
      c.loop-c.invariant.1,
)

pub returns : goal.returns
unfolding matrix_product
returns c =
    let a = c.args.a.now in
    by_entries c.loop-c.m (λ r. row_by (operations c.args.f) 8 (entry a r) (entry c.args.b.now))
    c.loop-c.invariant.0
    (λ r k hr hk. c.loop-c.invariant.1 r k hr (omega arith))
