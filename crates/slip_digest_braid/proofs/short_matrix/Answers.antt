-- `slip_digest_braid::short_matrix` meets its contract: `short_over` works over the field that the match finds.
use Rattle.field.specs.declared.Field.TheVariants.{Gf32, Gf256}
use Rattle.field.proofs.TableLaws.{lent}
use Rattle.slip_digest_braid.proofs.short_matrix.Goals as goal

pub short_over-requires : goal.short_over-requires
short_over-requires c =
    lent Gf32 _ c.reciprocals-table.ensures

pub short_over-requires-in-Gf256 : goal.short_over-requires-in-Gf256
short_over-requires-in-Gf256 c =
    lent Gf256 _ c.reciprocals-table-in-Gf256.ensures
