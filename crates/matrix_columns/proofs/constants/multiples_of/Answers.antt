-- `matrix_columns::constants::multiples_of` meets its contract: it stores the products in a list of zeros.
use native.Mathlib.Omega.{arith}
use borrow.Author.Rules.{rules}
use Rattle.matrix_columns.proofs.ConstantLaws.{zero_bytes}
use Rattle.matrix_columns.proofs.constants.multiples_of.Goals as goal

pub multiples-requires : goal.multiples-requires
multiples-requires c = (omega arith, zero_bytes 8, search rules, search rules)
