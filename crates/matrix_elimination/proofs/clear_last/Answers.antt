-- `matrix_elimination::clear_last` meets its contract: if the corner stands alone, the last column needs no clearing.
use Rattle.matrix_elimination.proofs.clear_last.Goals as goal

pub returns-then-corner_alone : goal.returns-then-corner_alone
returns-then-corner_alone c = (c.requires.0, c.corner_alone.ensures c.if-corner_alone.true)
