-- `slip_digest_braid::walk` meets its contract: the part of a row of codes that `run` gets is the way between the
-- levels.
use mathlib.Core.Path.{ap, ◌∙◌}
use native.Mathlib.Omega.{arith}
use Rattle.base.specs.Lists.{every}
use Rattle.word.specs.Letters.{is_letter}
use Rattle.slip_digest_braid.proofs.CodeRows.{row_up, row_down, way_letters}
use Rattle.slip_digest_braid.proofs.walk.Goals as goal

pub run-requires : goal.run-requires
run-requires c =
    let a = c.args in (
      c.requires.0,
      ap (every is_letter) (row_up a.from a.to c.requires.1 c.requires.2 (omega arith))
          ∙ way_letters a.from a.to c.requires.1 c.requires.2,
    )

pub run-requires-else-from-to : goal.run-requires-else-from-to
run-requires-else-from-to c =
    let a = c.args in (
      c.requires.0,
      ap (every is_letter) (row_down a.from a.to c.requires.1 c.requires.2 (omega arith))
          ∙ way_letters a.from a.to c.requires.1 c.requires.2,
    )

pub returns-else-from-to : goal.returns-else-from-to
returns-else-from-to c =
    let a = c.args in
    rw (row_down a.from a.to c.requires.1 c.requires.2 (omega arith)) at c.run-else-from-to.ensures

pub returns-then-from-to : goal.returns-then-from-to
returns-then-from-to c =
    let a = c.args in
    rw (row_up a.from a.to c.requires.1 c.requires.2 (omega arith)) at c.run.ensures
