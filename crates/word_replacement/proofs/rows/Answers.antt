-- `word_replacement::rows` meets its contract: antt computes that the table is the rows, filled up to ten.
use mathlib.Core.Path.{refl}
use Rattle.braid_relations.specs.Relations.{relations}
use Rattle.word_replacement.specs.steps.Rows.{flat}
use Rattle.word_replacement.proofs.rows.Goals as goal

pub returns : goal.returns
unfolding flat relations
returns c = refl
