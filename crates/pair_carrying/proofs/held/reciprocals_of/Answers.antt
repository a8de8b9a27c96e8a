-- `pair_carrying::held::reciprocals_of` meets its contract.
use Rattle.std.proofs.Common.{rules, tests}
use Rattle.field.specs.steps.Reciprocals.{looked_up}
use Rattle.pair_carrying.proofs.MapLaws.{mapped}
use Rattle.pair_carrying.proofs.held.reciprocals_of.Goals as goal

pub returns : goal.returns
returns c = mapped (looked_up c.args.table.now) (λ x b q k. search (rules, tests)) _ _ 8 c.map.ensures.items
