-- `pair_carrying::held::values_at` meets its contract.
use Rattle.std.proofs.Common.{rules, tests, get_or}
use Rattle.pair.specs.Action.{t_value}
use Rattle.pair_carrying.proofs.MapLaws.{mapped}
use Rattle.pair_carrying.proofs.held.values_at.Goals as goal

pub returns : goal.returns
unfolding t_value
returns c = mapped (λ x. get_or c.args.list.now x 0) (λ x b q k. search (rules, tests)) _ _ 8 c.map.ensures.items
