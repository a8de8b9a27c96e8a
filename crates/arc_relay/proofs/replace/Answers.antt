-- `arc_relay::replace` meets its contract: the new codes are put in front, and the codes after the old ones move up.
use mathlib.Core.Path.{ap}
use mathlib.Core.List.{◌++◌}
use lib.ListN.{length, drop}
use Rattle.arc_relay.proofs.RowLaws.{replaced}
use Rattle.arc_relay.proofs.replace.Goals as goal

pub returns-then-m-old : goal.returns-then-m-old
returns-then-m-old c =
    let put = ap (λ l. l ++ drop (length c.args.new.now) c.args.part.now) c.copy_from_slice.ensures.after in
    replaced c.args.part.now c.args.new.now _ c.copy_within.new.self c.args.old c.requires.0 c.requires.1
    put c.copy_within.ensures.after
