-- `arc_search::one_step` meets its contract, because relaying does.
use Rattle.arc_relay.proofs.RelayLaws.{relayed_relays, relayed_fewer}
use Rattle.arc_search.proofs.one_step.Goals as goal

pub returns : goal.returns
returns c =
    let e = c.relay.ensures in record { not_longer = relayed_fewer e; relays = relayed_relays e }
