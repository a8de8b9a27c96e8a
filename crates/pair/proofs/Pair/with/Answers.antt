-- `pair::Pair::with` meets its contract: the positions are the inverse list.
use Rattle.pair.proofs.Pair.with.Goals as goal

pub returns : goal.returns
returns c =
    let a = c.args in
    λ j. record { matrix = a.matrix; labels = a.labels; positions = c.positions_of-positions.ensures j }
