-- `desk_spread::argument_text` meets its contract: the text for the length that the argument writes.
use Prim.Native.Nat.{ℕ}
use mathlib.Core.Path.{subst}
use Rattle.text.specs.Texts.{TellsIn}
use Rattle.desk_text.specs.Room.{text_size}
use Rattle.desk_spread.specs.SpreadLines.{spread_text}
use Rattle.desk_spread.proofs.argument_text.Goals as goal

pub returns : goal.returns
returns c =
    let r = c.spread_text.result in
    subst (λ (n : ℕ). TellsIn text_size (spread_text n) r.bytes r.text) c.length_of.ensures
    c.spread_text.ensures
