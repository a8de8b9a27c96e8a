-- `shelf_calls::round` meets its contract: 30, or zeros in place of both charges.
use mathlib.Core.Path.{refl, sym, ◌∙◌}
use Rattle.shelf.specs.Calls.{round}
use Rattle.shelf.proofs.CallLaws.{refused, served, round_30, round_answer}
use Rattle.shelf_calls.proofs.round.Goals as goal

pub returns-then-not-is_publisher : goal.returns-then-not-is_publisher
returns-then-not-is_publisher c =
    let a = c.args in
    refused a.publisher round a.shelf.now 30
    (round_30 a.publisher a.shelf.now (sym c.is_publisher.ensures ∙ c.if-not-is_publisher.true)) refl

pub returns : goal.returns
returns c =
    let a = c.args in
    served a.publisher round a.shelf.now
    (round_answer a.publisher a.shelf.now (sym c.is_publisher.ensures ∙ c.if-not-is_publisher.false))
    refl c.start_round.ensures
