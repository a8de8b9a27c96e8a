-- `desk_shelf::round` meets its contract: the file and the text are what was read, and what is read is enough.
use mathlib.Core.Path.{refl, ap, ◌∙◌}
use native.Mathlib.Omega.{arith}
use borrow.Author.Tests.{not-true, not-false}
use borrow.Author.Rules.{rules}
use lib.ListN.{length, take}
use Rattle.shelf.specs.Calls.{round}
use Rattle.desk_shelf.specs.Serving.{is_shelf, digit_of}
use Rattle.desk_shelf.proofs.ServingLaws.{bare_of, unread, served_by, serves_as}
use Rattle.desk_shelf.proofs.EnoughShelf.{enough_of_shelf}
use Rattle.desk_shelf.proofs.round.Goals as goal

pub returns-then-not-s : goal.returns-then-not-s
returns-then-not-s c =
    let a = c.args in
    record {
      starts_round =
          unread (take a.s.bytes a.old.now) (digit_of a.publisher.now) round (not-true _ c.if-not-s.true)
          (c.is_shelf.ensures ∙ ap is_shelf c.part-file.ensures) (bare_of c.none.ensures);
      enough_of_shelf = enough_of_shelf (length a.old.now) (omega arith);
    }

pub returns : goal.returns
returns c = record {
  starts_round =
      serves_as (not-false _ c.if-not-s.false) c.part-file.ensures c.digit_of-p.ensures refl
      (served_by _ _ round c.worked.ensures (λ old answer new m. search rules));
  enough_of_shelf = enough_of_shelf (length c.args.old.now) (omega arith);
}
