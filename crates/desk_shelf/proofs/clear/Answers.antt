-- `desk_shelf::clear` meets its contract: the file and the texts are what was read, and what is read is enough.
use Prim.Native.Nat.{ℕ}
use mathlib.Core.Path.{ap, ◌∙◌}
use native.Mathlib.Omega.{arith}
use borrow.Author.Tests.{not-true, not-false}
use borrow.Author.Rules.{rules}
use lib.ListN.{length, take}
use Rattle.shelf.specs.Calls.{clear}
use Rattle.desk_shelf.specs.Serving.{is_shelf, digit_of}
use Rattle.desk_shelf.proofs.ServingLaws.{bare_of, unread, served_by, serves_as}
use Rattle.desk_shelf.proofs.EnoughShelf.{enough_of_shelf}
use Rattle.desk_shelf.proofs.clear.Goals as goal

pub returns-then-not-s : goal.returns-then-not-s
returns-then-not-s c =
    let a = c.args in
    record {
      clears_file =
          unread (take a.s.bytes a.old.now) (digit_of a.publisher.now) (clear (digit_of a.number.now))
          (not-true _ c.if-not-s.true) (c.is_shelf.ensures ∙ ap is_shelf c.part-file.ensures)
          (bare_of c.none.ensures);
      enough_of_shelf = enough_of_shelf (length a.old.now) (omega arith);
    }

pub returns : goal.returns
returns c = record {
  clears_file =
      serves_as (not-false _ c.if-not-s.false) c.part-file.ensures c.digit_of-p.ensures
      (ap (λ (n : ℕ). clear n) c.digit_of-n.ensures)
      (served_by _ _ (clear c.digit_of-n.result) c.worked.ensures (λ old answer new m. search rules));
  enough_of_shelf = enough_of_shelf (length c.args.old.now) (omega arith);
}
