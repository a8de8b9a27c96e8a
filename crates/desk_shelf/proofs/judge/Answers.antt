-- `desk_shelf::judge` meets its contract: the files and texts are what was read, and what is read is enough.
use mathlib.Core.Path.{sym, ap, ◌∙◌}
use native.Mathlib.Omega.{arith}
use borrow.Author.Rules.{rules}
use lib.ListN.{length, take}
use Rattle.shelf.specs.Calls.{judge}
use Rattle.desk_shelf.specs.Serving.{is_shelf, digit_of}
use Rattle.desk_shelf.proofs.ServingLaws.{bare_of, unread, served_by, serves_as}
use Rattle.desk_shelf.proofs.EnoughShelf.{enough_to_judge}
use Rattle.desk_shelf.proofs.judge.Goals as goal

pub returns-then-not-all_read : goal.returns-then-not-all_read
returns-then-not-all_read c =
    let a = c.args in
    record {
      judges_file =
          unread (take a.s.bytes a.old.now) (digit_of a.publisher.now)
          (judge (digit_of a.number.now) (take a.d.bytes a.digest.now) (take a.w.bytes a.word.now))
          (sym c.all_read.ensures ∙ c.if-not-all_read.true)
          (c.is_shelf.ensures ∙ ap is_shelf c.part-file.ensures) (bare_of c.none.ensures);
      enough_to_judge =
          enough_to_judge (length a.digest.now) (length a.word.now) (omega arith) (omega arith) (length a.old.now)
          (omega arith);
    }

pub returns : goal.returns
returns c =
    let a = c.args in
    record {
      judges_file =
          serves_as (sym c.all_read.ensures ∙ c.if-not-all_read.false) c.part-file.ensures c.digit_of-p.ensures
          (λ i. judge (c.digit_of-n.ensures i) (c.part-digest.ensures i) (c.part-word.ensures i))
          (served_by _ _ (judge c.digit_of-n.result c.part-digest.result.now c.part-word.result.now) c.worked.ensures
          (λ old answer new m. search rules));
      enough_to_judge =
          enough_to_judge (length a.digest.now) (length a.word.now) (omega arith) (omega arith) (length a.old.now)
          (omega arith);
    }
