-- `desk_words::shorten` meets its contract.
use native.Mathlib.Omega.{arith}
use mathlib.Core.Path.{sym, ◌∙◌}
use lib.ListN.{length}
use Rattle.desk_slip.proofs.Enough.{enough_of_files}
use Rattle.desk_words.proofs.MakingLaws.{bare_of, shortens_as, shortens_unread}
use Rattle.desk_words.proofs.Enough.{enough_to_shorten}
use Rattle.desk_words.proofs.shorten.Goals as goal

pub returns-then-not-all_read : goal.returns-then-not-all_read
returns-then-not-all_read c =
    let a = c.args in
    record {
      shortens = shortens_unread (sym c.all_read.ensures ∙ c.if-not-all_read.true) (bare_of c.unread.ensures);
      enough_to_shorten =
          enough_to_shorten (length a.key.now) (length a.digest.now) (length a.word.now)
          (enough_of_files _ _ _ (omega arith) (omega arith) (omega arith)) (omega arith);
    }

pub returns : goal.returns
returns c =
    let a = c.args in
    record {
      shortens =
          shortens_as (sym c.all_read.ensures ∙ c.if-not-all_read.false) c.part-key.ensures c.part-digest.ensures
          c.part-word.ensures c.shortened.ensures;
      enough_to_shorten =
          enough_to_shorten (length a.key.now) (length a.digest.now) (length a.word.now)
          (enough_of_files _ _ _ (omega arith) (omega arith) (omega arith)) (omega arith);
    }
