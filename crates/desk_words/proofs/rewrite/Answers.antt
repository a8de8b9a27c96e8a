-- `desk_words::rewrite` meets its contract: what the rewriter wrote to zeros.
use native.Mathlib.Omega.{arith}
use mathlib.Core.Path.{refl}
use borrow.Author.Rules.{rules}
use lib.ListN.{length, replicate}
use Rattle.move_rewriter.specs.Rewriter.{Rewrote}
use Rattle.desk_words.specs.Making.{rewrite_answer}
use Rattle.desk_words.proofs.MakingLaws.{bare_of, wrote_by, wrote_makes, rewrites_as, rewrites_unread}
use Rattle.desk_words.proofs.Enough.{enough_to_rewrite}
use Rattle.desk_words.proofs.rewrite.Goals as goal

pub returns-then-not-read : goal.returns-then-not-read
returns-then-not-read c = record {
  rewrites = rewrites_unread c.if-not-read.true (bare_of c.unread.ensures);
  enough_to_rewrite =
      enough_to_rewrite (length c.args.word.now) (length c.args.moves.now) (omega arith) (omega arith);
}

pub returns : goal.returns
unfolding rewrite_answer
returns c =
    let made = c.by.result in
    let word = c.part-word.result.now in
    let moves = c.part-moves.result.now in
    let r : Rewrote word moves (replicate 5006 0) made.file made.answer made.bytes =
    wrote_by {P = λ w file. Rewrote word moves (replicate 5006 0) file w.answer w.bytes} c.by.ensures
    (λ w file m. search rules) in
    record {
      rewrites =
          rewrites_as c.if-not-read.false c.part-word.ensures c.part-moves.ensures
          (record { makes = wrote_makes _ c.by.ensures.read_is r.wrote refl; keeps = r.keeps });
      enough_to_rewrite =
          enough_to_rewrite (length c.args.word.now) (length c.args.moves.now) (omega arith) (omega arith);
    }
