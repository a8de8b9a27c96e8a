-- `desk_words::restore` meets its contract: the output of 5,006 bytes has room, so question 15 is passed.
use Prim.Native.Nat.{ℕ}
use native.Mathlib.Omega.{arith}
use mathlib.Core.Path.{refl, sym, subst₂}
use mathlib.Core.Bool.{Bool}
use mathlib.Core.List.{List}
use borrow.Author.Rules.{rules}
use borrow.Author.Tests.{not-true, not-false}
use lib.ListN.{length}
use Rattle.base.proofs.QuestionLaws.{passes}
use Rattle.word_stored.specs.Stored.{stored_answer}
use Rattle.desk_words.specs.Making.{Restores}
use Rattle.desk_words.proofs.MakingLaws.{bare_of, unread, made_by}
use Rattle.desk_words.proofs.Enough.{enough_to_restore}
use Rattle.desk_words.proofs.restore.Goals as goal

pub returns-then-not-f : goal.returns-then-not-f
returns-then-not-f c = record {
  restores = unread _ _ (not-true _ c.if-not-f.true) (bare_of c.unread.ensures);
  enough_to_restore = enough_to_restore (length c.args.form.now) (omega arith);
}

pub returns : goal.returns
unfolding stored_answer
returns c = record {
  restores =
      subst₂ (λ (b : Bool) (l : List ℕ). Restores b l c.by.result) (sym (not-false _ c.if-not-f.false))
      c.part-form.ensures (made_by _ c.by.ensures (λ w file m. search rules) (passes 15 _ refl));
  enough_to_restore = enough_to_restore (length c.args.form.now) (omega arith);
}
