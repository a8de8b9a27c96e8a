-- `desk_words::store` meets its contract: the output of 5,006 bytes has room, so question 15 is passed.
use Prim.Native.Nat.{ℕ}
use native.Mathlib.Omega.{arith}
use mathlib.Core.Path.{refl, sym, subst₂}
use mathlib.Core.Bool.{Bool}
use mathlib.Core.List.{List}
use borrow.Author.Rules.{rules}
use borrow.Author.Tests.{not-true, not-false}
use lib.ListN.{length}
use Rattle.base.proofs.QuestionLaws.{passes}
use Rattle.word.specs.Words.{word_answer}
use Rattle.desk_words.specs.Making.{Stores}
use Rattle.desk_words.proofs.MakingLaws.{bare_of, unread, made_by}
use Rattle.desk_words.proofs.Enough.{enough_to_store}
use Rattle.desk_words.proofs.store.Goals as goal

pub returns-then-not-w : goal.returns-then-not-w
returns-then-not-w c = record {
  stores = unread _ _ (not-true _ c.if-not-w.true) (bare_of c.unread.ensures);
  enough_to_store = enough_to_store (length c.args.word.now) (omega arith);
}

pub returns : goal.returns
unfolding word_answer
returns c = record {
  stores =
      subst₂ (λ (b : Bool) (l : List ℕ). Stores b l c.by.result) (sym (not-false _ c.if-not-w.false))
      c.part-word.ensures (made_by _ c.by.ensures (λ w file m. search rules) (passes 15 _ refl));
  enough_to_store = enough_to_store (length c.args.word.now) (omega arith);
}
