-- `desk_handles::take_handles` meets its contract.
use Prim.Native.Nat.{ℕ}
use native.Mathlib.Omega.{arith}
use mathlib.Core.Path.{refl, sym, subst₂}
use mathlib.Core.Bool.{Bool}
use mathlib.Core.List.{List}
use borrow.Author.Tests.{not-true, not-false}
use lib.ListN.{length}
use Rattle.desk_handles.specs.Taking.{TakesOut}
use Rattle.desk_words.proofs.MakingLaws.{bare_of}
use Rattle.desk_handles.proofs.TakingLaws.{none_taken, enough_to_take}
use Rattle.desk_handles.proofs.take_handles.Goals as goal

pub returns-then-not-w : goal.returns-then-not-w
returns-then-not-w c = record {
  takes_out = none_taken (not-true _ c.if-not-w.true) (bare_of c.unread.ensures) refl;
  enough_to_take = enough_to_take c.args.limit (length c.args.word.now) (omega arith);
}

pub returns : goal.returns
returns c = record {
  takes_out =
      subst₂ (λ (b : Bool) (l : List ℕ). TakesOut b c.args.limit l c.handled.result)
      (sym (not-false _ c.if-not-w.false)) c.part.ensures c.handled.ensures;
  enough_to_take = enough_to_take c.args.limit (length c.args.word.now) (omega arith);
}
