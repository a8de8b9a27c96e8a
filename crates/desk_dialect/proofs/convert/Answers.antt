-- `desk_dialect::convert` meets its contract.
use Prim.Native.Nat.{ℕ}
use native.Mathlib.Omega.{arith}
use mathlib.Core.Path.{sym, subst₂}
use mathlib.Core.Bool.{Bool}
use mathlib.Core.List.{List}
use borrow.Author.Tests.{not-true, not-false}
use lib.ListN.{length}
use Rattle.desk_words.proofs.MakingLaws.{bare_of, unread}
use Rattle.desk_dialect.specs.Converting.{parts_of, Converts}
use Rattle.desk_dialect.proofs.ConvertingLaws.{enough_to_convert}
use Rattle.desk_dialect.proofs.convert.Goals as goal

pub returns-then-not-w : goal.returns-then-not-w
returns-then-not-w c =
    let parts = parts_of c.args.text.now in
    record {
      converts = unread _ _ (not-true _ c.if-not-w.true) (bare_of c.unread.ensures);
      enough_to_convert = enough_to_convert c.args.way parts (length c.args.word.now) (omega arith);
    }

pub returns : goal.returns
returns c =
    let parts = parts_of c.args.text.now in
    record {
      converts =
          subst₂ (λ (b : Bool) (l : List ℕ). Converts c.args.way b parts l c.converted.result)
          (sym (not-false _ c.if-not-w.false)) c.part.ensures c.converted.ensures;
      enough_to_convert = enough_to_convert c.args.way parts (length c.args.word.now) (omega arith);
    }
