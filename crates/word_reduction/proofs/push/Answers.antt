-- `word_reduction::push` meets its contract: a letter that is the last code's inverse cancels against it. Any other
-- letter is stored behind it.
use Prim.Native.Nat.{◌+◌}
use mathlib.Core.Path.{refl, sym, ◌∙◌}
use native.Mathlib.Omega.{arith}
use lib.Seq.{drop-set-lt}
use Rattle.word_reduction.proofs.StackLaws.{meets_some, push_cancels, push_stays}
use Rattle.word_reduction.proofs.push.Goals as goal

pub overflow_sub-result : goal.overflow_sub-result
overflow_sub-result c =
    let a = c.args in
    meets_some a.stack.now a.n a.c c.requires.0 c.requires.1 (sym c.cancels.ensures ∙ c.if-cancels.true)

pub returns-then-cancels : goal.returns-then-cancels
returns-then-cancels c =
    let a = c.args in (
      omega arith,
      push_cancels a.stack.now a.n a.c c.requires.0 c.requires.1 c.requires.2
          (sym c.cancels.ensures ∙ c.if-cancels.true),
      refl,
    )

pub returns : goal.returns
returns c =
    let a = c.args in (
      omega arith,
      push_stays a.stack.now a.n a.c c.requires.0 c.requires.1
          (sym c.cancels.ensures ∙ c.if-cancels.false),
      drop-set-lt (a.n + 1) a.stack.now a.n a.c (omega arith),
    )
