-- `word_reduction::cancels` meets its contract: it says yes exactly if the stack has a last letter and the letter is
-- its inverse.
use Prim.Native.Nat.{◌<◌, ◌-◌}
use mathlib.Core.Path.{sym, ap, ◌∙◌}
use mathlib.Core.Bool.{Bool, ◌&&◌}
use native.Mathlib.Omega.{arith}
use borrow.Author.Tests.{lt-ltb, le-ltb}
use lib.Dec.{eqb}
use lib.ListN.{get_or}
use Rattle.word.specs.Letters.{inverse}
use Rattle.word_reduction.proofs.cancels.Goals as goal

pub returns-then-n-eq0 : goal.returns-then-n-eq0
returns-then-n-eq0 c =
    let a = c.args in
    ap (λ (b : Bool). b && eqb a.c (inverse (get_or a.stack.now (a.n - 1) 0)))
    (sym (le-ltb 0 a.n (omega arith)))

pub returns : goal.returns
returns c =
    let a = c.args in
    let some : 0 < a.n = omega arith in
    ap (eqb a.c) c.inverse-other.ensures
    ∙ ap (λ (b : Bool). b && eqb a.c (inverse (get_or a.stack.now (a.n - 1) 0))) (sym (lt-ltb 0 a.n some))
