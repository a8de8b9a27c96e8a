-- `slip_verdict::copy_answer` meets its contract: the matrix that it compares with the target is the one that the word
-- reaches.
use Prim.Native.Nat.{ℕ}
use mathlib.Core.Path.{◌≡◌, sym, ap, ◌∙◌}
use mathlib.Core.List.{List, []}
use Rattle.base.specs.Questions.{first_no}
use Rattle.base.specs.Lists.{equal}
use Rattle.base.proofs.QuestionLaws.{passes, fails}
use Rattle.word.specs.Words.{codes}
use Rattle.slip_verdict.proofs.CopyLaws.{agree}
use Rattle.slip_verdict.proofs.VerdictLaws.{signed_is}
use Rattle.slip_verdict.proofs.copy_answer.Goals as goal

pub returns-then-not-equal : goal.returns-then-not-equal
returns-then-not-equal c =
    let compared : let a = c.args in c.equal.result ≡ agree a.half a.word.now =
    let a = c.args in
    c.equal.ensures
    ∙ ap (λ (m : List ℕ). equal m a.half.target)
    (signed_is a.half (codes a.word.now) c.carry_file-reached.result c.carry_file-reached.ensures) in
    sym (fails 14 [] (sym compared ∙ c.if-not-equal.true))

pub returns : goal.returns
unfolding first_no
returns c =
    let compared : let a = c.args in c.equal.result ≡ agree a.half a.word.now =
    let a = c.args in
    c.equal.ensures
    ∙ ap (λ (m : List ℕ). equal m a.half.target)
    (signed_is a.half (codes a.word.now) c.carry_file-reached.result c.carry_file-reached.ensures) in
    sym (passes 14 [] (sym compared ∙ c.if-not-equal.false))
