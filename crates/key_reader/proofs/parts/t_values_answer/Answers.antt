-- `key_reader::parts::t_values_answer` meets its contract: question 4, then question 5.
use mathlib.Core.Path.{◌≡◌, sym, ◌∙◌}
use mathlib.Core.List.{List, [], ◌∷◌}
use Prim.Native.Nat.{ℕ}
use Rattle.base.specs.Questions.{◌else◌, first_no}
use Rattle.base.proofs.QuestionLaws.{passes, fails}
use Rattle.pair_operands.specs.Operands.{nonzero}
use Rattle.key.specs.Keys.{starts_with_ones}
use Rattle.key_reader.proofs.parts.t_values_answer.Goals as goal

pub returns-then-not-all_nonzero : goal.returns-then-not-all_nonzero
returns-then-not-all_nonzero c =
    sym (fails 4 _ (sym c.all_nonzero.ensures ∙ c.if-not-all_nonzero.true))

pub returns-then-not-starts_with_ones : goal.returns-then-not-starts_with_ones
returns-then-not-starts_with_ones c =
    let ts : List ℕ =
    c.args.ts.now in
    let past_4 : first_no ((nonzero ts else 4) ∷ (starts_with_ones ts else 5) ∷ [])
    ≡ first_no ((starts_with_ones ts else 5) ∷ []) =
    passes 4 ((starts_with_ones ts else 5) ∷ []) (sym c.all_nonzero.ensures ∙ c.if-not-all_nonzero.false) in
    sym (past_4 ∙ fails 5 [] (sym c.starts_with_ones.ensures ∙ c.if-not-starts_with_ones.true))

pub returns : goal.returns
unfolding first_no
returns c =
    let ts : List ℕ =
    c.args.ts.now in
    let past_4 : first_no ((nonzero ts else 4) ∷ (starts_with_ones ts else 5) ∷ [])
    ≡ first_no ((starts_with_ones ts else 5) ∷ []) =
    passes 4 ((starts_with_ones ts else 5) ∷ []) (sym c.all_nonzero.ensures ∙ c.if-not-all_nonzero.false) in
    sym (past_4 ∙ passes 5 [] (sym c.starts_with_ones.ensures ∙ c.if-not-starts_with_ones.false))
