-- `word_shortener::routes::by_handles` meets its contract.
use Prim.Native.Nat.{ℕ}
use mathlib.Core.Path.{◌≡◌, ◌∙◌}
use mathlib.Core.Bool.{Bool}
use mathlib.Core.List.{List}
use native.Mathlib.Omega.{arith}
use lib.ListN.{take}
use Rattle.base.proofs.QuestionLaws.{granted_zero}
use Rattle.word.proofs.LetterLaws.{Lettered}
use Rattle.braid_handles.specs.Handles.{after_steps}
use Rattle.braid_handles.proofs.StepKeeps.{steps_lettered}
use Rattle.handle_steps.specs.steps.Runs.{StepsOnRow}
use Rattle.swap_cancel.proofs.SwapCancelLaws.{cancelled_fewer}
use Rattle.word_shortener.specs.Shortener.{most_steps}
use Rattle.word_shortener.proofs.RouteLaws.{cancelled_lettered, second_way}
use Rattle.word_shortener.proofs.routes.by_handles.Goals as goal

pub returns-then-h-ne0 : goal.returns-then-h-ne0
returns-then-h-ne0 c = λ z. c.if-h-ne0.true (c.reduce-h.ensures.answer_is ∙ z)

-- the word that handle reduction leaves
word_is : {n answer m : ℕ} {row new : List ℕ} {left : Bool} → StepsOnRow most_steps n row new answer m left → answer ≡ 0
    → take m new ≡ after_steps most_steps (take n row)
word_is h z = h.word_is ∙ granted_zero _ _ z

letters : {n answer m : ℕ} {row new : List ℕ} {left : Bool} → StepsOnRow most_steps n row new answer m left → answer ≡ 0
    → Lettered (take n row)
    → Lettered (take m new)
letters {n = n} {row = row} h z l = rw (word_is h z) (steps_lettered most_steps (take n row) l)

pub swap_cancel-m-requires : goal.swap_cancel-m-requires
swap_cancel-m-requires c =
    let h = c.reduce-h in (
      h.ensures.few,
      omega (arith, h.ensures.few, h.auto.codes, c.requires.1),
      letters h.ensures c.if-h-ne0.false c.requires.2,
    )

pub by_arcs-requires : goal.by_arcs-requires
by_arcs-requires c =
    let k = c.swap_cancel-m in
    let h = c.reduce-h in
    let fewer = cancelled_fewer k.ensures in (
      omega (arith, h.ensures.few),
      omega (arith, h.ensures.few, k.auto.codes, h.auto.codes, c.requires.1),
      cancelled_lettered k.ensures (letters h.ensures c.if-h-ne0.false c.requires.2),
    )

pub returns : goal.returns
returns c =
    second_way (take c.args.n c.args.codes.now) c.requires.2 (word_is c.reduce-h.ensures c.if-h-ne0.false)
    c.swap_cancel-m.ensures c.by_arcs.ensures
