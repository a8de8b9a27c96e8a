-- `desk_words::shortened` meets its contract: a refusal of the slip, or its word made shorter. The new word opens the
-- slip, so the second refusal is never given.
use Prim.Native.Nat.{ℕ}
use mathlib.Core.Path.{◌≡◌, sym, ◌∙◌}
use mathlib.Core.Bool.{true}
use mathlib.Core.List.{List}
use native.Mathlib.Omega.{arith}
use lib.ListN.{replicate}
use lib.Seq.{length-take-le}
use Rattle.slip_verdict.specs.Verdict.{verdict}
use Rattle.word_shortener.specs.Shortener.{Shortened}
use Rattle.desk_words.specs.Making.{Shortens}
use Rattle.desk_words.specs.declared.Made.{Made}
use Rattle.desk_words.proofs.MakingLaws.{bare_of, bytes_within, shortens_refused}
use Rattle.desk_words.proofs.Shortening.{made_answer, shortens_opened}
use Rattle.desk_words.proofs.shortened.Goals as goal

-- a slip that opens, and what the shortener made of its word
module _ (key digest : List ℕ) {word : List ℕ} {made : Made} {effort answer : ℕ}
    (s : (made.read ≡ true) × Shortened effort word (replicate 5006 0) made.file made.answer made.bytes)
    (e : answer ≡ verdict key digest word) (z : answer ≡ 0) where
  answered : made.answer ≡ 0
  answered = made_answer key digest word (sym e ∙ z) _ s.0 s.1

  shortens : Shortens effort true key digest word made
  shortens = shortens_opened key digest word (sym e ∙ z) _ s.0 s.1

-- a slip that is refused
pub returns-then-answer-ne0 : goal.returns-then-answer-ne0
returns-then-answer-ne0 c =
    let e = c.verify-answer.ensures in
    shortens_refused (λ z. c.if-answer-ne0.true (e ∙ z)) (rw (sym e) (bare_of c.bare.ensures))

pub shared_ref_as_front-verify : goal.shared_ref_as_front-verify
shared_ref_as_front-verify c =
    omega (
      arith,
      bytes_within (shortens _ _ c.short-made.ensures c.verify-answer.ensures c.if-answer-ne0.false).makes,
    )

pub slice_bounds-verify-end : goal.slice_bounds-verify-end
slice_bounds-verify-end c =
    sym (length-take-le _ _
    (bytes_within (shortens _ _ c.short-made.ensures c.verify-answer.ensures c.if-answer-ne0.false).makes))

pub returns-then-again-ne0 : goal.returns-then-again-ne0
returns-then-again-ne0 c =
    let s = shortens _ _ c.short-made.ensures c.verify-answer.ensures c.if-answer-ne0.false in
    let a = answered _ _ c.short-made.ensures c.verify-answer.ensures c.if-answer-ne0.false in
    absurd (c.if-again-ne0.true (c.verify-again.ensures ∙ s.opens a))

pub returns : goal.returns
returns c = shortens _ _ c.short-made.ensures c.verify-answer.ensures c.if-answer-ne0.false
