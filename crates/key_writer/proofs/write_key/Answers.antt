-- `key_writer::write_key` meets its contract: on answer 0 the file stands in the output's first bytes, and on a refusal
-- the output is unchanged.
use Prim.Native.Nat.{ℕ, ◌≤◌}
use mathlib.Core.Path.{sym, ap, ◌∙◌, subst}
use lib.ListN.{length}
use Rattle.base.specs.Lists.{overlaid}
use Rattle.base.proofs.QuestionLaws.{granted_zero, granted_refused}
use Rattle.field.specs.Fields.{bits}
use Rattle.key.specs.Keys.{key_file}
use Rattle.key.specs.steps.Places.{file_bytes}
use Rattle.key.specs.steps.Parts.{Parts}
use Rattle.key.proofs.Widths.{file_bytes_lem, told_narrow}
use Rattle.key.proofs.KeyFacts.{writable, parts}
use borrow.Author.Rules.{rules}
use Rattle.key_writer.proofs.write_key.Goals as goal

pub returns-then-answer-ne0 : goal.returns-then-answer-ne0
returns-then-answer-ne0 c =
    let a = c.args in
    let out = a.out.now in
    let file = key_file (bits a.f) a.t_values.now a.labels.now a.first.now a.second.now in
    let is = c.answer-answer.ensures in
    record {
      answer_is = is;
      output_is =
          sym (granted_refused (overlaid file out) out (λ e. c.if-answer-ne0.true (is ∙ e)));
    }

pub fill-requires : goal.fill-requires
fill-requires c =
    let a = c.args in
    let is = c.bits_of-bits.ensures in
    let ok =
    writable a.f (length a.out.now) a.t_values.now a.labels.now a.first.now a.second.now
    (sym c.answer-answer.ensures ∙ c.if-answer-ne0.false) in (
      told_narrow a.f is,
      subst (λ (n : ℕ). Parts n a.t_values.now a.labels.now a.first.now a.second.now)
          (sym is) (parts ok),
      search rules,
      subst (λ (n : ℕ). n ≤ length a.out.now) (sym (ap (λ (b : ℕ). file_bytes b) is ∙ file_bytes_lem a.f))
          ok.room_for,
    )

pub returns : goal.returns
returns c =
    let a = c.args in
    let out = a.out.now in
    let file = λ (b : ℕ). key_file b a.t_values.now a.labels.now a.first.now a.second.now in
    let z = sym c.answer-answer.ensures ∙ c.if-answer-ne0.false in
    record {
      answer_is = sym z;
      output_is =
          c.fill.ensures
          ∙ ap (λ (b : ℕ). overlaid (file b) out) c.bits_of-bits.ensures
          ∙ sym (granted_zero (overlaid (file (bits a.f)) out) out z);
    }
