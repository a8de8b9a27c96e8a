-- `word_dialect::table::lay_run` meets its contract. The loop's invariant: the first i letters of the run are
-- written, `code` is the next one, and the entries before the run are unchanged.
use Prim.Native.Nat.{ℕ, ◌+◌, ◌*◌, ◌%◌}
use mathlib.Core.Path.{◌≡◌, refl, ap, ◌∙◌}
use native.Mathlib.Omega.{arith}
use borrow.Author.Count.{below_none, below_more}
use lib.ListN.{get_or, set}
use lib.Seq.{get_or-set_same, get_or-set_other}
use Rattle.word_dialect.specs.steps.Table.{code_at}
use Rattle.word_dialect.proofs.TableLaws.{code_next}
use Rattle.word_dialect.proofs.table.lay_run.Goals as goal

pub loop-i-init : goal.loop-i-init
unfolding code_at
loop-i-init c = (refl, c.requires.1, λ j h. refl, below_none _)

pub loop-i-preserved : goal.loop-i-preserved
loop-i-preserved c =
    let l = c.loop-i in
    let a = c.args in
    let at : ℕ = 8 * a.c + l.i in (
      ap (λ (x : ℕ). (x + a.run.step) % 16) l.invariant.0 ∙ code_next a.run.first a.run.step l.i,
      omega arith,
      (λ j h. get_or-set_other l.table at j l.code 0 (omega arith) ∙ l.invariant.2 j h),
      below_more (λ j. get_or (set l.table at l.code) (8 * a.c + j) 0 ≡ code_at a.run.first a.run.step j) l.i
          (λ j h. get_or-set_other l.table at (8 * a.c + j) l.code 0 (omega arith) ∙ l.invariant.3 j h)
          (get_or-set_same l.table at l.code 0 (omega arith) ∙ l.invariant.0),
    )

pub returns : goal.returns
returns c =
    let l = c.loop-i in
    let a = c.args in
    let at : ℕ = 8 * a.c + 7 in (
      (λ j h. get_or-set_other l.table at j a.run.number 0 (omega arith) ∙ l.invariant.2 j h),
      record {
        number_there = get_or-set_same l.table at a.run.number 0 (omega arith);
        letters_there = λ i h.
            get_or-set_other l.table at (8 * a.c + i) a.run.number 0 (omega arith) ∙ l.invariant.3 i (omega arith);
      },
    )
