-- `slip_cloaking::comes_back` meets its contract: it compares the matrix and the list of the pair that comes back.
use Prim.Native.Nat.{ℕ}
use mathlib.Core.Path.{◌≡◌, sym, ap, ◌∙◌}
use mathlib.Core.Bool.{Bool, ◌&&◌}
use mathlib.Core.List.{List}
use Rattle.base.specs.Lists.{equal}
use Rattle.field.specs.Fields.{operations}
use Rattle.field.specs.declared.Field.{Field}
use Rattle.word.specs.Words.{codes}
use Rattle.pair.specs.declared.Pair.{Pair}
use Rattle.pair.specs.Action.{pair_of, word_on, start}
use Rattle.slip_cloaking.specs.Cloaking.{does_come_back}
use Rattle.slip_cloaking.proofs.CloakLaws.{back}
use Rattle.slip_cloaking.proofs.comes_back.Goals as goal

-- the pair that comes back, compared as the code compares it
module _ (f : Field) (ts labels word : List ℕ) where
  abbrev onto : Pair → Pair
  onto p = word_on (operations f) ts (codes word) (pair_of p.matrix p.labels)

  comes : {list : List ℕ} {begin before after : Pair} {same : Bool} → begin ≡ start → list ≡ labels
      → before ≡ pair_of begin.matrix list → after ≡ onto before → same ≡ equal after.matrix before.matrix
      → does_come_back (operations f) ts labels (codes word) ≡ (same && equal after.labels before.labels)
  comes {list} {begin} {before} {after} {same} s e w a h =
      back (operations f) ts labels (codes word) list begin after s e (a ∙ ap onto w)
      (h ∙ ap (λ (p : Pair). equal after.matrix p.matrix) w)
      ∙ ap (λ (b : Bool). same && b)
      (sym (ap (equal after.labels) (ap (λ (p : Pair). p.labels) w ∙ e)))

pub returns-then-equal : goal.returns-then-equal
returns-then-equal c =
    let a = c.args in
    c.equal-then-equal.ensures
    ∙ sym (comes a.f a.t_values.now a.labels.now a.word.now c.start.ensures c.copy_from_slice.ensures.after
    c.with-before.ensures c.carry_file-after.ensures (sym c.if-equal.true ∙ c.equal.ensures))

pub returns-else-equal : goal.returns-else-equal
returns-else-equal c =
    let a = c.args in
    c.if-equal.false
    ∙ sym (comes a.f a.t_values.now a.labels.now a.word.now c.start.ensures c.copy_from_slice.ensures.after
    c.with-before.ensures c.carry_file-after.ensures (sym c.if-equal.false ∙ c.equal.ensures))
