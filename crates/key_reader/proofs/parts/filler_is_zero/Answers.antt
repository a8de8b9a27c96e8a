-- `key_reader::parts::filler_is_zero` meets its contract: the filler of both matrices.
use Prim.Native.Nat.{ℕ}
use mathlib.Core.Path.{◌≡◌, sym, ap, ◌∙◌}
use mathlib.Core.List.{List}
use lib.Dec.{eqb}
use Rattle.key.specs.Keys.{matrix_filler, first_bytes}
use Rattle.key.proofs.FileLaws.{part_taken}
use Rattle.key_reader.proofs.parts.filler_is_zero.Goals as goal

pub returns-then-not-filler_is_zero : goal.returns-then-not-filler_is_zero
returns-then-not-filler_is_zero c =
    let first_is : let a = c.args in
    eqb (matrix_filler a.bits (first_bytes a.bits a.file.now)) 0 ≡ c.filler_is_zero.result =
    let a = c.args in
    sym (c.filler_is_zero.ensures
    ∙ ap (λ (xs : List ℕ). eqb (matrix_filler a.bits xs) 0)
    (part_taken a.bits 3 a.file.now c.first_place-at.ensures c.labels_place-end.ensures)) in
    rw (first_is ∙ c.if-not-filler_is_zero.true)

pub returns : goal.returns
returns c =
    let first_is : let a = c.args in
    eqb (matrix_filler a.bits (first_bytes a.bits a.file.now)) 0 ≡ c.filler_is_zero.result =
    let a = c.args in
    sym (c.filler_is_zero.ensures
    ∙ ap (λ (xs : List ℕ). eqb (matrix_filler a.bits xs) 0)
    (part_taken a.bits 3 a.file.now c.first_place-at.ensures c.labels_place-end.ensures)) in
    let b = c.args.bits in
    rw (first_is ∙ c.if-not-filler_is_zero.false)
    (c.filler_is_zero-2.ensures
    ∙ ap (λ (xs : List ℕ). eqb (matrix_filler b xs) 0)
    (part_taken b 5 c.args.file.now c.second_place-second.ensures c.requires.1))
