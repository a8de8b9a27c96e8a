-- `swap_cancel::packing::settle` meets its contract.
use Prim.Native.Nat.{ℕ, ◌+◌}
use mathlib.Core.Path.{refl, sym, ap, ◌∙◌}
use mathlib.Core.List.{List, ◌++◌, append-nil}
use native.Mathlib.Omega.{arith}
use native.Mathlib.Numerals.{add-one}
use lib.ListN.{take, set}
use lib.Seq.{take-suc-set, drop-set-lt}
use Rattle.swap_cancel.proofs.KeptLaws.{kept_one, kept_none}
use Rattle.swap_cancel.proofs.packing.settle.Goals as goal

pub returns-then-not-is_letter : goal.returns-then-not-is_letter
returns-then-not-is_letter c =
    let a = c.args in
    let word = take a.n a.codes.now in
    let no_letter = sym c.is_letter.ensures ∙ c.if-not-is_letter.true in
    (omega arith, sym (ap (λ (l : List ℕ). word ++ l) (kept_none a.c no_letter) ∙ append-nil word), refl)

pub returns : goal.returns
returns c =
    let a = c.args in
    let row = a.codes.now in
    let letter = sym c.is_letter.ensures ∙ c.if-not-is_letter.false in (
      omega arith,
      ap (λ (m : ℕ). take m (set row a.n a.c)) (add-one a.n)
          ∙ take-suc-set row a.n a.c c.requires
          ∙ ap (λ (l : List ℕ). take a.n row ++ l) (sym (kept_one a.c letter)),
      drop-set-lt (a.n + 1) row a.n a.c (omega arith),
    )
