-- An operation of a field gives the element if every question is passed, and 0 on a refusal.
use Prim.Native.Nat.{ℕ, suc}
use mathlib.Core.Path.{◌≡◌, sym, ◌∙◌}
use mathlib.Core.List.{List}
use native.Mathlib.Omega.{arith}
use Rattle.base.specs.Questions.{Question, first_no}
use Rattle.base.proofs.QuestionLaws.{granted_zero, granted_refused}
use Rattle.field.specs.Elements.{Gives}

pub given : (qs : List Question) {element value : ℕ} → first_no qs ≡ 0 → value ≡ element → Gives qs element 0 value
given qs {element} e v = record { answer_is = sym e; value_is = v ∙ sym (granted_zero element 0 e) }

pub refused : (qs : List Question) (n : ℕ) {element : ℕ} → first_no qs ≡ suc n → Gives qs element (suc n) 0
refused qs n {element} e = record { answer_is = sym e; value_is = sym (granted_refused element 0 (λ z. omega arith)) }
