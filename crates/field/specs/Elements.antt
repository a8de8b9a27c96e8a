-- The two public operations on elements of a field, product and reciprocal, and the questions that they ask.
use Rattle.std.specs.Prelude.{ℕ, ◌≡◌, Bool, not, List, [], ◌∷◌, ltb, eqb}
use Rattle.base.specs.Questions.{Question, ◌else◌, first_no, granted}
use Rattle.field.specs.Fields.{operations}
use Rattle.field.specs.declared.Field.{Field}

-- question 17: is the number below q, the size of the field?
abbrev pub is_element : Field → ℕ → Bool
is_element f a = ltb a (operations f).size

-- Field product: 17
abbrev pub product_questions : Field → ℕ → ℕ → List Question
product_questions f a b = (is_element f a else 17) ∷ (is_element f b else 17) ∷ []

-- Reciprocal: 17, then 4 for zero
abbrev pub reciprocal_questions : Field → ℕ → List Question
reciprocal_questions f a = (is_element f a else 17) ∷ (not (eqb a 0) else 4) ∷ []

-- the answer is the number of the first question answered no, or 0. The value is the element if the answer is 0; on a
-- refusal the value is 0
pub record Gives (questions : List Question) (element answer value : ℕ) : Type 0 where
  pub answer_is : answer ≡ first_no questions
  pub value_is : value ≡ granted (first_no questions) element 0
