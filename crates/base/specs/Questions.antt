-- Questions with numbers. An operation's answer is the number of the first question answered no, or 0 if every answer
-- is yes.
use Rattle.std.specs.Prelude.{ℕ, zero, suc, Bool, cond, List, [], ◌∷◌}

-- a yes or no, and the number that no gives
pub record Question : Type 0 where
  pub passed : Bool
  pub number : ℕ

infix 20 ◌else◌
-- `test else 9` is a question: is the test passed? If not, 9.
abbrev pub ◌else◌ : Bool → ℕ → Question
b else n = record { passed = b; number = n }

-- the number of the first question answered no, or 0 if there is none
unfoldable pub first_no : List Question → ℕ
first_no [] = 0
first_no (q ∷ qs) = cond q.passed (first_no qs) q.number

-- What an operation gives: the first value if its answer is 0, the second value on a refusal.
unfoldable pub granted {ℓ} : {A : Type ℓ} → ℕ → A → A → A
granted zero a b = a
granted (suc n) a b = b
