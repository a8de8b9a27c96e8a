-- Laws of numbered questions: a question that is passed, a question that is not, what answer 0 says, and two lists of
-- questions in a row.
use Prim.Native.Nat.{ℕ, zero, suc}
use mathlib.Core.Path.{◌≡◌, refl, sym, ap, ◌∙◌, subst}
use mathlib.Core.Bool.{Bool, true, false, cond, not, ◌&&◌}
use mathlib.Core.List.{List, [], ◌∷◌, ◌++◌}
use native.Mathlib.Omega.{arith}
use lib.Dec.{T, eqb}
use Rattle.base.specs.Questions.{Question, ◌else◌, first_no, granted}

-- the first question is passed: the answer is that of the rest
pub passes : {b : Bool} (n : ℕ) (qs : List Question) → b ≡ true → first_no ((b else n) ∷ qs) ≡ first_no qs
unfolding first_no
passes n qs e = ap (λ (b : Bool). cond b (first_no qs) n) e

-- the first question is not passed: the answer is its number
pub fails : {b : Bool} (n : ℕ) (qs : List Question) → b ≡ false → first_no ((b else n) ∷ qs) ≡ n
unfolding first_no
fails n qs e = ap (λ (b : Bool). cond b (first_no qs) n) e

-- every question is passed
abbrev pub Passed : List Question → Type 0
Passed [] = Unit {0}
Passed (q ∷ qs) = (q.passed ≡ true) × Passed qs

-- no question's number is 0
abbrev pub numbered : List Question → Bool
numbered [] = true
numbered (q ∷ qs) = not (eqb q.number 0) && numbered qs

pub passed_answers : (qs : List Question) → Passed qs → first_no qs ≡ 0
unfolding first_no
passed_answers [] p = refl
passed_answers (q ∷ qs) p = ap (λ (b : Bool). cond b (first_no qs) q.number) p.0 ∙ passed_answers qs p.1

head_numbered : (a b : Bool) → T (a && b) → T a
head_numbered true b t = tt
head_numbered false b t = t

rest_numbered : (a b : Bool) → T (a && b) → T b
rest_numbered true b t = t
rest_numbered false b t = absurd t

nonzero : (n : ℕ) → T (not (eqb n 0)) → n ≡ 0 → ⊥
nonzero n t e = subst (λ (m : ℕ). T (not (eqb m 0))) e t

-- answer 0 says that every question is passed
pub answers_passed : (qs : List Question) → T (numbered qs) → first_no qs ≡ 0 → Passed qs
answers_passed [] t e = tt
answers_passed (q ∷ qs) t e =
    go q.passed refl (λ d. answers_passed qs (rest_numbered (not (eqb q.number 0)) (numbered qs) t) d)
  where
    go : (b : Bool) → q.passed ≡ b → (first_no qs ≡ 0 → Passed qs) → (q.passed ≡ true) × Passed qs
    go true h rest = (h, rest (sym (passes q.number qs h) ∙ e))
    go false h rest =
        absurd (nonzero q.number (head_numbered (not (eqb q.number 0)) (numbered qs) t)
        (sym (fails q.number qs h) ∙ e))

-- two lists in a row: the answer of the first list, or, if that is 0, the answer of the second
pub in_a_row : (ps qs : List Question) → T (numbered ps)
    → first_no (ps ++ qs) ≡ granted (first_no ps) (first_no qs) (first_no ps)
unfolding first_no granted
in_a_row [] qs t = refl
in_a_row (p ∷ ps) qs t =
    go p.passed p.number (head_numbered (not (eqb p.number 0)) (numbered ps) t)
    (in_a_row ps qs (rest_numbered (not (eqb p.number 0)) (numbered ps) t))
  where
    go : (b : Bool) (n : ℕ) → T (not (eqb n 0)) → first_no (ps ++ qs)
        ≡ granted (first_no ps) (first_no qs) (first_no ps)
        → cond b (first_no (ps ++ qs)) n ≡ granted (cond b (first_no ps) n) (first_no qs) (cond b (first_no ps) n)
    go true n h e = e
    go false zero h e = absurd h
    go false (suc n) h e = refl

-- on answer 0 `granted` is its first value, and on a refusal its second
pub granted_zero {ℓ} : {A : Type ℓ} {n : ℕ} (a b : A) → n ≡ 0 → granted n a b ≡ a
unfolding granted
granted_zero a b e = ap (λ n. granted n a b) e

pub granted_refused {ℓ} : {A : Type ℓ} {n : ℕ} (a b : A) → (n ≡ 0 → ⊥) → granted n a b ≡ b
unfolding granted
granted_refused {n = zero} a b h = absurd (h refl)
granted_refused {n = suc n} a b h = refl

-- Both cases at once: a property of both values holds of the given value, and a function of the given value is the
-- function's value in each case.
pub granted_either {ℓ} : {A : Type ℓ} (P : A → Type 0) (n : ℕ) (a b : A) → (n ≡ 0 → P a) → P b → P (granted n a b)
unfolding granted
granted_either P zero a b p q = p refl
granted_either P (suc n) a b p q = q

pub granted_ap {ℓ} : {A B : Type ℓ} (f : A → B) (n : ℕ) (a b : A) → f (granted n a b) ≡ granted n (f a) (f b)
unfolding granted
granted_ap f zero a b = refl
granted_ap f (suc n) a b = refl

-- Two lists of questions in a row. If the first list is passed, the answer is that of the second; if not, it is that of
-- the first. On answer 0 both lists are passed.
module _ (ps qs : List Question) (t : T (numbered ps)) where
  pub all_passed : first_no ps ≡ 0 → first_no (ps ++ qs) ≡ first_no qs
  all_passed e = in_a_row ps qs t ∙ granted_zero (first_no qs) (first_no ps) e

  pub refused_there : (first_no ps ≡ 0 → ⊥) → first_no (ps ++ qs) ≡ first_no ps
  refused_there h = in_a_row ps qs t ∙ granted_refused (first_no qs) (first_no ps) h

  pub both_passed : first_no (ps ++ qs) ≡ 0 → (first_no ps ≡ 0) × (first_no qs ≡ 0)
  unfolding granted
  both_passed e = go (first_no ps) (sym (in_a_row ps qs t) ∙ e)
    where
      go : (m : ℕ) → granted m (first_no qs) m ≡ 0 → (m ≡ 0) × (first_no qs ≡ 0)
      go zero z = (refl, z)
      go (suc m) z = absurd (omega arith)
