-- Laws of the stack of free reduction, the first n codes of a list. When a letter is pushed, it cancels against the
-- last code or stays. In both cases the stack then holds the freely reduced word of its codes and the letter.
use Prim.Native.Nat.{ℕ, suc, ◌+◌, ◌-◌, ◌<◌}
use mathlib.Core.Path.{◌≡◌, sym, ap, ◌∙◌}
use mathlib.Core.Bool.{Bool, true, false, ◌&&◌}
use mathlib.Core.List.{List, [], ◌∷◌, ◌++◌, append_assoc}
use native.Mathlib.Omega.{arith}
use native.Mathlib.Numerals.{add-one}
use borrow.Author.Tests.{ltb-true, lt-ltb, eqb-true, eq-eqb}
use lib.Dec.{ltb, eqb}
use lib.ListN.{length, take, get_or, set}
use lib.Seq.{take-take, take-suc, take-suc-set, get_or-take, length-take-le}
use Rattle.base.proofs.ListLaws.{and_left, and_right, and_both, true_false, every_get_d, every_append, every_take}
use Rattle.word.specs.Letters.{is_letter, inverse}
use Rattle.word.specs.Reduction.{reduced, Irreducible}
use Rattle.word.proofs.LetterLaws.{Lettered}
use Rattle.word.proofs.ReductionLaws.{end_cancels, end_stays, reduced_front}

-- is the letter the inverse of the last code on the stack?
abbrev pub Meets : List ℕ → ℕ → ℕ → Bool
Meets l n c = ltb 0 n && eqb c (inverse (get_or l (n - 1) 0))

module _ (l : List ℕ) (n c : ℕ) (fits : n < length l) (i : Irreducible (take n l)) where
  pub meets_some : Meets l n c ≡ true → 0 < n
  meets_some e = ltb-true 0 n (and_left (ltb 0 n) (eqb c (inverse (get_or l (n - 1) 0))) e)

  -- a letter that is the inverse of the last code cancels against it
  pub push_cancels : Lettered (take n l) → Meets l n c ≡ true → take (n - 1) l ≡ reduced (take n l ++ (c ∷ []))
  push_cancels h e =
      let some = meets_some e in
      let meets =
      eqb-true c (inverse (get_or l (n - 1) 0)) (and_right (ltb 0 n) (eqb c (inverse (get_or l (n - 1) 0))) e) in
      let size : length (take n l) ≡ suc (n - 1) = length-take-le n l (omega arith) ∙ omega arith in
      let last = get_or-take n l (n - 1) 0 (omega arith) in
      let letter = every_get_d is_letter (take n l) h (n - 1) (omega arith) in
      sym (end_cancels (take n l) (n - 1) c i size letter (meets ∙ ap inverse (sym last))
      ∙ take-take (n - 1) n l (omega arith))

  -- any other letter stays
  pub push_stays : Meets l n c ≡ false → take (n + 1) (set l n c) ≡ reduced (take n l ++ (c ∷ []))
  push_stays e =
      let size = length-take-le n l (omega arith) in
      ap (λ (m : ℕ). take m (set l n c)) (add-one n)
      ∙ (take-suc-set l n c fits
      ∙ sym (end_stays (take n l) c i
      (λ m s h.
      let at : m ≡ n - 1 = omega arith in
      let last = get_or-take n l m 0 (omega arith) in
      let meets : c ≡ inverse (get_or l (n - 1) 0) = h
      ∙ (ap inverse last ∙ ap (λ (k : ℕ). inverse (get_or l k 0)) at) in
      true_false (Meets l n c) (and_both (lt-ltb 0 n (omega arith)) (eq-eqb c (inverse (get_or l (n - 1) 0)) meets))
      e)))

-- k of the codes have been pushed behind the word u: one more push gives the reduced word with k + 1 of them
pub next_reduced : (u codes : List ℕ) (k : ℕ) → k < length codes → Lettered u → Lettered codes
    → reduced (reduced (u ++ take k codes) ++ (get_or codes k 0 ∷ [])) ≡ reduced (u ++ take (k + 1) codes)
next_reduced u codes k h e f =
    reduced_front (u ++ take k codes) (get_or codes k 0 ∷ [])
    (every_append is_letter u (take k codes) ∙ and_both e (every_take is_letter k codes f))
    ∙ ap reduced
    (append_assoc u (take k codes) (get_or codes k 0 ∷ [])
    ∙ ap (λ (l : List ℕ). u ++ l) (sym (take-suc codes k 0 h) ∙ ap (λ (m : ℕ). take m codes) (sym (add-one k))))
