-- Laws of the letters among codes, and of a letter behind them.
use Prim.Native.Nat.{ℕ, zero, suc, ◌+◌, ◌<◌, suc-le-suc}
use mathlib.Core.Path.{◌≡◌, refl, ap, subst, ◌∙◌}
use mathlib.Core.Bool.{Bool, true, false, cond, ◌||◌, false≢true}
use mathlib.Core.List.{List, [], ◌∷◌, ◌++◌}
use native.Mathlib.Omega.{arith}
use native.Mathlib.Nat.{zero-lt-suc}
use native.Mathlib.Decide.{dec_lt}
use borrow.Author.Tests.{le-leb}
use lib.Dec.{leb}
use lib.ListN.{length, get_or, set}
use Rattle.base.specs.Lists.{every}
use Rattle.base.proofs.ListLaws.{and_left, and_right, and_both}
use Rattle.word.specs.Letters.{is_letter, generator, inverse, far}
use Rattle.word.proofs.LetterLaws.{inverse_letter, inverse_generator}
use Rattle.swap_cancel.specs.SwapCancel.{letter_behind}
use Rattle.swap_cancel.specs.steps.Marking.{kept}
use Rattle.swap_cancel.proofs.SwapCancelLaws.{behind_cases, own_near}

-- ---- the letters among codes

pub kept_append : (u v : List ℕ) → kept (u ++ v) ≡ kept u ++ kept v
unfolding kept
kept_append [] v = refl
kept_append (c ∷ u) v = go (is_letter c) (kept_append u v)
  where
    go : (b : Bool) → kept (u ++ v) ≡ kept u ++ kept v
        → cond b (c ∷ kept (u ++ v)) (kept (u ++ v)) ≡ cond b (c ∷ kept u) (kept u) ++ kept v
    go true e = ap (λ (l : List ℕ). c ∷ l) e
    go false e = e

kept_letter : (c : ℕ) (v : List ℕ) → is_letter c ≡ true → kept (c ∷ v) ≡ c ∷ kept v
unfolding kept
kept_letter c v e = ap (λ (b : Bool). cond b (c ∷ kept v) (kept v)) e

kept_mark : (c : ℕ) (v : List ℕ) → is_letter c ≡ false → kept (c ∷ v) ≡ kept v
unfolding kept
kept_mark c v e = ap (λ (b : Bool). cond b (c ∷ kept v) (kept v)) e

pub kept_one : (c : ℕ) → is_letter c ≡ true → kept (c ∷ []) ≡ c ∷ []
unfolding kept
kept_one c e = kept_letter c [] e

pub kept_none : (c : ℕ) → is_letter c ≡ false → kept (c ∷ []) ≡ []
unfolding kept
kept_none c e = kept_mark c [] e

-- if each letter among codes passes a test, the kept letters all do, and back
every_kept : (f : ℕ → Bool) (m : List ℕ)
    → ((j : ℕ) → j < length m → is_letter (get_or m j 0) ≡ true → f (get_or m j 0) ≡ true)
    → every f (kept m) ≡ true
unfolding kept every
every_kept f [] h = refl
every_kept f (c ∷ m) h = go (is_letter c) refl (every_kept f m (λ j l e. h (suc j) (suc-le-suc l) e))
  where
    go : (b : Bool) → is_letter c ≡ b → every f (kept m) ≡ true → every f (cond b (c ∷ kept m) (kept m)) ≡ true
    go true e r = and_both (h zero (zero-lt-suc (length m)) e) r
    go false e r = r

kept_every : (f : ℕ → Bool) (m : List ℕ) → every f (kept m) ≡ true
    → (j : ℕ) → j < length m → is_letter (get_or m j 0) ≡ true → f (get_or m j 0) ≡ true
unfolding kept every
kept_every f [] h j l e = absurd (omega arith)
kept_every f (c ∷ m) h zero l e =
    and_left (f c) (every f (kept m)) (subst (λ (v : List ℕ). every f v ≡ true) (kept_letter c m e) h)
kept_every f (c ∷ m) h (suc j) l e = kept_every f m (go (is_letter c) h) j (omega arith) e
  where
    go : (b : Bool) → every f (cond b (c ∷ kept m) (kept m)) ≡ true → every f (kept m) ≡ true
    go true t = and_right (f c) (every f (kept m)) t
    go false t = t

-- ---- letters that are far

pub far_from : (c d : ℕ) → (generator d ≡ generator c → ⊥) → (generator d + 1 ≡ generator c → ⊥)
    → (generator d ≡ generator c + 1 → ⊥)
    → far c d ≡ true
far_from c d own below above = go (dec_lt (generator c) (generator d))
  where
    or_left : (a b : Bool) → a ≡ true → a || b ≡ true
    or_left true b e = refl
    or_left false b e = absurd (false≢true e)

    or_right : (a b : Bool) → b ≡ true → a || b ≡ true
    or_right true b e = refl
    or_right false b e = e

    go : Dec (generator c < generator d) → far c d ≡ true
    go (yes h) =
        or_left (leb (generator c + 2) (generator d)) (leb (generator d + 2) (generator c))
        (le-leb (generator c + 2) (generator d) (omega (arith, above)))
    go (no h) =
        or_right (leb (generator c + 2) (generator d)) (leb (generator d + 2) (generator c))
        (le-leb (generator d + 2) (generator c) (omega (arith, own, below)))

-- ---- a letter behind the letters among codes

module _ (c : ℕ) (letter : is_letter c ≡ true) where
  -- place p holds the inverse of c, and each letter after it is far from c: the letter at place p goes
  pub behind_goes : (w : List ℕ) (p : ℕ) → p < length w → get_or w p 0 ≡ inverse c
      → ((j : ℕ) → p < j → j < length w → is_letter (get_or w j 0) ≡ true → far c (get_or w j 0) ≡ true)
      → letter_behind (kept w) c ≡ kept (set w p 15)
  unfolding kept
  behind_goes [] p l at f = absurd (omega arith)
  behind_goes (d ∷ w) zero l at f =
      let far-all = every_kept (far c) w (λ j b t. f (suc j) (omega arith) (omega arith) t) in
      let first : is_letter d ≡ true = rw at (inverse_letter c letter) in
      ap (λ (v : List ℕ). letter_behind v c) (kept_letter d w first)
      ∙ behind_cases (λ v. v ≡ kept w) d (kept w) c (λ q t. refl) (λ n. absurd (n at far-all))
  behind_goes (d ∷ w) (suc p) l at f =
      go (is_letter d) (behind_goes w p (omega arith) at (λ j a b t. f (suc j) (omega arith) (omega arith) t))
    where
      near : every (far c) (kept w) ≡ true → ⊥
      near t =
          own_near c (inverse c) (inverse_generator c letter)
          (subst (λ (x : ℕ). far c x ≡ true) at
          (kept_every (far c) w t p (omega arith) (rw at (inverse_letter c letter))))

      go : (b : Bool) → letter_behind (kept w) c ≡ kept (set w p 15)
          → letter_behind (cond b (d ∷ kept w) (kept w)) c ≡ cond b (d ∷ kept (set w p 15)) (kept (set w p 15))
      go true rest =
          behind_cases (λ v. v ≡ d ∷ kept (set w p 15)) d (kept w) c (λ q t. absurd (near t))
          (λ n. ap (λ (v : List ℕ). d ∷ v) rest)
      go false rest = rest

  -- each inverse of c has a letter after it that is not far from c: the letter c stays
  pub behind_stays : (w : List ℕ)
      → ((j : ℕ) → j < length w → get_or w j 0 ≡ inverse c
      → ((i : ℕ) → j < i → i < length w → is_letter (get_or w i 0) ≡ true → far c (get_or w i 0) ≡ true) → ⊥)
      → letter_behind (kept w) c ≡ kept w ++ (c ∷ [])
  unfolding kept letter_behind
  behind_stays [] h = refl
  behind_stays (d ∷ w) h =
      go (is_letter d) (behind_stays w (λ j l e f. h (suc j) (omega arith) e (λ i a b t. later j i a b t f)))
    where
      later : (j i : ℕ) → suc j < i → i < length (d ∷ w) → is_letter (get_or (d ∷ w) i 0) ≡ true
          → ((i : ℕ) → j < i → i < length w → is_letter (get_or w i 0) ≡ true → far c (get_or w i 0) ≡ true)
          → far c (get_or (d ∷ w) i 0) ≡ true
      later j zero a b t f = absurd (omega arith)
      later j (suc i) a b t f = f i (omega arith) (omega arith) t

      first : d ≡ inverse c → every (far c) (kept w) ≡ true → ⊥
      first q t = h zero (omega arith) q after
        where
          after : (i : ℕ) → 0 < i → i < length (d ∷ w) → is_letter (get_or (d ∷ w) i 0) ≡ true
              → far c (get_or (d ∷ w) i 0) ≡ true
          after zero a b e = absurd (omega arith)
          after (suc i) a b e = kept_every (far c) w t i (omega arith) e

      go : (b : Bool) → letter_behind (kept w) c ≡ kept w ++ (c ∷ [])
          → letter_behind (cond b (d ∷ kept w) (kept w)) c ≡ cond b (d ∷ kept w) (kept w) ++ (c ∷ [])
      go true rest =
          behind_cases (λ v. v ≡ d ∷ (kept w ++ (c ∷ []))) d (kept w) c (λ q t. absurd (first q t))
          (λ n. ap (λ (v : List ℕ). d ∷ v) rest)
      go false rest = rest
