-- Laws of swapping and cancelling, over words: what it leaves is not longer, is the same braid, and is freely reduced.
use Prim.Native.Nat.{ℕ, zero, suc, ◌+◌, ◌≤◌, ◌<◌}
use mathlib.Core.Path.{◌≡◌, refl, sym, ap, subst, ◌∙◌}
use mathlib.Core.Bool.{Bool, true, false, cond, ◌&&◌, ◌||◌}
use mathlib.Core.List.{List, [], ◌∷◌, ◌++◌, append_assoc, append-nil}
use mathlib.Core.Logic.{⊎_elim}
use native.Mathlib.Omega.{arith}
use native.Mathlib.Numerals.{add-one}
use borrow.Author.Tests.{eqb-true, eq-eqb}
use lib.Dec.{eqb, leb}
use lib.ListN.{length, take, get_or, length-take}
use lib.Seq.{take-suc}
use Rattle.base.specs.Lists.{every}
use Rattle.base.proofs.ListLaws.{and_left, and_right, and_both, true_false}
use Rattle.word.specs.Letters.{is_letter, generator, inverse, far}
use Rattle.word.specs.Reduction.{Irreducible}
use Rattle.word.proofs.LetterLaws.{Lettered, lettered_cons, far_apart, inverse_twice, inverse_generator}
use Rattle.braid_same.specs.SameBraid.{SameBraid}
use Rattle.braid_same.proofs.Laws.{same_none, same_then, same_turned, same_append, same_inside, same_lettered}
use Rattle.braid_same.proofs.Turns.{cancelled_back, far_passes}
use Rattle.swap_cancel.specs.SwapCancel.{letter_behind, letters_behind, swap_cancelled, Cancelled}

-- a letter behind a word, by cases: the word's first letter goes with it, or stays
pub behind_cases : (P : List ℕ → Type 0) (d : ℕ) (w : List ℕ) (c : ℕ)
    → (d ≡ inverse c → every (far c) w ≡ true → P w)
    → ((d ≡ inverse c → every (far c) w ≡ true → ⊥) → P (d ∷ letter_behind w c))
    → P (letter_behind (d ∷ w) c)
unfolding letter_behind
behind_cases P d w c goes stays = go (eqb d (inverse c)) refl (every (far c) w) refl
  where
    go : (b : Bool) → eqb d (inverse c) ≡ b → (t : Bool) → every (far c) w ≡ t
        → P (cond (b && t) w (d ∷ letter_behind w c))
    go true e true f = goes (eqb-true d (inverse c) e) f
    go true e false f = stays (λ x y. true_false (every (far c) w) y f)
    go false e t f = stays (λ x y. true_false (eqb d (inverse c)) (eq-eqb d (inverse c) x) e)

-- ---- not longer

behind_length : (w : List ℕ) (c : ℕ) → length (letter_behind w c) ≤ suc (length w)
unfolding letter_behind
behind_length [] c = omega arith
behind_length (d ∷ w) c =
    behind_cases (λ v. length v ≤ suc (suc (length w))) d w c (λ e f. omega arith)
    (λ n. omega (arith, behind_length w c))

letters_length : (w v : List ℕ) → length (letters_behind w v) ≤ length w + length v
unfolding letters_behind
letters_length w [] = omega arith
letters_length w (c ∷ v) = omega (arith, letters_length (letter_behind w c) v, behind_length w c)

pub swapped_length : (w : List ℕ) → length (swap_cancelled w) ≤ length w
swapped_length w = omega (arith, letters_length [] w)

-- ---- the same braid

behind_same : (w : List ℕ) (c : ℕ) → is_letter c ≡ true → Lettered w → SameBraid (w ++ (c ∷ [])) (letter_behind w c)
unfolding letter_behind
behind_same [] c e l = same_none (c ∷ [])
behind_same (d ∷ w) c e l =
    let rest = (lettered_cons d w l).1 in
    behind_cases (SameBraid (d ∷ (w ++ (c ∷ [])))) d w c
    (λ q f.
    same_then (same_append (same_none (d ∷ [])) (same_turned (far_passes c w e rest f)))
    (rw q (same_inside [] w (cancelled_back c e))))
    (λ n. same_append (same_none (d ∷ [])) (behind_same w c e rest))

behind_lettered : (w : List ℕ) (c : ℕ) → Lettered w → is_letter c ≡ true → Lettered (letter_behind w c)
unfolding letter_behind every
behind_lettered [] c l e = and_both e refl
behind_lettered (d ∷ w) c l e =
    let (f, rest) = lettered_cons d w l in
    behind_cases Lettered d w c (λ q t. rest) (λ n. and_both f (behind_lettered w c rest e))

letters_same : (w v : List ℕ) → Lettered w → Lettered v → SameBraid (w ++ v) (letters_behind w v)
unfolding letters_behind
letters_same w [] l m = rw append-nil (same_none w)
letters_same w (c ∷ v) l m =
    let (e, rest) = lettered_cons c v m in
    let one = behind_same w c e l in
    same_then (subst (λ (u : List ℕ). SameBraid u (letter_behind w c ++ v)) (append_assoc w (c ∷ []) v)
    (same_append one (same_none v)))
    (letters_same (letter_behind w c) v (behind_lettered w c l e) rest)

pub swapped_same : (w : List ℕ) → Lettered w → SameBraid w (swap_cancelled w)
unfolding every
swapped_same w l = letters_same [] w refl l

-- ---- letters that are far, and their inverses

or_comm : (a b : Bool) → a || b ≡ b || a
or_comm true true = refl
or_comm true false = refl
or_comm false true = refl
or_comm false false = refl

far_comm : (c d : ℕ) → far c d ≡ far d c
far_comm c d = or_comm (leb (generator c + 2) (generator d)) (leb (generator d + 2) (generator c))

far_inverse : (c d : ℕ) → is_letter d ≡ true → far c (inverse d) ≡ far c d
far_inverse c d e =
    ap (λ (g : ℕ). leb (generator c + 2) g || leb (g + 2) (generator c)) (inverse_generator d e)

-- a letter is not far from a letter of its own generator
pub own_near : (c d : ℕ) → generator d ≡ generator c → far c d ≡ true → ⊥
own_near c d e f = ⊎_elim (λ h. omega arith) (λ h. omega arith) (far_apart c d f)

-- ---- freely reduced

-- the first letter of a word that is not far from d is not the inverse of d
data Unmet (d : ℕ) : List ℕ → Type 0 where
  end : Unmet d []
  stops : {c : ℕ} {w : List ℕ} → far d c ≡ false → (c ≡ inverse d → ⊥) → Unmet d (c ∷ w)
  passes : {c : ℕ} {w : List ℕ} → far d c ≡ true → Unmet d w → Unmet d (c ∷ w)

-- this holds of each letter and the letters after it
data Settled : List ℕ → Type 0 where
  none : Settled []
  one : {d : ℕ} {w : List ℕ} → Unmet d w → Settled w → Settled (d ∷ w)

module _ (c d : ℕ) (e : is_letter c ≡ true) (l : is_letter d ≡ true) where
  -- a word that is far from c has no inverse of a letter that is not
  far_unmet : (w : List ℕ) → far d c ≡ false → every (far c) w ≡ true → Unmet d w
  unfolding every
  far_unmet [] n f = end
  far_unmet (x ∷ w) n f = go (far d x) refl (far_unmet w n (and_right (far c x) (every (far c) w) f))
    where
      go : (b : Bool) → far d x ≡ b → Unmet d w → Unmet d (x ∷ w)
      go true t r = passes t r
      go false t r =
          stops t
          (λ q.
          true_false (far d c)
          (far_comm d c ∙ sym (far_inverse c d l) ∙ ap (far c) (sym q) ∙ and_left (far c x) (every (far c) w) f) n)

  unmet_behind : (w : List ℕ) → Unmet d w → (d ≡ inverse c → every (far c) w ≡ true → ⊥) → Unmet d (letter_behind w c)
  unfolding letter_behind every
  unmet_behind [] u h = go (far d c) refl
    where
      go : (b : Bool) → far d c ≡ b → Unmet d (c ∷ [])
      go true t = passes t end
      go false t = stops t (λ q. h (sym (inverse_twice d l) ∙ ap inverse (sym q)) refl)
  unmet_behind (x ∷ w) (stops f n) h =
      behind_cases (Unmet d) x w c (λ q t. far_unmet w (sym (far_inverse d c e) ∙ ap (far d) (sym q) ∙ f) t)
      (λ m. stops f n)
  unmet_behind (x ∷ w) (passes f r) h =
      behind_cases (Unmet d) x w c (λ q t. r)
      (λ m.
      passes f
      (unmet_behind w r
      (λ q t.
      h q
      (and_both (far_comm c x ∙ sym (far_inverse x c e) ∙ ap (far x) (sym q) ∙ far_comm x d ∙ f) t))))

settled_behind : (w : List ℕ) (c : ℕ) → is_letter c ≡ true → Lettered w → Settled w → Settled (letter_behind w c)
unfolding letter_behind
settled_behind [] c e l s = one end none
settled_behind (d ∷ w) c e l (one u s) =
    let (f, rest) = lettered_cons d w l in
    behind_cases Settled d w c (λ q t. s) (λ m. one (unmet_behind c d e f w u m) (settled_behind w c e rest s))

letters_settled : (w v : List ℕ) → Lettered w → Lettered v → Settled w → Settled (letters_behind w v)
unfolding letters_behind
letters_settled w [] l m s = s
letters_settled w (c ∷ v) l m s =
    let (e, rest) = lettered_cons c v m in
    letters_settled (letter_behind w c) v (behind_lettered w c l e) rest (settled_behind w c e l s)

settled_apart : (w : List ℕ) → Lettered w → Settled w
    → (k : ℕ) → suc k < length w → get_or w (suc k) 0 ≡ inverse (get_or w k 0) → ⊥
settled_apart [] l s k h e = omega arith
settled_apart (d ∷ []) l s k h e = omega arith
settled_apart (d ∷ x ∷ w) l (one (stops f n) s) zero h e = n e
settled_apart (d ∷ x ∷ w) l (one (passes f r) s) zero h e =
    own_near d x (ap generator e ∙ inverse_generator d (lettered_cons d (x ∷ w) l).0) f
settled_apart (d ∷ x ∷ w) l (one u s) (suc k) h e =
    settled_apart (x ∷ w) (lettered_cons d (x ∷ w) l).1 s k (omega arith) e

pub swapped_irreducible : (w : List ℕ) → Lettered w → Irreducible (swap_cancelled w)
unfolding every
swapped_irreducible w l k =
    rw add-one
    (settled_apart (swap_cancelled w) (same_lettered (swapped_same w l) l) (letters_settled [] w refl l none) k)

-- ---- of a row

letters_one_more : (w v : List ℕ) (c : ℕ) → letters_behind w (v ++ (c ∷ [])) ≡ letter_behind (letters_behind w v) c
unfolding letters_behind
letters_one_more w [] c = refl
letters_one_more w (d ∷ v) c = letters_one_more (letter_behind w d) v c

-- one more code
pub swapped_next : (w : List ℕ) (k : ℕ) → k < length w
    → letter_behind (swap_cancelled (take k w)) (get_or w k 0) ≡ swap_cancelled (take (k + 1) w)
swapped_next w k h =
    sym (letters_one_more [] (take k w) (get_or w k 0))
    ∙ ap swap_cancelled (sym (take-suc w k 0 h) ∙ ap (λ (m : ℕ). take m w) (sym (add-one k)))

module _ {n r : ℕ} {before after : List ℕ} (c : Cancelled n before after r) (l : Lettered (take n before)) where
  pub cancelled_same : SameBraid (take n before) (take r after)
  cancelled_same = rw c.word_is (swapped_same (take n before) l)

  pub cancelled_irreducible : Irreducible (take r after)
  cancelled_irreducible = rw c.word_is (swapped_irreducible (take n before) l)

pub cancelled_fewer : {n r : ℕ} {before after : List ℕ} → Cancelled n before after r → r ≤ n
cancelled_fewer {n = n} {before = before} c =
    omega (arith, c.count_is, swapped_length (take n before), length-take n before)
