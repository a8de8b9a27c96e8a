-- Words without handles. A word has no handle exactly if no two of its places are the ends of a handle. Such a word is
-- freely reduced, because two letters that cancel are a handle with no letters between. This file does not say which
-- braids such words are. Free reduction before or after the steps leaves the same braid.
use Prim.Native.Nat.{ℕ, ◌+◌, ◌-◌, ◌<◌}
use mathlib.Core.Path.{◌≡◌, ap}
use mathlib.Core.Bool.{true, false}
use mathlib.Core.List.{List}
use native.Mathlib.Omega.{arith}
use borrow.Author.Tests.{ltb-true, lt-ltb, eq-eqb}
use lib.ListN.{length, take, drop, get_or}
use Rattle.base.specs.Lists.{every}
use Rattle.base.proofs.ListLaws.{and_both, true_false, not_true_false}
use Rattle.word.specs.Letters.{inverse}
use Rattle.word.specs.Reduction.{reduced, Irreducible}
use Rattle.word.proofs.LetterLaws.{Lettered}
use Rattle.word.proofs.ReductionLaws.{irreducible_reduced, reduced_lettered}
use Rattle.braid_same.specs.SameBraid.{SameBraid}
use Rattle.braid_same.proofs.Laws.{same_lettered, same_then}
use Rattle.braid_same.proofs.Cancelling.{reduced_same}
use Rattle.braid_handles.specs.Handles.{avoids, is_handle, start_of, ends, after_steps}
use Rattle.braid_handles.proofs.FirstPlaces.{found_passes, found_before}
use Rattle.braid_handles.proofs.HandleLaws.{Free, free_ends, ends_free}
use Rattle.braid_handles.proofs.StepKeeps.{steps_same}

-- a handle from p to q ends at q
handle_at : (w : List ℕ) (p q : ℕ) → p < q → is_handle w p q ≡ true → ends w q ≡ true
unfolding start_of
handle_at w p q h e = lt-ltb (start_of w q) q (omega (arith, found_before (λ p. is_handle w p q) q p e))

pub free_handles : (w : List ℕ) → Free w → (p q : ℕ) → p < q → q < length w → is_handle w p q ≡ false
free_handles w f p q h l =
    not_true_false (is_handle w p q) (λ e. true_false (ends w q) (handle_at w p q h e) (free_ends w f q l))

pub handles_free : (w : List ℕ) → ((p q : ℕ) → p < q → q < length w → is_handle w p q ≡ false) → Free w
unfolding start_of
handles_free w none =
    ends_free w
    (λ q l. not_true_false (ends w q)
    (λ e.
    let h = ltb-true (start_of w q) q e in
    true_false (is_handle w (start_of w q) q) (found_passes (λ p. is_handle w p q) q h) (none (start_of w q) q h l)))

-- ---- freely reduced

-- a letter and its inverse right after it are a handle
pair_handle : (w : List ℕ) (k : ℕ) → get_or w (k + 1) 0 ≡ inverse (get_or w k 0) → is_handle w k (k + 1) ≡ true
unfolding is_handle every
pair_handle w k e =
    let z : k + 1 - (k + 1) ≡ 0 = omega arith in
    and_both (eq-eqb _ _ e) (ap (λ (n : ℕ). every (avoids (get_or w k 0)) (take n (drop (k + 1) w))) z)

free_irreducible : (w : List ℕ) → Free w → Irreducible w
free_irreducible w f k l e =
    true_false (is_handle w k (k + 1)) (pair_handle w k e) (free_handles w f k (k + 1) (omega arith) l)

pub free_reduced : (w : List ℕ) → Free w → reduced w ≡ w
free_reduced w f = irreducible_reduced w (free_irreducible w f)

-- ---- free reduction first, or after

module _ (n : ℕ) (w : List ℕ) (e : Lettered w) where
  pub reduced_first : SameBraid w (after_steps n (reduced w))
  reduced_first = same_then (reduced_same w e) (steps_same n (reduced w) (reduced_lettered w e))

  pub reduced_after : SameBraid w (reduced (after_steps n w))
  reduced_after =
      let s = steps_same n w e in same_then s (reduced_same (after_steps n w) (same_lettered s e))
