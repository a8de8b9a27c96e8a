-- Where a handle begins. The letter which ends a handle settles where it begins: at the latest letter of its generator.
-- A handle begins there exactly if the letter there is the inverse, and no letter of the generator one less is later.
use Prim.Native.Nat.{ℕ, ◌+◌, ◌-◌, ◌≤◌, ◌<◌}
use mathlib.Core.Path.{◌≡◌, refl, sym, ap, ◌∙◌}
use mathlib.Core.Bool.{Bool, true, false, not, ◌&&◌}
use mathlib.Core.List.{List}
use native.Mathlib.Decide.{dec_le, dec_lt, ℕ_discrete}
use native.Mathlib.Omega.{arith}
use borrow.Author.Tests.{ltb-true, lt-ltb, eqb-true, eqb-false, eq-eqb, ne_eqb, not-true}
use lib.Dec.{ltb, eqb}
use lib.ListN.{length, get_or}
use Rattle.base.specs.Lists.{every}
use Rattle.base.proofs.ListLaws.{and_left, and_right, and_both, every_get_d, true_false, not_true_false}
use Rattle.word.specs.Letters.{is_letter, generator, inverse}
use Rattle.word.proofs.LetterLaws.{inverse_generator, inverse_twice, Lettered}
use Rattle.braid_handles.specs.Handles.{between, avoids, is_handle, start_of, ends}
use Rattle.braid_handles.proofs.FirstPlaces.{found_passes, found_at}
use Rattle.braid_handles.proofs.HandleLaws.{inside, inside_all}

-- ---- what a handle is, as facts

-- the generators of letters that may stand in a handle that begins with c
pub avoids_own : (c d : ℕ) → avoids c d ≡ true → generator d ≡ generator c → ⊥
avoids_own c d h =
    eqb-false (generator d) (generator c)
    (not-true (eqb (generator d) (generator c)) (and_left _ (not (eqb (generator d + 1) (generator c))) h))

pub avoids_less : (c d : ℕ) → avoids c d ≡ true → generator d + 1 ≡ generator c → ⊥
avoids_less c d h =
    eqb-false (generator d + 1) (generator c)
    (not-true (eqb (generator d + 1) (generator c)) (and_right (not (eqb (generator d) (generator c))) _ h))

avoids_from : (c d : ℕ) → (generator d ≡ generator c → ⊥) → (generator d + 1 ≡ generator c → ⊥)
    → avoids c d ≡ true
avoids_from c d h k =
    and_both (ap not (ne_eqb (generator d) (generator c) h)) (ap not (ne_eqb (generator d + 1) (generator c) k))

-- no letter from place k on has the number i: letters b_i have the number i
abbrev pub None : ℕ → List ℕ → ℕ → ℕ → Type 0
None i w k q = (j : ℕ) → k ≤ j → j < q → generator (get_or w j 0) + 1 ≡ i → ⊥

-- k - 1 is the latest place before q of a letter with the number i; k is 0 if there is none
pub record Latest (i : ℕ) (w : List ℕ) (q k : ℕ) : Type 0 where
  pub within : k ≤ q
  pub there : 0 < k → generator (get_or w (k - 1) 0) + 1 ≡ i
  pub later : None i w k q

module _ (w : List ℕ) (letters : Lettered w) (q : ℕ) (l : q < length w) where
  letter : (p : ℕ) → p < length w → is_letter (get_or w p 0) ≡ true
  letter p h = every_get_d is_letter w letters p h

  -- ---- a handle from p to q

  module _ (p : ℕ) (h : p < q) (e : is_handle w p q ≡ true) where
    pub handle_ends : get_or w q 0 ≡ inverse (get_or w p 0)
    unfolding is_handle
    handle_ends =
        eqb-true _ _ (and_left _ (every (avoids (get_or w p 0)) (between p q w)) e)

    handle_inside : (i : ℕ) → p < i → i < q → avoids (get_or w p 0) (get_or w i 0) ≡ true
    unfolding is_handle
    handle_inside =
        inside (avoids (get_or w p 0)) p q w (omega arith)
        (and_right (eqb (get_or w q 0) (inverse (get_or w p 0))) _ e)

    -- both ends have one generator
    handle_generator : generator (get_or w q 0) ≡ generator (get_or w p 0)
    handle_generator = ap generator handle_ends ∙ inverse_generator (get_or w p 0) (letter p (omega arith))

  -- for an end there is at most one start
  later_none : (p p' : ℕ) → p < p' → p' < q → is_handle w p q ≡ true → is_handle w p' q ≡ true → ⊥
  later_none p p' a b e e' =
      avoids_own (get_or w p 0) (get_or w p' 0) (handle_inside p (omega arith) e p' a b)
      (sym (handle_generator p' b e') ∙ handle_generator p (omega arith) e)

  pub one_start : (p p' : ℕ) → p < q → p' < q → is_handle w p q ≡ true → is_handle w p' q ≡ true → p ≡ p'
  one_start p p' a b e e' = go (dec_lt p p') (dec_lt p' p)
    where
      go : Dec (p < p') → Dec (p' < p) → p ≡ p'
      go (yes h) d = absurd (later_none p p' h b e e')
      go (no h) (yes k) = absurd (later_none p' p k a e' e)
      go (no h) (no k) = omega arith

  pub start_is : (p : ℕ) → p < q → is_handle w p q ≡ true → start_of w q ≡ p
  unfolding start_of
  start_is p h e =
      found_at (λ p. is_handle w p q) q p h e
      (λ j b. not_true_false (is_handle w j q) (λ t. later_none j p b h t e))

  -- if a handle ends at q, `start_of` is the start of a handle
  pub start_handle : ends w q ≡ true → is_handle w (start_of w q) q ≡ true
  unfolding start_of
  start_handle e = found_passes (λ p. is_handle w p q) q (ltb-true (start_of w q) q e)

  -- ---- the latest letters of the generator of the letter at q, and of the one less

  module _ (k j : ℕ) (own : Latest (generator (get_or w q 0) + 1) w q k)
      (less : Latest (generator (get_or w q 0)) w q j)
    where
      -- a handle begins at the latest letter of the generator
      latest_start : (p : ℕ) → p < q → is_handle w p q ≡ true → p + 1 ≡ k
      latest_start p h e = go (dec_lt p k) (dec_le k (p + 1))
        where
          go : Dec (p < k) → Dec (k ≤ p + 1) → p + 1 ≡ k
          go (no a) d =
              absurd (own.later p (omega arith) h (ap (λ (g : ℕ). g + 1) (sym (handle_generator p h e))))
          go (yes a) (yes b) = omega arith
          go (yes a) (no b) =
              let t = own.there (omega arith) in
              absurd
              (avoids_own (get_or w p 0) (get_or w (k - 1) 0)
              (handle_inside p h e (k - 1) (omega arith) (omega (arith, own.within)))
              (omega (arith, handle_generator p h e)))

      -- no letter of the generator one less stands after the start of a handle
      latest_less : (p : ℕ) → p < q → is_handle w p q ≡ true → j ≤ p
      latest_less p h e = go (dec_lt p j)
        where
          go : Dec (p < j) → j ≤ p
          go (no a) = omega arith
          go (yes a) =
              let t = less.there (omega arith) in
              absurd (two (ℕ_discrete (j - 1) p) t)
            where
              two : Dec (j - 1 ≡ p) → generator (get_or w (j - 1) 0) + 1 ≡ generator (get_or w q 0) → ⊥
              two (yes s) t =
                  omega (arith, handle_generator p h e, ap (λ (i : ℕ). generator (get_or w i 0)) s)
              two (no s) t =
                  avoids_less (get_or w p 0) (get_or w (j - 1) 0)
                  (handle_inside p h e (j - 1) (omega arith) (omega (arith, less.within)))
                  (t ∙ handle_generator p h e)

      -- a handle begins at the latest letter of the generator if that is the inverse and none of the generator one less
      -- is later
      latest_handle : j < k → get_or w (k - 1) 0 ≡ inverse (get_or w q 0) → is_handle w (k - 1) q ≡ true
      unfolding is_handle
      latest_handle h e =
          let own_letter = letter q l in
          let g : generator (get_or w (k - 1) 0) ≡ generator (get_or w q 0) =
          ap generator e ∙ inverse_generator (get_or w q 0) own_letter in
          and_both
          (eq-eqb _ _ (sym (ap inverse e ∙ inverse_twice (get_or w q 0) own_letter)))
          (inside_all (avoids (get_or w (k - 1) 0)) (k - 1) q w (omega arith)
          (λ i a b. avoids_from (get_or w (k - 1) 0) (get_or w i 0)
          (λ t. own.later i (omega arith) b (omega arith))
          (λ t. less.later i (omega arith) b (t ∙ g))))

      -- the test by the latest places
      abbrev pub begins : Bool
      begins = ltb j k && eqb (get_or w (k - 1) 0) (inverse (get_or w q 0))

      pub begins_ends : begins ≡ true → start_of w q ≡ k - 1
      begins_ends e =
          let h = ltb-true j k (and_left _ (eqb (get_or w (k - 1) 0) (inverse (get_or w q 0))) e) in
          let t = eqb-true _ _ (and_right (ltb j k) _ e) in
          start_is (k - 1) (omega (arith, own.within)) (latest_handle h t)

      ends_begins : ends w q ≡ true → begins ≡ true
      ends_begins e =
          let p : ℕ = start_of w q in
          let h : p < q = ltb-true p q e in
          let t = start_handle e in
          let s = latest_start p h t in
          let at : k - 1 ≡ p = omega arith in
          and_both (lt-ltb j k (omega (arith, latest_less p h t)))
          (eq-eqb _ _
          (ap (λ (i : ℕ). get_or w i 0) at
          ∙ sym (inverse_twice (get_or w p 0) (letter p (omega arith)))
          ∙ ap inverse (sym (handle_ends p h t))))

      -- a handle ends at q exactly if the test by the latest places says so
      pub ends_latest : ends w q ≡ begins
      ends_latest = go begins refl
        where
          go : (b : Bool) → begins ≡ b → ends w q ≡ b
          go true e =
              let s = begins_ends e in
              lt-ltb (start_of w q) q (omega (arith, s, own.within, ltb-true j k (and_left _ _ e)))
          go false e = not_true_false (ends w q) (λ t. true_false begins (ends_begins t) e)
