-- Laws of the table that counts all pairs in one walk: one letter more, and the table after all letters. It then has,
-- for every two labels, the number of letters that swap just these two.
use Prim.Native.Nat.{ℕ, suc, ◌+◌, ◌/◌, ◌≤◌, ◌<◌}
use mathlib.Core.Path.{◌≡◌, refl, sym, ap, ◌∙◌}
use mathlib.Core.Bool.{Bool, true, false, cond, ◌&&◌, ◌||◌, beq}
use mathlib.Core.List.{List, [], ◌∷◌}
use native.Mathlib.Numerals.{add-one}
use native.Mathlib.Omega.{arith}
use native.Mathlib.Decide.{ℕ_discrete}
use borrow.Author.Tests.{eq-eqb, ne_eqb, eqb-true, ltb-true}
use lib.Dec.{eqb, ltb}
use lib.ListN.{length, drop, get_or, set, length-set, replicate}
use lib.Seq.{drop-cons, drop-length, get_or-set_same, get_or-set_other}
use Rattle.base.specs.Lists.{count, every, values, values_from, tally}
use Rattle.base.proofs.ListLaws.{tally_le, beq_true, every_values, every_all, and_left, and_right}
use Rattle.word.specs.Letters.{is_letter, is_positive, is_inverse, generator}
use Rattle.word.specs.Strands.{strands_in_order, swapped}
use Rattle.word.proofs.LetterLaws.{Lettered, lettered_cons, letter_below, generator_below}
use Rattle.word.proofs.StrandLaws.{length_swapped, swapped_below}
use Rattle.word_crossing.specs.Crossings.{both, swaps, swapping}
use Rattle.word_crossing.specs.steps.Counting.{slot, slot_of, slots, Labelled, Table, Counts, finding}
use Rattle.word_crossing.proofs.CrossingLaws.{share, tally_letter}

-- ---- eight labels below 8

pub order_labelled : Labelled strands_in_order
unfolding values_from every
order_labelled =
    record {
      strands = refl;
      below = λ k. ltb-true (get_or strands_in_order k 0) 8
          (every_all (λ x. ltb x 8) refl strands_in_order refl k);
    }

module _ {labels : List ℕ} (e : Labelled labels) (c : ℕ) (letter : is_letter c ≡ true) where
  pub place_below : generator c + 1 < 8
  place_below = omega (arith, generator_below c letter)

  pub labelled_next : Labelled (swapped (generator c) labels)
  labelled_next =
      record {
        strands = length_swapped (generator c) labels ∙ e.strands;
        below = swapped_below (generator c) labels e.below;
      }

  pub sign_below : c / 8 < 2
  sign_below = omega (arith, letter_below c letter)

  slot_below : slot_of labels c < 128
  slot_below = omega (arith, sign_below, e.below (generator c), e.below (generator c + 1))

-- ---- one letter more

module _ (counts labels : List ℕ) (c : ℕ) (w : List ℕ) (h : slot_of labels c < length counts) where
  abbrev at : ℕ
  at = slot_of labels c

  counted_letter : (k : ℕ)
      → get_or (set counts at (get_or counts at 0 + 1)) k 0 + count k (slots (swapped (generator c) labels) w)
      ≡ get_or counts k 0 + count k (slots labels (c ∷ w))
  unfolding tally slots
  counted_letter k = go (ℕ_discrete k at)
    where
      rest : ℕ
      rest = count k (slots (swapped (generator c) labels) w)

      go : Dec (k ≡ at)
          → get_or (set counts at (get_or counts at 0 + 1)) k 0 + rest ≡ get_or counts k 0
          + cond (eqb at k) (suc rest) rest
      go (yes e) =
          let t = eq-eqb at k (sym e) in
          rw (t, e) (omega (arith, get_or-set_same counts at (get_or counts at 0 + 1) 0 h))
      go (no n) =
          let t = ne_eqb at k (λ e. n (sym e)) in
          rw t (omega (arith, get_or-set_other counts at k (get_or counts at 0 + 1) 0 n))

-- 1 if a test is passed, and 0 if not
abbrev tick : Bool → ℕ
tick b = cond b 1 0

-- the first element of a list is counted by itself
count_first : (k x : ℕ) (xs : List ℕ) → count k (x ∷ xs) ≡ tick (eqb x k) + count k xs
unfolding tally
count_first k x xs = go (eqb x k)
  where
    go : (b : Bool) → cond b (suc (count k xs)) (count k xs) ≡ tick b + count k xs
    go true = omega arith
    go false = omega arith

-- ---- two labels in the table

-- two places of the table are the same exactly if sign and labels are the same
slot_equal : (s t p q a b : ℕ) → p < 8 → q < 8 → a < 8 → b < 8
    → eqb (slot s p q) (slot t a b) ≡ eqb s t && (eqb p a && eqb q b)
slot_equal s t p q a b hp hq ha hb = go (ℕ_discrete s t) (ℕ_discrete p a) (ℕ_discrete q b)
  where
    go : Dec (s ≡ t) → Dec (p ≡ a) → Dec (q ≡ b) → eqb (slot s p q) (slot t a b) ≡ eqb s t && (eqb p a && eqb q b)
    go (yes d) (yes e) (yes f) =
        let g : slot s p q ≡ slot t a b = omega arith in
        eq-eqb (slot s p q) (slot t a b) g ∙ sym (rw (eq-eqb s t d, eq-eqb p a e, eq-eqb q b f))
    go (yes d) (yes e) (no f) =
        ne_eqb (slot s p q) (slot t a b) (λ g. f (omega arith)) ∙ sym (rw (eq-eqb s t d, eq-eqb p a e, ne_eqb q b f))
    go (yes d) (no e) f =
        ne_eqb (slot s p q) (slot t a b) (λ g. e (omega arith)) ∙ sym (rw (eq-eqb s t d, ne_eqb p a e))
    go (no d) e f = ne_eqb (slot s p q) (slot t a b) (λ g. d (omega arith)) ∙ sym (rw (ne_eqb s t d))

-- The high bit of a code is its sign. The proof tests all sixteen codes.
abbrev sign_rule : ℕ → Bool
sign_rule c = cond (is_letter c) (beq (is_positive c) (eqb (c / 8) 0) && beq (is_inverse c) (eqb (c / 8) 1)) true

sign_rules : every sign_rule (values (λ c. c) 16) ≡ true
unfolding values_from every
sign_rules = refl

module _ (c : ℕ) (letter : is_letter c ≡ true) where
  rule : beq (is_positive c) (eqb (c / 8) 0) && beq (is_inverse c) (eqb (c / 8) 1) ≡ true
  rule =
      ap (λ (b : Bool). cond b (beq (is_positive c) (eqb (c / 8) 0) && beq (is_inverse c) (eqb (c / 8) 1)) true)
      (sym letter)
      ∙ every_values sign_rule (λ k. k) 16 sign_rules c (omega (arith, letter_below c letter))

  positive_by_bit : is_positive c ≡ eqb (c / 8) 0
  positive_by_bit = beq_true _ _ (and_left _ _ rule)

  inverse_by_bit : is_inverse c ≡ eqb (c / 8) 1
  inverse_by_bit = beq_true _ _ (and_right (beq (is_positive c) (eqb (c / 8) 0)) _ rule)

-- the letters with a sign that swap just a and b are those counted at the two places of a and b
module _ (a b : ℕ) (ha : a < 8) (hb : b < 8) (n : a ≡ b → ⊥) (f : ℕ → Bool) (s : ℕ)
    (sign : (c : ℕ) → is_letter c ≡ true → f c ≡ eqb (c / 8) s) where
  -- one letter is counted at no more than one of the two places
  one_place : (p q : ℕ) (d : Bool)
      → share (both a b p q) d ≡ tick (d && (eqb p a && eqb q b)) + tick (d && (eqb p b && eqb q a))
  one_place p q d = go d (eqb p a) refl (eqb p b) refl (eqb q b) (eqb q a)
    where
      go : (d x : Bool) → eqb p a ≡ x → (z : Bool) → eqb p b ≡ z → (y t : Bool)
          → share ((x && y) || (z && t)) d ≡ tick (d && (x && y)) + tick (d && (z && t))
      go d true e true g y t = absurd (n (sym (eqb-true p a e) ∙ eqb-true p b g))
      go true true e false g true t = refl
      go true true e false g false t = refl
      go false true e false g true t = refl
      go false true e false g false t = refl
      go true false e true g y true = refl
      go true false e true g y false = refl
      go false false e true g y true = refl
      go false false e true g y false = refl
      go true false e false g y t = refl
      go false false e false g y t = refl

  counted_both : (labels w : List ℕ) → Labelled labels → Lettered w
      → tally f (swapping a b labels w) ≡ count (slot s a b) (slots labels w) + count (slot s b a) (slots labels w)
  unfolding tally swapping slots swaps
  counted_both labels [] l e = refl
  counted_both labels (c ∷ w) l e =
      let h = lettered_cons c w e in
      let p = get_or labels (generator c) 0 in
      let q = get_or labels (generator c + 1) 0 in
      let next = swapped (generator c) labels in
      let one : (x y : ℕ) → x < 8 → y < 8
      → tick (f c && (eqb p x && eqb q y)) ≡ tick (eqb (slot_of labels c) (slot s x y)) =
      λ x y hx hy. ap tick
      (ap (λ (v : Bool). v && (eqb p x && eqb q y)) (sign c h.0)
      ∙ sym (slot_equal (c / 8) s p q x y (l.below (generator c)) (l.below (generator c + 1)) hx hy)) in
      omega (
        arith,
        tally_letter f a b labels c w,
        counted_both next w (labelled_next l c h.0) h.1,
        one_place p q (f c),
        one a b ha hb,
        one b a hb ha,
        count_first (slot s a b) (slot_of labels c) (slots next w),
        count_first (slot s b a) (slot_of labels c) (slots next w),
      )

-- ---- the whole walk

-- the table before any letter, and after all letters
pub none_counted : (w : List ℕ) (k : ℕ)
    → get_or (replicate 128 0) k 0 + count k (slots strands_in_order w) ≡ count k (slots strands_in_order w)
unfolding every
none_counted w k =
    omega (arith, eqb-true (get_or (replicate 128 0) k 0) 0 (every_all (λ x. eqb x 0) refl (replicate 128 0) refl k))

-- a word has as many places in the table as letters
length_slots : (labels w : List ℕ) → length (slots labels w) ≡ length w
unfolding slots
length_slots labels [] = refl
length_slots labels (c ∷ w) = ap suc (length_slots (swapped (generator c) labels) w)

-- in the middle of a walk
pub record Walking (w labels counts : List ℕ) (i : ℕ) : Type 0 where
  pub within : i ≤ length w
  pub labelled : Labelled labels
  pub size : length counts ≡ 128
  pub rest : (k : ℕ) → get_or counts k 0 + count k (slots labels (drop i w)) ≡ count k (slots strands_in_order w)

module _ {w labels counts : List ℕ} {i : ℕ} (h : Walking w labels counts i) where
  -- no count is larger than the number of letters
  pub walking_table : length w ≤ 10000 → Table counts
  walking_table few =
      record {
        size = h.size;
        few = λ k. omega (
          arith,
          h.rest k,
          tally_le (λ x. eqb x k) (slots strands_in_order w),
          length_slots
              strands_in_order w,
        );
      }

  -- a letter is left
  module _ (l : i < length w) where
    abbrev c : ℕ
    c = get_or w i 0

    left : drop i w ≡ c ∷ drop (i + 1) w
    left = rw add-one (drop-cons w i 0 l)

    pub walked_on : is_letter c ≡ true → {after table : List ℕ} → after ≡ swapped (generator c) labels
        → table ≡ set counts (slot_of labels c) (get_or counts (slot_of labels c) 0 + 1) → Walking w after table (i + 1)
    walked_on letter {after} {table} a t =
        rw (a, t)
        (record {
          within = omega arith;
          labelled = labelled_next h.labelled c letter;
          size = simp length-set h.size;
          rest = λ k.
              counted_letter counts labels c (drop (i + 1) w)
              (omega (arith, h.size, slot_below h.labelled c letter)) k
              ∙ ap (λ (v : List ℕ). get_or counts k 0 + count k (slots labels v)) (sym left)
              ∙ h.rest k;
        })

  -- no letter is left
  pub walked : length w ≤ 10000 → length w ≤ i → Counts strands_in_order w counts
  unfolding slots tally
  walked few e =
      record { table = walking_table few; counted = all }
    where
      end : drop i w ≡ []
      end = let s : i ≡ length w = omega (arith, h.within) in rw s (drop-length w)

      all : (k : ℕ) → get_or counts k 0 ≡ count k (slots strands_in_order w)
      all k = omega (arith, h.rest k, ap (λ (v : List ℕ). count k (slots labels v)) end)

-- ---- the letters that swap two labels

module _ (a b : ℕ) (ha : a < 8) (hb : b < 8) (n : a ≡ b → ⊥) {w counts : List ℕ} (e : Lettered w)
    (t : Counts strands_in_order w counts) where
  pub generators_are : finding counts 0 a b ≡ tally is_positive (swapping a b strands_in_order w)
  generators_are =
      omega (
        arith,
        t.counted (slot 0 a b),
        t.counted (slot 0 b a),
        counted_both a b ha hb n is_positive 0 positive_by_bit strands_in_order w order_labelled e,
      )

  pub inverses_are : finding counts 1 a b ≡ tally is_inverse (swapping a b strands_in_order w)
  inverses_are =
      omega (
        arith,
        t.counted (slot 1 a b),
        t.counted (slot 1 b a),
        counted_both a b ha hb n is_inverse 1 inverse_by_bit strands_in_order w order_labelled e,
      )
