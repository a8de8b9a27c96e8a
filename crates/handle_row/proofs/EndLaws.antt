-- Laws of what replaces the letters between a handle's ends: letter by letter, and written from the last to the first.
use Prim.Native.Nat.{ℕ, suc, ◌+◌, ◌-◌, ◌*◌, ◌≤◌, ◌<◌}
use mathlib.Core.Path.{◌≡◌, refl, sym, ap, ap₂, ◌∙◌}
use mathlib.Core.Logic.{◌⊎◌, inl, inr}
use mathlib.Core.Bool.{Bool, true, false, cond}
use mathlib.Core.List.{List, [], ◌∷◌, ◌++◌, append-nil}
use native.Mathlib.Numerals.{add-one}
use native.Mathlib.Omega.{arith}
use borrow.Author.Tests.{eq-eqb, ne_eqb}
use lib.Dec.{eqb}
use lib.ListN.{length, take, drop, get_or, set, length-append, take-append-drop}
use lib.Seq.{length-take-le, drop-length, take-suc, drop-cons, take-take}
use lib.Seq.{take-append-le, drop_at, get_or-take, set_split}
use Rattle.std.specs.List.{sum_by}
use Rattle.std.proofs.lemmas.List.Sums.{sum_by-cons}
use Rattle.word.specs.Letters.{generator, inverse}
use Rattle.braid_handles.specs.Handles.{conjugated_letter, conjugated}
use Rattle.braid_handles.proofs.Runs.{conjugated_append}
use Rattle.handle_row.specs.steps.Gaps.{RoomFor, Replaces, Conjugates}

module _ (a : ℕ) where
  -- ---- one letter

  pub conjugated_three : (d : ℕ) → generator d ≡ generator a + 1
      → conjugated_letter a d ≡ inverse (a + 1) ∷ (d - 1) ∷ (a + 1) ∷ []
  conjugated_three d e =
      ap (λ (b : Bool). cond b (inverse (a + 1) ∷ (d - 1) ∷ (a + 1) ∷ []) (d ∷ []))
      (eq-eqb (generator d) (generator a + 1) e)

  pub conjugated_one : (d : ℕ) → (generator d ≡ generator a + 1 → ⊥) → conjugated_letter a d ≡ d ∷ []
  conjugated_one d h =
      ap (λ (b : Bool). cond b (inverse (a + 1) ∷ (d - 1) ∷ (a + 1) ∷ []) (d ∷ []))
      (ne_eqb (generator d) (generator a + 1) h)

  -- one letter or three replace it
  one_or_three : (d : ℕ) → (length (conjugated_letter a d) ≡ 1) ⊎ (length (conjugated_letter a d) ≡ 3)
  one_or_three d = go (eqb (generator d) (generator a + 1))
    where
      go : (b : Bool) → (length (cond b (inverse (a + 1) ∷ (d - 1) ∷ (a + 1) ∷ []) (d ∷ [])) ≡ 1)
          ⊎ (length (cond b (inverse (a + 1) ∷ (d - 1) ∷ (a + 1) ∷ []) (d ∷ [])) ≡ 3)
      go true = inr refl
      go false = inl refl

  -- ---- all letters

  -- at least as many letters replace them
  conjugated_long : (u : List ℕ) → length u ≤ length (conjugated a u)
  unfolding conjugated
  conjugated_long [] = omega arith
  conjugated_long (d ∷ u) =
      omega (arith, length-append (conjugated_letter a d) (conjugated a u), one_or_three d, conjugated_long u)

  -- at most three times as many letters replace them
  pub conjugated_short : (u : List ℕ) → length (conjugated a u) ≤ 3 * length u
  unfolding conjugated
  conjugated_short [] = omega arith
  conjugated_short (d ∷ u) =
      omega (arith, length-append (conjugated_letter a d) (conjugated a u), one_or_three d, conjugated_short u)

  -- how many letters replace them, letter by letter
  pub conjugated_sum : (u : List ℕ) → sum_by (λ (d : ℕ). length (conjugated_letter a d)) u ≡ length (conjugated a u)
  unfolding conjugated
  conjugated_sum [] = refl
  conjugated_sum (d ∷ u) =
      sum_by-cons (λ (e : ℕ). length (conjugated_letter a e)) d u
      ∙ ap (λ (n : ℕ). length (conjugated_letter a d) + n) (conjugated_sum u)
      ∙ sym (length-append (conjugated_letter a d) (conjugated a u))

  single : (d : ℕ) → conjugated a (d ∷ []) ≡ conjugated_letter a d
  unfolding conjugated
  single d = append-nil (conjugated_letter a d)

  -- one letter more at the front
  conjugated_from : (u : List ℕ) (k : ℕ) → k < length u
      → conjugated a (drop k u) ≡ conjugated_letter a (get_or u k 0) ++ conjugated a (drop (k + 1) u)
  unfolding conjugated
  conjugated_from u k h = rw (add-one k, drop-cons u k 0 h)

  -- the letters up to k, letter k and the letters after it
  lengths_at : (u : List ℕ) (k : ℕ) → k < length u
      → length (conjugated a u)
      ≡ length (conjugated a (take k u))
      + (length (conjugated_letter a (get_or u k 0)) + length (conjugated a (drop (k + 1) u)))
  lengths_at u k h =
      ap (λ (w : List ℕ). length (conjugated a w)) (sym (take-append-drop k u))
      ∙ ap length (conjugated_append a (take k u) (drop k u))
      ∙ length-append (conjugated a (take k u)) (conjugated a (drop k u))
      ∙ ap (λ (w : List ℕ). length (conjugated a (take k u)) + length w) (conjugated_from u k h)
      ∙ ap (λ (n : ℕ). length (conjugated a (take k u)) + n)
      (length-append (conjugated_letter a (get_or u k 0)) (conjugated a (drop (k + 1) u)))

-- ---- written to a part, right before a place

module _ (part : List ℕ) (at a d : ℕ) (room : RoomFor part at a d) where
  pub writes_one : (generator d ≡ generator a + 1 → ⊥) → Replaces part (set part (at - 1) d) at a d (at - 1)
  writes_one h =
      let is = conjugated_one a d h in
      let one : length (conjugated_letter a d) ≡ 1 = ap length is in
      let up : at - 1 + 1 ≡ at = omega (arith, room.enough, one) in
      let next : suc (at - 1) ≡ at = omega arith in
      record {
        place = ap (λ (n : ℕ). at - 1 + n) one ∙ up;
        part_is =
            set_split part (at - 1) d (omega (arith, room.within))
            ∙ ap₂ (λ (w : List ℕ) (n : ℕ). take (at - 1) part ++ (w ++ drop n part)) (sym is) next;
      }

-- ---- written from the last letter to the first

-- what replaces the letters k to n - 1 is written from place `at` on, and the letters before k are unchanged
pub record Written (part₀ part : List ℕ) (n a k at : ℕ) : Type 0 where
  pub few : k ≤ n
  pub size : length part ≡ length part₀
  pub place : at + length (conjugated a (drop k (take n part₀))) ≡ length part₀
  pub front : take k part ≡ take k part₀
  pub end_is : drop at part ≡ conjugated a (drop k (take n part₀))

module _ (part₀ : List ℕ) (n a : ℕ) (fits : n ≤ length part₀)
    (room : length (conjugated a (take n part₀)) ≤ length part₀) where
  many : length (take n part₀) ≡ n
  many = length-take-le n part₀ fits

  pub none_written : Written part₀ part₀ n a n (length part₀)
  unfolding conjugated
  none_written =
      let rest : drop n (take n part₀) ≡ [] =
      ap (λ (k : ℕ). drop k (take n part₀)) (sym many) ∙ drop-length (take n part₀) in
      let nothing : conjugated a (drop n (take n part₀)) ≡ [] = ap (conjugated a) rest in
      record {
        few = omega arith;
        size = refl;
        place = omega (arith, ap length nothing);
        front = refl;
        end_is = drop-length part₀ ∙ sym nothing;
      }

  pub all_written : {part : List ℕ} {at : ℕ} → Written part₀ part n a 0 at → Conjugates part₀ part n a at
  all_written w = record { place = w.place; end_is = w.end_is }

  module _ (part : List ℕ) (k i at : ℕ) (w : Written part₀ part n a k at) (s : i + 1 ≡ k) where
    below : i < length (take n part₀)
    below = omega (arith, many, w.few)

    -- the next letter is as it was
    letter_is : get_or part i 0 ≡ get_or (take n part₀) i 0
    letter_is =
        sym (get_or-take k part i 0 (omega arith))
        ∙ ap (λ (l : List ℕ). get_or l i 0) w.front
        ∙ get_or-take k part₀ i 0 (omega arith)
        ∙ sym (get_or-take n part₀ i 0 (omega (arith, w.few)))

    lengths : length (conjugated a (take i (take n part₀))) + length (conjugated_letter a (get_or part i 0)) ≤ at
    lengths =
        let here = ap (λ (d : ℕ). length (conjugated_letter a d)) letter_is in
        let rest = ap (λ (j : ℕ). length (conjugated a (drop j (take n part₀)))) s in
        omega (arith, lengths_at a (take n part₀) i below, here, rest, w.place, room)

    at_least : i + length (conjugated_letter a (get_or part i 0)) ≤ at
    at_least =
        omega (
          arith,
          lengths,
          conjugated_long a (take i (take n part₀)),
          length-take-le i (take n part₀) (omega (arith, below)),
        )

    pub has_room : a < 16 → RoomFor part at a (get_or part i 0)
    has_room h =
        record {
          letter = h;
          enough = omega (arith, at_least);
          within = omega (arith, w.place, w.size);
        }

    pub one_written : (part' : List ℕ) (r : ℕ) → length part' ≡ length part
        → Replaces part part' at a (get_or part i 0) r → Written part₀ part' n a i r
    one_written part' r l p =
        let here : conjugated_letter a (get_or part i 0) ≡ conjugated_letter a (get_or (take n part₀) i 0) =
        ap (conjugated_letter a) letter_is in
        let more : conjugated a (drop i (take n part₀))
        ≡ conjugated_letter a (get_or part i 0) ++ conjugated a (drop k (take n part₀)) =
        conjugated_from a (take n part₀) i below
        ∙ ap₂ (λ (x : List ℕ) (j : ℕ). x ++ conjugated a (drop j (take n part₀))) (sym here) s in
        let within : r ≤ length part = omega (arith, p.place, w.place, w.size) in
        let cut : length (take r part) ≡ r = length-take-le r part within in
        let low : i ≤ r = omega (arith, p.place, at_least) in
        record {
          few = omega (arith, w.few);
          size = l ∙ w.size;
          place =
              omega (
                arith,
                ap length more,
                p.place,
                w.place,
                length-append (conjugated_letter a (get_or part i 0)) (conjugated a (drop k (take n part₀))),
              );
          front =
              ap (take i) p.part_is
              ∙ take-append-le i (take r part) (conjugated_letter a (get_or part i 0) ++ drop at part) (omega arith)
              ∙ take-take i r part low
              ∙ sym (take-take i k part (omega arith))
              ∙ ap (take i) w.front
              ∙ take-take i k part₀ (omega arith);
          end_is =
              ap (drop r) p.part_is
              ∙ drop_at (take r part) (conjugated_letter a (get_or part i 0) ++ drop at part) r cut
              ∙ ap (λ (x : List ℕ). conjugated_letter a (get_or part i 0) ++ x) w.end_is
              ∙ sym more;
        }
