-- Laws of marking: a letter is read and kept, or is read and marked with the letter with which it cancels.
use Prim.Native.Nat.{ℕ, ◌+◌, ◌-◌, ◌≤◌, ◌<◌}
use mathlib.Core.Path.{◌≡◌, refl, sym, ap, subst, ◌∙◌}
use mathlib.Core.Bool.{true}
use mathlib.Core.List.{List, [], ◌∷◌, ◌++◌, append-nil}
use mathlib.Core.Logic.{inl, inr, ⊎_elim}
use native.Mathlib.Omega.{arith}
use native.Mathlib.Numerals.{add-one}
use native.Mathlib.Decide.{ℕ_discrete, dec_lt}
use lib.ListN.{length, take, get_or, set, length-set}
use lib.Seq.{get_or-set_same, get_or-set_other, get_or-take, take-suc, take-suc-set, take-set-lt, drop-set-lt}
use lib.Seq.{length-take-le}
use Rattle.base.proofs.ListLaws.{true_false, every_get_d}
use Rattle.word.specs.Letters.{is_letter, generator, inverse, far}
use Rattle.word.proofs.LetterLaws.{Lettered, generator_below, inverse_letter, inverse_generator, far_apart}
use Rattle.swap_cancel.specs.steps.Marking.{kept, HasLetter, Newest, Marked, OneRead, Partner, Alone}
use Rattle.swap_cancel.proofs.KeptLaws.{kept_append, kept_one, kept_none, far_from, behind_goes, behind_stays}

-- ---- marks

-- a letter among codes of which one is marked is a letter of the codes, at another place
unmarked : (w : List ℕ) (i : ℕ) → i < length w → (j : ℕ) → is_letter (get_or (set w i 15) j 0) ≡ true
    → (get_or (set w i 15) j 0 ≡ get_or w j 0) × (j ≡ i → ⊥)
unmarked w i h j t = at (ℕ_discrete j i)
  where
    at : Dec (j ≡ i) → (get_or (set w i 15) j 0 ≡ get_or w j 0) × (j ≡ i → ⊥)
    at (yes e) = absurd (true_false (is_letter (get_or (set w i 15) j 0)) t (rw (e, get_or-set_same w i 15 0 h)))
    at (no n) = (get_or-set_other w i j 15 0 n, n)

module _ (w : List ℕ) (p k : ℕ) (h : p < k) (l : k < length w) where
  abbrev twice : List ℕ
  twice = set (set w p 15) k 15

  other_letter : (j : ℕ) → is_letter (get_or twice j 0) ≡ true
      → (get_or twice j 0 ≡ get_or w j 0) × (j ≡ k → ⊥) × (j ≡ p → ⊥)
  other_letter j t =
      let (e, n) = unmarked (set w p 15) k (simp length-set l) j t in
      let (e', n') = unmarked w p (omega arith) j (ap is_letter (sym e) ∙ t) in
      (e ∙ e', n, n')

  -- a place without a mark
  same_place : (j : ℕ) → (j ≡ k → ⊥) → (j ≡ p → ⊥) → get_or twice j 0 ≡ get_or w j 0
  same_place j x y = get_or-set_other (set w p 15) k j 15 0 x ∙ get_or-set_other w p j 15 0 y

  still_holds : (g j : ℕ) → (j ≡ k → ⊥) → (j ≡ p → ⊥) → HasLetter w g j → HasLetter twice g j
  still_holds g j x y h =
      let e = same_place j x y in (ap is_letter e ∙ h.0, ap generator e ∙ h.1)

  held : (g j : ℕ) → HasLetter twice g j → HasLetter w g j × (j ≡ k → ⊥) × (j ≡ p → ⊥)
  held g j h =
      let (e, n, m) = other_letter j h.0 in
      ((ap is_letter (sym e) ∙ h.0, ap generator (sym e) ∙ h.1), n, m)

module _ (n : ℕ) (codes before last : List ℕ) (k : ℕ) (s : Marked n codes before last k) (h : k < n) where
  abbrev own : ℕ
  own = get_or codes k 0

  own_letter : is_letter own ≡ true
  own_letter = s.fresh k (omega arith) h

  own_below : generator own < 7
  own_below = generator_below own own_letter

  in_codes : k < length codes
  in_codes = omega (arith, s.in_row)

  size : length (take k codes) ≡ k
  size = length-take-le k codes (omega (arith, in_codes))

  -- a new entry for the letter's generator leaves the two ends
  ends : (v : ℕ) → (get_or (set last (generator own + 1) v) 0 0 ≡ 0) × (get_or (set last (generator own + 1) v) 8 0 ≡ 0)
  ends v =
      let b = own_below in (
        get_or-set_other last (generator own + 1) 0 v 0 (λ e. omega arith) ∙ s.lowest,
        get_or-set_other last (generator own + 1) 8 v 0 (λ e. omega arith) ∙ s.highest,
      )

  new_entry : (v : ℕ) → get_or (set last (generator own + 1) v) (generator own + 1) 0 ≡ v
  new_entry v = get_or-set_same last (generator own + 1) v 0 (omega (arith, s.ten, own_below))

  old_entry : (v f : ℕ) → (f ≡ generator own → ⊥)
      → get_or (set last (generator own + 1) v) (f + 1) 0 ≡ get_or last (f + 1) 0
  old_entry v f d = get_or-set_other last (generator own + 1) (f + 1) v 0 (λ e. d (omega arith))

  -- ---- the letter is kept

  pub keeps : Marked n codes (set before k (get_or last (generator own + 1) 0)) (set last (generator own + 1) (k + 1))
      (k + 1)
  keeps =
      record {
        few = s.few;
        in_row = s.in_row;
        room = simp length-set s.room;
        ten = simp length-set s.ten;
        lowest = (ends (k + 1)).0;
        highest = (ends (k + 1)).1;
        fresh = λ j a b. s.fresh j (omega arith) b;
        latest = λ f b. latest f b (ℕ_discrete f (generator own));
        earlier = λ p b t. earlier p b t (ℕ_discrete p k);
      }
    where
      latest : (f : ℕ) → f < 7 → Dec (f ≡ generator own)
          → Newest codes f (get_or (set last (generator own + 1) (k + 1)) (f + 1) 0) (k + 1)
      latest f b (yes e) =
          rw (e, new_entry (k + 1))
          record {
            read = omega arith;
            none_later = λ j x y t. omega arith;
            is_there = λ z.
                let back : k + 1 - 1 ≡ k = omega arith in
                rw back (own_letter, refl);
          }
      latest f b (no d) =
          let old = s.latest f b in
          rw (old_entry (k + 1) f d)
          record {
            read = omega (arith, old.read);
            none_later = λ j x y t. go j x y t (ℕ_discrete j k);
            is_there = old.is_there;
          }
        where
          go : (j : ℕ) → get_or last (f + 1) 0 ≤ j → j < k + 1 → HasLetter codes f j → Dec (j ≡ k) → ⊥
          go j x y t (yes e) = d (sym t.1 ∙ ap (λ (i : ℕ). generator (get_or codes i 0)) e)
          go j x y t (no m) = (s.latest f b).none_later j x (omega arith) t

      earlier : (p : ℕ) → p < k + 1 → is_letter (get_or codes p 0) ≡ true → Dec (p ≡ k)
          → Newest codes (generator (get_or codes p 0))
          (get_or (set before k (get_or last (generator own + 1) 0)) p 0) p
      earlier p b t (yes e) =
          let v : ℕ = get_or last (generator own + 1) 0 in
          rw (e, get_or-set_same before k v 0 (omega (arith, s.room))) (s.latest (generator own) own_below)
      earlier p b t (no d) =
          rw (get_or-set_other before k p (get_or last (generator own + 1) 0) 0 d) (s.earlier p (omega arith) t)

  -- place j holds an inverse of the letter, and each letter read after it is far from the letter
  module _ (j : ℕ) (l : j < k) (at : get_or codes j 0 ≡ inverse own)
      (f : (i : ℕ) → j < i → i < k → is_letter (get_or codes i 0) ≡ true → far own (get_or codes i 0) ≡ true) where
    j_holds : HasLetter codes (generator own) j
    j_holds = (rw at (inverse_letter own own_letter), rw at (inverse_generator own own_letter))

    -- the latest letter of this generator or a neighbouring one is not after place j
    not_after : (g : ℕ) → g < 7 → g < generator own + 2 → generator own < g + 2 → j < get_or last (g + 1) 0
        → (j ≡ get_or last (g + 1) 0 - 1) × HasLetter codes g (get_or last (g + 1) 0 - 1)
    not_after g b x y z = go (ℕ_discrete j (get_or last (g + 1) 0 - 1))
      where
        there : HasLetter codes g (get_or last (g + 1) 0 - 1)
        there = (s.latest g b).is_there (omega arith)

        go : Dec (j ≡ get_or last (g + 1) 0 - 1)
            → (j ≡ get_or last (g + 1) 0 - 1) × HasLetter codes g (get_or last (g + 1) 0 - 1)
        go (yes e) = (e, there)
        go (no n) =
            let u = there.1 in
            let r = (s.latest g b).read in
            let d = get_or codes (get_or last (g + 1) 0 - 1) 0 in
            let far-one = f (get_or last (g + 1) 0 - 1) (omega arith) (omega arith) there.0 in
            absurd (⊎_elim (λ q. omega arith) (λ q. omega arith) (far_apart own d far-one))

    own_after : j < get_or last (generator own + 1) 0
    own_after = go (dec_lt j (get_or last (generator own + 1) 0))
      where
        go : Dec (j < get_or last (generator own + 1) 0) → j < get_or last (generator own + 1) 0
        go (yes x) = x
        go (no x) = absurd ((s.latest (generator own) own_below).none_later j (omega arith) l j_holds)

    not_beaten : (g : ℕ) → g < 7 → g < generator own + 2 → generator own < g + 2 → (g ≡ generator own → ⊥)
        → get_or last (generator own + 1) 0 ≤ get_or last (g + 1) 0
        → ⊥
    not_beaten g b x y d z =
        let o = own_after in
        let (e, t) = not_after g b x y (omega arith) in
        d (sym t.1 ∙ ap (λ (i : ℕ). generator (get_or codes i 0)) (sym e) ∙ j_holds.1)

    not_alone : Alone codes last own → ⊥
    not_alone (inl z) = go (dec_lt 0 (generator own))
      where
        go : Dec (0 < generator own) → ⊥
        go (yes x) =
            let b = own_below in
            let e : generator own - 1 + 1 ≡ generator own = omega arith in
            not_beaten (generator own - 1) (omega arith) (omega arith) (omega arith) (λ q. omega arith)
            (rw e z)
        go (no x) =
            let e : generator own ≡ 0 = omega arith in
            let o = own_after in
            let low = ap (λ (i : ℕ). get_or last i 0) e ∙ s.lowest in
            omega arith
    not_alone (inr (inl z)) = go (dec_lt (generator own) 6)
      where
        go : Dec (generator own < 6) → ⊥
        go (yes x) =
            let e : generator own + 1 + 1 ≡ generator own + 2 = omega arith in
            not_beaten (generator own + 1) (omega arith) (omega arith) (omega arith) (λ q. omega arith) (rw e z)
        go (no x) =
            let b = own_below in
            let e : generator own + 2 ≡ 8 = omega arith in
            let o = own_after in
            let high = ap (λ (i : ℕ). get_or last i 0) e ∙ s.highest in
            omega arith
    not_alone (inr (inr z)) =
        let (e, t) = not_after (generator own) own_below (omega arith) (omega arith) own_after in
        z (ap (λ (i : ℕ). get_or codes i 0) (sym e) ∙ at)

  in_part : (j : ℕ) → j < k → get_or (take k codes) j 0 ≡ get_or codes j 0
  in_part j x = get_or-take k codes j 0 x

  pub keeps_read : Alone codes last own → OneRead codes codes k
  keeps_read a = (
    ap kept (ap (λ (m : ℕ). take m codes) (add-one k) ∙ take-suc codes k 0 in_codes)
        ∙ kept_append (take k codes) (own ∷ [])
        ∙ ap (λ (v : List ℕ). kept (take k codes) ++ v) (kept_one own own_letter)
        ∙ sym (behind_stays own own_letter (take k codes) stays),
    refl,
  )
    where
      stays : (j : ℕ) → j < length (take k codes) → get_or (take k codes) j 0 ≡ inverse own
          → ((i : ℕ) → j < i → i < length (take k codes) → is_letter (get_or (take k codes) i 0) ≡ true
          → far own (get_or (take k codes) i 0) ≡ true)
          → ⊥
      stays j x at f =
          let l : j < k = omega (arith, size) in
          not_alone j l (sym (in_part j l) ∙ at)
          (λ i y z t.
          ap (far own) (sym (in_part i z)) ∙ f i y (omega (arith, size)) (ap is_letter (in_part i z) ∙ t))
          a

  -- ---- the letter cancels with the letter at place `at`

  module _ (at : ℕ) (r : Partner codes last own at) where
    partner_letter : is_letter (get_or codes at 0) ≡ true
    partner_letter = rw r.cancels (inverse_letter own own_letter)

    partner_generator : generator (get_or codes at 0) ≡ generator own
    partner_generator = rw r.cancels (inverse_generator own own_letter)

    inside : (at < k) × (at < length codes)
    inside =
        let few = (s.latest (generator own) own_below).read in
        let o = r.own in
        let i = s.in_row in
        (omega arith, omega arith)

    abbrev marked : List ℕ
    marked = set (set codes at 15) k 15

    -- what `last` was before the partner was read
    abbrev v : ℕ
    v = get_or before at 0

    -- a letter after place `at` that was read is not of the letter's generator or one beside it
    not_of : (j f : ℕ) → at < j → j < k → HasLetter codes f j → get_or last (f + 1) 0 ≤ at + 1 → ⊥
    not_of j f x y t few =
        let below : f < 7 = subst (λ (i : ℕ). i < 7) t.1 (generator_below (get_or codes j 0) t.0) in
        (s.latest f below).none_later j (omega arith) y t

    far_between : (j : ℕ) → at < j → j < k → is_letter (get_or codes j 0) ≡ true → far own (get_or codes j 0) ≡ true
    far_between j x y t =
        far_from own (get_or codes j 0)
        (λ e. not_of j (generator own) x y (t, e) (omega (arith, r.own)))
        (λ e.
        not_of j (generator (get_or codes j 0)) x y (t, refl)
        (subst (λ (i : ℕ). get_or last i 0 ≤ at + 1) (sym e) (omega (arith, r.below))))
        (λ e.
        let up : generator own + 2 ≡ generator own + 1 + 1 = omega arith in
        not_of j (generator own + 1) x y (t, e)
        (subst (λ (i : ℕ). get_or last i 0 ≤ at + 1) up (omega (arith, r.above))))

    pub marks_read : OneRead codes marked k
    marks_read =
        let (b, c) = inside in
        let part = take k codes in (
          ap kept
              (ap (λ (m : ℕ). take m marked) (add-one k)
              ∙ take-suc-set (set codes at 15) k 15 (simp length-set in_codes)
              ∙ ap (λ (v : List ℕ). v ++ (15 ∷ [])) (take-set-lt k codes at 15 b))
              ∙ kept_append (set part at 15) (15 ∷ [])
              ∙ ap (λ (v : List ℕ). kept (set part at 15) ++ v) (kept_none 15 refl)
              ∙ append-nil (kept (set part at 15))
              ∙ sym
              (behind_goes own own_letter part at (omega (arith, size)) (in_part at b ∙ r.cancels)
              (λ j x y t.
              let z : j < k = omega (arith, size) in
              let e = in_part j z in
              ap (far own) e ∙ far_between j x z (ap is_letter (sym e) ∙ t))),
          drop-set-lt (k + 1) (set codes at 15) k 15 (omega arith)
              ∙ drop-set-lt (k + 1) codes at 15 (omega arith),
        )

    pub marks : Marked n marked before (set last (generator own + 1) v) (k + 1)
    marks =
        let (b, c) = inside in
        record {
          few = s.few;
          in_row = simp length-set s.in_row;
          room = s.room;
          ten = simp length-set s.ten;
          lowest = (ends v).0;
          highest = (ends v).1;
          fresh = λ j x y.
              ap is_letter (same_place codes at k b in_codes j (λ q. omega arith) (λ q. omega arith))
              ∙ s.fresh j (omega arith) y;
          latest = λ f x. latest f x (ℕ_discrete f (generator own));
          earlier = earlier;
        }
      where
        was : Newest codes (generator own) v at
        was =
            subst (λ (g : ℕ). Newest codes g v at) partner_generator
            (s.earlier at inside.0 partner_letter)

        latest : (f : ℕ) → f < 7 → Dec (f ≡ generator own)
            → Newest marked f (get_or (set last (generator own + 1) v) (f + 1) 0) (k + 1)
        latest f x (yes e) =
            let few = was.read in
            let b = inside.0 in
            rw (e, new_entry v)
            record {
              read = omega arith;
              none_later = λ j y z t. go j y z (held codes at k inside.0 in_codes (generator own) j t)
                  (dec_lt j at);
              is_there = λ z.
                  still_holds codes at k inside.0 in_codes (generator own) (v - 1) (λ q. omega arith)
                  (λ q. omega arith) (was.is_there z);
            }
          where
            go : (j : ℕ) → v ≤ j → j < k + 1 → HasLetter codes (generator own) j × (j ≡ k → ⊥) × (j ≡ at → ⊥)
                → Dec (j < at)
                → ⊥
            go j y z (t, nk, np) (yes l) = was.none_later j y l t
            go j y z (t, nk, np) (no l) =
                not_of j (generator own) (omega arith) (omega arith) t (omega (arith, r.own))
        latest f x (no d) =
            let old = s.latest f x in
            let few = old.read in
            rw (old_entry v f d)
            record {
              read = omega arith;
              none_later = λ j y z t.
                  let (u, nk, np) = held codes at k inside.0 in_codes f j t in
                  old.none_later j y (omega arith) u;
              is_there = λ z.
                  let u = old.is_there z in
                  still_holds codes at k inside.0 in_codes f (get_or last (f + 1) 0 - 1) (λ q. omega arith)
                  (λ q. d (sym u.1 ∙ ap (λ (i : ℕ). generator (get_or codes i 0)) q ∙ partner_generator)) u;
            }

        earlier : (q : ℕ) → q < k + 1 → is_letter (get_or marked q 0) ≡ true
            → Newest marked (generator (get_or marked q 0)) (get_or before q 0) q
        earlier q x t =
            let (e, nk, np) = other_letter codes at k inside.0 in_codes q t in
            let letter = ap is_letter (sym e) ∙ t in
            let old = s.earlier q (omega arith) letter in
            let few = old.read in
            rw e
            record {
              read = few;
              none_later = λ j y z u.
                  old.none_later j y z (held codes at k inside.0 in_codes (generator (get_or codes q 0)) j u).0;
              is_there = λ z.
                  let u = old.is_there z in
                  still_holds codes at k inside.0 in_codes (generator (get_or codes q 0)) (get_or before q 0 - 1)
                  (λ w. omega arith)
                  (λ w.
                  not_of q (generator own) (omega arith) (omega arith)
                  (letter, sym u.1 ∙ ap (λ (i : ℕ). generator (get_or codes i 0)) w ∙ partner_generator)
                  (omega (arith, r.own)))
                  u;
            }

-- before the first letter
pub none_marked : (n : ℕ) (codes before last : List ℕ) → n ≤ 10000 → n ≤ length codes → n ≤ length before
    → length last ≡ 10
    → ((j : ℕ) → get_or last j 0 ≡ 0) → Lettered (take n codes)
    → Marked n codes before last 0
none_marked n codes before last few in_row room ten zeros letters =
    record {
      few = few;
      in_row = in_row;
      room = room;
      ten = ten;
      lowest = zeros 0;
      highest = zeros 8;
      fresh = λ j x y.
          ap is_letter (sym (get_or-take n codes j 0 y))
          ∙ every_get_d is_letter (take n codes) letters j (omega (arith, length-take-le n codes in_row));
      latest = λ g x.
          let z = zeros (g + 1) in
          record { read = omega arith; none_later = λ j y z t. omega arith; is_there = λ y. absurd (omega arith) };
      earlier = λ p x t. absurd (omega arith);
    }
