-- Laws of the two conversions: they give letters, an inverse word becomes the inverse of what the word becomes, and
-- converting there and back leaves the freely reduced word. The rules of one letter are tests that antt computes over
-- all codes and all numbers of generators that can come after one.
use Prim.Native.Nat.{ℕ, zero, suc, ◌+◌, ◌≤◌, ◌<◌}
use mathlib.Core.Path.{◌≡◌, refl, sym, ap, ap₂, ◌∙◌}
use mathlib.Core.Bool.{Bool, true, false, cond, not, ◌&&◌, ◌||◌}
use mathlib.Core.List.{List, [], ◌∷◌, ◌++◌, append_assoc}
use mathlib.Core.Logic.{⊎_elim}
use native.Mathlib.Nat.{mod-eq_of_lt}
use native.Mathlib.Numerals.{add-one}
use native.Mathlib.Omega.{arith}
use borrow.Author.Tests.{le-leb, lt-leb, lt-ltb, leb-true}
use lib.Dec.{leb, ltb}
use lib.ListN.{length}
use Rattle.base.specs.Lists.{every, equal, values_from, values}
use Rattle.base.proofs.ListLaws.{and_left, and_right, and_both, true_false, every_values, equal_true}
use Rattle.word.specs.Letters.{is_letter, is_inverse, generator, inverse}
use Rattle.word.specs.Reduction.{in_front, reduced}
use Rattle.word.proofs.LetterLaws.{Lettered, lettered_cons, letter_below, letter_cases, generator_below}
use Rattle.word.proofs.LetterLaws.{inverse_letter, inverse_twice, inverse_generator, inverse_sign}
use Rattle.word.proofs.ReductionLaws.{reduced_pair}
use Rattle.word_dialect.specs.Dialect.{are_parts, following, inverted, each_by, run_of, signed_run, run, converted}
use Rattle.word_dialect.proofs.PartLaws.{within, following_next}
use Rattle.word_dialect.proofs.EachLaws.{each_append, each_one, each_every}
use Rattle.word_dialect.proofs.InverseWords.{inverted_append, reduced_after, undone}

-- ---- one letter

-- the rules of a letter c with n generators after its own: the run is made of letters, at most seven of them, and the
-- run of the inverse letter is the inverse run
abbrev run_rule : Bool → ℕ → ℕ → Bool
run_rule way c n =
    every is_letter (signed_run way c n)
    && (leb (length (signed_run way c n)) 7 && equal (signed_run way (inverse c) n) (inverted (signed_run way c n)))

abbrev ruled : Bool → ℕ → ℕ → Bool
ruled way c n = cond (is_letter c && ltb (generator c + n) 7) (run_rule way c n) true

abbrev all_ruled : Bool → Bool
all_ruled way = every (λ c. every (ruled way c) (values (λ n. n) 7)) (values (λ c. c) 16)

to_rules : all_ruled true ≡ true
unfolding values_from every equal inverted run_of signed_run
to_rules = refl

from_rules : all_ruled false ≡ true
unfolding values_from every equal inverted run_of signed_run
from_rules = refl

all_rules : (way : Bool) → all_ruled way ≡ true
all_rules true = to_rules
all_rules false = from_rules

module _ (way : Bool) (parts : List ℕ) (ps : are_parts parts ≡ true) where
  module _ (c : ℕ) (e : is_letter c ≡ true) where
    abbrev after : ℕ
    after = following parts (generator c)

    rule : run_rule way c after ≡ true
    rule =
        let g = generator_below c e in
        let w : generator c + after < 7 = within parts ps (generator c) g in
        let t = and_both e (lt-ltb (generator c + after) 7 w) in
        ap (λ (b : Bool). cond b (run_rule way c after) true) (sym t)
        ∙ every_values (ruled way c) (λ n. n) 7
        (every_values (λ c. every (ruled way c) (values (λ n. n) 7)) (λ c. c) 16 (all_rules way) c
        (omega (arith, letter_below c e)))
        after (omega arith)

    run_lettered : Lettered (run way parts c)
    unfolding run
    run_lettered = and_left (every is_letter (signed_run way c after)) _ rule

    run_short : length (run way parts c) ≤ 7
    unfolding run
    run_short =
        leb-true (length (signed_run way c after)) 7
        (and_left (leb (length (signed_run way c after)) 7) _
        (and_right (every is_letter (signed_run way c after)) _ rule))

    -- an inverse letter gives the inverse run
    pub run_inverse : run way parts (inverse c) ≡ inverted (run way parts c)
    unfolding run
    run_inverse =
        ap (λ (g : ℕ). signed_run way (inverse c) (following parts g)) (inverse_generator c e)
        ∙ equal_true _ _
        (and_right (leb (length (signed_run way c after)) 7) _
        (and_right (every is_letter (signed_run way c after)) _ rule))

  -- ---- words

  pub converted_append : (u v : List ℕ) → converted way parts (u ++ v) ≡ converted way parts u ++ converted way parts v
  unfolding converted
  converted_append u v = each_append (run way parts) u v

  converted_one : (c : ℕ) → converted way parts (c ∷ []) ≡ run way parts c
  unfolding converted
  converted_one c = each_one (run way parts) c

  converted_cons : (c : ℕ) (w : List ℕ) → converted way parts (c ∷ w) ≡ run way parts c ++ converted way parts w
  unfolding converted each_by
  converted_cons c w = refl

  pub converted_lettered : (w : List ℕ) → Lettered w → Lettered (converted way parts w)
  unfolding converted
  converted_lettered w e = each_every (run way parts) is_letter is_letter run_lettered w e

  -- the inverse of a word becomes the inverse of what the word becomes
  pub converted_inverted : (u : List ℕ) → Lettered u
      → converted way parts (inverted u) ≡ inverted (converted way parts u)
  unfolding inverted converted each_by
  converted_inverted [] e = refl
  converted_inverted (c ∷ u) e =
      let t = lettered_cons c u e in
      converted_append (inverted u) (inverse c ∷ [])
      ∙ ap₂ (λ (x y : List ℕ). x ++ y) (converted_inverted u t.1)
      (converted_one (inverse c) ∙ run_inverse c t.0)
      ∙ sym (inverted_append (run way parts c) (converted way parts u))

-- ---- there and back

-- a positive letter gives the run of its generator
positive_run : (way : Bool) (parts : List ℕ) (g : ℕ) → g ≤ 6 → run way parts g ≡ run_of way g (following parts g)
unfolding run signed_run
positive_run way parts g h =
    let low : is_inverse g ≡ false = ap (λ (b : Bool). b && leb g 14) (lt-leb 8 g (omega arith)) in
    let own : generator g ≡ g = mod-eq_of_lt (omega arith) in
    ap₂ (λ (b : Bool) (k : ℕ). cond b (inverted (run_of way k (following parts k))) (run_of way k (following parts k)))
    low own

-- the inverse of an inverse letter is positive
inverse_low : (c : ℕ) → is_letter c ≡ true → (8 ≤ c) × (c ≤ 14) → inverse c ≤ 6
inverse_low c e p =
    ⊎_elim (λ q. q)
    (λ q. absurd (true_false (is_inverse (inverse c)) (and_both (le-leb 8 _ q.0) (le-leb _ 14 q.1))
    (inverse_sign c e ∙ ap not (and_both (le-leb 8 c p.0) (le-leb c 14 p.1)))))
    (letter_cases (inverse c) (inverse_letter c e))

positive_letter : (g : ℕ) → g ≤ 6 → is_letter g ≡ true
positive_letter g h = ap (λ (b : Bool). b || is_inverse g) (le-leb g 6 h)

module _ (parts : List ℕ) (ps : are_parts parts ≡ true) where
  -- a letter that is converted there and back, in front of a word, has the reduced word of the letter in front of that
  -- word
  abbrev Back : Bool → ℕ → List ℕ → Type 0
  Back way c v = reduced (converted (not way) parts (run way parts c) ++ v) ≡ reduced (c ∷ v)

  -- b_k becomes y_k and the inverse of y_(k+1), which become b_k up to the part's end, and back to b_(k+1)
  there_artin : (g n : ℕ) → g ≤ 6 → following parts g ≡ n → (v : List ℕ) → Back true g v
  unfolding run_of values_from
  there_artin g zero h f v =
      ap (λ (l : List ℕ). reduced (converted false parts l ++ v)) (positive_run true parts g h ∙ ap (run_of true g) f)
      ∙ ap (λ (l : List ℕ). reduced (l ++ v))
      (converted_one false parts ps g ∙ positive_run false parts g h ∙ ap (run_of false g) f)
  there_artin g (suc n) h f v =
      let up : List ℕ = values_from (λ c. c) (suc g) (suc n) in
      let w = within parts ps g (omega arith) in
      let next : g + 1 ≤ 6 = omega arith in
      let own : run false parts g ≡ g ∷ up = positive_run false parts g h ∙ ap (run_of false g) f in
      let other : run false parts (g + 1) ≡ up =
      positive_run false parts (g + 1) next ∙ ap (run_of false (g + 1)) (following_next parts g n f)
      ∙ ap (λ (k : ℕ). values_from (λ c. c) k (suc n)) (add-one g) in
      let letter = positive_letter (g + 1) next in
      let both : converted false parts (g ∷ inverse (g + 1) ∷ []) ≡ (g ∷ up) ++ inverted up =
      converted_cons false parts ps g (inverse (g + 1) ∷ [])
      ∙ ap₂ (λ (x y : List ℕ). x ++ y) own
      (converted_one false parts ps (inverse (g + 1)) ∙ run_inverse false parts ps (g + 1) letter
      ∙ ap inverted other) in
      ap (λ (l : List ℕ). reduced (converted false parts l ++ v)) (positive_run true parts g h ∙ ap (run_of true g) f)
      ∙ ap (λ (l : List ℕ). reduced (l ++ v)) both
      ∙ ap (λ (l : List ℕ). reduced (g ∷ l)) (append_assoc up (inverted up) v)
      ∙ reduced_after (g ∷ []) (up ++ (inverted up ++ v)) v
      (undone up v (rw (sym other) (run_lettered false parts ps (g + 1) letter)))

  -- y_k becomes b_k up to the part's end; on the way back all but y_k cancels
  there_y : (n g : ℕ) → g ≤ 6 → following parts g ≡ n → (v : List ℕ)
      → reduced (converted true parts (values_from (λ c. c) g (suc n)) ++ v) ≡ reduced (g ∷ v)
  unfolding run_of values_from
  there_y zero g h f v =
      ap (λ (l : List ℕ). reduced (l ++ v))
      (converted_one true parts ps g ∙ positive_run true parts g h ∙ ap (run_of true g) f)
  there_y (suc n) g h f v =
      let up : List ℕ = values_from (λ c. c) (suc g) (suc n) in
      let w = within parts ps g (omega arith) in
      let step : reduced (converted true parts up ++ v) ≡ reduced (suc g ∷ v) =
      there_y n (suc g) (omega arith) (ap (following parts) (sym (add-one g)) ∙ following_next parts g n f) v in
      ap (λ (l : List ℕ). reduced (l ++ v))
      (converted_cons true parts ps g up
      ∙ ap (λ (l : List ℕ). l ++ converted true parts up) (positive_run true parts g h ∙ ap (run_of true g) f))
      ∙ reduced_after (g ∷ inverse (g + 1) ∷ []) (converted true parts up ++ v) (suc g ∷ v) step
      ∙ reduced_pair (g ∷ []) (inverse (g + 1)) (suc g) v
      (inverse_letter (g + 1) (positive_letter (g + 1) (omega arith)))
      (sym (add-one g) ∙ sym (inverse_twice (g + 1) (positive_letter (g + 1) (omega arith))))

  back_positive : (way : Bool) (g : ℕ) → g ≤ 6 → (v : List ℕ) → Back way g v
  unfolding run_of
  back_positive true g h v = there_artin g (following parts g) h refl v
  back_positive false g h v =
      ap (λ (l : List ℕ). reduced (converted true parts l ++ v)) (positive_run false parts g h)
      ∙ there_y (following parts g) g h refl v

  -- the law of an inverse letter follows from that of the letter
  back_inverse : (way : Bool) (g : ℕ) → is_letter g ≡ true → ((v : List ℕ) → Back way g v)
      → (v : List ℕ) → Back way (inverse g) v
  back_inverse way g e h v =
      let x = run way parts g in
      let z = converted (not way) parts x in
      let lettered : Lettered z =
      converted_lettered (not way) parts ps x (run_lettered way parts ps g e) in
      let turned : converted (not way) parts (run way parts (inverse g)) ≡ inverted z =
      ap (converted (not way) parts) (run_inverse way parts ps g e)
      ∙ converted_inverted (not way) parts ps x (run_lettered way parts ps g e) in
      let rest = inverted z ++ v in
      ap (λ (l : List ℕ). reduced (l ++ v)) turned
      ∙ sym (reduced_pair [] (inverse g) g rest (inverse_letter g e) (sym (inverse_twice g e)))
      ∙ sym (reduced_after (inverse g ∷ []) (z ++ rest) (g ∷ rest) (h rest))
      ∙ reduced_after (inverse g ∷ []) (z ++ rest) v (undone z v lettered)

  back : (way : Bool) (c : ℕ) → is_letter c ≡ true → (v : List ℕ) → Back way c v
  back way c e v =
      ⊎_elim (λ p. back_positive way c p v)
      (λ p. let g = inverse c in
      let low : g ≤ 6 = inverse_low c e p in
      let again : inverse g ≡ c = inverse_twice c e in
      rw again at (back_inverse way g (inverse_letter c e) (back_positive way g low) v))
      (letter_cases c e)

  -- there and back, freely reduced, gives the freely reduced word
  pub there_and_back : (way : Bool) (w : List ℕ) → Lettered w
      → reduced (converted (not way) parts (converted way parts w)) ≡ reduced w
  unfolding converted each_by reduced
  there_and_back way [] e = refl
  there_and_back way (c ∷ w) e =
      let t = lettered_cons c w e in
      let rest = converted way parts w in
      ap reduced
      (ap (converted (not way) parts) (converted_cons way parts ps c w)
      ∙ converted_append (not way) parts ps (run way parts c) rest)
      ∙ back way c t.0 (converted (not way) parts rest)
      ∙ ap (in_front c) (there_and_back way w t.1)
