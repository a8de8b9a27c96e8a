-- Laws of free reduction. They hold of any list of codes, except where they ask for letters. The reduced word is
-- irreducible, a word of letters if the word is one, and no longer than the word. An irreducible word is its own
-- reduced word. A letter with its inverse right after it, anywhere in a word, does not change the reduced word. A
-- letter added at the end of an irreducible word cancels against the last letter or stays.
use Prim.Native.Nat.{ℕ, zero, suc, ◌+◌, ◌≤◌, ◌<◌}
use mathlib.Core.Path.{◌≡◌, refl, sym, ap, ◌∙◌, subst}
use mathlib.Core.Bool.{Bool, true, false, cond}
use mathlib.Core.List.{List, [], ◌∷◌, ◌++◌, append_assoc, append-nil}
use native.Mathlib.Omega.{arith}
use native.Mathlib.Numerals.{add-one}
use native.Mathlib.Decide.{dec_lt}
use borrow.Author.Tests.{eqb-true, eqb-false, eq-eqb}
use lib.Dec.{eqb}
use lib.ListN.{length, take, get_or, length-append, length-take, get_or-append}
use lib.Seq.{get_or-take, get_or-append_seam, take-suc, take_all}
use Rattle.word.specs.Letters.{is_letter, inverse}
use Rattle.word.specs.Reduction.{in_front, reduced, Irreducible}
use Rattle.word.proofs.LetterLaws.{Lettered, lettered_cons, cons_lettered, inverse_twice}

-- the word begins with the letter
abbrev Leads : ℕ → List ℕ → Type 0
Leads c [] = ⊥
Leads c (d ∷ w) = d ≡ c

-- a letter in front of a word, by cases: it cancels against the first letter, or it stays
pub in_front_cases : (P : List ℕ → List ℕ → Type 0) (c : ℕ)
    → ((v : List ℕ) → P (inverse c ∷ v) v)
    → ((w : List ℕ) → (Leads (inverse c) w → ⊥) → P w (c ∷ w))
    → (w : List ℕ) → P w (in_front c w)
unfolding in_front
in_front_cases P c f g [] = g [] (λ e. e)
in_front_cases P c f g (d ∷ w) = go (eqb d (inverse c)) refl
  where
    go : (b : Bool) → eqb d (inverse c) ≡ b → P (d ∷ w) (cond b w (c ∷ d ∷ w))
    go true e = subst (λ (x : ℕ). P (x ∷ w) w) (sym (eqb-true d (inverse c) e)) (f w)
    go false e = g (d ∷ w) (eqb-false d (inverse c) e)

-- a letter in front of a word that begins with its inverse cancels
in_front_cancels : (c : ℕ) (w : List ℕ) → in_front c (inverse c ∷ w) ≡ w
unfolding in_front
in_front_cancels c w = ap (λ (b : Bool). cond b w (c ∷ inverse c ∷ w)) (eq-eqb (inverse c) (inverse c) refl)

-- shows that a word is irreducible, with `suc k` for `k + 1`
irreducible : (w : List ℕ) → ((k : ℕ) → suc k < length w → get_or w (suc k) 0 ≡ inverse (get_or w k 0) → ⊥)
    → Irreducible w
irreducible w h k = rw add-one (h k)

apart : (w : List ℕ) → Irreducible w → (k : ℕ) → suc k < length w → get_or w (suc k) 0 ≡ inverse (get_or w k 0) → ⊥
apart w i k = rw add-one at (i k)

-- the rest of an irreducible word is irreducible
irreducible_rest : (c : ℕ) (w : List ℕ) → Irreducible (c ∷ w) → Irreducible w
irreducible_rest c w i = irreducible w (λ k h. apart (c ∷ w) i (suc k) (omega arith))

irreducible_leads : (c : ℕ) (w : List ℕ) → Irreducible (c ∷ w) → Leads (inverse c) w → ⊥
irreducible_leads c [] i e = e
irreducible_leads c (d ∷ w) i e = apart (c ∷ d ∷ w) i 0 (omega arith) e

irreducible_cons : (c : ℕ) (w : List ℕ) → (Leads (inverse c) w → ⊥) → Irreducible w → Irreducible (c ∷ w)
irreducible_cons c w h i = irreducible (c ∷ w) (go w h i)
  where
    go : (w : List ℕ) → (Leads (inverse c) w → ⊥) → Irreducible w
        → (k : ℕ) → suc k < length (c ∷ w) → get_or (c ∷ w) (suc k) 0 ≡ inverse (get_or (c ∷ w) k 0) → ⊥
    go [] h i k l e = omega arith
    go (d ∷ w) h i zero l e = h e
    go (d ∷ w) h i (suc k) l e = apart (d ∷ w) i k (omega arith) e

irreducible_take : (n : ℕ) (w : List ℕ) → Irreducible w → Irreducible (take n w)
irreducible_take n w i k h e =
    let l = length-take n w in
    let a = get_or-take n w k 0 (omega arith) in
    let b = get_or-take n w (k + 1) 0 (omega arith) in
    i k (omega arith) (sym b ∙ (e ∙ ap inverse a))

-- the reduced word is irreducible
in_front_irreducible : (c : ℕ) (w : List ℕ) → Irreducible w → Irreducible (in_front c w)
in_front_irreducible c w =
    in_front_cases (λ w v. Irreducible w → Irreducible v) c (λ v. irreducible_rest (inverse c) v) (irreducible_cons c) w

pub reduced_irreducible : (w : List ℕ) → Irreducible (reduced w)
unfolding reduced
reduced_irreducible [] = λ k h e. omega arith
reduced_irreducible (c ∷ w) = in_front_irreducible c (reduced w) (reduced_irreducible w)

-- the reduced word of a word of letters is a word of letters
in_front_lettered : (c : ℕ) (w : List ℕ) → is_letter c ≡ true → Lettered w → Lettered (in_front c w)
in_front_lettered c w e =
    in_front_cases (λ w v. Lettered w → Lettered v) c (λ v h. (lettered_cons (inverse c) v h).1)
    (λ v n h. cons_lettered c v e h) w

pub reduced_lettered : (w : List ℕ) → Lettered w → Lettered (reduced w)
unfolding reduced
reduced_lettered [] e = e
reduced_lettered (c ∷ w) e =
    let t = lettered_cons c w e in in_front_lettered c (reduced w) t.0 (reduced_lettered w t.1)

-- the reduced word is no longer than the word
in_front_length : (c : ℕ) (w : List ℕ) → length (in_front c w) ≤ suc (length w)
in_front_length c w = in_front_cases (λ w v. length v ≤ suc (length w)) c (λ v. omega arith) (λ v n. omega arith) w

pub reduced_length : (w : List ℕ) → length (reduced w) ≤ length w
unfolding reduced
reduced_length [] = omega arith
reduced_length (c ∷ w) = omega (arith, in_front_length c (reduced w), reduced_length w)

-- an irreducible word is its own reduced word
in_front_stays : (c : ℕ) (w : List ℕ) → Irreducible (c ∷ w) → in_front c w ≡ c ∷ w
in_front_stays c w =
    in_front_cases (λ w v. Irreducible (c ∷ w) → v ≡ c ∷ w) c
    (λ v i. absurd (irreducible_leads c (inverse c ∷ v) i refl)) (λ v n i. refl) w

pub irreducible_reduced : (w : List ℕ) → Irreducible w → reduced w ≡ w
unfolding reduced
irreducible_reduced [] i = refl
irreducible_reduced (c ∷ w) i =
    ap (in_front c) (irreducible_reduced w (irreducible_rest c w i)) ∙ in_front_stays c w i

-- a letter's inverse and then the letter, both put in front of an irreducible word, leave the word as it is
in_front_twice : (c : ℕ) (w : List ℕ) → is_letter c ≡ true → Irreducible w → in_front c (in_front (inverse c) w) ≡ w
in_front_twice c w e =
    in_front_cases (λ w v. Irreducible w → in_front c v ≡ w) (inverse c)
    (λ v. rw (inverse_twice c e) (in_front_stays c v)) (λ v n i. in_front_cancels c v) w

-- a letter with its inverse right after it, anywhere in a word, does not change the reduced word
pub reduced_pair : (s : List ℕ) (d c : ℕ) (rest : List ℕ) → is_letter d ≡ true → c ≡ inverse d
    → reduced (s ++ (d ∷ c ∷ rest)) ≡ reduced (s ++ rest)
unfolding reduced
reduced_pair [] d c rest e h =
    ap (λ (x : ℕ). in_front d (in_front x (reduced rest))) h
    ∙ in_front_twice d (reduced rest) e (reduced_irreducible rest)
reduced_pair (a ∷ s) d c rest e h = ap (in_front a) (reduced_pair s d c rest e h)

-- the front of a word may be reduced first
in_front_append : (c : ℕ) (w v : List ℕ) → is_letter c ≡ true → reduced (in_front c w ++ v)
    ≡ in_front c (reduced (w ++ v))
unfolding reduced
in_front_append c w v e =
    in_front_cases (λ w u. reduced (u ++ v) ≡ in_front c (reduced (w ++ v))) c
    (λ u. sym (in_front_twice c (reduced (u ++ v)) e (reduced_irreducible (u ++ v)))) (λ u n. refl) w

pub reduced_front : (w v : List ℕ) → Lettered w → reduced (reduced w ++ v) ≡ reduced (w ++ v)
unfolding reduced
reduced_front [] v e = refl
reduced_front (c ∷ w) v e =
    let t = lettered_cons c w e in
    in_front_append c (reduced w) v t.0 ∙ ap (in_front c) (reduced_front w v t.1)

-- a letter added at the end of an irreducible word cancels against the last letter if it is the last letter's inverse
pub end_cancels : (s : List ℕ) (n c : ℕ) → Irreducible s → length s ≡ suc n → is_letter (get_or s n 0) ≡ true
    → c ≡ inverse (get_or s n 0)
    → reduced (s ++ (c ∷ [])) ≡ take n s
end_cancels s n c i l e h =
    let last : s ≡ take n s ++ (get_or s n 0 ∷ []) =
    sym (take_all (suc n) s (omega arith)) ∙ take-suc s n 0 (omega arith) in
    ap (λ (x : List ℕ). reduced (x ++ (c ∷ []))) last
    ∙ (ap reduced (append_assoc (take n s) (get_or s n 0 ∷ []) (c ∷ []))
    ∙ (reduced_pair (take n s) (get_or s n 0) c [] e h
    ∙ (ap reduced (append-nil (take n s)) ∙ irreducible_reduced (take n s) (irreducible_take n s i))))

-- a letter added at the end of an irreducible word stays if it is not the last letter's inverse
pub end_stays : (s : List ℕ) (c : ℕ) → Irreducible s → ((n : ℕ) → length s ≡ suc n → c ≡ inverse (get_or s n 0) → ⊥)
    → reduced (s ++ (c ∷ [])) ≡ s ++ (c ∷ [])
end_stays s c i h = irreducible_reduced (s ++ (c ∷ [])) (irreducible (s ++ (c ∷ [])) go)
  where
    go : (k : ℕ) → suc k < length (s ++ (c ∷ [])) → get_or (s ++ (c ∷ [])) (suc k) 0
        ≡ inverse (get_or (s ++ (c ∷ [])) k 0)
        → ⊥
    go k l e =
        let n = length-append s (c ∷ []) in
        elim (dec_lt (suc k) (length s)) [
          | yes p ↦
              apart s i k p
              (sym (get_or-append s (c ∷ []) 0 (suc k) p)
              ∙ (e ∙ ap inverse (get_or-append s (c ∷ []) 0 k (omega arith))))
          | no q ↦
              let at : suc k ≡ length s = omega arith in
              h k (sym at)
              (sym (get_or-append_seam s c [] 0)
              ∙ (ap (λ (m : ℕ). get_or (s ++ (c ∷ [])) m 0) (sym at)
              ∙ (e ∙ ap inverse (get_or-append s (c ∷ []) 0 k (omega arith)))))
        ]
