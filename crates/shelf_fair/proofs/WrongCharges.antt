-- The contract of a call shuts out wrong ways to charge and to admit, each by an input on which it differs. The slip is
-- 128 letters b7, signed under the plain key for the digest of 32 zero bytes, on a shelf that holds this key and has
-- the charges that are named. Shut out are the limit at 9,999 or 10,001, each publisher's amount over 10,000 tested by
-- itself, charges kept modulo 65,536, 36 before the word's or the digest's questions, letters charged on 36, on 13 and
-- on 31, and a round that clears one charge alone, or the keys.
use Prim.Native.Nat.{ℕ, ◌+◌, ◌≤◌, ◌<◌}
use mathlib.Core.Path.{◌≡◌, refl, sym, ap, ap₂, ◌∙◌}
use mathlib.Core.Bool.{Bool, true, false, cond}
use mathlib.Core.List.{List, [], ◌∷◌}
use native.Mathlib.Omega.{arith}
use lib.Dec.{eqb}
use lib.ListN.{length}
use Rattle.base.specs.Questions.{first_no, granted}
use Rattle.base.specs.Lists.{every}
use Rattle.base.specs.Digits.{value, digits, halves}
use Rattle.field.specs.Fields.{digest_bytes}
use Rattle.word.specs.Words.{codes, filler, word_answer, letters}
use Rattle.key.specs.Keys.{key_field, key_answer, key_of}
use Rattle.slip_verdict.specs.Verdict.{verdict}
use Rattle.slip_verdict.proofs.WrongVerdicts.{plain_key, key_accepted, zero_digest, sevens, sevens_0}
use Rattle.slip_verdict.proofs.VerdictIff.{digest_refused, word_refused}
use Rattle.shelf.specs.Shelves.{file_room, shelf_bytes, empty_shelf, is_publisher, held, is_held, holding, replaced}
use Rattle.shelf.specs.Charges.{charge_place, charged, admits, admitted, charging}
use Rattle.shelf.specs.Calls.{judge, round, answer_to, is_verdict, after, Serves}
use Rattle.shelf.proofs.SlotLaws.{length_empty, held_there, length_holding, held_empty}
use Rattle.shelf.proofs.ChargeLaws.{charged_put, charged_beside, charged_charging, charged_round, charge_past}
use Rattle.shelf.proofs.ChargeLaws.{length_past, held_past, round_past, charged_empty}
use Rattle.shelf.proofs.ChipLaws.{on_chip}
use Rattle.shelf.proofs.CallLaws.{left_alone, acted, judge_31, judge_answer, round_answer, key_fits}

sevens_letters : length (letters sevens) ≡ 128
unfolding first_no granted every value halves codes filler word_answer letters
sevens_letters = refl

-- one letter b1, and a filler that is not zero
abbrev pub bad_filler : List ℕ
bad_filler = 0x00 ∷ 0x01 ∷ 0x01 ∷ []

bad_13 : verdict plain_key zero_digest bad_filler ≡ 13
unfolding first_no every value codes filler halves word_answer key_field
bad_13 = word_refused plain_key zero_digest bad_filler key_accepted refl (λ z. omega arith)

-- ---- a shelf that holds the plain key and has these charges

pub record Stands (one two : ℕ) (shelf : List ℕ) : Type 0 where
  pub room : shelf_bytes ≤ length shelf
  pub key : held 1 0 shelf ≡ plain_key
  pub charge_1 : charged 1 shelf ≡ one
  pub charge_2 : charged 2 shelf ≡ two

-- there is such a shelf
module _ (one two : ℕ) (few_1 : one < 65536) (few_2 : two < 65536) where
  abbrev keyed : List ℕ
  keyed = holding 1 0 plain_key empty_shelf

  abbrev first : List ℕ
  first = replaced (charge_place 1) (digits 256 2 one) keyed

  fits : length plain_key ≤ file_room
  fits = key_fits plain_key key_accepted

  empty_room : shelf_bytes ≤ length empty_shelf
  empty_room = omega (arith, length_empty)

  keyed_room : shelf_bytes ≤ length keyed
  keyed_room = omega (arith, length_holding 1 0 refl plain_key fits empty_shelf empty_room, length_empty)

  first_room : shelf_bytes ≤ length first
  first_room = omega (arith, length_past _ _ (charge_past 1 one refl) keyed keyed_room, keyed_room)

  pub stands : Stands one two (replaced (charge_place 2) (digits 256 2 two) first)
  stands =
      record {
        room = omega (arith, length_past _ _ (charge_past 2 two refl) first first_room, first_room);
        key =
            held_past _ _ (charge_past 2 two refl) first first_room 1 0
            ∙ held_past _ _ (charge_past 1 one refl) keyed keyed_room 1 0
            ∙ held_there 1 0 refl plain_key fits empty_shelf empty_room;
        charge_1 =
            charged_beside 2 refl first first_room 1 two refl (λ e. omega arith)
            ∙ charged_put 1 refl keyed keyed_room one few_1;
        charge_2 = charged_put 2 refl first first_room two few_2;
      }

module _ {one two : ℕ} {shelf : List ℕ} (s : Stands one two shelf) where
  has_key : is_held (held 1 0 shelf) ≡ true
  has_key = ap is_held s.key

  -- the answer to any digest and word, from the verdict and the two charges
  pub answer_on : (digest word : List ℕ) (n : ℕ) → length (letters word) ≡ n
      → answer_to 1 (judge 0 digest word) shelf ≡ on_chip (admits n one two) (verdict plain_key digest word)
  answer_on digest word n l =
      judge_answer 1 0 shelf digest word refl has_key
      ∙ ap₂ on_chip (λ i. admits (l i) (s.charge_1 i) (s.charge_2 i))
      (ap (λ (k : List ℕ). verdict k digest word) s.key)

  pub sevens_on : answer_to 1 (judge 0 zero_digest sevens) shelf ≡ on_chip (admits 128 one two) 0
  sevens_on = answer_on zero_digest sevens 128 sevens_letters ∙ ap (on_chip (admits 128 one two)) sevens_0

  -- a refusal that is no verdict charges nothing
  pub charges_none : (digest word : List ℕ) {left : List ℕ} {answer a : ℕ}
      → Serves 1 (judge 0 digest word) shelf left answer → answer_to 1 (judge 0 digest word) shelf ≡ a
      → is_verdict a ≡ false → (answer ≡ a) × (left ≡ shelf)
  charges_none digest word c e v =
      (c.answer_is ∙ e, c.shelf_is ∙ left_alone 1 (judge 0 digest word) shelf (ap is_verdict e ∙ v))

  -- a verdict charges the slip's letters
  pub charges_128 : {left : List ℕ} {answer : ℕ} → Serves 1 (judge 0 zero_digest sevens) shelf left answer
      → admits 128 one two ≡ true → (answer ≡ 0) × (charged 1 left ≡ one + 128)
  charges_128 {left} c a =
      let e = sevens_on ∙ ap (λ (ok : Bool). on_chip ok 0) a in
      let ok : admitted 1 128 shelf ≡ true = (λ i. admits 128 (s.charge_1 i) (s.charge_2 i)) ∙ a in (
        c.answer_is ∙ e,
        ap (charged 1)
            (c.shelf_is ∙ acted 1 (judge 0 zero_digest sevens) shelf (ap is_verdict e)
            ∙ ap (λ (k : ℕ). charging 1 k shelf) sevens_letters)
            ∙ charged_charging 1 128 shelf refl s.room ok
            ∙ ap (λ (k : ℕ). k + 128) s.charge_1,
      )

-- no letters are charged on 31
pub none_on_31 : {left : List ℕ} {answer : ℕ} → Serves 1 (judge 0 zero_digest sevens) empty_shelf left answer
    → (answer ≡ 31) × (left ≡ empty_shelf)
none_on_31 c =
    let e = judge_31 1 0 empty_shelf zero_digest sevens refl (ap is_held (held_empty 1 0)) in
    (c.answer_is ∙ e, c.shelf_is ∙ left_alone 1 (judge 0 zero_digest sevens) empty_shelf (ap is_verdict e))

module _ {shelf left : List ℕ} {answer : ℕ} where
  -- ---- the limit, and the sum

  -- 19,872 and 128 are 20,000: admitted, so the limit is not 9,999
  pub not_9999 : Stands 19872 0 shelf → Serves 1 (judge 0 zero_digest sevens) shelf left answer
      → (answer ≡ 0) × (charged 1 left ≡ 20000)
  not_9999 s c = charges_128 s c refl

  -- 20,001 are not admitted, so the limit is not 10,001. No letters are charged on 36
  pub not_10001 : Stands 19873 0 shelf → Serves 1 (judge 0 zero_digest sevens) shelf left answer
      → (answer ≡ 36) × (left ≡ shelf)
  not_10001 s c = charges_none s zero_digest sevens c (sevens_on s) refl

  -- 5,001 over and 5,000 over: each is under 10,000, and the sum is not
  pub not_each_alone : Stands 14873 15000 shelf → Serves 1 (judge 0 zero_digest sevens) shelf left answer
      → (answer ≡ 36) × (left ≡ shelf)
  not_each_alone s c = charges_none s zero_digest sevens c (sevens_on s) refl

  -- 5,000 over and 5,000 over: the sum is 10,000, so the amounts count from 10,000 and not from 9,999
  pub not_from_9999 : Stands 14872 15000 shelf → Serves 1 (judge 0 zero_digest sevens) shelf left answer
      → (answer ≡ 0) × (charged 1 left ≡ 15000)
  not_from_9999 s c = charges_128 s c refl

  -- 65,535 and 128 are not 127: a shelf that no history makes
  pub not_modulo : Stands 65535 0 shelf → Serves 1 (judge 0 zero_digest sevens) shelf left answer
      → (answer ≡ 36) × (left ≡ shelf)
  not_modulo s c = charges_none s zero_digest sevens c (sevens_on s) refl

  -- ---- the place of 36

  -- where nothing is admitted, the digest and the word still get their own refusals, and no letters are charged
  pub digest_before_36 : Stands 65535 0 shelf → Serves 1 (judge 0 [] sevens) shelf left answer
      → (answer ≡ 8) × (left ≡ shelf)
  unfolding key_field
  digest_before_36 s c =
      charges_none s [] sevens c
      (answer_on s [] sevens 128 sevens_letters ∙ ap (on_chip (admits 128 65535 0)) refused) refl
    where
      differ : 0 ≡ digest_bytes (key_field plain_key) → ⊥
      differ e = omega (arith, e)

      refused : verdict plain_key [] sevens ≡ 8
      refused = digest_refused plain_key [] sevens key_accepted differ

  pub word_before_36 : Stands 65535 0 shelf → Serves 1 (judge 0 zero_digest bad_filler) shelf left answer
      → (answer ≡ 13) × (left ≡ shelf)
  word_before_36 s c =
      charges_none s zero_digest bad_filler c
      (answer_on s zero_digest bad_filler (length (letters bad_filler)) refl
      ∙ ap (on_chip (admits (length (letters bad_filler)) 65535 0)) bad_13) refl

  -- ---- no letters without a verdict

  -- nothing is charged on 13, even on a shelf with no charges
  pub none_on_13 : Stands 0 0 shelf → Serves 1 (judge 0 zero_digest bad_filler) shelf left answer
      → (answer ≡ 13) × (left ≡ shelf)
  none_on_13 s c =
      charges_none s zero_digest bad_filler c
      (answer_on s zero_digest bad_filler (length (letters bad_filler)) refl
      ∙ ap (on_chip (admits (length (letters bad_filler)) 0 0)) bad_13) refl

  -- ---- a new round clears both charges, and no key; either publisher may start it

  pub round_clears_both : (one two p : ℕ) → is_publisher p ≡ true → Stands one two shelf
      → Serves p round shelf left answer
      → (answer ≡ 0) × (charged 1 left ≡ 0) × (charged 2 left ≡ 0) × (held 1 0 left ≡ plain_key)
  round_clears_both one two p e s c =
      let z = round_answer p shelf e in
      let l = c.shelf_is ∙ acted p round shelf (ap (λ (a : ℕ). eqb a 0) z) in (
        c.answer_is ∙ z,
        ap (charged 1) l ∙ charged_round 1 refl shelf s.room,
        ap (charged 2) l ∙ charged_round 2 refl shelf s.room,
        ap (held 1 0) l ∙ held_past _ _ round_past shelf s.room 1 0 ∙ s.key,
      )
