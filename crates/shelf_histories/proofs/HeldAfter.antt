-- What a number holds after a call: accepted work of its own publisher decides, and nothing else does. This holds of
-- every shelf, whatever its bytes are.
use Prim.Native.Nat.{ℕ, ◌+◌, ◌≤◌}
use mathlib.Core.Path.{◌≡◌, refl, sym, ap, ap₂, ◌∙◌}
use mathlib.Core.Bool.{Bool, true, false, cond}
use mathlib.Core.List.{List, []}
use mathlib.Core.Logic.{◌⊎◌, inl, inr}
use native.Mathlib.Omega.{arith}
use borrow.Author.Tests.{eqb-true, eqb-false}
use lib.Dec.{eqb, leb}
use lib.ListN.{length, replicate}
use Rattle.base.specs.Digits.{digits}
use Rattle.base.proofs.ListLaws.{and_left, true_false}
use Rattle.word.specs.Words.{letters}
use Rattle.key.specs.Keys.{key_answer}
use Rattle.shelf.specs.Shelves.{file_room, slots_bytes, shelf_bytes, is_publisher, has_slot, held, holding, replaced}
use Rattle.shelf.specs.Charges.{charge_place, charged}
use Rattle.shelf.specs.Calls.{Work, load, clear, judge, round, answer_to, done, is_verdict, acts, after}
use Rattle.shelf.proofs.SlotLaws.{length_holding, held_there, held_elsewhere}
use Rattle.shelf.proofs.ChargeLaws.{Past, length_past, held_past, charge_past, round_past}
use Rattle.shelf.proofs.CallLaws.{left_alone, acted, load_30, load_answer, clear_30, judge_30, key_fits}
use Rattle.shelf_histories.specs.Histories.{file_after}

-- ---- accepted work has its slot, and what it puts there is an accepted key, or none

thirty : {n : ℕ} → n ≡ 30 → n ≡ 0 → ⊥
thirty e z = omega arith

pub record Put (p n : ℕ) (file : List ℕ) : Type 0 where
  pub has : has_slot p n ≡ true
  pub fits : length file ≤ file_room
  pub key_or_none : (key_answer file ≡ 0) ⊎ (file ≡ [])

pub put_by_load : (p n : ℕ) (file shelf : List ℕ) → answer_to p (load n file) shelf ≡ 0 → Put p n file
put_by_load p n file shelf z = go (has_slot p n) refl
  where
    go : (b : Bool) → has_slot p n ≡ b → Put p n file
    go true e =
        let k = sym (load_answer p n shelf file e) ∙ z in
        record { has = e; fits = key_fits file k; key_or_none = inl k }
    go false e = absurd (thirty (load_30 p n shelf file e) z)

pub put_by_clear : (p n : ℕ) (shelf : List ℕ) → answer_to p (clear n) shelf ≡ 0 → Put p n []
put_by_clear p n shelf z = go (has_slot p n) refl
  where
    go : (b : Bool) → has_slot p n ≡ b → Put p n []
    go true e = record { has = e; fits = omega arith; key_or_none = inr refl }
    go false e = absurd (thirty (clear_30 p n shelf e) z)

-- a slip that is charged has a publisher
pub judging : (p n : ℕ) (digest word shelf : List ℕ) → is_verdict (answer_to p (judge n digest word) shelf) ≡ true
    → has_slot p n ≡ true
judging p n digest word shelf z = go (has_slot p n) refl
  where
    go : (b : Bool) → has_slot p n ≡ b → has_slot p n ≡ true
    go true e = e
    go false e = absurd (true_false _ z (ap is_verdict (judge_30 p n shelf digest word e)))

-- the charge that judging leaves stands past the slots
charge_of : (p n : ℕ) (digest word shelf : List ℕ) → is_verdict (answer_to p (judge n digest word) shelf) ≡ true
    → Past (charge_place p) (digits 256 2 (charged p shelf + length (letters word)))
charge_of p n digest word shelf z =
    charge_past p (charged p shelf + length (letters word))
    (and_left (is_publisher p) (leb n 3) (judging p n digest word shelf z))

-- A property of a shelf that every put keeps, and every change past the slots, is kept by every call.
pub after_keeps : (P : List ℕ → Type 0) (p : ℕ) (work : Work) (shelf : List ℕ) → P shelf
    → ((n : ℕ) (file : List ℕ) → Put p n file → P (holding p n file shelf))
    → ((at : ℕ) (bytes : List ℕ) → Past at bytes → P (replaced at bytes shelf)) → P (after p work shelf)
after_keeps P p work shelf h puts pasts = go (acts work (answer_to p work shelf)) refl
  where
    at_work : (w : Work) → acts w (answer_to p w shelf) ≡ true → P (done p w shelf)
    at_work (load n file) z = puts n file (put_by_load p n file shelf (eqb-true (answer_to p (load n file) shelf) 0 z))
    at_work (clear n) z = puts n [] (put_by_clear p n shelf (eqb-true (answer_to p (clear n) shelf) 0 z))
    at_work (judge n digest word) z =
        pasts (charge_place p) (digits 256 2 (charged p shelf + length (letters word)))
        (charge_of p n digest word shelf z)
    at_work round z = pasts slots_bytes (replicate 4 0) round_past

    go : (b : Bool) → acts work (answer_to p work shelf) ≡ b → P (after p work shelf)
    go true e = rw (acted p work shelf e) (at_work work e)
    go false e = rw (left_alone p work shelf e) h

-- a call keeps the shelf's length
pub length_after : (p : ℕ) (work : Work) (shelf : List ℕ) → shelf_bytes ≤ length shelf
    → length (after p work shelf) ≡ length shelf
length_after p work shelf room =
    after_keeps (λ (s : List ℕ). length s ≡ length shelf) p work shelf refl
    (λ n file put. length_holding p n put.has file put.fits shelf room)
    (λ at bytes past. length_past at bytes past shelf room)

-- ---- what a number holds

-- number m of publisher q is given a file
given : (q m : ℕ) (file shelf : List ℕ) → Put q m file → shelf_bytes ≤ length shelf → (p n : ℕ)
    → held p n (holding q m file shelf)
    ≡ cond (eqb q p) (cond (eqb m n) file (held p n shelf)) (held p n shelf)
given q m file shelf put room p n = go (eqb q p) refl (eqb m n) refl
  where
    go : (b : Bool) → eqb q p ≡ b → (d : Bool) → eqb m n ≡ d
        → held p n (holding q m file shelf) ≡ cond b (cond d file (held p n shelf)) (held p n shelf)
    go true e true f =
        ap₂ (λ (i j : ℕ). held i j (holding q m file shelf)) (sym (eqb-true q p e)) (sym (eqb-true m n f))
        ∙ held_there q m put.has file put.fits shelf room
    go true e false f =
        held_elsewhere q m put.has file put.fits shelf room p n (λ s. eqb-false m n f s.1)
    go false e d f =
        held_elsewhere q m put.has file put.fits shelf room p n (λ s. eqb-false q p e s.0)

pub same_either : {A : Type 0} (b : Bool) (x : A) → x ≡ cond b x x
same_either true x = refl
same_either false x = refl

pub held_after : (q : ℕ) (work : Work) (shelf : List ℕ) → shelf_bytes ≤ length shelf → (p n : ℕ)
    → held p n (after q work shelf)
    ≡ cond (eqb q p) (cond (acts work (answer_to q work shelf)) (file_after n work (held p n shelf)) (held p n shelf))
    (held p n shelf)
held_after q work shelf room p n = go (acts work (answer_to q work shelf)) refl
  where
    -- a change past the slots
    past : {at : ℕ} {bytes : List ℕ} → Past at bytes
        → held p n (replaced at bytes shelf) ≡ cond (eqb q p) (held p n shelf) (held p n shelf)
    past {at} {bytes} t = held_past at bytes t shelf room p n ∙ same_either (eqb q p) (held p n shelf)

    at_work : (w : Work) → acts w (answer_to q w shelf) ≡ true
        → held p n (done q w shelf) ≡ cond (eqb q p) (file_after n w (held p n shelf)) (held p n shelf)
    at_work (load m file) z =
        given q m file shelf (put_by_load q m file shelf (eqb-true (answer_to q (load m file) shelf) 0 z)) room p n
    at_work (clear m) z =
        given q m [] shelf (put_by_clear q m shelf (eqb-true (answer_to q (clear m) shelf) 0 z)) room p n
    at_work (judge m digest word) z = past (charge_of q m digest word shelf z)
    at_work round z = past round_past

    go : (b : Bool) → acts work (answer_to q work shelf) ≡ b
        → held p n (after q work shelf)
        ≡ cond (eqb q p) (cond b (file_after n work (held p n shelf)) (held p n shelf)) (held p n shelf)
    go true e = ap (held p n) (acted q work shelf e) ∙ at_work work e
    go false e = ap (held p n) (left_alone q work shelf e) ∙ same_either (eqb q p) (held p n shelf)
