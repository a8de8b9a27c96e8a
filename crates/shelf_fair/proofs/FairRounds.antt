-- Rounds are fair. The amounts over 10,000 sum to at most 10,000, and nobody passes 20,000. A slip that comes to 36 and
-- would leave its publisher at 10,000 or under is admitted: it gets the verdict. This holds from the empty shelf on,
-- and from a new round on, whatever bytes the shelf had.
use Prim.Native.Nat.{ℕ, ◌+◌, ◌-◌, ◌≤◌}
use mathlib.Core.Path.{◌≡◌, refl, sym, ap, ap₂, ◌∙◌, subst}
use mathlib.Core.Bool.{Bool, true, false, cond, not, ◌&&◌}
use mathlib.Core.List.{List, [], ◌∷◌, ◌++◌}
use mathlib.Core.Logic.{◌⊎◌, ⊎_elim}
use native.Mathlib.Omega.{arith}
use borrow.Author.Tests.{le-leb, eqb-true}
use lib.Dec.{eqb, leb}
use lib.ListN.{length}
use Rattle.base.specs.Questions.{Question, first_no}
use Rattle.base.specs.Lists.{equal}
use Rattle.base.proofs.QuestionLaws.{passes, answers_passed, all_passed}
use Rattle.base.proofs.ListLaws.{and_left, and_false}
use Rattle.word.specs.Words.{codes, word_questions, letters}
use Rattle.key.specs.Keys.{key_questions, key_of}
use Rattle.slip_digest.specs.Digest.{digest_questions}
use Rattle.slip_verdict.specs.Verdict.{signed, target, matrix_questions, verdict}
use Rattle.shelf.specs.Shelves.{shelf_bytes, empty_shelf, is_publisher, has_slot, held, is_held}
use Rattle.shelf.specs.Charges.{further, over_by, charged, partner, admitted, new_round}
use Rattle.shelf.specs.Calls.{Work, load, clear, judge, round, answer_to, is_verdict, acts, after}
use Rattle.shelf.proofs.ChargeLaws.{one_or_two, charged_empty, charged_round, sum_after, length_past, round_past}
use Rattle.shelf.proofs.ChipLaws.{on_chip, first_asked, matrix_verdict}
use Rattle.shelf.proofs.CallLaws.{judge_answer}
use Rattle.shelf_histories.specs.Histories.{Call, shelf_after}
use Rattle.shelf_histories.proofs.HeldAfter.{judging, length_after}
use Rattle.shelf_histories.proofs.LastLoad.{room}
use Rattle.shelf_fair.specs.FairUse.{letters_after, letters_charged, before36, ComesTo36, Fair, later_on}
use Rattle.shelf_fair.proofs.ChargedAfter.{verdict_admitted, charged_after, charged_is}

-- ---- the sum

-- both charges, from those of one publisher and its partner
both : (p : ℕ) → is_publisher p ≡ true → (shelf : List ℕ)
    → over_by (charged p shelf) + over_by (charged (partner p) shelf)
    ≡ over_by (charged 1 shelf) + over_by (charged 2 shelf)
both p e shelf =
    ⊎_elim (λ a. ap (λ (q : ℕ). over_by (charged q shelf) + over_by (charged (partner q) shelf)) a)
    (λ a. ap (λ (q : ℕ). over_by (charged q shelf) + over_by (charged (partner q) shelf)) a
    ∙ swap (over_by (charged 2 shelf)) (over_by (charged 1 shelf)))
    (one_or_two p e)
  where
    swap : (a b : ℕ) → a + b ≡ b + a
    swap a b = omega arith

-- every call keeps the sum at most 10,000
fair_after : (q : ℕ) (work : Work) (shelf : List ℕ) → shelf_bytes ≤ length shelf → Fair shelf
    → Fair (after q work shelf)
fair_after q work shelf room fair = go (acts work (answer_to q work shelf)) refl work refl
  where
    one : {b : Bool} → acts work (answer_to q work shelf) ≡ b
        → charged 1 (after q work shelf) ≡ cond b (letters_after 1 q work (charged 1 shelf)) (charged 1 shelf)
    one {b} e =
        charged_after 1 refl q work shelf room
        ∙ ap (λ (t : Bool). cond t (letters_after 1 q work (charged 1 shelf)) (charged 1 shelf)) e

    two : {b : Bool} → acts work (answer_to q work shelf) ≡ b
        → charged 2 (after q work shelf) ≡ cond b (letters_after 2 q work (charged 2 shelf)) (charged 2 shelf)
    two {b} e =
        charged_after 2 refl q work shelf room
        ∙ ap (λ (t : Bool). cond t (letters_after 2 q work (charged 2 shelf)) (charged 2 shelf)) e

    sum : {a b : ℕ} → charged 1 (after q work shelf) ≡ a → charged 2 (after q work shelf) ≡ b
        → over_by a + over_by b ≤ further → Fair (after q work shelf)
    sum d e h = subst (λ (k : ℕ). k ≤ further) (sym (ap₂ (λ (x y : ℕ). over_by x + over_by y) d e)) h

    -- the sum that admission asked for
    slip : (n : ℕ) (digest word : List ℕ) → judge n digest word ≡ work
        → is_verdict (answer_to q (judge n digest word) shelf) ≡ true → Fair (after q work shelf)
    slip n digest word w z =
        let k = length (letters word) in
        let s = sum_after q k shelf (verdict_admitted q n digest word shelf z) in
        let t : acts work (answer_to q work shelf) ≡ true = ap (λ (v : Work). acts v (answer_to q v shelf)) (sym w)
        ∙ z in
        let c1 = one t ∙ ap (λ (v : Work). letters_after 1 q v (charged 1 shelf)) (sym w) in
        let c2 = two t ∙ ap (λ (v : Work). letters_after 2 q v (charged 2 shelf)) (sym w) in
        ⊎_elim
        (λ a. sum (c1 ∙ ap (λ (i : ℕ). cond (eqb i 1) (charged 1 shelf + k) (charged 1 shelf)) a)
        (c2 ∙ ap (λ (i : ℕ). cond (eqb i 2) (charged 2 shelf + k) (charged 2 shelf)) a)
        (subst (λ (i : ℕ). over_by (charged i shelf + k) + over_by (charged (partner i) shelf) ≤ further) a s))
        (λ a. sum (c1 ∙ ap (λ (i : ℕ). cond (eqb i 1) (charged 1 shelf + k) (charged 1 shelf)) a)
        (c2 ∙ ap (λ (i : ℕ). cond (eqb i 2) (charged 2 shelf + k) (charged 2 shelf)) a)
        (swapped (over_by (charged 2 shelf + k)) (over_by (charged 1 shelf))
        (subst (λ (i : ℕ). over_by (charged i shelf + k) + over_by (charged (partner i) shelf) ≤ further) a s)))
        (one_or_two q (and_left (is_publisher q) (leb n 3) (judging q n digest word shelf z)))
      where
        swapped : (a b : ℕ) → a + b ≤ further → b + a ≤ further
        swapped a b h = omega arith

    go : (b : Bool) → acts work (answer_to q work shelf) ≡ b → (w : Work) → w ≡ work → Fair (after q work shelf)
    go false e w d = sum (one e) (two e) fair
    go true e (load n file) d =
        sum (one e ∙ ap (λ (v : Work). letters_after 1 q v (charged 1 shelf)) (sym d))
        (two e ∙ ap (λ (v : Work). letters_after 2 q v (charged 2 shelf)) (sym d)) fair
    go true e (clear n) d =
        sum (one e ∙ ap (λ (v : Work). letters_after 1 q v (charged 1 shelf)) (sym d))
        (two e ∙ ap (λ (v : Work). letters_after 2 q v (charged 2 shelf)) (sym d)) fair
    go true e (judge n digest word) d =
        slip n digest word d (ap (λ (v : Work). acts v (answer_to q v shelf)) d ∙ e)
    go true e round d =
        sum (one e ∙ ap (λ (v : Work). letters_after 1 q v (charged 1 shelf)) (sym d))
        (two e ∙ ap (λ (v : Work). letters_after 2 q v (charged 2 shelf)) (sym d)) (omega arith)

-- a history from the empty shelf
pub fair : (h : List Call) → Fair (shelf_after h)
unfolding shelf_after
fair [] =
    subst (λ (k : ℕ). k ≤ further)
    (sym (ap₂ (λ (x y : ℕ). over_by x + over_by y) (charged_empty 1 refl) (charged_empty 2 refl))) (omega arith)
fair (c ∷ h) = fair_after c.publisher c.work (shelf_after h) (room h) (fair h)

-- calls after a new round on any shelf
module _ (shelf : List ℕ) (enough : shelf_bytes ≤ length shelf) where
  length_later : (h : List Call) → length (later_on (new_round shelf) h) ≡ length shelf
  unfolding later_on
  length_later [] = length_past _ _ round_past shelf enough
  length_later (c ∷ h) =
      let l = length_later h in
      length_after c.publisher c.work (later_on (new_round shelf) h) (omega arith) ∙ l

  pub fair_from : (h : List Call) → Fair (later_on (new_round shelf) h)
  unfolding later_on
  fair_from [] =
      subst (λ (k : ℕ). k ≤ further)
      (sym (ap₂ (λ (x y : ℕ). over_by x + over_by y) (charged_round 1 refl shelf enough)
      (charged_round 2 refl shelf enough))) (omega arith)
  fair_from (c ∷ h) =
      let l = length_later h in
      fair_after c.publisher c.work (later_on (new_round shelf) h) (omega arith) (fair_from h)

-- ---- what follows of a fair shelf

module _ (shelf : List ℕ) (f : Fair shelf) (p : ℕ) (e : is_publisher p ≡ true) where
  own_fair : over_by (charged p shelf) + over_by (charged (partner p) shelf) ≤ further
  own_fair = subst (λ (k : ℕ). k ≤ further) (sym (both p e shelf)) f

  -- nobody passes 20,000
  pub nobody_passes : charged p shelf ≤ 20000
  nobody_passes = omega (arith, own_fair)

  -- a slip that leaves its publisher at 10,000 or under is admitted
  pub sure_admitted : (n : ℕ) → charged p shelf + n ≤ 10000 → admitted p n shelf ≡ true
  sure_admitted n h =
      le-leb (over_by (charged p shelf + n) + over_by (charged (partner p) shelf)) further (omega (arith, own_fair))

-- ---- a slip that comes to 36

on_chip_lem : (v : ℕ) → on_chip true v ≡ v
on_chip_lem v = ap (λ (b : Bool). cond b 36 v) (and_false (is_verdict v))

module _ (p n : ℕ) (digest word shelf : List ℕ) (c : ComesTo36 p n digest word shelf) where
  abbrev file : List ℕ
  file = held p n shelf

  comes_has : has_slot p n ≡ true
  comes_has = (answers_passed (before36 p n digest word shelf) tt c).0

  comes_held : is_held file ≡ true
  comes_held = (answers_passed (before36 p n digest word shelf) tt c).1.0

  -- it has a verdict, 0 or 14
  comes_verdict : is_verdict (verdict file digest word) ≡ true
  unfolding verdict
  comes_verdict =
      let rest : List Question = first_asked file digest word in
      let passed : first_no rest ≡ 0 = sym (passes 30 _ comes_has ∙ passes 31 rest comes_held) ∙ c in
      let m = signed (key_of file) (codes word) in
      let t = target (key_of file) digest in
      ap is_verdict (all_passed rest (matrix_questions m t) tt passed) ∙ matrix_verdict (equal m t)

  -- it gets the verdict if it is admitted, and 36 if it is not
  pub comes_admitted : admitted p (length (letters word)) shelf ≡ true
      → answer_to p (judge n digest word) shelf ≡ verdict file digest word
  comes_admitted a =
      judge_answer p n shelf digest word comes_has comes_held
      ∙ ap (λ (ok : Bool). on_chip ok (verdict file digest word)) a
      ∙ on_chip_lem (verdict file digest word)

  pub comes_36 : admitted p (length (letters word)) shelf ≡ false → answer_to p (judge n digest word) shelf ≡ 36
  comes_36 a =
      judge_answer p n shelf digest word comes_has comes_held
      ∙ ap₂ (λ (ok b : Bool). cond (b && not ok) 36 (verdict file digest word)) a comes_verdict

  -- a slip that comes to 36 and would leave its publisher at 10,000 or under is always admitted
  pub always_admitted : Fair shelf → charged p shelf + length (letters word) ≤ 10000
      → answer_to p (judge n digest word) shelf ≡ verdict file digest word
  always_admitted f h =
      comes_admitted
      (sure_admitted shelf f p (and_left (is_publisher p) (leb n 3) comes_has) (length (letters word)) h)

-- ---- computed from a history that begins at the empty shelf

module _ (h : List Call) (p : ℕ) (e : is_publisher p ≡ true) where
  -- the amounts over 10,000 sum to at most 10,000
  pub sum_at_most : over_by (letters_charged 1 h) + over_by (letters_charged 2 h) ≤ further
  sum_at_most =
      subst (λ (k : ℕ). k ≤ further)
      (ap₂ (λ (x y : ℕ). over_by x + over_by y) (charged_is 1 refl h) (charged_is 2 refl h)) (fair h)

  pub at_most_20000 : letters_charged p h ≤ 20000
  at_most_20000 = subst (λ (k : ℕ). k ≤ 20000) (charged_is p e h) (nobody_passes (shelf_after h) (fair h) p e)

  pub sure_of_10000 : (n : ℕ) (digest word : List ℕ) → ComesTo36 p n digest word (shelf_after h)
      → letters_charged p h + length (letters word) ≤ 10000
      → answer_to p (judge n digest word) (shelf_after h) ≡ verdict (held p n (shelf_after h)) digest word
  sure_of_10000 n digest word c l =
      always_admitted p n digest word (shelf_after h) c (fair h)
      (subst (λ (k : ℕ). k + length (letters word) ≤ 10000) (sym (charged_is p e h)) l)
