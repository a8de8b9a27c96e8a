-- Laws of the tables of latest places: one code more before the gap, and one code less.
use Prim.Native.Nat.{ℕ, zero, suc, ◌+◌, ◌-◌, ◌≤◌, ◌<◌}
use mathlib.Core.Path.{◌≡◌, refl, sym, ap, ap₂, ◌∙◌}
use mathlib.Core.Bool.{Bool, true, false, cond}
use mathlib.Core.List.{List}
use native.Mathlib.Decide.{ℕ_discrete}
use native.Mathlib.Numerals.{add-one}
use native.Mathlib.Omega.{arith}
use borrow.Author.Tests.{eqb-true, eqb-false, eq-eqb, ne_eqb}
use lib.Dec.{eqb}
use lib.ListN.{length, take, get_or, set, length-set}
use lib.Seq.{get_or-take, get_or-set_same, get_or-set_other}
use Rattle.braid_handles.proofs.Starts.{Latest}
use Rattle.handle_row.specs.steps.Gaps.{letter_slot, latest_of, Tables}

module _ (s : ℕ) where
  -- the latest place of n + 1 places is the last one, if that has the slot, and otherwise the latest of n
  latest_here : (w : List ℕ) (n : ℕ) → letter_slot (get_or w n 0) ≡ s → latest_of s w (n + 1) ≡ n + 1
  unfolding latest_of
  latest_here w n e =
      ap (latest_of s w) (add-one n)
      ∙ ap (λ (b : Bool). cond b (suc n) (latest_of s w n)) (eq-eqb (letter_slot (get_or w n 0)) s e)
      ∙ sym (add-one n)

  latest_other : (w : List ℕ) (n : ℕ) → (letter_slot (get_or w n 0) ≡ s → ⊥) → latest_of s w (n + 1) ≡ latest_of s w n
  unfolding latest_of
  latest_other w n h =
      ap (latest_of s w) (add-one n)
      ∙ ap (λ (b : Bool). cond b (suc n) (latest_of s w n)) (ne_eqb (letter_slot (get_or w n 0)) s h)

  -- `latest_of` depends on the n places alone
  pub latest_alike : (u v : List ℕ) (n : ℕ) → ((k : ℕ) → k < n → get_or u k 0 ≡ get_or v k 0)
      → latest_of s u n ≡ latest_of s v n
  unfolding latest_of
  latest_alike u v zero h = refl
  latest_alike u v (suc n) h =
      let front = latest_alike u v n (λ k b. h k (omega arith)) in
      ap₂ (λ (c m : ℕ). cond (eqb (letter_slot c) s) (suc n) m) (h n (omega arith)) front

  -- `latest_of` gives the latest place
  pub latest_latest : (w : List ℕ) (n : ℕ) → Latest s w n (latest_of s w n)
  unfolding latest_of
  latest_latest w zero =
      record {
        within = omega arith;
        there = λ h. absurd (omega arith);
        later = λ j a b. absurd (omega arith);
      }
  latest_latest w (suc n) = go (eqb (letter_slot (get_or w n 0)) s) refl (latest_latest w n)
    where
      go : (b : Bool) → eqb (letter_slot (get_or w n 0)) s ≡ b → Latest s w n (latest_of s w n)
          → Latest s w (suc n) (cond b (suc n) (latest_of s w n))
      go true e l =
          record {
            within = omega arith;
            there =
                λ h. let at : suc n - 1 ≡ n = omega arith in
                ap (λ (k : ℕ). letter_slot (get_or w k 0)) at ∙ eqb-true (letter_slot (get_or w n 0)) s e;
            later = λ j a b. absurd (omega arith);
          }
      go false e l =
          record {
            within = omega (arith, l.within);
            there = l.there;
            later = λ j a b. older j a b (ℕ_discrete j n);
          }
        where
          older : (j : ℕ) → latest_of s w n ≤ j → j < suc n → Dec (j ≡ n) → letter_slot (get_or w j 0) ≡ s → ⊥
          older j a b (yes d) t =
              eqb-false (letter_slot (get_or w n 0)) s e (ap (λ (k : ℕ). letter_slot (get_or w k 0)) (sym d) ∙ t)
          older j a b (no d) t = l.later j a (omega arith) t

-- rows that agree on the n places have the same tables
pub tables_alike : {latest before : List ℕ} (u v : List ℕ) (n : ℕ) → take n u ≡ take n v → Tables u latest before n
    → Tables v latest before n
tables_alike u v n e t =
    record {
      newest =
          record {
            slots = t.newest.slots;
            latest_is = λ s b. t.newest.latest_is s b ∙ latest_alike s u v n same;
          };
      before_is =
          λ k b. t.before_is k b
          ∙ ap (λ (c : ℕ). latest_of (letter_slot c) u k) (same k b)
          ∙ latest_alike (letter_slot (get_or v k 0)) u v k (λ j l. same j (omega arith));
    }
  where
    same : (k : ℕ) → k < n → get_or u k 0 ≡ get_or v k 0
    same k b = sym (get_or-take n u k 0 b) ∙ ap (λ (w : List ℕ). get_or w k 0) e ∙ get_or-take n v k 0 b

module _ (row latest before : List ℕ) (n : ℕ) where
  -- one code more: it is stored, and so are its place and the latest place before it
  pub tables_more : (c : ℕ) → n < length row → n < length before → letter_slot c < 9 → Tables row latest before n
      → Tables (set row n c) (set latest (letter_slot c) (n + 1)) (set before n (get_or latest (letter_slot c) 0))
      (n + 1)
  tables_more c h l m t =
      record {
        newest =
            record {
              slots = length-set latest (letter_slot c) (n + 1) ∙ t.newest.slots;
              latest_is = λ s b. newer s b (ℕ_discrete s (letter_slot c));
            };
        before_is = λ k b. older k b (ℕ_discrete k n);
      }
    where
      new : List ℕ
      new = set row n c

      same : (k : ℕ) → k < n → get_or row k 0 ≡ get_or new k 0
      same k b = sym (get_or-set_other row n k c 0 (λ e. omega arith))

      here : get_or new n 0 ≡ c
      here = get_or-set_same row n c 0 h

      newer : (s : ℕ) → s < 9 → Dec (s ≡ letter_slot c)
          → get_or (set latest (letter_slot c) (n + 1)) s 0 ≡ latest_of s new (n + 1)
      newer s b (yes d) =
          ap (λ (i : ℕ). get_or (set latest (letter_slot c) (n + 1)) i 0) d
          ∙ get_or-set_same latest (letter_slot c) (n + 1) 0 (omega (arith, t.newest.slots))
          ∙ sym (latest_here s new n (ap letter_slot here ∙ sym d))
      newer s b (no d) =
          get_or-set_other latest (letter_slot c) s (n + 1) 0 d
          ∙ t.newest.latest_is s b
          ∙ latest_alike s row new n same
          ∙ sym (latest_other s new n (λ e. d (sym e ∙ ap letter_slot here)))

      older : (k : ℕ) → k < n + 1 → Dec (k ≡ n)
          → get_or (set before n (get_or latest (letter_slot c) 0)) k 0 ≡ latest_of (letter_slot (get_or new k 0)) new k
      older k b (yes d) =
          ap (λ (i : ℕ). get_or (set before n (get_or latest (letter_slot c) 0)) i 0) d
          ∙ get_or-set_same before n (get_or latest (letter_slot c) 0) 0 l
          ∙ t.newest.latest_is (letter_slot c) m
          ∙ latest_alike (letter_slot c) row new n same
          ∙ ap₂ (λ (x i : ℕ). latest_of (letter_slot x) new i) (sym (ap (λ (i : ℕ). get_or new i 0) d ∙ here)) (sym d)
      older k b (no d) =
          let f : k < n = omega arith in
          get_or-set_other before n k (get_or latest (letter_slot c) 0) 0 d
          ∙ t.before_is k f
          ∙ ap (λ (x : ℕ). latest_of (letter_slot x) row k) (same k f)
          ∙ latest_alike (letter_slot (get_or new k 0)) row new k (λ j a. same j (omega arith))

  -- one code less: its slot has the latest place before it again
  pub tables_less : letter_slot (get_or row n 0) < 9 → Tables row latest before (n + 1)
      → Tables row (set latest (letter_slot (get_or row n 0)) (get_or before n 0)) before n
  tables_less m t =
      record {
        newest =
            record {
              slots = length-set latest last (get_or before n 0) ∙ t.newest.slots;
              latest_is = λ s b. back s b (ℕ_discrete s last);
            };
        before_is = λ k b. t.before_is k (omega arith);
      }
    where
      last : ℕ
      last = letter_slot (get_or row n 0)

      back : (s : ℕ) → s < 9 → Dec (s ≡ last) → get_or (set latest last (get_or before n 0)) s 0 ≡ latest_of s row n
      back s b (yes d) =
          ap (λ (i : ℕ). get_or (set latest last (get_or before n 0)) i 0) d
          ∙ get_or-set_same latest last (get_or before n 0) 0 (omega (arith, t.newest.slots))
          ∙ t.before_is n (omega arith)
          ∙ ap (λ (i : ℕ). latest_of i row n) (sym d)
      back s b (no d) =
          get_or-set_other latest last s (get_or before n 0) 0 d
          ∙ t.newest.latest_is s b
          ∙ latest_other s row n (λ e. d (sym e))
