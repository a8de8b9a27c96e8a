-- A run begins and ends: the row before the first step, and what the steps leave.
use Prim.Native.Nat.{ℕ, zero, suc, ◌+◌, ◌-◌, ◌≤◌}
use mathlib.Core.Path.{◌≡◌, refl, sym, ap, ◌∙◌}
use mathlib.Core.Bool.{Bool, false}
use mathlib.Core.List.{List}
use native.Mathlib.Omega.{arith}
use borrow.Author.Tests.{eqb-false}
use lib.ListN.{length, take, drop, get_or, replicate}
use lib.Seq.{length-take-le}
use Rattle.base.specs.Questions.{first_no, granted}
use Rattle.base.specs.Lists.{every}
use Rattle.base.proofs.QuestionLaws.{granted_refused}
use Rattle.word.specs.Letters.{is_letter}
use Rattle.braid_handles.specs.Handles.{has_handle, after_steps, step_questions}
use Rattle.braid_handles.proofs.HandleLaws.{free_nil}
use Rattle.handle_row.specs.steps.Gaps.{gapped, latest_of, Gathers}
use Rattle.handle_steps.specs.steps.Runs.{HoldsWord, Fresh, StepsOnRow, Gap, Ended}

-- ---- before the first step

-- a row of zeros has 0 at every place
pub zeros : (n s : ℕ) → ◌≡◌ {A = ℕ} (get_or (replicate n 0) s 0) 0
zeros zero s = refl
zeros (suc n) zero = refl
zeros (suc n) (suc s) = zeros n s

pub begun : (row row' latest before codes : List ℕ) (n : ℕ) → HoldsWord n codes → Fresh row latest before
    → length row' ≡ length row → drop (length row - length (take n codes)) row' ≡ take n codes
    → (Gap row' latest before 0 (10001 - n)) × (gapped row' 0 (10001 - n) ≡ take n codes)
unfolding latest_of
begun row row' latest before codes n l f s e =
    let many = length-take-le n codes (omega (arith, l.few, l.room)) in
    let at : length row - length (take n codes) ≡ 10001 - n = omega (arith, f.room) in
    let is : gapped row' 0 (10001 - n) ≡ take n codes = ap (λ (k : ℕ). drop k row') (sym at) ∙ e in (
      record {
        room = s ∙ f.room;
        beside = f.beside;
        gap = omega (arith, l.few);
        within = omega arith;
        lettered = ap (every is_letter) is ∙ l.lettered;
        clean = free_nil;
        tables =
            record {
              newest = record { slots = f.slots; latest_is = λ s b. f.none s };
              before_is = λ k b. absurd (omega arith);
            };
      },
      is,
    )

-- ---- after the last step

module _ (limit n : ℕ) (codes w : List ℕ) (e : w ≡ take n codes) where
  pub refused_steps : n ≤ 10000 → first_no (step_questions limit w) ≡ 32 → StepsOnRow limit n codes codes 32 n false
  refused_steps h r =
      record {
        answer_is = sym (ap (λ (x : List ℕ). first_no (step_questions limit x)) (sym e) ∙ r);
        few = h;
        word_is = sym (granted_refused (after_steps limit (take n codes)) (take n codes) (eqb-false 32 0 refl));
        left_is = sym (granted_refused (has_handle (after_steps limit (take n codes))) false (eqb-false 32 0 refl));
      }

  pub ended_steps : (row codes' : List ℕ) (left right : ℕ) (handle : Bool) → length row ≡ 10001
      → Ended limit w row left right handle
      → take (left + (length row - right)) codes' ≡ gapped row left right
      → StepsOnRow limit n codes codes' 0 (left + (10001 - right)) handle
  unfolding granted
  ended_steps row codes' left right handle l d t =
      record {
        answer_is = sym (ap (λ (x : List ℕ). first_no (step_questions limit x)) (sym e) ∙ d.answer_is);
        few = omega (arith, d.gap, d.within);
        word_is =
            ap (λ (k : ℕ). take (left + (k - right)) codes') (sym l)
            ∙ t ∙ d.word_is ∙ ap (after_steps limit) e;
        left_is = d.left_is ∙ ap (λ (x : List ℕ). has_handle (after_steps limit x)) e;
      }

pub gathers : (limit : ℕ) (w row codes : List ℕ) (n left right : ℕ) (handle : Bool) → length row ≡ 10001
    → HoldsWord n codes
    → Ended limit w row left right handle → Gathers row left right codes
gathers limit w row codes n left right handle s l d =
    record {
      front = omega (arith, d.gap, d.within);
      within = omega (arith, d.within);
      room = omega (arith, d.gap, d.within, l.room);
    }
