-- What a turn leaves, in the three ways that it can go, and what a run leaves when all codes are read.
use Prim.Native.Nat.{ℕ, suc, ◌+◌, ◌-◌, ◌≤◌, ◌<◌}
use mathlib.Core.Path.{◌≡◌, sym, ap, ◌∙◌, subst}
use mathlib.Core.Bool.{true, false}
use mathlib.Core.List.{List, ◌++◌, append-nil}
use native.Mathlib.Omega.{arith}
use lib.ListN.{length, take, drop, get_or, length-set, drop_of_length-le}
use lib.Seq.{length-take-le}
use Rattle.base.specs.Questions.{first_no}
use Rattle.base.specs.Lists.{every}
use Rattle.word.specs.Letters.{is_letter}
use Rattle.braid_handles.specs.Handles.{has_handle, conjugated, stepped, after_steps, step_questions}
use Rattle.braid_handles.proofs.Runs.{no_steps, step_fits, step_refused, steps_free, free_answers}
use Rattle.braid_handles.proofs.StepKeeps.{step_lettered}
use Rattle.handle_row.specs.steps.Gaps.{gapped, beginning, Tables, LetterKept, Conjugates}
use Rattle.handle_row.proofs.PlaceLaws.{tables_alike}
use Rattle.handle_steps.specs.steps.Runs.{Gap, SameRun, Ended, Goes, Refused}
use Rattle.handle_steps.proofs.GapLaws.{word_stays, front_free, own_inside}
use Rattle.handle_steps.proofs.GapLaws.{one_left, step_long, at_is, front_stays}
use Rattle.handle_steps.proofs.GapLaws.{word_after, length_after, free_after}

-- equal words have the same run
same_run : (n : ℕ) {v w : List ℕ} → v ≡ w → SameRun n v n w
same_run n e =
    record { word_is = ap (after_steps n) e; answer_is = ap (λ (x : List ℕ). first_no (step_questions n x)) e }

-- a step that leaves no more than 10,000 letters
one_step : (n : ℕ) {v : List ℕ} (w : List ℕ) → v ≡ stepped w → length (stepped w) ≤ 10000 → SameRun n v (suc n) w
unfolding after_steps
one_step n w e l =
    record {
      word_is = ap (after_steps n) e;
      answer_is = ap (λ (x : List ℕ). first_no (step_questions n x)) e ∙ sym (step_fits n w l);
    }

module _ (row latest before : List ℕ) (left right n : ℕ) (g : Gap row latest before left right)
    (unread : right < 10001) where
  inside : right < length row
  inside = omega (arith, g.room)

  -- ---- the code moves before the gap

  pub code_kept : beginning row left right ≡ 0 → (row' latest' before' : List ℕ) → length before' ≡ length before
      → LetterKept row row' latest' before' left right
      → Goes row left right n row' latest' before' (left + 1) (right + 1) n
  code_kept b row' latest' before' l k =
      let stays = word_stays row left right g.gap inside row' k.row_is in
      record {
        gap =
            record {
              room = ap length k.row_is ∙ length-set row left (get_or row right 0) ∙ g.room;
              beside = l ∙ g.beside;
              gap = omega (arith, g.gap);
              within = omega arith;
              lettered = ap (every is_letter) stays ∙ g.lettered;
              clean = front_free row left right g.gap inside row' k.row_is g.clean b;
              tables = k.tables;
            };
        same = same_run n stays;
        less = omega arith;
      }

  -- ---- a handle ends with the code

  module _ (own : ℕ) (o : own ≡ beginning row left right) (some : 0 < own) where
    -- no step is left
    pub limit_reached : n ≡ 0 → Ended n (gapped row left right) row left right true
    limit_reached z =
        record {
          gap = g.gap;
          within = g.within;
          answer_is =
              ap (λ (m : ℕ). first_no (step_questions m (gapped row left right))) z
              ∙ (no_steps (gapped row left right)).1;
          word_is = sym stays;
          left_is = sym (ap has_handle stays ∙ one_left row left right g.gap inside own o some g.clean);
        }
      where
        stays : after_steps n (gapped row left right) ≡ gapped row left right
        stays = ap (λ (m : ℕ). after_steps m (gapped row left right)) z ∙ (no_steps (gapped row left right)).0

    abbrev long : ℕ
    long = length (conjugated (get_or row (own - 1) 0) (take (left - own) (drop own row)))

    -- the step would leave too many letters
    pub too_long : 0 < n → right + 1 < own + long → Refused n (gapped row left right)
    too_long p t =
        let up : n ≡ suc (n - 1) = omega arith in
        let much : 10000 < length (stepped (gapped row left right)) =
        omega (arith, step_long row left right g.gap inside own o some g.clean, g.room) in
        ap (λ (m : ℕ). first_no (step_questions m (gapped row left right))) up
        ∙ step_refused (n - 1) (gapped row left right) much

    -- the step is made
    pub step_made : 0 < n → own + long ≤ right + 1 → (latest' part' : List ℕ) (at : ℕ)
        → length part' ≡ length (take (right + 1 - own) (drop own row))
        → Conjugates (take (right + 1 - own) (drop own row)) part' (left - own) (get_or row (own - 1) 0) at
        → Tables row latest' before (own - 1)
        → Goes row left right n (take own row ++ (part' ++ drop (right + 1 - own) (drop own row))) latest' before
        (own - 1) (own + at) (n - 1)
    step_made p t latest' part' at s w tables =
        let h = g.gap in
        let up : n ≡ suc (n - 1) = omega arith in
        let is = word_after row left right h inside own o some part' at s w g.clean in
        let few : length (stepped (gapped row left right)) ≤ 10000 =
        omega (arith, step_long row left right h inside own o some g.clean, g.room) in
        let there = at_is row left right h inside own o some part' at s w in
        let low = own_inside row left right h inside own o some in
        record {
          gap =
              record {
                room = length_after row left right h inside own o some part' at s w ∙ g.room;
                beside = g.beside;
                gap = omega arith;
                within = omega (arith, low);
                lettered = ap (every is_letter) is ∙ step_lettered (gapped row left right) g.lettered;
                clean = free_after row left right h inside own o some part' at s w g.clean;
                tables =
                    tables_alike row (take own row ++ (part' ++ drop (right + 1 - own) (drop own row))) (own - 1)
                    (sym (front_stays row left right h inside own o some part' at s w)) tables;
              };
          same =
              subst (λ (m : ℕ). SameRun (n - 1)
              (gapped (take own row ++ (part' ++ drop (right + 1 - own) (drop own row))) (own - 1) (own + at)) m
              (gapped row left right)) (sym up) (one_step (n - 1) (gapped row left right) is few);
          less = omega arith;
        }

-- ---- nothing is after the gap

pub all_read : (row latest before : List ℕ) (left right n m : ℕ) (w : List ℕ) → Gap row latest before left right
    → 10001 ≤ right → SameRun m (gapped row left right) n w → Ended n w row left right false
all_read row latest before left right n m w g e s =
    record {
      gap = g.gap;
      within = g.within;
      answer_is = sym s.answer_is ∙ free_answers m (gapped row left right) free few;
      word_is = sym (steps_free m (gapped row left right) free) ∙ s.word_is;
      left_is = sym (ap has_handle (sym s.word_is ∙ steps_free m (gapped row left right) free) ∙ free);
    }
  where
    front : gapped row left right ≡ take left row
    front =
        let past : length row ≤ right = omega (arith, g.room) in
        ap (λ (x : List ℕ). take left row ++ x) (drop_of_length-le row past)
        ∙ append-nil (take left row)

    free : has_handle (gapped row left right) ≡ false
    free = ap has_handle front ∙ g.clean

    few : length (gapped row left right) ≤ 10000
    few =
        omega (
          arith,
          ap length front,
          length-take-le left row (omega (arith, g.room, g.gap, g.within)),
          g.gap,
          g.within,
        )
