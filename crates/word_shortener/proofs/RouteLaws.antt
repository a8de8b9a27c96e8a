-- Laws of the two ways to a shorter word: what each step leaves is the same braid, and how many letters it has.
use Prim.Native.Nat.{ℕ, ◌≤◌}
use mathlib.Core.Path.{◌≡◌, sym, ap, subst}
use mathlib.Core.List.{List}
use native.Mathlib.Omega.{arith}
use lib.ListN.{length, take, length-take}
use Rattle.base.specs.Questions.{first_no}
use Rattle.word.proofs.LetterLaws.{Lettered}
use Rattle.braid_same.specs.SameBraid.{SameBraid}
use Rattle.braid_same.proofs.Laws.{same_then, same_lettered}
use Rattle.braid_arcs.proofs.RelayingKeeps.{relays_same}
use Rattle.braid_handles.specs.Handles.{after_steps, step_questions}
use Rattle.braid_handles.proofs.StepKeeps.{steps_same}
use Rattle.arc_search.specs.Search.{Searched}
use Rattle.swap_cancel.specs.SwapCancel.{swap_cancelled, Cancelled}
use Rattle.swap_cancel.proofs.SwapCancelLaws.{cancelled_same, cancelled_irreducible, cancelled_fewer}
use Rattle.word_shortener.specs.Shortener.{most_steps}
use Rattle.word_shortener.specs.steps.Routes.{ShortWord, BothWays}

pub arcs_lettered : {n m : ℕ} {row mid : List ℕ} → Searched n row mid m → Lettered (take n row) → Lettered (take m mid)
arcs_lettered s e = same_lettered (relays_same s.relays) e

-- arcs, and then swap and cancel
pub arcs_laid : {n m r : ℕ} {row mid after : List ℕ} → Searched n row mid m → Cancelled m mid after r
    → Lettered (take n row)
    → ShortWord n (take n row) after r
arcs_laid s c e =
    let letters = arcs_lettered s e in
    record {
      not_longer = omega (arith, s.not_longer, cancelled_fewer c);
      same = same_then (relays_same s.relays) (cancelled_same c letters);
      irreducible = cancelled_irreducible c letters;
    }

module _ {n m : ℕ} {row mid : List ℕ} (c : Cancelled n row mid m) (e : Lettered (take n row)) where
  pub cancelled_lettered : Lettered (take m mid)
  cancelled_lettered = same_lettered (cancelled_same c e) e

  -- swap and cancel, and then arcs
  pub laid_on : {r : ℕ} {after : List ℕ} → ShortWord m (take m mid) after r
      → ShortWord (length (swap_cancelled (take n row))) (take n row) after r
  laid_on l =
      record {
        not_longer = omega (arith, l.not_longer, c.count_is);
        same = same_then (cancelled_same c e) l.same;
        irreducible = l.irreducible;
      }

  -- effort 0
  pub no_effort : {effort : ℕ} → effort ≡ 0 → BothWays effort (take n row) mid m
  no_effort z =
      record {
        laid =
            record {
              not_longer = omega (arith, c.count_is);
              same = cancelled_same c e;
              irreducible = cancelled_irreducible c e;
            };
        saves =
            record {
              without_effort = λ y. c.word_is;
              not_longer = omega (arith, ap length c.word_is);
              after_handles = λ h. absurd (h z);
            };
      }

-- Effort over 0: the new word is not longer than what swapping and cancelling leaves. If handle reduction is not
-- refused, the new word is not longer than what swapping and cancelling leaves after it either.
pub with_effort : {effort r : ℕ} {old after : List ℕ} → (effort ≡ 0 → ⊥)
    → ShortWord (length (swap_cancelled old)) old after r
    → (first_no (step_questions most_steps old) ≡ 0 → r ≤ length (swap_cancelled (after_steps most_steps old)))
    → BothWays effort old after r
with_effort {r = r} {after = after} h l handles =
    record {
      laid = l;
      saves =
          record {
            without_effort = λ z. absurd (h z);
            not_longer = omega (arith, length-take r after, l.not_longer);
            after_handles = λ y z. omega (arith, length-take r after, handles z);
          };
    }

-- handles out, swap and cancel, and then arcs
pub second_way : {letters m r : ℕ} {out mid after : List ℕ} (old : List ℕ) → Lettered old
    → take letters out ≡ after_steps most_steps old
    → Cancelled letters out mid m
    → ShortWord m (take m mid) after r
    → ShortWord (length (swap_cancelled (after_steps most_steps old))) old after r
second_way {letters = letters} {out = out} old e is c l =
    let same : SameBraid old (take letters out) =
    subst (λ (v : List ℕ). SameBraid old v) (sym is) (steps_same most_steps old e) in
    let on = laid_on c (same_lettered same e) l in
    record {
      not_longer = rw (← is) on.not_longer;
      same = same_then same on.same;
      irreducible = on.irreducible;
    }

-- the second word, in the first row
pub taken_over : {m s r : ℕ} {old there after : List ℕ} → ShortWord s old there r → r ≤ m → take r after ≡ take r there
    → ShortWord m old after r
taken_over l h e = record { not_longer = h; same = rw e l.same; irreducible = rw e l.irreducible }
