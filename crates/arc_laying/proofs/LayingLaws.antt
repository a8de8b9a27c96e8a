-- Laws of laying: one more letter is read, written, or both.
use Prim.Native.Nat.{ℕ, ◌+◌, ◌≤◌, ◌<◌}
use mathlib.Core.Path.{◌≡◌, sym, subst}
use mathlib.Core.Bool.{Bool, true}
use mathlib.Core.List.{List, [], ◌∷◌, ◌++◌, append-nil}
use native.Mathlib.Numerals.{add-one}
use lib.ListN.{length, take, get_or, set}
use lib.Seq.{take-suc, take-suc-set}
use Rattle.word.specs.Letters.{is_letter, generator}
use Rattle.braid_arcs.specs.Arcs.{beside, Arc, none, other}
use Rattle.braid_arcs.proofs.ArcLaws.{arc_end, arc_on}
use Rattle.arc_strand.specs.steps.Strand.{IsOther}
use Rattle.arc_laying.specs.Plans.{PlacedAt, own, aside}
use Rattle.arc_laying.specs.steps.Laying.{LaidSoFar}

more : (l : List ℕ) (k : ℕ) → k < length l → take (k + 1) l ≡ take k l ++ (get_or l k 0 ∷ [])
more l k h = rw (add-one k) (take-suc l k 0 h)

stored : (l : List ℕ) (k c : ℕ) → k < length l → take (k + 1) (set l k c) ≡ take k l ++ (c ∷ [])
stored l k c h = rw (add-one k) (take-suc-set l k c h)

-- the strand's own letter after an arc
own_after : {under : Bool} {x y z c : ℕ} {l m : List ℕ} → Arc under x l y m → Arc under y (c ∷ []) z []
    → Arc under x (l ++ (c ∷ [])) z m
own_after {under} {x} {z = z} {c = c} {l = l} {m = m} a b =
    subst (λ (k : List ℕ). Arc under x (l ++ (c ∷ [])) z k) (append-nil m) (arc_on a b)

-- a letter of other strands after an arc
another : {under : Bool} {x y : ℕ} {l m : List ℕ} (d : ℕ) → Arc under x l y m → is_letter d ≡ true → 0 < generator d
    → (generator d ≡ y → ⊥)
    → Arc under x (l ++ (beside d y ∷ [])) y (m ++ (d ∷ []))
another d a e g n = arc_on a (other d e g n (none (arc_end a)))

module _ (under : Bool) (p : ℕ) (part out : List ℕ) (read written old new : ℕ)
    (laid : LaidSoFar under p part out read written old new) where
  -- the strand's own letter is read
  pub reads_own : (y : ℕ) → read < length part → Arc under old (get_or part read 0 ∷ []) y []
      → LaidSoFar under p part out (read + 1) written y new
  reads_own y h a =
      record {
        others = laid.others;
        was = rw (more part read h) (own_after laid.was a);
        is = laid.is;
      }

  -- the strand's own letter is written
  pub writes_own : (z c : ℕ) → written < length out → Arc under new (c ∷ []) z []
      → LaidSoFar under p part (set out written c) read (written + 1) old z
  writes_own z c h a =
      record {
        others = laid.others;
        was = laid.was;
        is = rw (stored out written c h) (own_after laid.is a);
      }

  -- a letter of other strands is read and written
  pub crosses : (d : ℕ) → read < length part → written < length out → IsOther old (get_or part read 0) d
      → (new ≡ generator d → ⊥)
      → LaidSoFar under p part (set out written (beside d new)) (read + 1) (written + 1) old new
  crosses d h k o n =
      record {
        others = laid.others ++ (d ∷ []);
        was =
            rw (more part read h, ← o.here)
            (another d laid.was o.letter o.later o.outside);
        is = rw (stored out written (beside d new) k) (another d laid.is o.letter o.later (λ s. n (sym s)));
      }

  -- the plan has a right place for the letter that is read: a letter of the strand, or a letter of other strands
  pub own_placed : (plan : List ℕ) (y : ℕ) → Arc under old (get_or part read 0 ∷ []) y []
      → PlacedAt under p part plan read
  own_placed plan y a =
      record { strand = old; others = laid.others; before = laid.was; placed = own a }

  pub other_placed : (plan : List ℕ) (d : ℕ) → IsOther old (get_or part read 0) d → (new ≡ generator d → ⊥)
      → new ≡ get_or plan read 0
      → PlacedAt under p part plan read
  other_placed plan d o n e =
      let stands : Arc under new (beside d new ∷ []) new (d ∷ []) =
      other d o.letter o.later (λ s. n (sym s)) (none (arc_end laid.is)) in
      record {
        strand = old;
        others = laid.others;
        before = laid.was;
        placed =
            aside {d = d}
            (rw (← o.here) (other d o.letter o.later o.outside (none (arc_end laid.was))))
            (subst (λ (t : ℕ). Arc under t (beside d t ∷ []) t (d ∷ [])) e stands);
      }

-- before the first letter, nothing is read and nothing is written
pub none_laid : (under : Bool) (p : ℕ) (part out : List ℕ) → p ≤ 7 → LaidSoFar under p part out 0 0 p p
none_laid under p part out h = record { others = []; was = none h; is = none h }
