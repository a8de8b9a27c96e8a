-- Cancellations leave the same braid: one move of kind 1, several of them, and therefore free reduction.
use Prim.Native.Nat.{ℕ, ◌+◌}
use mathlib.Core.Path.{◌≡◌, subst}
use mathlib.Core.List.{List, [], ◌∷◌, ◌++◌}
use native.Mathlib.Omega.{arith}
use lib.ListN.{take, drop, get_or}
use Rattle.base.specs.Questions.{first_no}
use Rattle.base.proofs.ListLaws.{every_get_d}
use Rattle.word.specs.Letters.{is_letter}
use Rattle.word.specs.Cancellation.{Cancels, done, then, removal}
use Rattle.word.specs.Reduction.{reduced}
use Rattle.word.proofs.LetterLaws.{Lettered}
use Rattle.word.proofs.CancellationLaws.{around, accepted_fits, accepted_inverse, reduced_reached}
use Rattle.braid_same.specs.SameBraid.{SameBraid}
use Rattle.braid_same.proofs.Laws.{same_lettered, same_none, same_then, same_inside}
use Rattle.braid_same.proofs.Relations.{cancelled}

-- the part x of a word, which is its n letters from a place on, is replaced by y
pub same_at : (w : List ℕ) (place n : ℕ) {x y : List ℕ} → take place w ++ (x ++ drop (place + n) w) ≡ w → SameBraid x y
    → SameBraid w (take place w ++ (y ++ drop (place + n) w))
same_at w place n {x} {y} whole s =
    subst (λ (t : List ℕ). SameBraid t (take place w ++ (y ++ drop (place + n) w))) whole
    (same_inside (take place w) (drop (place + n) w) s)

-- one move of kind 1
pub removal_same : (place : ℕ) (w : List ℕ) → first_no (removal place w).questions ≡ 0 → Lettered w
    → SameBraid w (removal place w).word
removal_same place w a e =
    let c : ℕ = get_or w place 0 in
    let fits = accepted_fits place w a in
    let part : SameBraid (c ∷ get_or w (place + 1) 0 ∷ []) [] =
    rw (accepted_inverse place w a) (cancelled c (every_get_d is_letter w e place (omega arith))) in
    same_at w place 2 (around place w fits) part

-- several moves of kind 1
cancels_same : {w v : List ℕ} → Cancels w v → Lettered w → SameBraid w v
cancels_same {w} done e = same_none w
cancels_same (then {w = w} place a rest) e =
    let s = removal_same place w a e in same_then s (cancels_same rest (same_lettered s e))

-- the freely reduced word
pub reduced_same : (w : List ℕ) → Lettered w → SameBraid w (reduced w)
reduced_same w e = cancels_same (reduced_reached w) e
