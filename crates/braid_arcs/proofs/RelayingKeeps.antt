-- A word in which arcs are laid anew is the same braid and not longer. `there x` is the word in which the strand goes
-- from place 0 to place x. For an arc from x to y, `there x` and then the arc are the same braid as the arc's other
-- letters, with the strand at place 0, and then `there y`. So two arcs with the same ends and the same other letters
-- are the same braid.
use Prim.Native.Nat.{ℕ, zero, suc, ◌+◌, ◌-◌, ◌≤◌, ◌<◌}
use mathlib.Core.Path.{◌≡◌, sym, subst}
use mathlib.Core.Bool.{Bool, true}
use mathlib.Core.List.{List, [], ◌∷◌, ◌++◌, append_assoc, append-nil}
use mathlib.Core.Logic.{inl, inr}
use native.Mathlib.Omega.{arith}
use native.Mathlib.Decide.{ℕ_discrete, dec_lt}
use borrow.Author.Tests.{le-leb, lt-leb}
use Rattle.word.specs.Letters.{is_letter, generator, inverse}
use Rattle.word.proofs.LetterLaws.{generator_below}
use Rattle.braid_same.specs.SameBraid.{SameBraid}
use Rattle.braid_same.proofs.Laws.{same_none, same_then, same_turned, same_append, same_inside}
use Rattle.braid_same.proofs.Relations.{cancelled, exchanged}
use Rattle.braid_same.proofs.Turns.{cancelled_back, turned_up}
use Rattle.braid_arcs.specs.Arcs.{rightward, leftward, beside, Arc, none, right, left, other, Relaid, Relays}
use Rattle.braid_arcs.specs.Arcs.{done, then}
use Rattle.braid_arcs.proofs.ArcLaws.{right_letter, right_generator, right_next, left_inverse, lower, arc_start}

-- the strand coming from place 0 to place x
abbrev there : Bool → ℕ → List ℕ
there under zero = []
there under (suc x) = there under x ++ (rightward under x ∷ [])

-- ---- letters of other strands

module _ (under : Bool) (d : ℕ) (e : is_letter d ≡ true) where
  -- the strand stays before both strands of d
  before_both : (x : ℕ) → x < generator d → SameBraid (there under x ++ (d ∷ [])) (d ∷ there under x)
  before_both zero h = same_none (d ∷ [])
  before_both (suc x) h =
      let r : ℕ = rightward under x in
      let l : x < 7 = omega (arith, generator_below d e) in
      let g = right_generator under x l in
      rw (append_assoc (there under x) (r ∷ []) (d ∷ []))
      (same_then
      (same_append (same_none (there under x)) (exchanged r d (right_letter under x l) e (inl (omega arith))))
      (rw (← append_assoc (there under x) (d ∷ []) (r ∷ []))
      (same_append (before_both x (omega arith)) (same_none (r ∷ [])))))

  -- the strand passes the first strand of d, and then the second
  passes_second : (x : ℕ) → generator d ≡ suc x → x < 6
      → SameBraid (there under (suc (suc x)) ++ ((d - 1) ∷ [])) (d ∷ there under (suc (suc x)))
  passes_second x s l =
      let c : ℕ = rightward under x in
      let before = there under x in
      let above : generator d ≡ generator c + 1 = omega (arith, right_generator under x (omega arith)) in
      rw (
        right_next under x,
        append_assoc (before ++ (c ∷ [])) ((c + 1) ∷ []) ((d - 1) ∷ []),
        append_assoc before (c ∷ []) ((c + 1) ∷ (d - 1) ∷ []),
        append_assoc before (c ∷ []) ((c + 1) ∷ []),
      )
      (same_then (same_append (same_none before) (turned_up c d (right_letter under x (omega arith)) e above))
      (rw (← append_assoc before (d ∷ []) (c ∷ (c + 1) ∷ []))
      (same_append (before_both x (omega arith)) (same_none (c ∷ (c + 1) ∷ [])))))

  -- the strand goes on from a place behind both strands of d
  goes_on : 0 < generator d → (x : ℕ) → x < 7 → generator d < x
      → SameBraid (there under x ++ ((d - 1) ∷ [])) (d ∷ there under x)
      → SameBraid (there under (suc x) ++ ((d - 1) ∷ [])) (d ∷ there under (suc x))
  goes_on g x l h s =
      let r : ℕ = rightward under x in
      let apart : generator (d - 1) + 2 ≤ generator r = omega (arith, right_generator under x l) in
      rw (append_assoc (there under x) (r ∷ []) ((d - 1) ∷ []))
      (same_then
      (same_append (same_none (there under x))
      (exchanged r (d - 1) (right_letter under x l) (lower d e g) (inr apart)))
      (rw (← append_assoc (there under x) ((d - 1) ∷ []) (r ∷ [])) (same_append s (same_none (r ∷ [])))))

  -- the strand comes to a place behind both strands of d
  behind_both : 0 < generator d → (x : ℕ) → x ≤ 7 → generator d < x
      → SameBraid (there under x ++ ((d - 1) ∷ [])) (d ∷ there under x)
  behind_both g zero b h = absurd (omega arith)
  behind_both g (suc zero) b h = absurd (omega arith)
  behind_both g (suc (suc x)) b h =
      at (ℕ_discrete (generator d) (suc x)) (λ n. behind_both g (suc x) (omega arith) (omega arith))
    where
      at : Dec (generator d ≡ suc x)
          → ((generator d ≡ suc x → ⊥) → SameBraid (there under (suc x) ++ ((d - 1) ∷ [])) (d ∷ there under (suc x)))
          → SameBraid (there under (suc (suc x)) ++ ((d - 1) ∷ [])) (d ∷ there under (suc (suc x)))
      at (yes s) f = passes_second x s (omega arith)
      at (no n) f = goes_on g (suc x) (omega arith) (omega arith) (f n)

  -- the strand at a place that is not between both strands of d
  passes : 0 < generator d → (x : ℕ) → x ≤ 7 → (generator d ≡ x → ⊥)
      → SameBraid (there under x ++ (beside d x ∷ [])) (d ∷ there under x)
  passes g x b n = at (dec_lt x (generator d))
    where
      at : Dec (x < generator d) → SameBraid (there under x ++ (beside d x ∷ [])) (d ∷ there under x)
      at (yes h) = rw (le-leb x (generator d) (omega arith)) (before_both x h)
      at (no h) = rw (lt-leb x (generator d) (omega arith)) (behind_both g x b (omega arith))

-- ---- arcs

arc_comes : {under : Bool} {x y : ℕ} {part others : List ℕ} → Arc under x part y others
    → SameBraid (there under x ++ part) (others ++ there under y)
arc_comes {under} (none {x = x} h) = rw (append-nil (there under x)) (same_none (there under x))
arc_comes {under} (right {x = x} {part = part} h a) =
    rw (← append_assoc (there under x) (rightward under x ∷ []) part) (arc_comes a)
arc_comes {under} (left {x = x} {part = part} h a) =
    let r : ℕ = rightward under x in
    rw (append_assoc (there under x) (r ∷ []) (leftward under x ∷ part), left_inverse under x h)
    (same_then (same_append (same_none (there under x)) (same_append (cancelled r (right_letter under x h))
    (same_none part)))
    (arc_comes a))
arc_comes {under} (other {x = x} {part = part} d e g n a) =
    rw (← append_assoc (there under x) (beside d x ∷ []) part)
    (same_then (same_append (passes under d e g x (arc_start a) n) (same_none part))
    (same_append (same_none (d ∷ [])) (arc_comes a)))

-- ---- the same front taken off both words

unlead : (c : ℕ) → is_letter c ≡ true → {v w : List ℕ} → SameBraid (c ∷ v) (c ∷ w) → SameBraid v w
unlead c e {v} {w} s =
    same_then (same_turned (same_append (cancelled_back c e) (same_none v)))
    (same_then (same_append (same_none (inverse c ∷ [])) s) (same_append (cancelled_back c e) (same_none w)))

after_there : (under : Bool) (x : ℕ) → x ≤ 7 → {v w : List ℕ} → SameBraid (there under x ++ v) (there under x ++ w)
    → SameBraid v w
after_there under zero h s = s
after_there under (suc x) h {v} {w} s =
    let r : ℕ = rightward under x in
    let s' : SameBraid (there under x ++ (r ∷ v)) (there under x ++ (r ∷ w)) =
    rw (append_assoc (there under x) (r ∷ []) v, append_assoc (there under x) (r ∷ []) w) at s in
    unlead r (right_letter under x (omega arith)) (after_there under x (omega arith) s')

-- ---- words

pub relaid_same : {under : Bool} {start : ℕ} {old new : List ℕ} → Relaid under start old new → SameBraid old new
relaid_same {under} {start} r =
    after_there under start (arc_start r.was) (same_then (arc_comes r.was) (same_turned (arc_comes r.is)))

pub relays_same : {w v : List ℕ} → Relays w v → SameBraid w v
relays_same {w} done = same_none w
relays_same (then {v = v} front old new rest e r on) =
    subst (λ (t : List ℕ). SameBraid t v) (sym e) (same_then (same_inside front rest (relaid_same r)) (relays_same on))

-- arcs may be laid anew after others
pub relays_on : {w v u : List ℕ} → Relays w v → Relays v u → Relays w u
relays_on done q = q
relays_on (then front old new rest e r on) q = then front old new rest e r (relays_on on q)
