-- Laws of relaying: a part of the word is replaced by a new part, and a word in which an arc is relaid is a word after
-- `Relays`.
use Prim.Native.Nat.{ℕ, ◌+◌, ◌-◌, ◌≤◌}
use mathlib.Core.Path.{◌≡◌, ap, ◌∙◌}
use mathlib.Core.Bool.{Bool}
use mathlib.Core.List.{List, ◌++◌}
use mathlib.Core.Logic.{inl, inr}
use native.Mathlib.Omega.{arith}
use lib.ListN.{length, take, drop, length-drop}
use lib.Seq.{length-take-le, take-add, take-append-add, take-append-le, drop_at}
use Rattle.base.specs.Digits.{part}
use Rattle.braid_arcs.specs.Arcs.{Relaid, Relays, done, then}
use Rattle.arc_laying.specs.Plans.{Plan}
use Rattle.arc_relay.specs.Relay.{Replaced, Relayed}
use Rattle.arc_relay.proofs.RowLaws.{split_part}

module _ (row : List ℕ) (n b e : ℕ) (h : b ≤ e) (k : e ≤ n) (l : n ≤ length row) where
  -- the letters from b to n
  abbrev behind : List ℕ
  behind = take (n - b) (drop b row)

  length_behind : length behind ≡ n - b
  length_behind = length-take-le (n - b) (drop b row) (omega (arith, length-drop b row))

  old_length : length (part b (e - b) row) ≡ e - b
  old_length = length-take-le (e - b) (drop b row) (omega (arith, length-drop b row))

  -- `mid` replaces the letters from b to n, and begins with the new part and then the letters from e to n
  pub is_replaced : (p m : ℕ) (under : Bool) (plan out mid : List ℕ) → m ≤ e - b → m ≤ length out
      → length mid ≡ length behind
      → take (length behind - (e - b - length (take m out))) mid ≡ take m out ++ drop (e - b) behind
      → Relaid under p (part b (e - b) row) (take m out)
      → Plan under p (part b (e - b) row) plan
      → Replaced n b e p under plan row (take b row ++ (mid ++ drop (n - b) (drop b row))) (n - (e - b - m))
  is_replaced p m under plan out mid few room size mid_is relaid planned =
      let new = length-take-le m out room in
      let rest : drop (e - b) behind ≡ part e (n - e) row =
      ap (drop (e - b)) (split_part row b e n h k l) ∙ drop_at (part b (e - b) row) (part e (n - e) row)
      (e - b) old_length in
      let front = length-take-le b row (omega arith) in
      let kept : ℕ = length behind - (e - b - length (take m out)) in
      let sum : n - (e - b - m) ≡ length (take b row) + kept = omega (arith, length_behind) in
      let after = drop (n - b) (drop b row) in
      record {
        inside = (h, k, l);
        new = take m out;
        relaid = relaid;
        planned = planned;
        letters = omega arith;
        word =
            ap (λ (j : ℕ). take j (take b row ++ (mid ++ after))) sum
            ∙ take-append-add (take b row) (mid ++ after) kept
            ∙ ap (λ (x : List ℕ). take b row ++ x)
            (take-append-le kept mid after (omega arith) ∙ mid_is ∙ ap (λ (x : List ℕ). take m out ++ x) rest);
      }

-- ---- what relaying leaves

-- the word after relaying is reached by relaying arcs
pub relayed_relays : {n b e p r : ℕ} {under : Bool} {plan before after : List ℕ}
    → Relayed n b e p under plan before after r
    → Relays (take n before) (take r after)
relayed_relays {n} {before = before} (inl (s, t)) = rw (s, t) done
relayed_relays {n} {b} {e} {r = r} {before = before} {after = after} (inr x) =
    let (h, k, l) = x.inside in
    let sum : n ≡ b + (n - b) = omega arith in
    let whole : take n before ≡ take b before ++ (part b (e - b) before ++ part e (n - e) before) =
    ap (λ (j : ℕ). take j before) sum
    ∙ take-add b (n - b) before
    ∙ ap (λ (y : List ℕ). take b before ++ y) (split_part before b e n h k l) in
    then {v = take r after} (take b before) (part b (e - b) before) x.new (part e (n - e) before) whole x.relaid
    (rw x.word done)

-- the word after relaying has not more letters
pub relayed_fewer : {n b e p r : ℕ} {under : Bool} {plan before after : List ℕ}
    → Relayed n b e p under plan before after r
    → r ≤ n
relayed_fewer (inl (s, t)) = omega arith
relayed_fewer {n} {b} {e} {before = before} (inr x) =
    let (h, k, l) = x.inside in
    omega (
      arith,
      x.letters,
      x.relaid.not_longer,
      length-take-le (e - b) (drop b before) (omega
          (arith, length-drop b before)),
    )
