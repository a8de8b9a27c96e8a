-- The braid relation on one row, as a function of the column, over any binary field. Three letters at g, g + 1, g and
-- three letters at g + 1, g, g + 1 give the same row, if their shares satisfy four identities of the field. The shares
-- of positive letters and of inverse letters satisfy them.
use Prim.Native.Nat.{ℕ, ◌+◌}
use mathlib.Core.Path.{◌≡◌, refl, sym, ap₂, ◌∙◌}
use native.Mathlib.Omega.{arith}
use Rattle.field.specs.Binary.{Operations, BinaryField}
use Rattle.field.proofs.Ring.{ring}
use Rattle.pair.specs.Action.{Share, row_after, positive_share, inverse_share}
use Rattle.pair.proofs.RowLaws.{Near, before, own, after, other, near, placed, row_after_is}

-- The first way has letters at g, g + 1, g with shares p, q, r. The second way has letters at g + 1, g, g + 1 with
-- shares u, v, w. y and z are the entries at g and g + 1. In the first way the second letter finds `inner` in its own
-- column, and the third letter finds `outer`. In the second way they find `inner'` and `outer'`.
abbrev inner : Operations → Share → ℕ → ℕ → ℕ
inner F p y z = F.add z (p.after y)

abbrev outer : Operations → Share → Share → ℕ → ℕ → ℕ
outer F p q y z = F.add (p.own y) (q.before (inner F p y z))

abbrev inner' : Operations → Share → ℕ → ℕ → ℕ
inner' F u y z = F.add y (u.before z)

abbrev outer' : Operations → Share → Share → ℕ → ℕ → ℕ
outer' F u v y z = F.add (u.own z) (v.after (inner' F u y z))

-- both ways give the same entries in the columns g - 1, g, g + 1 and g + 2
pub record Braids (F : Operations) (p q r u v w : Share) : Type 0 where
  pub before : (x y z : ℕ)
      → F.add (F.add x (p.before y)) (r.before (outer F p q y z)) ≡ F.add x (v.before (inner' F u y z))
  pub first : (y z : ℕ) → r.own (outer F p q y z) ≡ F.add (v.own (inner' F u y z)) (w.before (outer' F u v y z))
  pub second : (y z : ℕ) → F.add (q.own (inner F p y z)) (r.after (outer F p q y z)) ≡ w.own (outer' F u v y z)
  pub after : (x y z : ℕ)
      → F.add x (q.after (inner F p y z)) ≡ F.add (F.add x (u.after z)) (w.after (outer' F u v y z))

module _ {F : Operations} {p q r u v w : Share} (b : Braids F p q r u v w) where
  placed_braid : {c g : ℕ} (n : Near c g) (m : Near c (g + 1)) (x y z : ℕ)
      → placed F r n (placed F q m (placed F p n x y) (inner F p y z)) (outer F p q y z)
      ≡ placed F w m (placed F v n (placed F u m x z) (inner' F u y z)) (outer' F u v y z)
  placed_braid (before e) (before d) x y z = absurd (omega arith)
  placed_braid (before e) (own d) x y z = absurd (omega arith)
  placed_braid (before e) (after d) x y z = absurd (omega arith)
  placed_braid (before e) (other i j k) x y z = b.before x y z
  placed_braid (own e) (before d) x y z = b.first y z
  placed_braid (own e) (own d) x y z = absurd (omega arith)
  placed_braid (own e) (after d) x y z = absurd (omega arith)
  placed_braid (own e) (other i j k) x y z = absurd (omega arith)
  placed_braid (after e) (before d) x y z = absurd (omega arith)
  placed_braid (after e) (own d) x y z = b.second y z
  placed_braid (after e) (after d) x y z = absurd (omega arith)
  placed_braid (after e) (other i j k) x y z = absurd (omega arith)
  placed_braid (other i j k) (before d) x y z = absurd (omega arith)
  placed_braid (other i j k) (own d) x y z = absurd (omega arith)
  placed_braid (other i j k) (after d) x y z = b.after x y z
  placed_braid (other i j k) (other i' j' k') x y z = refl

  pub row_braid : (g : ℕ) (row : ℕ → ℕ) (c : ℕ)
      → row_after F r g (row_after F q (g + 1) (row_after F p g row)) c
      ≡ row_after F w (g + 1) (row_after F v g (row_after F u (g + 1) row)) c
  row_braid g row c =
      let n : Near c g = near c g in
      let m : Near c (g + 1) = near c (g + 1) in
      let one : row_after F p g row (g + 1) ≡ inner F p (row g) (row (g + 1)) = row_after_is F p (after refl) row in
      let two : row_after F q (g + 1) (row_after F p g row) g ≡ outer F p q (row g) (row (g + 1)) =
      row_after_is F q (before refl) (row_after F p g row)
      ∙ ap₂ (λ (i j : ℕ). F.add i (q.before j)) (row_after_is F p (own refl) row) one in
      let one' : row_after F u (g + 1) row g ≡ inner' F u (row g) (row (g + 1)) = row_after_is F u (before refl) row in
      let two' : row_after F v g (row_after F u (g + 1) row) (g + 1) ≡ outer' F u v (row g) (row (g + 1)) =
      row_after_is F v (after refl) (row_after F u (g + 1) row)
      ∙ ap₂ (λ (i j : ℕ). F.add i (v.after j)) (row_after_is F u (own refl) row) one' in
      (row_after_is F r n (row_after F q (g + 1) (row_after F p g row))
      ∙ ap₂ (placed F r n) (row_after_is F q m (row_after F p g row) ∙ ap₂ (placed F q m) (row_after_is F p n row) one)
      two)
      ∙ placed_braid n m (row c) (row g) (row (g + 1))
      ∙ sym (row_after_is F w m (row_after F v g (row_after F u (g + 1) row))
      ∙ ap₂ (placed F w m)
      (row_after_is F v n (row_after F u (g + 1) row) ∙ ap₂ (placed F v n) (row_after_is F u m row) one') two')

-- The identities of positive letters. The T-values are a, a, b in the first way and b, a, a in the second.
module _ {F : Operations} (L : BinaryField F) (a b x y z : ℕ) where
  positive_before : F.add (F.add x (F.mul a y)) (F.mul b (F.add (F.mul a y) (F.mul a (F.add z y))))
      ≡ F.add x (F.mul a (F.add y (F.mul b z)))
  positive_before = simp ring

  positive_first : F.mul b (F.add (F.mul a y) (F.mul a (F.add z y)))
      ≡ F.add (F.mul a (F.add y (F.mul b z))) (F.mul a (F.add (F.mul b z) (F.add y (F.mul b z))))
  positive_first = simp ring

  positive_second : F.add (F.mul a (F.add z y)) (F.add (F.mul a y) (F.mul a (F.add z y)))
      ≡ F.mul a (F.add (F.mul b z) (F.add y (F.mul b z)))
  positive_second = simp ring

  positive_after : F.add x (F.add z y) ≡ F.add (F.add x z) (F.add (F.mul b z) (F.add y (F.mul b z)))
  positive_after = simp ring

-- The identities of inverse letters. The reciprocals are a, b, b in the first way and b, b, a in the second.
module _ {F : Operations} (L : BinaryField F) (a b x y z : ℕ) where
  inverse_before : F.add (F.add x y) (F.add (F.mul a y) (F.add z (F.mul a y))) ≡ F.add x (F.add y z)
  inverse_before = simp ring

  inverse_first_lem : F.mul b (F.add (F.mul a y) (F.add z (F.mul a y)))
      ≡ F.add (F.mul b (F.add y z)) (F.add (F.mul b z) (F.mul b (F.add y z)))
  inverse_first_lem = simp ring

  inverse_second : F.add (F.mul b (F.add z (F.mul a y))) (F.mul b (F.add (F.mul a y) (F.add z (F.mul a y))))
      ≡ F.mul a (F.add (F.mul b z) (F.mul b (F.add y z)))
  inverse_second = simp ring

  inverse_after : F.add x (F.mul b (F.add z (F.mul a y)))
      ≡ F.add (F.add x (F.mul b z)) (F.mul a (F.add (F.mul b z) (F.mul b (F.add y z))))
  inverse_after = simp ring

module _ {F : Operations} (L : BinaryField F) (a b : ℕ) where
  pub positive_braids : Braids F (positive_share F a) (positive_share F a) (positive_share F b) (positive_share F b)
      (positive_share F a) (positive_share F a)
  positive_braids =
      record {
        before = positive_before L a b;
        first = positive_first L a b 0;
        second = positive_second L a b 0;
        after = positive_after L a b;
      }

  pub inverse_braids : Braids F (inverse_share F a) (inverse_share F b) (inverse_share F b) (inverse_share F b)
      (inverse_share F b) (inverse_share F a)
  inverse_braids =
      record {
        before = inverse_before L a b;
        first = inverse_first_lem L a b 0;
        second = inverse_second L a b 0;
        after = inverse_after L a b;
      }
