-- Laws of one letter on one row, as a function of the column, for any share and any binary field: what becomes of each
-- column, bounds, far letters commute, a letter and its inverse cancel.
use Prim.Native.Nat.{ℕ, ◌+◌, ◌<◌, ◌≤◌}
use mathlib.Core.Path.{◌≡◌, refl, sym, ap, ap₂, ◌∙◌}
use mathlib.Core.Bool.{false}
use native.Mathlib.Omega.{arith}
use native.Mathlib.Decide.{ℕ_discrete}
use borrow.Author.Tests.{eq-eqb, ne_eqb}
use lib.Dec.{eqb}
use Rattle.field.specs.Binary.{Operations, BinaryField}
use Rattle.field.proofs.Ring.{ring, reciprocals}
use Rattle.pair.specs.Action.{Share, row_after, positive_share, inverse_share}

-- how near a column c is to a letter's own column g
pub data Near (c g : ℕ) : Type 0 where
  before : c + 1 ≡ g → Near c g
  own : c ≡ g → Near c g
  after : c ≡ g + 1 → Near c g
  other : (c + 1 ≡ g → ⊥) → (c ≡ g → ⊥) → (c ≡ g + 1 → ⊥) → Near c g

pub near : (c g : ℕ) → Near c g
near c g = go (ℕ_discrete (c + 1) g) (ℕ_discrete c g) (ℕ_discrete c (g + 1))
  where
    go : Dec (c + 1 ≡ g) → Dec (c ≡ g) → Dec (c ≡ g + 1) → Near c g
    go (yes e) d f = before e
    go (no a) (yes e) f = own e
    go (no a) (no b) (yes e) = after e
    go (no a) (no b) (no n) = other a b n

-- the entry x after the letter, where y is the entry in the letter's own column
abbrev pub placed : {c g : ℕ} → Operations → Share → Near c g → ℕ → ℕ → ℕ
placed F s (before e) x y = F.add x (s.before y)
placed F s (own e) x y = s.own y
placed F s (after e) x y = F.add x (s.after y)
placed F s (other a b n) x y = x

pub row_after_is : (F : Operations) (s : Share) {c g : ℕ} (n : Near c g) (row : ℕ → ℕ)
    → row_after F s g row c ≡ placed F s n (row c) (row g)
unfolding row_after
row_after_is F s {c} {g} (before e) row = simp (eq-eqb (c + 1) g e)
row_after_is F s {c} {g} (own e) row =
    let a : eqb (c + 1) g ≡ false = ne_eqb (c + 1) g (omega arith) in simp (a, eq-eqb c g e)
row_after_is F s {c} {g} (after e) row =
    let a : eqb (c + 1) g ≡ false = ne_eqb (c + 1) g (omega arith) in
    let b : eqb c g ≡ false = ne_eqb c g (omega arith) in simp (a, b, eq-eqb c (g + 1) e)
row_after_is F s {c} {g} (other a b n) row = simp (ne_eqb (c + 1) g a, ne_eqb c g b, ne_eqb c (g + 1) n)

-- `row_after` reads only the entry itself and the entry in the letter's own column
pub row_after_same : (F : Operations) (s : Share) (g c : ℕ) (row row' : ℕ → ℕ) → row c ≡ row' c → row g ≡ row' g
    → row_after F s g row c ≡ row_after F s g row' c
row_after_same F s g c row row' e d =
    row_after_is F s (near c g) row ∙ ap₂ (placed F s (near c g)) e d ∙ sym (row_after_is F s (near c g) row')

-- a share takes elements to elements
pub record Keeps (F : Operations) (s : Share) : Type 0 where
  pub before : (y : ℕ) → y < F.size → s.before y < F.size
  pub own : (y : ℕ) → y < F.size → s.own y < F.size
  pub after : (y : ℕ) → y < F.size → s.after y < F.size

module _ {F : Operations} (L : BinaryField F) where
  placed_below : (s : Share) {c g : ℕ} (n : Near c g) (x y : ℕ) → Keeps F s → x < F.size → y < F.size
      → placed F s n x y < F.size
  placed_below s (before e) x y k hx hy = L.add_below hx (k.before y hy)
  placed_below s (own e) x y k hx hy = k.own y hy
  placed_below s (after e) x y k hx hy = L.add_below hx (k.after y hy)
  placed_below s (other a b n) x y k hx hy = hx

  pub row_after_below : (s : Share) (g c : ℕ) (row : ℕ → ℕ) → Keeps F s → row c < F.size → row g < F.size
      → row_after F s g row c < F.size
  row_after_below s g c row k hc hg =
      rw (row_after_is F s (near c g) row) (placed_below s (near c g) (row c) (row g) k hc hg)

  pub positive_keeps : (t : ℕ) → Keeps F (positive_share F t)
  positive_keeps t = record { before = λ y h. L.mul_below t y; own = λ y h. L.mul_below t y; after = λ y h. h }

  pub inverse_keeps : (s : ℕ) → Keeps F (inverse_share F s)
  inverse_keeps s = record { before = λ y h. h; own = λ y h. L.mul_below s y; after = λ y h. L.mul_below s y }

  -- Far letters with any shares commute. Each letter leaves the other letter's own column unchanged, and a column
  -- between them gains from both.
  placed_far : (s t : Share) {c g k : ℕ} → g + 2 ≤ k → (n : Near c g) (m : Near c k) (x y z : ℕ)
      → placed F t m (placed F s n x y) z ≡ placed F s n (placed F t m x z) y
  placed_far s t f (other a b n) m x y z = refl
  placed_far s t f (before e) (before d) x y z = absurd (omega arith)
  placed_far s t f (before e) (own d) x y z = absurd (omega arith)
  placed_far s t f (before e) (after d) x y z = absurd (omega arith)
  placed_far s t f (before e) (other a b n) x y z = refl
  placed_far s t f (own e) (before d) x y z = absurd (omega arith)
  placed_far s t f (own e) (own d) x y z = absurd (omega arith)
  placed_far s t f (own e) (after d) x y z = absurd (omega arith)
  placed_far s t f (own e) (other a b n) x y z = refl
  placed_far s t f (after e) (before d) x y z = simp ring
  placed_far s t f (after e) (own d) x y z = absurd (omega arith)
  placed_far s t f (after e) (after d) x y z = absurd (omega arith)
  placed_far s t f (after e) (other a b n) x y z = refl

  pub row_far : (s t : Share) (g k : ℕ) (row : ℕ → ℕ) (c : ℕ) → g + 2 ≤ k
      → row_after F t k (row_after F s g row) c ≡ row_after F s g (row_after F t k row) c
  row_far s t g k row c f =
      let n : Near c g = near c g in
      let m : Near c k = near c k in
      let u : row_after F s g row k ≡ row k = row_after_is F s (other (omega arith) (omega arith) (omega arith)) row in
      let v : row_after F t k row g ≡ row g = row_after_is F t (other (omega arith) (omega arith) (omega arith)) row in
      row_after_is F t m (row_after F s g row)
      ∙ ap₂ (placed F t m) (row_after_is F s n row) u
      ∙ placed_far s t f n m (row c) (row g) (row k)
      ∙ sym (row_after_is F s n (row_after F t k row) ∙ ap₂ (placed F s n) (row_after_is F t m row) v)

-- the share t undoes the share s on the elements of the field
pub record Undoes (F : Operations) (s t : Share) : Type 0 where
  pub before : (x y : ℕ) → y < F.size → F.add (F.add x (s.before y)) (t.before (s.own y)) ≡ x
  pub own : (y : ℕ) → y < F.size → t.own (s.own y) ≡ y
  pub after : (x y : ℕ) → y < F.size → F.add (F.add x (s.after y)) (t.after (s.own y)) ≡ x

placed_undone : (F : Operations) (s t : Share) {c g : ℕ} → Undoes F s t → (n : Near c g) (row : ℕ → ℕ) → row g < F.size
    → placed F t n (placed F s n (row c) (row g)) (s.own (row g)) ≡ row c
placed_undone F s t {c} {g} u (before e) row h = u.before (row c) (row g) h
placed_undone F s t {c} {g} u (own e) row h = u.own (row g) h ∙ ap row (sym e)
placed_undone F s t {c} {g} u (after e) row h = u.after (row c) (row g) h
placed_undone F s t {c} {g} u (other a b n) row h = refl

pub row_undone : (F : Operations) (s t : Share) (g : ℕ) (row : ℕ → ℕ) (c : ℕ) → Undoes F s t → row g < F.size
    → row_after F t g (row_after F s g row) c ≡ row c
row_undone F s t g row c u h =
    let n : Near c g = near c g in
    row_after_is F t n (row_after F s g row)
    ∙ ap₂ (placed F t n) (row_after_is F s n row) (row_after_is F s (own refl) row)
    ∙ placed_undone F s t u n row h

module _ {F : Operations} (L : BinaryField F) (t : ℕ) (pos : 0 < t) (below : t < F.size) where
  pub positive_undone : Undoes F (positive_share F t) (inverse_share F (F.inv t))
  positive_undone =
      record {
        before = λ x y h. simp ring;
        own = λ y h. simp (ring, reciprocals);
        after = λ x y h. simp (ring, reciprocals);
      }

  pub inverse_undone : Undoes F (inverse_share F (F.inv t)) (positive_share F t)
  inverse_undone =
      record {
        before = λ x y h. simp (ring, reciprocals);
        own = λ y h. simp (ring, reciprocals);
        after = λ x y h. simp ring;
      }
