-- `key_writer::answer` meets its contract: one question after another. Each answer cites what the tests found so far.
use Prim.Native.Nat.{ℕ, ◌≤◌, ◌<◌}
use mathlib.Core.Path.{◌≡◌, sym, ap, ap₂, ◌∙◌, subst}
use mathlib.Core.Bool.{Bool, true, false, ◌&&◌}
use mathlib.Core.List.{List}
use borrow.Author.Tests.{le-leb, lt-leb}
use lib.Dec.{leb}
use Rattle.base.specs.Questions.{first_no}
use Rattle.field.specs.Fields.{bits, key_bytes}
use Rattle.field.specs.declared.Field.{Field}
use Rattle.pair_operands.specs.Operands.{elements}
use Rattle.pair_operands.specs.steps.Fitting.{fit}
use Rattle.key.specs.Keys.{whole_matrix, both_invertible}
use Rattle.key.specs.steps.Places.{file_bytes}
use Rattle.key.proofs.Widths.{file_bytes_lem, told_narrow}
use Rattle.key_writer.proofs.answer.Goals as goal

-- question 16: the file's size, told by the bits of an element
size_is : (f : Field) {b size : ℕ} → b ≡ bits f → size ≡ file_bytes b → size ≡ key_bytes f
size_is f e s = s ∙ ap (λ (b : ℕ). file_bytes b) e ∙ file_bytes_lem f

has_room : (f : Field) {b size room : ℕ} → b ≡ bits f → size ≡ file_bytes b → size ≤ room → leb (key_bytes f) room
    ≡ true
has_room f {room = room} e s h = le-leb (key_bytes f) room (subst (λ (n : ℕ). n ≤ room) (size_is f e s) h)

lacks_room : (f : Field) {b size room : ℕ} → b ≡ bits f → size ≡ file_bytes b → room < size
    → leb (key_bytes f) room ≡ false
lacks_room f {room = room} e s h = lt-leb (key_bytes f) room (subst (λ (n : ℕ). room < n) (size_is f e s) h)

-- question 17
fits : (f : Field) {b : ℕ} {found : Bool} (ts p q : List ℕ) → b ≡ bits f → found ≡ (fit b ts && fit b p && fit b q)
    → elements f ts && elements f p && elements f q ≡ found
fits f ts p q e is = sym (is ∙ ap (λ (b : ℕ). fit b ts && fit b p && fit b q) e)

-- question 26
invertible : (f : Field) {found : Bool} {m n : List ℕ} (p q : List ℕ) → found ≡ both_invertible f m n
    → m ≡ whole_matrix p → n ≡ whole_matrix q → both_invertible f (whole_matrix p) (whole_matrix q) ≡ found
invertible f p q is d e = sym (is ∙ ap₂ (λ (x y : List ℕ). both_invertible f x y) d e)

pub file_bytes-size-requires : goal.file_bytes-size-requires
file_bytes-size-requires c = told_narrow c.args.f c.requires

pub returns-then-room-size : goal.returns-then-room-size
unfolding first_no
returns-then-room-size c =
    let a = c.args in
    simp (lacks_room a.f c.requires c.file_bytes-size.ensures c.if-room-size.true)

pub returns-then-not-all_fit : goal.returns-then-not-all_fit
unfolding first_no
returns-then-not-all_fit c =
    let a = c.args in
    simp (
      has_room a.f c.requires c.file_bytes-size.ensures c.if-room-size.false,
      fits a.f a.ts.now a.first.now a.second.now c.requires c.all_fit.ensures ∙ c.if-not-all_fit.true,
    )

pub returns-then-not-all_nonzero : goal.returns-then-not-all_nonzero
unfolding first_no
returns-then-not-all_nonzero c =
    let a = c.args in
    simp (
      has_room a.f c.requires c.file_bytes-size.ensures c.if-room-size.false,
      fits a.f a.ts.now a.first.now a.second.now c.requires c.all_fit.ensures ∙ c.if-not-all_fit.false,
      sym c.all_nonzero.ensures ∙ c.if-not-all_nonzero.true,
    )

pub returns-then-not-starts_with_ones : goal.returns-then-not-starts_with_ones
unfolding first_no
returns-then-not-starts_with_ones c =
    let a = c.args in
    simp (
      has_room a.f c.requires c.file_bytes-size.ensures c.if-room-size.false,
      fits a.f a.ts.now a.first.now a.second.now c.requires c.all_fit.ensures ∙ c.if-not-all_fit.false,
      sym c.all_nonzero.ensures ∙ c.if-not-all_nonzero.false,
      sym c.starts_with_ones.ensures ∙ c.if-not-starts_with_ones.true,
    )

pub returns-then-not-is_order : goal.returns-then-not-is_order
unfolding first_no
returns-then-not-is_order c =
    let a = c.args in
    simp (
      has_room a.f c.requires c.file_bytes-size.ensures c.if-room-size.false,
      fits a.f a.ts.now a.first.now a.second.now c.requires c.all_fit.ensures ∙ c.if-not-all_fit.false,
      sym c.all_nonzero.ensures ∙ c.if-not-all_nonzero.false,
      sym c.starts_with_ones.ensures ∙ c.if-not-starts_with_ones.false,
      sym c.is_order.ensures ∙ c.if-not-is_order.true,
    )

pub returns-then-not-both_invertible : goal.returns-then-not-both_invertible
unfolding first_no
returns-then-not-both_invertible c =
    let a = c.args in
    simp (
      has_room a.f c.requires c.file_bytes-size.ensures c.if-room-size.false,
      fits a.f a.ts.now a.first.now a.second.now c.requires c.all_fit.ensures ∙ c.if-not-all_fit.false,
      sym c.all_nonzero.ensures ∙ c.if-not-all_nonzero.false,
      sym c.starts_with_ones.ensures ∙ c.if-not-starts_with_ones.false,
      sym c.is_order.ensures ∙ c.if-not-is_order.false,
      invertible a.f a.first.now a.second.now c.both_invertible.ensures c.whole_matrix-whole.ensures
          c.whole_matrix-other.ensures ∙ c.if-not-both_invertible.true,
    )

pub returns : goal.returns
unfolding first_no
returns c =
    let a = c.args in
    simp (
      has_room a.f c.requires c.file_bytes-size.ensures c.if-room-size.false,
      fits a.f a.ts.now a.first.now a.second.now c.requires c.all_fit.ensures ∙ c.if-not-all_fit.false,
      sym c.all_nonzero.ensures ∙ c.if-not-all_nonzero.false,
      sym c.starts_with_ones.ensures ∙ c.if-not-starts_with_ones.false,
      sym c.is_order.ensures ∙ c.if-not-is_order.false,
      invertible a.f a.first.now a.second.now c.both_invertible.ensures c.whole_matrix-whole.ensures
          c.whole_matrix-other.ensures ∙ c.if-not-both_invertible.false,
    )
