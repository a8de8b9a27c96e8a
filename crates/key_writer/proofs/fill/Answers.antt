-- `key_writer::fill` meets its contract: N and q, and then each part after the parts at the front.
use Prim.Native.Nat.{ℕ, ◌+◌, ◌/◌, ◌%◌, ◌^◌, ◌≤◌}
use mathlib.Core.Path.{◌≡◌, refl, ap, ap₂, ◌∙◌}
use mathlib.Core.List.{List, [], ◌∷◌, ◌++◌, append_assoc, append-nil}
use native.Mathlib.Omega.{arith}
use lib.ListN.{length}
use lib.Pow.{pow_mono}
use lib.Seq.{take_all}
use Rattle.base.specs.Lists.{overlaid}
use Rattle.base.specs.Digits.{digits}
use Rattle.base.specs.Packing.{row_bytes, packed_row}
use Rattle.base.proofs.RowLaws.{length_packed_row}
use Rattle.base.proofs.FileLaws.{laid_next}
use Rattle.key.specs.Keys.{key_file}
use borrow.Author.Rules.{rules}
use Rattle.key_writer.proofs.fill.Goals as goal

-- the number of bytes of a packed row of n numbers
row_size : (b n : ℕ) (xs : List ℕ) → length xs ≡ n → length (packed_row b xs) ≡ row_bytes b n
row_size b n xs l = length_packed_row b xs ∙ ap (row_bytes b) l

-- ---- what stands at the front

-- N and q
abbrev head : ℕ → List ℕ
head b = 8 ∷ digits 256 2 (2 ^ b)

head_is : (b r : ℕ) → r ≡ 2 ^ b → r ≤ 256 → 8 ∷ r / 256 ∷ r % 256 ∷ [] ≡ head b
unfolding digits
head_is b r e h =
    let x : r / 256 ≡ 2 ^ b / 256 % 256 = omega arith in
    let y : r % 256 ≡ 2 ^ b / 1 % 256 = omega arith in
    ap₂ (λ (x y : ℕ). 8 ∷ x ∷ y ∷ []) x y

-- ---- the needs

pub overflow_cast-size : goal.overflow_cast-size
overflow_cast-size c =
    let small : c.power-size.result ≤ 256 =
    let h : 2 ^ c.args.bits ≤ 2 ^ 8 = pow_mono c.requires.0 in omega (arith, c.power-size.ensures) in
    omega (arith, small)

pub pack_at-matrix-requires : goal.pack_at-matrix-requires
pack_at-matrix-requires c =
    let p = c.requires in
    (p.0, p.1.ts_below, omega (arith, ap (row_bytes c.args.bits) p.2.ts_size))

pub pack_at-labels_at-requires : goal.pack_at-labels_at-requires
pack_at-labels_at-requires c =
    let a = c.args in
    let p = c.requires in (
      p.0,
      p.1.first_below,
      omega (arith, row_size a.bits 8 a.ts.now p.2.ts_size, ap (row_bytes a.bits) p.2.first_size),
    )

pub pack_at-after-requires : goal.pack_at-after-requires
pack_at-after-requires c =
    let a = c.args in
    let p = c.requires in (
      omega arith,
      p.1.labels_below,
      omega (
        arith,
        row_size a.bits 8 a.ts.now p.2.ts_size,
        row_size a.bits 57 a.first.now p.2.first_size,
        ap (row_bytes 3) p.2.labels_size,
      ),
    )

pub pack_at-requires : goal.pack_at-requires
pack_at-requires c =
    let a = c.args in
    let p = c.requires in (
      p.0,
      search (rules, p.1),
      omega (
        arith,
        row_size a.bits 8 a.ts.now p.2.ts_size,
        row_size a.bits 57 a.first.now p.2.first_size,
        row_size 3 8 a.labels.now p.2.labels_size,
        ap (row_bytes a.bits) p.2.second_size,
      ),
    )

pub shape_of-out : goal.shape_of-out
shape_of-out c = omega arith

pub returns : goal.returns
unfolding key_file digits
returns c =
    let small : c.power-size.result ≤ 256 =
    let h : 2 ^ c.args.bits ≤ 2 ^ 8 = pow_mono c.requires.0 in omega (arith, c.power-size.ensures) in
    let front_1 : List ℕ =
    head c.args.bits ++ packed_row c.args.bits c.args.ts.now in
    let front_2 : List ℕ =
    front_1 ++ packed_row c.args.bits c.args.first.now in
    let front_3 : List ℕ =
    front_2 ++ packed_row 3 c.args.labels.now in
    let laid_0 : c.put.new.out ≡ overlaid (head c.args.bits) c.args.out.now =
    let out = c.args.out.now in
    let three =
    take_all (length out) (8 ∷ c.power-size.result / 256 ∷ c.power-size.result % 256 ∷ [])
    (omega (arith, c.requires.3)) in
    c.put.ensures
    ∙ ap (λ (l : List ℕ). overlaid l out)
    (three ∙ head_is c.args.bits c.power-size.result c.power-size.ensures small) in
    let laid_1 : (c.pack_at-matrix.new.out ≡ overlaid front_1 c.args.out.now)
    × (c.pack_at-matrix.result ≡ length front_1) =
    laid_next (head c.args.bits) c.args.out.now c.pack_at-matrix.ensures laid_0 refl in
    let laid_2 : (c.pack_at-labels_at.new.out ≡ overlaid front_2 c.args.out.now)
    × (c.pack_at-labels_at.result ≡ length front_2) =
    let l = laid_1 in
    laid_next front_1 c.args.out.now c.pack_at-labels_at.ensures l.0 l.1 in
    let laid_3 : (c.pack_at-after.new.out ≡ overlaid front_3 c.args.out.now)
    × (c.pack_at-after.result ≡ length front_3) =
    let l = laid_2 in
    laid_next front_2 c.args.out.now c.pack_at-after.ensures l.0 l.1 in
    let l = laid_3 in
    (laid_next front_3 c.args.out.now c.pack_at.ensures l.0 l.1).0
    ∙ ap (λ (l : List ℕ). overlaid l c.args.out.now) (simp (append_assoc, append-nil))
