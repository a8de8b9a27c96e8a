-- Laws of the cut of a slip and of the line for a slip.
use Prim.Native.Nat.{ℕ, ◌+◌, ◌*◌, ◌<◌}
use native.Mathlib.Omega.{arith}
use mathlib.Core.Path.{◌≡◌, refl, sym, ap, subst, ◌∙◌}
use mathlib.Core.Bool.{Bool, true, false, cond, ◌&&◌}
use mathlib.Core.List.{List, [], ◌∷◌}
use borrow.Author.Tests.{ne_eqb}
use lib.Dec.{eqb}
use lib.ListN.{length, get_or, take, replicate}
use Rattle.base.specs.Digits.{value, part}
use Rattle.field.specs.Fields.{key_bytes, digest_bytes}
use Rattle.field.specs.declared.Field.{Field}
use Rattle.field.specs.declared.Field.TheVariants.{Gf32, Gf256}
use Rattle.slip_verdict.specs.Verdict.{verdict}
use Rattle.desk_line.specs.Desk.{answer_line, Tells}
use Rattle.desk_line.specs.declared.Got.{Got}
use Rattle.desk_line.proofs.DeskLaws.{none_told}
use Rattle.desk_slip.specs.Slips.{desk_field, cut_verdict, desk_verdict, input_line, files_line}

-- ---- the cut

pub cut_parts : {key digest word : List ℕ} (k d : ℕ) (input : List ℕ) → key ≡ part 0 k input → digest ≡ part k d input
    → word ≡ part (k + d) 5003 input
    → verdict key digest word ≡ cut_verdict k d input
unfolding cut_verdict
cut_parts k d input p q r = λ i. verdict (p i) (q i) (r i)

-- the cut of the field that an input names
pub cut_for : (input : List ℕ) (large : Bool) → eqb (value 256 (part 1 2 input)) 256 ≡ large
    → let f : Field = cond large Gf256 Gf32 in cut_verdict (key_bytes f) (digest_bytes f) input ≡ desk_verdict input
unfolding desk_verdict desk_field
cut_for input large e =
    ap (λ (b : Bool). cut_verdict (key_bytes (cond b Gf256 Gf32)) (digest_bytes (cond b Gf256 Gf32)) input) (sym e)

-- an input that does not say 256 is cut at 83 and 32
pub cut_otherwise : (input : List ℕ) → (value 256 (part 1 2 input) ≡ 256 → ⊥)
    → desk_verdict input ≡ verdict (part 0 83 input) (part 83 32 input) (part 115 5003 input)
unfolding cut_verdict
cut_otherwise input h = sym (cut_for input false (ne_eqb (value 256 (part 1 2 input)) 256 h))

-- an input of less than three bytes names the smaller field
pub short_names : (input : List ℕ) → length input < 3 → ((k : ℕ) → get_or input k 0 < 256)
    → eqb (value 256 (part 1 2 input)) 256 ≡ false
unfolding value
short_names [] h b = refl
short_names (x ∷ []) h b = refl
short_names (x ∷ y ∷ []) h b = ne_eqb (y * 1 + 0) 256 (λ e. omega (arith, b 1))
short_names (x ∷ y ∷ z ∷ xs) h b = absurd (omega arith)

-- ---- the line

-- the line on one input that could be read, and on one that could not
module _ (got : Got) (input : List ℕ) where
  pub input_read : {slip : List ℕ} {n bytes : ℕ} {text : List ℕ} → got.read ≡ true → slip ≡ take got.bytes input
      → n ≡ desk_verdict slip
      → Tells (answer_line n) bytes text → Tells (input_line got input) bytes text
  unfolding input_line
  input_read {bytes = bytes} {text = text} e s v t =
      rw e (subst (λ (k : ℕ). Tells (answer_line k) bytes text) (v ∙ ap desk_verdict s) t)

  pub input_not_read : {bytes : ℕ} {text : List ℕ} → got.read ≡ false → bytes ≡ 0 → text ≡ replicate 11 0
      → Tells (input_line got input) bytes text
  unfolding input_line
  input_not_read e b t = none_told (rw e) b t

-- the line on three files that could all be read, and on three of which one could not
module _ (k d w : Got) (key digest word : List ℕ) where
  pub files_read : {read : Bool} {a b c : List ℕ} {n bytes : ℕ} {text : List ℕ} → read ≡ k.read && d.read && w.read
      → read ≡ true
      → a ≡ take k.bytes key → b ≡ take d.bytes digest → c ≡ take w.bytes word → n ≡ verdict a b c
      → Tells (answer_line n) bytes text → Tells (files_line k d w key digest word) bytes text
  unfolding files_line
  files_read {bytes = bytes} {text = text} e t ke de we v s =
      rw (sym e ∙ t) (subst (λ (n : ℕ). Tells (answer_line n) bytes text) (v ∙ (λ i. verdict (ke i) (de i) (we i))) s)

  pub files_not_read : {read : Bool} {bytes : ℕ} {text : List ℕ} → read ≡ k.read && d.read && w.read → read ≡ false
      → bytes ≡ 0 → text ≡ replicate 11 0 → Tells (files_line k d w key digest word) bytes text
  unfolding files_line
  files_not_read e t b x = none_told (rw (sym e ∙ t)) b x
