-- Files that consist of parts, one after another. A part is cut out again by its place and its size. A file is its
-- parts. Parts are laid one after another at the front of an output.
use Prim.Native.Nat.{ℕ, zero, suc, ◌+◌}
use mathlib.Core.Path.{◌≡◌, refl, sym, ap, ◌∙◌}
use mathlib.Core.List.{List, [], ◌∷◌, ◌++◌, map, append_assoc}
use native.Mathlib.Omega.{arith}
use lib.ListN.{length, take, drop, get_or, length-append, take-append-drop, drop_of_length-le}
use lib.Seq.{take_at, drop_at, drop-drop}
use Rattle.base.specs.Lists.{overlaid}
use Rattle.base.specs.Digits.{part}
use Rattle.base.specs.Files.{joined, place_from, file_part, parts_from}
use Rattle.base.specs.steps.Laying.{Laid}
use Rattle.base.proofs.ListLaws.{laid_more}

-- parts that stand after a front
part_behind : (at : ℕ) (front : List ℕ) (parts : List (List ℕ)) (i : ℕ) → length front ≡ at
    → part (place_from at (map length parts) i) (get_or (map length parts) i 0) (front ++ joined parts)
    ≡ get_or parts i []
part_behind at front [] i l = refl
part_behind at front (p ∷ ps) zero l =
    ap (take (length p)) (drop_at front (p ++ joined ps) at l) ∙ take_at p (joined ps) (length p) refl
part_behind at front (p ∷ ps) (suc i) l =
    ap (part (place_from (at + length p) (map length ps) i) (get_or (map length ps) i 0))
    (sym (append_assoc front p (joined ps)))
    ∙ part_behind (at + length p) (front ++ p) ps i (length-append front p ∙ ap (λ (n : ℕ). n + length p) l)

-- part i of a file that consists of parts
pub part_joined : (sizes : List ℕ) (parts : List (List ℕ)) → map length parts ≡ sizes → (i : ℕ)
    → file_part sizes i (joined parts) ≡ get_or parts i []
part_joined sizes parts e i = ap (λ (ns : List ℕ). file_part ns i (joined parts)) (sym e)
    ∙ part_behind 0 [] parts i refl

pub length_joined : (at : ℕ) (parts : List (List ℕ))
    → place_from at (map length parts) (length parts) ≡ at + length (joined parts)
length_joined at [] = omega arith
length_joined at (p ∷ ps) = omega (arith, length_joined (at + length p) ps, length-append p (joined ps))

-- a file that ends with its last part consists of its parts
pub joined_parts : (at : ℕ) (sizes file : List ℕ) → length file ≡ place_from at sizes (length sizes)
    → joined (parts_from at sizes file) ≡ drop at file
joined_parts at [] file l = sym (drop_of_length-le file {i = at} (omega arith))
joined_parts at (n ∷ sizes) file l =
    ap (λ (r : List ℕ). part at n file ++ r) (joined_parts (at + n) sizes file l ∙ sym (drop-drop n at file))
    ∙ take-append-drop n (drop at file)

-- one more part is laid after the parts at the front of an output
pub laid_next : {at end : ℕ} {xs now after : List ℕ} (front out : List ℕ) → Laid at xs now after end
    → now ≡ overlaid front out → at ≡ length front
    → (after ≡ overlaid (front ++ xs) out) × (end ≡ length (front ++ xs))
laid_next {at} {xs = xs} {now} front out l o e = (
  l.lies ∙ laid_more front xs out now at (length xs) o (sym e) refl,
  l.ends ∙ ap (λ (k : ℕ). k + length xs) e ∙ sym (length-append front xs),
)
