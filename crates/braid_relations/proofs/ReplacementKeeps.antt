-- Turned into Artin letters, a pair of letters and its replacement are the same braid. A row x m z is the same braid as
-- the empty word, so m is the same braid as the inverse of x and then the inverse of z.
use Prim.Native.Nat.{ℕ, ◌+◌, ◌≤◌, ◌<◌}
use mathlib.Core.Path.{◌≡◌, refl, sym, ap, ap₂, ◌∙◌, subst}
use mathlib.Core.Bool.{Bool, true, false, cond}
use mathlib.Core.List.{List, [], ◌∷◌, ◌++◌, append_assoc, append-nil}
use borrow.Author.Tests.{ltb-true}
use lib.Dec.{ltb}
use lib.ListN.{length, take, drop, get_or}
use Rattle.base.specs.Lists.{every}
use Rattle.base.proofs.ListLaws.{every_take, every_drop, every_append, every_get_d, and_both}
use Rattle.word.specs.Letters.{is_letter}
use Rattle.word.proofs.LetterLaws.{Lettered}
use Rattle.braid_same.specs.SameBraid.{SameBraid}
use Rattle.braid_same.proofs.Laws.{same_none, same_then, same_turned, same_append, same_inside}
use Rattle.word_dialect.specs.Dialect.{inverted, from_y}
use Rattle.word_dialect.proofs.InverseWords.{inverted_lettered}
use Rattle.word_dialect.proofs.ConversionLaws.{converted_append, converted_lettered, converted_inverted}
use Rattle.braid_relations.specs.Relations.{appendix_parts, artin, relations, All, none, also, place_in}
use Rattle.braid_relations.specs.Relations.{replacement, inverse_around}
use Rattle.braid_relations.proofs.RowLaws.{appendix_parts_lem, row_apart}
use Rattle.braid_relations.proofs.YBraids.{undone_same, undone_before}
use Rattle.braid_relations.proofs.AllKept.{Relation, all_relations}

-- if x m z is the same braid as the empty word, m is the same braid as the inverse of x and then the inverse of z
solved : (x m z : List ℕ) → Lettered x → Lettered z → SameBraid (x ++ (m ++ z)) []
    → SameBraid m (inverted x ++ inverted z)
solved x m z ex ez s =
    let whole : List ℕ = inverted x ++ ((x ++ (m ++ z)) ++ inverted z) in
    let apart : whole ≡ (inverted x ++ x) ++ (m ++ (z ++ inverted z)) =
    ap (λ (w : List ℕ). inverted x ++ w)
    (append_assoc x (m ++ z) (inverted z) ∙ ap (λ (w : List ℕ). x ++ w) (append_assoc m z (inverted z)))
    ∙ sym (append_assoc (inverted x) x (m ++ (z ++ inverted z))) in
    let grown : SameBraid ((inverted x ++ x) ++ (m ++ (z ++ inverted z))) ([] ++ (m ++ [])) =
    same_append (undone_before x ex) (same_append (same_none m) (undone_same z ez)) in
    let out : SameBraid whole m = rw apart (rw (append-nil m) at grown) in
    same_then (same_turned out) (same_inside (inverted x) (inverted z) s)

-- ---- one pair

module _ (c d : ℕ) (ec : is_letter c ≡ true) (ed : is_letter d ≡ true) where
  -- by one row that holds the pair
  by_row : (row : List ℕ) → Relation row → place_in c d row < length row
      → SameBraid (artin (c ∷ d ∷ [])) (artin (inverse_around (place_in c d row) row))
  by_row row r h =
      let k = place_in c d row in
      let before = take k row in
      let after = drop (k + 2) row in
      let eb = every_take is_letter k row r.lettered in
      let ea = every_drop is_letter (k + 2) row r.lettered in
      let parts : artin row ≡ artin before ++ (artin (c ∷ d ∷ []) ++ artin after) =
      ap artin (row_apart c d row h)
      ∙ converted_append from_y appendix_parts appendix_parts_lem before ((c ∷ d ∷ []) ++ after)
      ∙ ap (λ (w : List ℕ). artin before ++ w)
      (converted_append from_y appendix_parts appendix_parts_lem (c ∷ d ∷ []) after) in
      let turned : artin (inverted before ++ inverted after) ≡ inverted (artin before) ++ inverted (artin after) =
      converted_append from_y appendix_parts appendix_parts_lem (inverted before) (inverted after)
      ∙ ap₂ (λ (u v : List ℕ). u ++ v) (converted_inverted from_y appendix_parts appendix_parts_lem before eb)
      (converted_inverted from_y appendix_parts appendix_parts_lem after ea) in
      rw turned
      (solved (artin before) (artin (c ∷ d ∷ [])) (artin after)
      (converted_lettered from_y appendix_parts appendix_parts_lem before eb)
      (converted_lettered from_y appendix_parts appendix_parts_lem after ea)
      (rw parts at r.nothing))

  replacement_same : (rows : List (List ℕ)) → All Relation rows
      → SameBraid (artin (c ∷ d ∷ [])) (artin (replacement rows c d))
  unfolding replacement
  replacement_same [] none = same_none (artin (c ∷ d ∷ []))
  replacement_same (row ∷ rows) (also r rs) =
      go (ltb (place_in c d row) (length row)) refl (replacement_same rows rs)
    where
      go : (b : Bool) → ltb (place_in c d row) (length row) ≡ b
          → SameBraid (artin (c ∷ d ∷ [])) (artin (replacement rows c d))
          → SameBraid (artin (c ∷ d ∷ []))
          (artin (cond b (inverse_around (place_in c d row) row) (replacement rows c d)))
      go true e later = by_row row r (ltb-true (place_in c d row) (length row) e)
      go false e later = later

-- the replacement of two letters is made of letters
pub replacement_lettered : (c d : ℕ) → is_letter c ≡ true → is_letter d ≡ true → (rows : List (List ℕ))
    → All Relation rows → Lettered (replacement rows c d)
unfolding replacement every
replacement_lettered c d ec ed [] none = and_both ec (and_both ed refl)
replacement_lettered c d ec ed (row ∷ rows) (also r rs) =
    go (ltb (place_in c d row) (length row)) (replacement_lettered c d ec ed rows rs)
  where
    go : (b : Bool) → Lettered (replacement rows c d)
        → Lettered (cond b (inverse_around (place_in c d row) row) (replacement rows c d))
    go true later =
        let k = place_in c d row in
        every_append is_letter (inverted (take k row)) (inverted (drop (k + 2) row))
        ∙ and_both (inverted_lettered (take k row) (every_take is_letter k row r.lettered))
        (inverted_lettered (drop (k + 2) row) (every_drop is_letter (k + 2) row r.lettered))
    go false later = later

-- the pair at a place of a word, replaced by the first row that holds it
pub pair_same : (c d : ℕ) → is_letter c ≡ true → is_letter d ≡ true
    → SameBraid (artin (c ∷ d ∷ [])) (artin (replacement relations c d))
pair_same c d ec ed = replacement_same c d ec ed relations all_relations
