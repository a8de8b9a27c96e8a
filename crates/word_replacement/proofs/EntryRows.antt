-- Laws of the rows as the code holds them. For every two letters, the first place of all entries that holds them is the
-- first place of the first row that does, by one test that antt computes over all pairs of letters.
use Prim.Native.Nat.{ℕ, ◌+◌, ◌%◌, ◌≤◌, ◌<◌}
use mathlib.Core.Path.{◌≡◌, refl, sym, ap, ◌∙◌}
use mathlib.Core.Bool.{Bool, true, cond, ◌&&◌}
use mathlib.Core.List.{List, [], ◌∷◌}
use borrow.Author.Tests.{leb-true, lt-ltb, le-ltb}
use lib.Dec.{leb, ltb}
use lib.ListN.{length, drop}
use Rattle.base.specs.Lists.{every, equal, values_from, values, first_from}
use Rattle.base.proofs.ListLaws.{and_left, and_right, and_both, every_values, equal_true}
use Rattle.word.specs.Letters.{is_letter}
use Rattle.word.proofs.LetterLaws.{letter_below}
use Rattle.word_dialect.specs.Dialect.{inverted}
use Rattle.braid_relations.specs.Relations.{relations, place_in, replacement}
use Rattle.word_replacement.specs.steps.Rows.{flat, before, filled, around_entry, entry_replacement}

abbrev pub entries : List ℕ
entries = flat relations

pub length_entries : length entries ≡ 790
unfolding flat relations
length_entries = refl

abbrev pair_rule : ℕ → ℕ → Bool
pair_rule c d =
    let k = before c d entries in
    leb (k % 10 + filled (drop (k + 2) entries)) 9 && equal (entry_replacement entries c d) (replacement relations c d)

abbrev ruled : ℕ → ℕ → Bool
ruled c d = cond (is_letter c && is_letter d) (pair_rule c d) true

all_pairs_lem : every (λ c. every (ruled c) (values (λ d. d) 15)) (values (λ c. c) 15) ≡ true
unfolding values_from every equal inverted first_from relations place_in replacement flat before filled
all_pairs_lem = refl

-- ---- the pair of two letters

module _ (c d : ℕ) (ec : is_letter c ≡ true) (ed : is_letter d ≡ true) where
  rule : pair_rule c d ≡ true
  rule =
      ap (λ (b : Bool). cond b (pair_rule c d) true) (sym (and_both ec ed))
      ∙ every_values (ruled c) (λ d. d) 15
      (every_values (λ c. every (ruled c) (values (λ d. d) 15)) (λ c. c) 15 all_pairs_lem c (letter_below c ec))
      d (letter_below d ed)

  pub around_short : let k = before c d entries in k % 10 + filled (drop (k + 2) entries) ≤ 9
  around_short =
      let k = before c d entries in
      leb-true _ 9 (and_left (leb (k % 10 + filled (drop (k + 2) entries)) 9) _ rule)

  entry_is : entry_replacement entries c d ≡ replacement relations c d
  entry_is =
      let k = before c d entries in
      equal_true _ _ (and_right (leb (k % 10 + filled (drop (k + 2) entries)) 9) _ rule)

  -- the pair stands at an entry, or nowhere
  pub held : before c d entries + 1 < 790 → around_entry (before c d entries) entries ≡ replacement relations c d
  held h =
      ap (λ (b : Bool). cond b (around_entry (before c d entries) entries) (c ∷ d ∷ []))
      (sym (lt-ltb (before c d entries + 1) (length entries) (rw length_entries h)))
      ∙ entry_is

  pub not_held : 790 ≤ before c d entries + 1 → c ∷ d ∷ [] ≡ replacement relations c d
  not_held h =
      ap (λ (b : Bool). cond b (around_entry (before c d entries) entries) (c ∷ d ∷ []))
      (sym (le-ltb (before c d entries + 1) (length entries) (rw length_entries h)))
      ∙ entry_is
