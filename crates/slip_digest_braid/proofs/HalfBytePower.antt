-- A half byte on columns: the way to its level, and then its power at once. At that level its own label and label 7
-- stand at the places of the power, so the constants of the power are those of the table.
use Prim.Native.Nat.{ℕ, ◌+◌, ◌*◌, ◌-◌, ◌/◌, ◌%◌, ◌≤◌, ◌<◌}
use mathlib.Core.Path.{◌≡◌, refl, sym, ap, ap₂, subst, ◌∙◌}
use mathlib.Core.Bool.{Bool, true, ◌&&◌}
use mathlib.Core.List.{List}
use native.Mathlib.Numerals.{add-one}
use native.Mathlib.Omega.{arith}
use borrow.Author.Tests.{eqb-true}
use lib.Dec.{eqb}
use lib.ListN.{get_or}
use Rattle.base.specs.Lists.{every, values_from, values}
use Rattle.base.proofs.ListLaws.{and_left, and_right, every_values}
use Rattle.field.specs.Binary.{Operations}
use Rattle.field.specs.Polynomial.{polynomials}
use Rattle.matrix_columns.specs.steps.Lanes.{columns_matrix}
use Rattle.word.specs.Strands.{swapped, list_after}
use Rattle.pair.specs.declared.Pair.{Pair}
use Rattle.pair.specs.Action.{t_value, rows_on, pair_of, word_on}
use Rattle.pair.specs.Good.{GoodPair}
use Rattle.pair.specs.steps.Columns.{held_pair, Carried}
use Rattle.pair.proofs.WordLaws.{word_on_append, list_carried, codes_good}
use Rattle.pair_powers.specs.declared.Gains.{Gains}
use Rattle.pair_powers.specs.steps.Powers.{share_of_gains, power_gains, level_gains, RunOnColumns}
use Rattle.pair_powers.proofs.PowerLaws.{power_on}
use Rattle.slip_digest.specs.Digest.{selected, power_of}
use Rattle.slip_digest_braid.specs.steps.Ways.{way, power_run, level_list, Setting, HalfByteCarried}
use Rattle.slip_digest_braid.proofs.ShortBraid.{way_list}
use Rattle.slip_digest.proofs.HalfByte.{selected_is}

-- at the level of a half byte, its own label and label 7 stand at the places of its power
abbrev own_rule : ℕ → Bool
own_rule h = eqb (get_or (level_list (selected h)) (selected h - 1) 0) (6 - 2 * (h % 4))

abbrev next_rule : ℕ → Bool
next_rule h = eqb (get_or (level_list (selected h)) (selected h - 1 + 1) 0) 7

labels_rule : every (λ h. own_rule h && next_rule h) (values (λ h. h) 16) ≡ true
unfolding values_from every level_list list_after swapped
labels_rule = refl

module _ (h : ℕ) (b : h < 16) where
  both : own_rule h && next_rule h ≡ true
  both = every_values (λ h. own_rule h && next_rule h) (λ h. h) 16 labels_rule h b

  own_label : get_or (level_list (selected h)) (selected h - 1) 0 ≡ 6 - 2 * (h % 4)
  own_label = eqb-true _ _ (and_left (own_rule h) (next_rule h) both)

  next_label : get_or (level_list (selected h)) (selected h - 1 + 1) 0 ≡ 7
  next_label = eqb-true _ _ (and_right (own_rule h) (next_rule h) both)

  -- the numbers of the power, by the labels that stand there
  gains_there : (F : Operations) (ts labels : List ℕ) → labels ≡ level_list (selected h)
      → level_gains F ts (h % 4) (h / 4)
      ≡ power_gains F (t_value ts labels (selected h - 1)) (t_value ts labels (selected h - 1 + 1)) (power_of h)
  unfolding t_value
  gains_there F ts labels e =
      rw (e, own_label, next_label, add-one (h / 4)) refl

half_byte_carried : {bits at g : ℕ} {cs powers columns labels columns' labels' columns'' : List ℕ} (l h : ℕ) → l ≤ 7
    → h < 16 → g ≡ selected h - 1 → at ≡ 96 * (h % 4) + 24 * (h / 4)
    → Carried bits cs (way l (selected h)) columns labels columns' labels'
    → RunOnColumns bits powers at g columns' columns''
    → HalfByteCarried bits cs powers l h columns labels columns'' labels'
half_byte_carried {bits} {at} {g} {cs} {powers} {columns} {labels} {columns'} {labels'} {columns''} l h hl b eg ea c r =
    record {
      holds = record {
        small = c.holds.small;
        bytes = c.holds.bytes;
        nine = r.nine;
        eight = c.holds.eight;
        below = c.holds.below;
      };
      carries = λ p ts s good e.
          let F : Operations = polynomials bits p in
          let q = held_pair columns labels in
          let w = way l (selected h) in
          let d = c.carries p s.degree ts s.constants_are in
          let list : labels' ≡ level_list (selected h) =
          ap (λ (x : Pair). x.labels) d ∙ list_carried F ts w q ∙ ap (λ (k : List ℕ). list_after k w) e
          ∙ way_list l h hl b in
          power p ts s (subst (GoodPair F) (sym d) (codes_good s.binary ts w q good)) list
          ∙ ap (word_on F ts (power_run h)) d
          ∙ sym (word_on_append F ts w (power_run h) q);
    }
  where
    power : (p : ℕ) (ts : List ℕ) → Setting bits p ts cs powers
        → GoodPair (polynomials bits p) (held_pair columns' labels')
        → labels' ≡ level_list (selected h)
        → held_pair columns'' labels' ≡ word_on (polynomials bits p) ts (power_run h) (held_pair columns' labels')
    power p ts s good list =
        let F : Operations = polynomials bits p in
        let g' : ℕ = selected h - 1 in
        let there = s.powers_are.there ts s.constants_are (h % 4) (h / 4) (omega arith) (omega arith) in
        let small : g' < 7 = omega (arith, selected_is h) in
        ap (λ (x : List ℕ). pair_of x labels')
        (r.matrix_is p s.degree (level_gains F ts (h % 4) (h / 4)) (rw ea there)
        ∙ ap₂ (λ (x : ℕ) (n : Gains). rows_on F (share_of_gains F n) x (columns_matrix columns')) eg
        (gains_there h b F ts labels' list))
        ∙ sym (power_on s.binary ts g' (power_of h) small (held_pair columns' labels') good)

-- the level that the code holds is that of the half byte
pub half_byte_on : {bits at : ℕ} {cs powers columns labels columns' labels' columns'' : List ℕ} (l h m : ℕ) → l ≤ 7
    → h < 16 → m ≡ selected h → at ≡ 96 * (h % 4) + 24 * (h / 4)
    → Carried bits cs (way l m) columns labels columns' labels'
    → RunOnColumns bits powers at (m - 1) columns' columns''
    → HalfByteCarried bits cs powers l h columns labels columns'' labels'
half_byte_on {bits} {cs = cs} {columns = columns} {labels} {columns'} {labels'} l h m hl b e ea c r =
    half_byte_carried l h hl b (ap (λ (x : ℕ). x - 1) e) ea
    (subst (λ (x : ℕ). Carried bits cs (way l x) columns labels columns' labels') e c) r
