-- Being the same braid is reflexive, transitive and symmetric, and holds inside a longer word. No law assumes letters:
-- the laws hold for any codes.
use Prim.Native.Nat.{ℕ}
use mathlib.Core.Path.{refl, sym, ap, ap₂, ◌∙◌}
use mathlib.Core.Bool.{Bool, ◌&&◌}
use mathlib.Core.List.{List, ◌++◌}
use lib.IntN.{ℤ, ◌+ℤ◌}
use Rattle.base.proofs.ListLaws.{every_append}
use Rattle.word.specs.Letters.{is_letter}
use Rattle.word.proofs.LetterLaws.{Lettered}
use Rattle.word.proofs.ExponentLaws.{exponent_append}
use Rattle.word.proofs.StrandLaws.{length_after, after_append}
use Rattle.pair.specs.Action.{word_on}
use Rattle.pair.proofs.WordLaws.{word_on_append, codes_good}
use Rattle.word_crossing.specs.Crossings.{crossings_from}
use Rattle.word_crossing.proofs.CrossingLaws.{crossings_append}
use Rattle.word.specs.Strands.{list_after}
use Rattle.braid_same.specs.SameBraid.{SameBraid}

-- a word that is the same braid as a word of letters is a word of letters
pub same_lettered : {x y : List ℕ} → SameBraid x y → Lettered x → Lettered y
same_lettered s e = s.letters ∙ e

pub same_none : (w : List ℕ) → SameBraid w w
same_none w =
    record {
      letters = refl;
      carried = λ F L ts tv p good. refl;
      exponent = refl;
      lists = λ labels l. refl;
      crossed = λ labels l a b. refl;
    }

pub same_then : {x y z : List ℕ} → SameBraid x y → SameBraid y z → SameBraid x z
same_then s t =
    record {
      letters = t.letters ∙ s.letters;
      carried = λ F L ts tv p good. t.carried F L ts tv p good ∙ s.carried F L ts tv p good;
      exponent = t.exponent ∙ s.exponent;
      lists = λ labels l. t.lists labels l ∙ s.lists labels l;
      crossed = λ labels l a b. t.crossed labels l a b ∙ s.crossed labels l a b;
    }

pub same_turned : {x y : List ℕ} → SameBraid x y → SameBraid y x
same_turned s =
    record {
      letters = sym s.letters;
      carried = λ F L ts tv p good. sym (s.carried F L ts tv p good);
      exponent = sym s.exponent;
      lists = λ labels l. sym (s.lists labels l);
      crossed = λ labels l a b. sym (s.crossed labels l a b);
    }

-- x u and y v are the same braid
pub same_append : {x y u v : List ℕ} → SameBraid x y → SameBraid u v → SameBraid (x ++ u) (y ++ v)
same_append {x} {y} {u} {v} s t =
    record {
      letters =
          every_append is_letter y v ∙ ap₂ (λ (a b : Bool). a && b) s.letters t.letters
          ∙ sym (every_append is_letter x u);
      carried = λ F L ts tv p good.
          word_on_append F ts y v p
          ∙ t.carried F L ts tv (word_on F ts y p) (codes_good L ts y p good)
          ∙ ap (word_on F ts u) (s.carried F L ts tv p good)
          ∙ sym (word_on_append F ts x u p);
      exponent =
          exponent_append y v ∙ ap₂ (λ (m n : ℤ). m +ℤ n) s.exponent t.exponent ∙ sym (exponent_append x u);
      lists = λ labels l.
          after_append labels y v
          ∙ t.lists (list_after labels y) (length_after labels y ∙ l)
          ∙ ap (λ (k : List ℕ). list_after k u) (s.lists labels l)
          ∙ sym (after_append labels x u);
      crossed = λ labels l a b.
          crossings_append a b labels y v
          ∙ ap₂ (λ (m n : ℤ). m +ℤ n) (s.crossed labels l a b)
          (t.crossed (list_after labels y) (length_after labels y ∙ l) a b
          ∙ ap (λ (k : List ℕ). crossings_from k a b u) (s.lists labels l))
          ∙ sym (crossings_append a b labels x u);
    }

-- u x v and u y v are the same braid
pub same_inside : (u v : List ℕ) {x y : List ℕ} → SameBraid x y → SameBraid (u ++ (x ++ v)) (u ++ (y ++ v))
same_inside u v s = same_append (same_none u) (same_append s (same_none v))
