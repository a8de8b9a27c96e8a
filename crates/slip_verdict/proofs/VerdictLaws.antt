-- The two sides of the verdict. First the matrix that a word reaches from Pub(S): as the code computes it, and for two
-- words that carry pairs alike. Then the target, as the code computes it.
use Prim.Native.Nat.{ℕ}
use mathlib.Core.Path.{◌≡◌, ap, ◌∙◌}
use mathlib.Core.List.{List}
use Rattle.field.specs.Binary.{Operations}
use Rattle.field.specs.Fields.{operations}
use Rattle.matrix.specs.Product.{matrix_product}
use Rattle.pair.specs.declared.Pair.{Pair}
use Rattle.pair.specs.Action.{pair_of, word_on, start}
use Rattle.pair.specs.Good.{GoodPair}
use Rattle.pair.proofs.WordLaws.{matrix_alone}
use Rattle.key.specs.declared.Key.{Key}
use Rattle.slip_digest.specs.Digest.{encoded}
use Rattle.slip_verdict.specs.declared.Half.{Half}
use Rattle.slip_verdict.specs.Verdict.{signed_over, target_over, target}
use Rattle.slip_verdict.specs.Halves.{signed_by}

-- the matrix of the pair that the word reaches from the half's matrix and list
pub signed_is : (h : Half) (w : List ℕ) (reached : Pair)
    → reached ≡ word_on (operations h.field) h.t_values w (pair_of h.pair.matrix h.pair.labels)
    → reached.matrix ≡ signed_by h w
unfolding signed_over
signed_is h w reached e =
    ap (λ (p : Pair). p.matrix) e ∙ matrix_alone (operations h.field) h.t_values w h.pair

-- two words that carry each good pair alike reach the same matrix
pub signed_alike : {F : Operations} (ts v w : List ℕ)
    → ((p : Pair) → GoodPair F p → word_on F ts v p ≡ word_on F ts w p) → (p : Pair) → GoodPair F p
    → signed_over F ts p v ≡ signed_over F ts p w
unfolding signed_over
signed_alike ts v w same p good = ap (λ (q : Pair). q.matrix) (same p good)

-- the product of the digest's matrix with that of Pub(S')
pub target_is : (key : Key) (digest first product : List ℕ)
    → first ≡ (word_on (operations key.field) key.t_values (encoded digest) start).matrix
    → product ≡ matrix_product (operations key.field) first key.second → product ≡ target key digest
unfolding target_over
target_is key digest first product f p =
    p ∙ ap (λ (m : List ℕ). matrix_product (operations key.field) m key.second) f
