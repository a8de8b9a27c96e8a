-- Laws of the sum of polynomials, `bit_xor`: it is associative, and twice a sum is the sum of the doubles.
use Prim.Native.Nat.{ℕ, zero, suc, ◌+◌, ◌*◌, ◌/◌, ◌%◌, ◌<◌}
use mathlib.Core.Path.{◌≡◌, refl, sym, ap, ap₂, ◌∙◌}
use native.Mathlib.Nat.{le_refl, mod-lt, zero-lt-suc, le_of_suc-le-suc, not-suc-le-zero, mul-div_cancel, mul-mod_left}
use native.Mathlib.Nat.{add-zero}
use lib.Arith.{bin_ind, digits_mod}
use lib.Bits.{bit_xor, differ, xor_step, xor_comm, xor_shr}

two_pos : 0 < 2
two_pos = zero-lt-suc 1

-- a statement that holds of 0 and of 1 holds of every number below 2
pub by_digit {ℓ} : (P : ℕ → Type ℓ) → P 0 → P 1 → (x : ℕ) → x < 2 → P x
by_digit P p q zero h = p
by_digit P p q (suc zero) h = q
by_digit P p q (suc (suc x)) h = absurd (not-suc-le-zero (le_of_suc-le-suc (le_of_suc-le-suc h)))

differ_below : (x y : ℕ) → x < 2 → y < 2 → differ x y < 2
differ_below x y hx hy =
    by_digit (λ (u : ℕ). differ u y < 2) hy (by_digit (λ (v : ℕ). differ 1 v < 2) (le_refl 2) two_pos y hy) x hx

differ_assoc : (x y z : ℕ) → x < 2 → y < 2 → z < 2 → differ (differ x y) z ≡ differ x (differ y z)
differ_assoc x y z hx hy hz =
    by_digit (λ (u : ℕ). differ (differ u y) z ≡ differ u (differ y z)) refl
    (by_digit (λ (v : ℕ). differ (differ 1 v) z ≡ differ 1 (differ v z)) refl
    (by_digit (λ (w : ℕ). differ 0 w ≡ differ 1 (differ 1 w)) refl refl z hz) y hy) x hx

xor_odd : (a b : ℕ) → bit_xor a b % 2 ≡ differ (a % 2) (b % 2)
xor_odd a b =
    ap (λ (x : ℕ). x % 2) (xor_step a b)
    ∙ digits_mod (bit_xor (a / 2) (b / 2)) (differ_below (a % 2) (b % 2) (mod-lt a two_pos) (mod-lt b two_pos))

pub xor_assoc : (a b c : ℕ) → bit_xor (bit_xor a b) c ≡ bit_xor a (bit_xor b c)
xor_assoc =
    bin_ind (λ (n : ℕ). (b c : ℕ) → bit_xor (bit_xor n b) c ≡ bit_xor n (bit_xor b c)) (λ b c. refl)
    (λ n ih b c. xor_step (bit_xor n b) c
    ∙ ap₂ (λ (x y : ℕ). x * 2 + y)
    (ap (λ (x : ℕ). bit_xor x (c / 2)) (xor_shr n b 1) ∙ ih (b / 2) (c / 2)
    ∙ ap (bit_xor (n / 2)) (sym (xor_shr b c 1)))
    (ap (λ (x : ℕ). differ x (c % 2)) (xor_odd n b)
    ∙ differ_assoc (n % 2) (b % 2) (c % 2) (mod-lt n two_pos) (mod-lt b two_pos) (mod-lt c two_pos)
    ∙ ap (differ (n % 2)) (sym (xor_odd b c)))
    ∙ sym (xor_step n (bit_xor b c)))

xor_left_comm : (a b c : ℕ) → bit_xor a (bit_xor b c) ≡ bit_xor b (bit_xor a c)
xor_left_comm a b c = sym (xor_assoc a b c) ∙ ap (λ (x : ℕ). bit_xor x c) (xor_comm a b) ∙ xor_assoc b a c

-- (a + b) + (c + d) = (a + c) + (b + d)
pub xor_swap : (a b c d : ℕ) → bit_xor (bit_xor a b) (bit_xor c d) ≡ bit_xor (bit_xor a c) (bit_xor b d)
xor_swap a b c d = xor_assoc a b (bit_xor c d) ∙ ap (bit_xor a) (xor_left_comm b c d)
    ∙ sym (xor_assoc a c (bit_xor b d))

pub xor_double : (a b : ℕ) → bit_xor a b * 2 ≡ bit_xor (a * 2) (b * 2)
xor_double a b =
    sym
    (xor_step (a * 2) (b * 2)
    ∙ ap₂ (λ (x y : ℕ). x * 2 + y) (ap₂ bit_xor (mul-div_cancel a two_pos) (mul-div_cancel b two_pos))
    (ap₂ differ (mul-mod_left a 2) (mul-mod_left b 2))
    ∙ add-zero (bit_xor a b * 2))
