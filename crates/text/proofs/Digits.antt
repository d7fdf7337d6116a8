-- Laws of digits.
use mathlib.Core.Path.{◌≡◌, refl, sym, ap, ◌∙◌}
use mathlib.Core.List.{List, [], ◌∷◌, ◌++◌}
use Prim.Native.Nat.{ℕ, zero, suc, ◌+◌, ◌/◌, ◌%◌, ◌^◌, ◌≤◌, ◌<◌}
use native.Mathlib.Omega.{arith}
use native.Mathlib.Decide.{dec_lt}
use borrow.Author.Tests.{lt-ltb, le-ltb}
use lib.ListN.{length, length-append}
use Rattle.std.specs.Fmt as standard
use Rattle.std.proofs.lemmas.Fmt.{decimal_by_steps}
use Rattle.text.specs.Text.{digits, width_within, width_of, decimal, four_digits}

pub digits-length : (k n : ℕ) → length (digits k n) ≡ k
unfolding digits
digits-length zero n = refl
digits-length (suc k) n = omega (arith, length-append (digits k (n / 10)) ((48 + n % 10) ∷ []), digits-length k (n / 10))

-- ---- how many

-- below ten there is one digit, however far one looks
within-one : (k n : ℕ) → n < 10 → width_within k n ≡ 1
unfolding width_within
within-one zero n h = refl
within-one (suc k) n h = rw (lt-ltb n 10 h)

within_more : (k n : ℕ) → 10 ≤ n → width_within (suc k) n ≡ suc (width_within k (n / 10))
unfolding width_within
within_more k n h = rw (le-ltb n 10 h)

-- how far one looks makes no difference beyond the number itself
within_same : (k l n : ℕ) → n ≤ k → n ≤ l → width_within k n ≡ width_within l n
within_same zero l n hk hl = within-one zero n (omega arith) ∙ sym (within-one l n (omega arith))
within_same (suc k) zero n hk hl = within-one (suc k) n (omega arith) ∙ sym (within-one zero n (omega arith))
within_same (suc k) (suc l) n hk hl = go (within_same k l (n / 10)) (dec_lt n 10)
  where
    go : (n / 10 ≤ k → n / 10 ≤ l → width_within k (n / 10) ≡ width_within l (n / 10)) → Dec (n < 10)
        → width_within (suc k) n ≡ width_within (suc l) n
    go IH (yes h) = within-one (suc k) n h ∙ sym (within-one (suc l) n h)
    go IH (no h) =
        within_more k n (omega arith) ∙ ap suc (IH (omega arith) (omega arith)) ∙ sym (within_more l n (omega arith))

pub width_one : (n : ℕ) → n < 10 → width_of n ≡ 1
unfolding width_of
width_one n h = within-one n n h

pub width-more : (n : ℕ) → 10 ≤ n → width_of n ≡ suc (width_of (n / 10))
unfolding width_of
width-more zero h = omega arith
width-more (suc m) h =
    within_more m (suc m) h ∙ ap suc (within_same m (suc m / 10) (suc m / 10) (omega arith) (omega arith))

-- a number below 10 ^ (k + 1) takes k + 1 digits at most
pub width-le : (k n : ℕ) → n < 10 ^ suc k → width_of n ≤ suc k
width-le zero n h = omega (arith, width_one n (omega arith))
width-le (suc k) n h = go (width-le k (n / 10)) (dec_lt n 10)
  where
    go : (n / 10 < 10 ^ suc k → width_of (n / 10) ≤ suc k) → Dec (n < 10) → width_of n ≤ suc (suc k)
    go IH (yes l) = omega (arith, width_one n l)
    go IH (no l) = omega (arith, width-more n (omega arith), IH (omega arith))

-- ---- what a decimal number is

-- a digit before the last, as long as there is one
decimal_one : (n : ℕ) → n < 10 → decimal n ≡ (48 + n) ∷ []
unfolding decimal digits
decimal_one n h = rw (width_one n h) (ap (λ (d : ℕ). (48 + d) ∷ []) (omega arith))

decimal_more : (n : ℕ) → 10 ≤ n → decimal n ≡ decimal (n / 10) ++ ((48 + n % 10) ∷ [])
unfolding decimal digits
decimal_more n h = rw (width-more n h) refl

-- it is what is printed of a number elsewhere, as by `{}`
pub decimal_is : (n : ℕ) → n < 2 ^ 64 → standard.decimal n ≡ decimal n
decimal_is n h =
    decimal_by_steps (λ (k : ℕ) (ds : List ℕ). ds ≡ decimal k) (λ k l. sym (decimal_one k l))
    (λ k ds l e. ap (λ (xs : List ℕ). xs ++ ((48 + k % 10) ∷ [])) e ∙ sym (decimal_more k l)) n h

pub decimal-length : (n : ℕ) → length (decimal n) ≡ width_of n
unfolding decimal
decimal-length n = digits-length (width_of n) n

pub decimal-le : (k n : ℕ) → n < 10 ^ suc k → length (decimal n) ≤ suc k
decimal-le k n h = omega (arith, decimal-length n, width-le k n h)

pub four-length : (n : ℕ) → length (four_digits n) ≡ 4
unfolding four_digits
four-length n = digits-length 4 n
