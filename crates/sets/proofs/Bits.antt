-- Binary digits of unions, single bits and intersections, and what a number that is not 0 has.
use Rattle.std.proofs.Common.{◌≡◌, ℕ, zero, suc, ◌+◌, ◌-◌, ◌*◌, ◌/◌, ◌%◌, ◌^◌, ◌<◌, ◌≤◌, true, false, ◌&&◌, ◌||◌, eqb, ltb, ◌⊎◌, refl, ap, ◌∙◌, inl, inr, ⊎_elim, add-one, arith, pow_pos, pow_mono}
use native.Mathlib.Nat.{div-eq_of_lt, div-eq_of_lt-le}
use lib.Bits.{bit_and, bit_or, or_shr, or_mod, and_shr, and_mod}
use Rattle.std.proofs.Math.Bool.{or_comm}
use Rattle.std.proofs.lemmas.Nat.{pow-add, pow_below, shl-shr, one_shl, leading_top}
use Rattle.std.proofs.lemmas.Bool.{cases_order, eq-eqb, ne_eqb, lt-ltb}
use Rattle.sets.specs.Members.{has_bit}

digit : ℕ → ℕ → ℕ
digit m i = m / 2 ^ i % 2

two : (n : ℕ) → n < 2 → (n ≡ 0) ⊎ (n ≡ 1)
two zero h = inl refl
two (suc zero) h = inr refl
two (suc (suc n)) h = absurd (omega arith)

digit_two : (m i : ℕ) → (digit m i ≡ 0) ⊎ (digit m i ≡ 1)
unfolding digit
digit_two m i = two (m / 2 ^ i % 2) (omega arith)

or_digit : (a b j : ℕ) → digit (bit_or a b) j ≡ bit_or (digit a j) (digit b j)
unfolding digit
or_digit a b j = rw (or_shr a b j) (or_mod (a / 2 ^ j) (b / 2 ^ j) 1)

and_digit : (a b j : ℕ) → digit (bit_and a b) j ≡ bit_and (digit a j) (digit b j)
unfolding digit
and_digit a b j = rw (and_shr a b j) (and_mod (a / 2 ^ j) (b / 2 ^ j) 1)

pub has_or : (a b j : ℕ) → has_bit (bit_or a b) j ≡ (has_bit a j || has_bit b j)
unfolding digit
has_or a b j = ap (λ n. eqb n 1) (or_digit a b j) ∙ split (digit_two a j) (digit_two b j)
  where
    split : (digit a j ≡ 0) ⊎ (digit a j ≡ 1) → (digit b j ≡ 0) ⊎ (digit b j ≡ 1) → eqb (bit_or (digit a j) (digit b j)) 1 ≡ (eqb (digit a j) 1 || eqb (digit b j) 1)
    split (inl x) (inl y) = rw (x, y)
    split (inl x) (inr y) = rw (x, y)
    split (inr x) (inl y) = rw (x, y)
    split (inr x) (inr y) = rw (x, y)

pub has_and : (a b j : ℕ) → has_bit (bit_and a b) j ≡ (has_bit a j && has_bit b j)
unfolding digit
has_and a b j = ap (λ n. eqb n 1) (and_digit a b j) ∙ split (digit_two a j) (digit_two b j)
  where
    split : (digit a j ≡ 0) ⊎ (digit a j ≡ 1) → (digit b j ≡ 0) ⊎ (digit b j ≡ 1) → eqb (bit_and (digit a j) (digit b j)) 1 ≡ (eqb (digit a j) 1 && eqb (digit b j) 1)
    split (inl x) (inl y) = rw (y, x)
    split (inl x) (inr y) = rw (y, x)
    split (inr x) (inl y) = rw (y, x)
    split (inr x) (inr y) = rw (y, x)

pub has_one : (i j : ℕ) → has_bit (2 ^ i) j ≡ eqb i j
has_one i j =
    ⊎_elim
    (λ (e : i ≡ j).
    let t : eqb i j ≡ true = eq-eqb i j e in
    let q : 1 * 2 ^ j / 2 ^ j ≡ 1 = shl-shr 1 j in
    let r : 1 * 2 ^ j ≡ 2 ^ j = omega arith in
    let u : 2 ^ j / 2 ^ j ≡ 1 = rw r at q in
    rw (t, e, u))
    (⊎_elim
    (λ (l : i < j).
    let t : eqb i j ≡ false = ne_eqb i j (λ w. omega arith) in
    let q : 2 ^ i / 2 ^ j ≡ 0 = div-eq_of_lt (pow_below i j l) in
    rw (t, q))
    (λ (l : j < i).
    let t : eqb i j ≡ false = ne_eqb i j (λ w. omega arith) in
    let k = i - j - 1 in
    let s : i ≡ (k + 1) + j = omega arith in
    let a : 2 ^ ((k + 1) + j) ≡ 2 ^ (k + 1) * 2 ^ j = pow-add 2 (k + 1) j in
    let b : 2 ^ (k + 1) ≡ 2 ^ k * 2 = pow-add 2 k 1 in
    let d : 2 ^ (k + 1) * 2 ^ j / 2 ^ j ≡ 2 ^ (k + 1) = shl-shr (2 ^ (k + 1)) j in
    let u : 2 ^ i / 2 ^ j ≡ 2 ^ (k + 1) = ap (λ x. 2 ^ x / 2 ^ j) s ∙ ap (λ x. x / 2 ^ j) a ∙ d in
    let z : 2 ^ k * 2 % 2 ≡ 0 = omega arith in
    rw t (ap (λ x. eqb (x % 2) 1) (u ∙ b) ∙ ap (λ x. eqb x 1) z)))
    (cases_order i j)

-- A number below 2 ^ n has no digit 1 from n on.
pub has_past : (m n j : ℕ) → m < 2 ^ n → n ≤ j → has_bit m j ≡ false
has_past m n j h l =
    let p : 2 ^ n ≤ 2 ^ j = pow_mono l in
    let q : m / 2 ^ j ≡ 0 = div-eq_of_lt (omega arith) in
    rw q

pub has_none : (j : ℕ) → has_bit 0 j ≡ false
has_none j = let q : 0 / 2 ^ j ≡ 0 = div-eq_of_lt (pow_pos j) in rw q

top_digit : (n j : ℕ) → 2 ^ j ≤ n → n < 2 ^ suc j → has_bit n j ≡ true
top_digit n j lo hi =
    let p : 2 ^ (j + 1) ≡ 2 ^ j * 2 = pow-add 2 j 1 in
    let hi' : n < 2 ^ (j + 1) = rw (add-one j) hi in
    let q : n / 2 ^ j ≡ 1 = div-eq_of_lt-le {k = 1} (2 ^ j) {m = n} (omega arith) (omega arith) in
    rw q

-- The highest digit 1 of a number that is not 0.
pub has_top : (w m : ℕ) → m < 2 ^ w → (m ≡ 0 → ⊥) → (j : ℕ) × (j < w) × (2 ^ j ≤ m) × (m < 2 ^ suc j) × (has_bit m j ≡ true)
has_top w m h n0 =
    let r = leading_top w m (omega arith) (omega arith) in
    (r.0, omega arith, r.2, r.3, top_digit m r.0 r.2 r.3)

-- A bit added to a word of 64 bits.
pub has_with : (a i j : ℕ) → i < 64 → has_bit (bit_or a ((1 * 2 ^ i) % 2 ^ 64)) j ≡ ((ltb i 64 && eqb i j) || has_bit a j)
has_with a i j h =
    let t : ltb i 64 ≡ true = lt-ltb i 64 h in
    ap (λ n. has_bit (bit_or a n) j) (one_shl i 64 h) ∙ has_or a (2 ^ i) j ∙ or_comm (has_bit a j) (has_bit (2 ^ i) j) ∙ rw t (ap (λ b. b || has_bit a j) (has_one i j))
