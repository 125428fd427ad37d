-- Sets of compartments within one another, and how many compartments they have.
use Rattle.std.specs.Prelude.{◌≡◌, ℕ, zero, suc, ◌+◌, ◌*◌, ◌/◌, ◌%◌, ◌^◌, ◌<◌, ◌≤◌, min, true, bit_and, count_ones, nat_eq}
use Rattle.std.proofs.Common.{sym, ap, ◌∙◌, ⊎_elim, arith}
use Rattle.std.specs.Int.Bits.{and_step, and_zero_l, and_zero_r}
use Rattle.std.specs.Int.Count.{ones_step}
use Rattle.std.proofs.lemmas.Nat.{shr-shr}
use Rattle.std.proofs.lemmas.Bool.{and_parts, eq-eqb, eqb-true, cases_lt}
use Rattle.sets.specs.Members.{has_bit}
use Rattle.sets.proofs.Bits.{has_and}
use Rattle.orders.specs.Labels.{Includes}

halves : (a b : ℕ) → bit_and a b ≡ b → (bit_and (a / 2) (b / 2) ≡ b / 2) × (b % 2 ≤ a % 2)
halves a b h = let s : bit_and (a / 2) (b / 2) * 2 + min (a % 2) (b % 2) ≡ b = sym (and_step a b) ∙ h in (omega arith, omega arith)

whole : (a b : ℕ) → bit_and (a / 2) (b / 2) ≡ b / 2 → b % 2 ≤ a % 2 → bit_and a b ≡ b
whole a b h k = and_step a b ∙ rw h (omega arith)

pub subset_transitive : (k a b c : ℕ) → c < 2 ^ k → bit_and a b ≡ b → bit_and b c ≡ c → bit_and a c ≡ c
subset_transitive zero a b c h p q = let z : c ≡ 0 = omega arith in rw z (and_zero_r a)
subset_transitive (suc k) a b c h p q =
    let x = halves a b p in
    let y = halves b c q in
    whole a c (subset_transitive k (a / 2) (b / 2) (c / 2) (omega arith) x.0 y.0) (omega arith)

shift : (m j : ℕ) → has_bit (m / 2) j ≡ has_bit m (1 + j)
shift m j = ap (λ x. nat_eq (x % 2) 1) (shr-shr m 1 j)

lowest_digit : (a b : ℕ) → Includes a b → b % 2 ≤ a % 2
lowest_digit a b h =
    ⊎_elim (λ (z : b % 2 < 1). omega arith)
    (λ (z : 1 ≤ b % 2).
    let t : has_bit b 0 ≡ true = eq-eqb (b / 1 % 2) 1 (omega arith) in
    let e : a / 1 % 2 ≡ 1 = eqb-true (a / 1 % 2) 1 (h 0 t) in
    omega arith)
    (cases_lt (b % 2) 1)

pub from_members : (k a b : ℕ) → b < 2 ^ k → Includes a b → bit_and a b ≡ b
from_members zero a b h i = let z : b ≡ 0 = omega arith in rw z (and_zero_r a)
from_members (suc k) a b h i =
    whole a b (from_members k (a / 2) (b / 2) (omega arith) (λ j t. shift a j ∙ i (1 + j) (sym (shift b j) ∙ t))) (lowest_digit a b i)

pub to_members : (a b : ℕ) → bit_and a b ≡ b → Includes a b
to_members a b h k t = (and_parts (has_bit a k) (has_bit b k) (sym (has_and a b k) ∙ ap (λ x. has_bit x k) h ∙ t)).0

-- A subset has no more members, and as many only if it is the whole set.
pub subset_ones : (k a b : ℕ) → a < 2 ^ k → bit_and a b ≡ b → (count_ones b ≤ count_ones a) × (count_ones a ≤ count_ones b → a ≡ b)
subset_ones zero a b h p =
    let z : a ≡ 0 = omega arith in
    let y : b ≡ 0 = sym p ∙ ap (λ x. bit_and x b) z ∙ and_zero_l b in
    (rw (z, y) (omega arith), λ _. z ∙ sym y)
subset_ones (suc k) a b h p =
    let x = halves a b p in
    let r = subset_ones k (a / 2) (b / 2) (omega arith) x.0 in
    let s = ones_step a in
    let t = ones_step b in
    (omega arith, λ w. let e : a / 2 ≡ b / 2 = r.1 (omega arith) in omega arith)
