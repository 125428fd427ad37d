-- What it says that two sets overlap, and that a set lies below a number.
use Rattle.std.proofs.Common.{◌≡◌, ℕ, suc, ◌/◌, ◌^◌, ◌<◌, ◌≤◌, true, false, not, ◌&&◌, eqb, ltb, sym, ap, ◌∙◌, ⊎_elim, arith, pow_pos, pow_mono}
use native.Mathlib.Nat.{div-eq_of_lt}
use lib.Bits.{bit_and}
use Rattle.std.proofs.lemmas.Nat.{and_le_l, le-div}
use Rattle.std.proofs.lemmas.Bool.{both_ways, cases_Bool, cases_lt, eq-eqb, eqb-true, eqb-false, ne_eqb, le-ltb, ltb-false, not-true, not_from_false, and_parts, and_from}
use Rattle.std.proofs.lemmas.Bool.Decides.{same_from_decides}
use Rattle.sets.specs.Below.{some_below}
use Rattle.sets.specs.Members.{Members, has_bit, overlap, all_under}
use Rattle.sets.proofs.Below.{some_is}
use Rattle.sets.proofs.Bits.{has_and, has_none, has_past, has_top}

pub overlap_at : (p q : Members) (m : ℕ) → m < 64 → p m ≡ true → q m ≡ true → overlap p q ≡ true
unfolding overlap
overlap_at p q m h x y = (some_is (λ m. p m && q m) 64).1 (m, h, and_from (p m) (q m) x y)

pub overlap_gives : (p q : Members) → overlap p q ≡ true → (m : ℕ) × (m < 64) × (p m ≡ true) × (q m ≡ true)
unfolding overlap
overlap_gives p q t =
    let r = (some_is (λ m. p m && q m) 64).0 t in
    let both = and_parts (p r.0) (q r.0) r.2 in
    (r.0, r.1, both.0, both.1)

-- Two words of 64 bits share a bit just if their sets overlap.
pub overlap_bits : (a b : ℕ) → a < 2 ^ 64 → not (eqb (bit_and a b) 0) ≡ overlap (has_bit a) (has_bit b)
overlap_bits a b h = same_from_decides (not (eqb (bit_and a b) 0)) (overlap (has_bit a) (has_bit b)) (to, from) ((λ e. e), (λ e. e))
  where
    to : not (eqb (bit_and a b) 0) ≡ true → overlap (has_bit a) (has_bit b) ≡ true
    to t =
        let n0 : bit_and a b ≡ 0 → ⊥ = eqb-false (bit_and a b) 0 (not-true (eqb (bit_and a b) 0) t) in
        let le : bit_and a b ≤ a = and_le_l a b in
        let r = has_top 64 (bit_and a b) (omega arith) n0 in
        let both = and_parts (has_bit a r.0) (has_bit b r.0) (sym (has_and a b r.0) ∙ r.4) in
        overlap_at (has_bit a) (has_bit b) r.0 r.1 both.0 both.1

    from : overlap (has_bit a) (has_bit b) ≡ true → not (eqb (bit_and a b) 0) ≡ true
    from t =
        let r = overlap_gives (has_bit a) (has_bit b) t in
        let e : has_bit (bit_and a b) r.0 ≡ true = has_and a b r.0 ∙ and_from (has_bit a r.0) (has_bit b r.0) r.2 r.3 in
        let n0 : bit_and a b ≡ 0 → ⊥ = λ z. both_ways (has_bit (bit_and a b) r.0) (ap (λ x. has_bit x r.0) z ∙ has_none r.0) e in
        not_from_false (eqb (bit_and a b) 0) (ne_eqb (bit_and a b) 0 n0)

pub all_under_at : (n : ℕ) (p : Members) (m : ℕ) → all_under n p ≡ true → m < 64 → p m ≡ true → m < n
unfolding all_under
all_under_at n p m t h x =
    ⊎_elim (λ (l : m < n). l)
    (λ (l : n ≤ m).
    let s : some_below 64 (λ m. p m && not (ltb m n)) ≡ true =
    (some_is (λ m. p m && not (ltb m n)) 64).1 (m, h, and_from (p m) (not (ltb m n)) x (not_from_false (ltb m n) (le-ltb m n l))) in
    absurd (both_ways (some_below 64 (λ m. p m && not (ltb m n))) (not-true (some_below 64 (λ m. p m && not (ltb m n))) t) s))
    (cases_lt m n)

pub all_under_from : (n : ℕ) (p : Members) → ((m : ℕ) → m < 64 → p m ≡ true → m < n) → all_under n p ≡ true
unfolding all_under
all_under_from n p h =
    ⊎_elim
    (λ (t : some_below 64 (λ m. p m && not (ltb m n)) ≡ true).
    let r = (some_is (λ m. p m && not (ltb m n)) 64).0 t in
    let both = and_parts (p r.0) (not (ltb r.0 n)) r.2 in
    let l : n ≤ r.0 = ltb-false r.0 n (not-true (ltb r.0 n) both.1) in
    let g : r.0 < n = h r.0 r.1 both.0 in
    absurd (omega arith))
    (λ (t : some_below 64 (λ m. p m && not (ltb m n)) ≡ false). not_from_false (some_below 64 (λ m. p m && not (ltb m n))) t)
    (cases_Bool (some_below 64 (λ m. p m && not (ltb m n))))

-- A word of 64 bits, shifted right by n, is 0 just if its set lies below n.
pub all_under_bits : (a n : ℕ) → a < 2 ^ 64 → eqb (a / 2 ^ n) 0 ≡ all_under n (has_bit a)
all_under_bits a n h = same_from_decides (eqb (a / 2 ^ n) 0) (all_under n (has_bit a)) (to, from) ((λ e. e), (λ e. e))
  where
    small : a / 2 ^ n ≡ 0 → a < 2 ^ n
    small z = ⊎_elim (λ (l : a < 2 ^ n). l) (λ (l : 2 ^ n ≤ a). let q : 1 ≤ a / 2 ^ n = le-div 1 a (2 ^ n) (pow_pos n) (omega arith) in absurd (omega arith)) (cases_lt a (2 ^ n))

    to : eqb (a / 2 ^ n) 0 ≡ true → all_under n (has_bit a) ≡ true
    to t =
        all_under_from n (has_bit a)
        (λ m l x. ⊎_elim (λ (s : m < n). s) (λ (s : n ≤ m). absurd (both_ways (has_bit a m) (has_past a n m (small (eqb-true (a / 2 ^ n) 0 t)) s) x)) (cases_lt m n))

    from : all_under n (has_bit a) ≡ true → eqb (a / 2 ^ n) 0 ≡ true
    from t = ⊎_elim (λ (l : a < 2 ^ n). eq-eqb (a / 2 ^ n) 0 (div-eq_of_lt l)) (λ (l : 2 ^ n ≤ a). absurd (high l)) (cases_lt a (2 ^ n))
      where
        high : 2 ^ n ≤ a → ⊥
        high l =
            let p : 0 < 2 ^ n = pow_pos n in
            let r = has_top 64 a h (λ (z : a ≡ 0). omega arith) in
            let s : r.0 < n = all_under_at n (has_bit a) r.0 t r.1 r.4 in
            let q : 2 ^ suc r.0 ≤ 2 ^ n = pow_mono s in
            let u : a < 2 ^ suc r.0 = r.3 in
            omega arith
