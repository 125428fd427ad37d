-- Item counts, class by class.
use Rattle.std.proofs.Common.{◌≡◌, ℕ, zero, suc, ◌+◌, ◌-◌, ◌*◌, ◌<◌, ◌≤◌, true, false, leb, List, [], ◌∷◌, ◌++◌, length, get_or, take, set, replicate, Ok, Err, sum, sym, refl, ap, ◌∙◌, ap₂, add-zero, arith}
use Rattle.std.proofs.lemmas.List.{append_assoc, take_more, take_all, length-take-le, set-append_right}
use Rattle.std.proofs.lemmas.List.Sums.{sum_by_more, sum_by-append, sum_by-cons}
use Rattle.std.proofs.lemmas.Bool.{leb-true, lt-leb, le-leb, and_parts, and_left, and_right, lt-ltb, le-ltb}
use Rattle.register_parts.specs.CheckedCounts.{each_at_most, for_16, checked_counts}
use Rattle.register_parts.specs.declared.setup_fault.SetUpFault.TheVariants.{TooManyClasses, TooManyItems, TooManyItemsInAll}

-- The first i of the counts are in the table, and their sum is s.
pub record Counted (counts table : List ℕ) (i s : ℕ) : Type 0 where
  pub table_is : table ≡ take i counts ++ replicate (16 - i) 0
  pub sum_is : s ≡ sum (take i counts)
  pub small : each_at_most 64 (take i counts) ≡ true
  pub bound : s ≤ 64 * i

pub counted_none : (counts : List ℕ) → Counted counts (replicate 16 0) 0 0
counted_none counts = record { table_is = refl; sum_is = refl; small = refl; bound = omega arith }

each_push : (n : ℕ) (xs : List ℕ) (y : ℕ) → each_at_most n xs ≡ true → y ≤ n → each_at_most n (xs ++ y ∷ []) ≡ true
each_push n [] y e h = rw (le-leb y n h)
each_push n (x ∷ xs) y e h = let z = and_parts (leb x n) (each_at_most n xs) e in rw z.0 (each_push n xs y z.1 h)

module _ (counts table : List ℕ) (i s y : ℕ) (w : Counted counts table i s) (few : length counts ≤ 16) (l : i < length counts) (is : y ≡ get_or counts i 0) where
  front : take (i + 1) counts ≡ take i counts ++ y ∷ []
  front = take_more counts i 0 l ∙ ap (λ z. take i counts ++ z ∷ []) (sym is)

  rest : set (replicate (16 - i) 0) (i - i) y ≡ y ∷ replicate (16 - (i + 1)) 0
  rest =
      let a : 16 - i ≡ suc (16 - (i + 1)) = omega arith in
      let b : i - i ≡ 0 = omega arith in
      rw (a, b)

  pub counted_next : y ≤ 64 → Counted counts (set table i y) (i + 1) (s + y)
  counted_next h = record {
    table_is =
        ap (λ t. set t i y) w.table_is
        ∙ set-append_right (take i counts) (replicate (16 - i) 0) i i y (length-take-le i counts (omega arith)) (omega arith)
        ∙ ap (λ t. take i counts ++ t) rest
        ∙ sym (append_assoc (take i counts) (y ∷ []) (replicate (16 - (i + 1)) 0))
        ∙ ap (λ t. t ++ replicate (16 - (i + 1)) 0) (sym front);
    sum_is = ap₂ (λ a b. a + b) w.sum_is is ∙ sym (sum_by_more (λ x. x) counts i 0 l);
    small = rw front (each_push 64 (take i counts) y w.small h);
    bound = omega (arith, w.bound);
  }

-- A count out of range anywhere.
each_not : (n : ℕ) (xs : List ℕ) (i : ℕ) → i < length xs → n < get_or xs i 0 → each_at_most n xs ≡ false
each_not n [] i l h = absurd (omega arith)
each_not n (x ∷ xs) zero l h = and_left (leb x n) (each_at_most n xs) (lt-leb x n h)
each_not n (x ∷ xs) (suc i) l h = and_right (leb x n) (each_at_most n xs) (each_not n xs i (omega arith) h)

each_at : (n : ℕ) (xs : List ℕ) (k i : ℕ) → each_at_most n xs ≡ true → get_or (xs ++ replicate k 0) i 0 ≤ n
each_at n [] zero i e = omega arith
each_at n [] (suc k) zero e = omega arith
each_at n [] (suc k) (suc i) e = each_at n [] k i e
each_at n (x ∷ xs) k zero e = leb-true x n (and_parts (leb x n) (each_at_most n xs) e).0
each_at n (x ∷ xs) k (suc i) e = each_at n xs k i (and_parts (leb x n) (each_at_most n xs) e).1

sum_zeros : (k : ℕ) → sum (replicate k 0) ≡ 0
sum_zeros zero = refl
sum_zeros (suc k) = sum_by-cons (λ x. x) 0 (replicate k 0) ∙ rw (sum_zeros k) refl

-- The refusals, and the counts once all are in the table.
module _ (counts : List ℕ) where
  pub too_many_classes : 16 < length counts → Err TooManyClasses ≡ checked_counts counts
  too_many_classes h = rw (lt-ltb 16 (length counts) h)

  module _ (few : length counts ≤ 16) where
    pub too_many_items : (i : ℕ) → i < length counts → 64 < get_or counts i 0 → Err TooManyItems ≡ checked_counts counts
    too_many_items i l h = rw (le-ltb 16 (length counts) few, each_not 64 counts i l h)

    module _ (table : List ℕ) (i s : ℕ) (w : Counted counts table i s) (all : length counts ≤ i) where
      small : each_at_most 64 counts ≡ true
      small = ap (each_at_most 64) (sym (take_all i counts all)) ∙ w.small

      sum_is : s ≡ sum counts
      sum_is = w.sum_is ∙ ap sum (take_all i counts all)

      table_is : i ≤ length counts → table ≡ for_16 counts
      table_is h =
          let n : i ≡ length counts = omega arith in
          w.table_is ∙ ap₂ (λ t k. t ++ replicate (16 - k) 0) (take_all i counts all) n

      pub too_many_in_all : 256 < s → Err TooManyItemsInAll ≡ checked_counts counts
      too_many_in_all h = let g : 256 < sum counts = omega (arith, sum_is) in rw (le-ltb 16 (length counts) few, small, lt-ltb 256 (sum counts) g)

      pub all_counted : i ≤ length counts → s ≤ 256 → Ok table ≡ checked_counts counts
      all_counted h g = let f : sum counts ≤ 256 = omega (arith, sum_is) in rw (le-ltb 16 (length counts) few, small, le-ltb 256 (sum counts) f) (ap Ok (table_is h))

      pub table_small : (c : ℕ) → get_or table c 0 ≤ 64
      table_small c = rw w.table_is (each_at 64 (take i counts) (16 - i) c w.small)

      pub table_sum : s ≤ 256 → sum table ≤ 256
      table_sum g =
          let e : sum table ≡ s = ap sum w.table_is ∙ sum_by-append (λ x. x) (take i counts) (replicate (16 - i) 0) ∙ ap₂ (λ a b. a + b) (sym w.sum_is) (sum_zeros (16 - i)) ∙ add-zero s in
          omega arith
