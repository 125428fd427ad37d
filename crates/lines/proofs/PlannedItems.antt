-- The item counts of a plan: how many there are, and what one more comes to.
use Rattle.std.proofs.Common.{◌≡◌, ℕ, ◌+◌, ◌<◌, ◌≤◌, Bool, true, false, cond, not, ◌&&◌, ltb, leb, List, [], ◌∷◌, ◌++◌, length, take, set, Ok, Err, sum, refl, ap, ◌∙◌, ⊎_elim, add-one, arith, take-suc-set}
use Rattle.std.proofs.lemmas.List.{length-append, length-map, length-take-le, map-append}
use Rattle.std.proofs.lemmas.List.Sums.{sum_by_push}
use Rattle.std.proofs.lemmas.Bool.{cases_lt, and_parts, lt-ltb, le-ltb, le-leb, lt-leb}
use Rattle.register_parts.specs.CheckedCounts.{said, each_at_most, for_16, checked_counts}
use Rattle.register_parts.specs.declared.class_setup.ClassSetup.{ClassSetup}
use Rattle.register_parts.specs.declared.setup_fault.SetUpFault.{SetUpFault}
use Rattle.register_parts.specs.declared.setup_fault.SetUpFault.TheVariants.{TooManyItems, TooManyItemsInAll}
use Rattle.lines.specs.LineFaults.{fault_of_setup}
use Rattle.lines.specs.declared.line_fault.LineFault.TheVariants.{OutOfRange}

-- Not below is at least.
pub not_below : (a b : ℕ) → leb b a ≡ not (ltb a b)
not_below a b = ⊎_elim (λ (l : a < b). rw (lt-ltb a b l, lt-leb b a l)) (λ (l : b ≤ a). rw (le-ltb a b l, le-leb b a l)) (cases_lt a b)

-- As many counts as classes.
pub said_length : (n : ℕ) (records : List ClassSetup) → n ≤ length records → length (said (take n records)) ≡ n
said_length n records h = length-map (take n records) (λ (x : ClassSetup). x.items) ∙ length-take-le n records h

pub said_push : (n : ℕ) (records : List ClassSetup) (x : ClassSetup) → n < length records → said (take (n + 1) (set records n x)) ≡ said (take n records) ++ (x.items ∷ [])
said_push n records x h = rw add-one (ap said (take-suc-set records n x h) ∙ map-append (λ (x : ClassSetup). x.items) (take n records) (x ∷ []))

pub each_push : (n : ℕ) (xs : List ℕ) (y : ℕ) → each_at_most n xs ≡ true → each_at_most n (xs ++ (y ∷ [])) ≡ leb y n
each_push n [] y e = go (leb y n)
  where
    go : (q : Bool) → (q && true) ≡ q
    go true = refl
    go false = refl
each_push n (x ∷ xs) y e = let z = and_parts (leb x n) (each_at_most n xs) e in rw z.0 (each_push n xs y z.1)

-- The counts, all of them in range.
pub checked : (items : List ℕ) → length items ≤ 16 → each_at_most 64 items ≡ true → sum items ≤ 256 → checked_counts items ≡ Ok (for_16 items)
checked items few small sum_small = rw (le-ltb 16 (length items) few, small, le-ltb 256 (sum items) sum_small)

-- One more count, judged with the others.
module _ (items : List ℕ) (n : ℕ) (few : length items < 16) (small : each_at_most 64 items ≡ true) where
  judged : checked_counts (items ++ (n ∷ [])) ≡ cond (leb n 64) (cond (ltb 256 (sum items + n)) (Err TooManyItemsInAll) (Ok (for_16 (items ++ (n ∷ []))))) (Err TooManyItems)
  judged =
      let l : length (items ++ (n ∷ [])) ≤ 16 = rw length-append (omega arith) in
      rw (le-ltb 16 (length (items ++ (n ∷ []))) l, each_push 64 items n small, sum_by_push (λ (x : ℕ). x) items n)

  by_tests : (a b : Bool) (table : List ℕ) (e : SetUpFault) → Err e ≡ cond a (cond b (Err TooManyItemsInAll) (Ok table)) (Err TooManyItems)
      → ((a && not b) ≡ false) × (fault_of_setup e ≡ OutOfRange)
  by_tests true true table e h = let q : e ≡ TooManyItemsInAll = cc in (refl, ap fault_of_setup q)
  by_tests true false table e h = let z : ◌≡◌ {A = ℕ} 0 1 = cc in absurd (omega arith)
  by_tests false b table e h = let q : e ≡ TooManyItems = cc in (refl, ap fault_of_setup q)

  by_tests_good : (a b : Bool) (table good : List ℕ) → Ok good ≡ cond a (cond b (Err TooManyItemsInAll) (Ok table)) (Err TooManyItems) → (a && not b) ≡ true
  by_tests_good true true table good h = let z : ◌≡◌ {A = ℕ} 0 1 = cc in absurd (omega arith)
  by_tests_good true false table good h = refl
  by_tests_good false b table good h = let z : ◌≡◌ {A = ℕ} 0 1 = cc in absurd (omega arith)

  pub refused_count : (e : SetUpFault) → Err e ≡ checked_counts (items ++ (n ∷ [])) → ((leb n 64 && leb (sum items + n) 256) ≡ false) × (fault_of_setup e ≡ OutOfRange)
  refused_count e h = rw (not_below 256 (sum items + n)) (by_tests (leb n 64) (ltb 256 (sum items + n)) (for_16 (items ++ (n ∷ []))) e (h ∙ judged))

  pub good_count : (good : List ℕ) → Ok good ≡ checked_counts (items ++ (n ∷ [])) → (leb n 64 && leb (sum items + n) 256) ≡ true
  good_count good h = rw (not_below 256 (sum items + n)) (by_tests_good (leb n 64) (ltb 256 (sum items + n)) (for_16 (items ++ (n ∷ []))) good (h ∙ judged))
