-- What a call may change lies within what the register needs.
use Rattle.std.proofs.Common.{◌≡◌, ℕ, ◌+◌, ◌<◌, ◌≤◌, Bool, true, false, ◌&&◌, eqb, ltb, leb, List, get_or, refl, arith}
use Rattle.std.proofs.lemmas.Bool.{ltb-true, ltb-false, le-ltb, ne_eqb, and_right}
use Rattle.laws.specs.Setting.{sum_below, bay_count}
use Rattle.cells.specs.declared.value.Value.{Ghosts as ValueGhosts}
use Rattle.orders.specs.declared.class_order.ClassOrder.{Ghosts as OrderGhosts}
use Rattle.rules.specs.declared.local_rule.LocalRule.{Ghosts as RuleGhosts}
use Rattle.jobs.specs.Lent.{none, below, from_on, ChangedOnly}
use Rattle.jobs.specs.OwnPlaces.{cells_of, if_bay}
use Rattle.jobs.specs.Represents.{setting}
use Rattle.jobs.specs.declared.memory.Memory.{Memory}
use Rattle.jobs.specs.declared.register.Register.{Register}
use Rattle.jobs.proofs.ItemSums.{sum_in}
use Rattle.jobs.proofs.LentChanges.{NamesNoLess, changed_at_most}
use Rattle.lines.specs.Needs.{needed, ChangedWithin}

-- Places that end at the n-th or before.
from_on_within : (a m n : ℕ) → a + m ≤ n → NamesNoLess (from_on a m) (below n)
from_on_within a m n h k e = and_right (leb a k) (ltb k (a + m)) (le-ltb k (a + m) (omega (arith, ltb-false k n e)))

-- Places of a bay need to lie within only where there is that bay.
bay_within : (n c b : ℕ) (places wider : ℕ → Bool) → (c < n → b < bay_count → NamesNoLess places wider) → NamesNoLess (if_bay n c b places) wider
bay_within n c b places wider h k e = go (ltb c n) refl (ltb b bay_count) refl
  where
    go : (p : Bool) → ltb c n ≡ p → (q : Bool) → ltb b bay_count ≡ q → (p && q) && places k ≡ false
    go false f q g = refl
    go true f false g = refl
    go true f true g = h (ltb-true c n f) (ltb-true b bay_count g) k e

module _ (n c b : ℕ) where
  rule_within : NamesNoLess (if_bay n c b (eqb c)) (below n)
  rule_within = bay_within n c b (eqb c) (below n) (λ l h k e. ne_eqb c k (λ same. omega (arith, ltb-false k n e)))

  cells_within : (counts : List ℕ) → NamesNoLess (if_bay n c b (cells_of counts c)) (below (sum_below n (λ d. get_or counts d 0)))
  cells_within counts =
      let items : ℕ → ℕ = λ d. get_or counts d 0 in
      bay_within n c b (cells_of counts c) (below (sum_below n items))
      (λ l h. from_on_within (sum_below c items) (items c) (sum_below n items) (sum_in items c n l))

-- A commit for bay b of class c.
module _ {O V R : Type 0} (o : OrderGhosts O) (v : ValueGhosts V) (r : RuleGhosts R) (x : Register O) (m m' : Memory V R) (c b : ℕ) where
  abbrev its : (ℕ → Bool) → ℕ → Bool
  its = if_bay (o.classes x.order) c b

  pub commit_within : ChangedOnly (its (cells_of x.counts.items c)) none (its (eqb c)) m m' → ChangedWithin (needed (setting o v r x)) m m'
  commit_within = changed_at_most (cells_within (o.classes x.order) c b x.counts.items) (λ k e. refl) (rule_within (o.classes x.order) c b)
