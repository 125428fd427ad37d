-- Which places of lent memory a call has left as they were.
use Rattle.std.proofs.Common.{◌≡◌, ℕ, ◌<◌, Bool, false, ◌&&◌, nat_lt, eqb, set, sym, refl, subst}
use Rattle.std.proofs.Math.Bool.{and-false}
use Rattle.std.proofs.lemmas.List.{length-set, get_or-set_other}
use Rattle.std.proofs.lemmas.Bool.{eqb-false, lt-ltb}
use Rattle.rules.specs.Claims.{Claims}
use Rattle.rules.specs.declared.local_rule.LocalRule.{Ghosts as RuleGhosts}
use Rattle.laws.specs.Setting.{bay_count}
use Rattle.jobs.specs.Lent.{with_rules, RuleBecomes, ChangedOnly}
use Rattle.jobs.specs.OwnPlaces.{if_bay}
use Rattle.jobs.specs.declared.memory.Memory.{Memory}

-- Every place that test a names is named by test a' too.
abbrev pub NamesNoLess : (a a' : ℕ → Bool) → Type 0
NamesNoLess a a' = (k : ℕ) → a' k ≡ false → a k ≡ false

pub changed_at_most : {V R : Type 0} {m m' : Memory V R} {a b c a' b' c' : ℕ → Bool} → NamesNoLess a a' → NamesNoLess b b' → NamesNoLess c c'
    → ChangedOnly a b c m m' → ChangedOnly a' b' c' m m'
changed_at_most f g h z = record {
  lenders = z.lenders;
  lengths = z.lengths;
  cells = λ k n. z.cells k (f k n);
  pending = λ k n. z.pending k (g k n);
  rules = λ k n. z.rules k (h k n);
}

-- Where there is the bay, a call for it may change all of the places.
pub bay_names : (n c b : ℕ) (places : ℕ → Bool) → c < n → b < bay_count → NamesNoLess places (if_bay n c b places)
bay_names n c b places l h k e = rw (lt-ltb c n l, lt-ltb b bay_count h) at e

-- And it changes none but these.
pub bay_names_only : (n c b : ℕ) (places : ℕ → Bool) → NamesNoLess (if_bay n c b places) places
bay_names_only n c b places k e = rw e (and-false (nat_lt c n && nat_lt b bay_count))

module _ {V R : Type 0} (at_cells at_pending : ℕ → Bool) (m : Memory V R) where
  pub nothing_changed : (at_rules : ℕ → Bool) → ChangedOnly at_cells at_pending at_rules m m
  nothing_changed at_rules = record {
    lenders = (refl, refl, refl);
    lengths = (refl, refl, refl);
    cells = λ k n d. refl;
    pending = λ k n d. refl;
    rules = λ k n d. refl;
  }

  pub one_rule_changed : (c : ℕ) (rule : R) → ChangedOnly at_cells at_pending (eqb c) m (with_rules m (set m.rules.now c rule))
  one_rule_changed c rule = record {
    lenders = (refl, refl, refl);
    lengths = (refl, refl, length-set m.rules.now c rule);
    cells = λ k n d. refl;
    pending = λ k n d. refl;
    rules = λ k n d. get_or-set_other m.rules.now c k rule d (λ e. eqb-false c k n (sym e));
  }

  pub rule_becomes_changed : (r : RuleGhosts R) (c : ℕ) (claims : Claims) (m' : Memory V R) → RuleBecomes r c claims m m' → ChangedOnly at_cells at_pending (eqb c) m m'
  rule_becomes_changed r c claims m' z = subst (ChangedOnly at_cells at_pending (eqb c) m) (sym z.1) (one_rule_changed c z.0)

  pub bay_rule_changed : (r : RuleGhosts R) (n c b : ℕ) → c < n → b < bay_count → (claims : Claims) (m' : Memory V R) → RuleBecomes r c claims m m'
      → ChangedOnly at_cells at_pending (if_bay n c b (eqb c)) m m'
  bay_rule_changed r n c b l h claims m' z =
      changed_at_most (λ k e. e) (λ k e. e) (bay_names n c b (eqb c) l h) (rule_becomes_changed r c claims m' z)
