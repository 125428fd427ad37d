-- The laws follow for every call that replies, and leaves, what the definition says.
use Rattle.std.proofs.Common.{◌≡◌, ℕ, ◌<◌, ◌≤◌, true, ◌∷◌, sym, subst, arith}
use Rattle.cells.specs.declared.value.Value.{Ghosts as ValueGhosts}
use Rattle.orders.specs.declared.class_order.ClassOrder.{Ghosts as OrderGhosts}
use Rattle.rules.specs.declared.access.Access.{Access}
use Rattle.rules.specs.declared.access.Access.TheVariants.{Read, Write}
use Rattle.rules.specs.Rivals.{NamesARival}
use Rattle.rules.specs.declared.local_rule.LocalRule.{Ghosts as RuleGhosts}
use Rattle.laws.specs.Setting.{Setting, Lawful}
use Rattle.laws.specs.Calls.{Request, Reply}
use Rattle.laws.specs.History.{entry, Stands}
use Rattle.laws.specs.Laws.{Laws}
use Rattle.jobs.specs.Represents.{setting, state, defined, LeadsTo}
use Rattle.jobs.specs.CallLaws.{Topped, called, Lawfully}
use Rattle.jobs.specs.declared.register.Register.{Register}
use Rattle.jobs.specs.declared.memory.Memory.{Memory}
use Rattle.jobs.proofs.ItemSums.{sum_most}
use Rattle.laws.proofs.Laws.{keeps_laws}

-- What the traits' laws say of an order and of a rule.
pub record KeptLaws {O R : Type 0} (o : OrderGhosts O) (r : RuleGhosts R) : Type 0 where
  pub few : (s : O) → (1 ≤ o.classes s) × (o.classes s ≤ 16)
  pub reflexive : (s : O) (c : ℕ) → c < o.classes s → o.dominates s c c ≡ true
  pub antisymmetric : (s : O) (c d : ℕ) → c < o.classes s → d < o.classes s → o.dominates s c d ≡ true → o.dominates s d c ≡ true → c ≡ d
  pub transitive : (s : O) (c d e : ℕ) → c < o.classes s → d < o.classes s → e < o.classes s
      → o.dominates s c d ≡ true → o.dominates s d e ≡ true → o.dominates s c e ≡ true
  pub monotone : (s : O) (c d : ℕ) → c < o.classes s → d < o.classes s → o.dominates s c d ≡ true → (c ≡ d → ⊥) → o.grade s d < o.grade s c
  pub rivals : (access : Access) → NamesARival (r.policy access)

module _ {O V R : Type 0} (o : OrderGhosts O) (v : ValueGhosts V) (r : RuleGhosts R) (k : KeptLaws o r) where
  -- What a register is set up with is lawful, once its clock goes round the grades of its order.
  pub lawful : (x : Register O) → Topped (setting o v r x) → Lawful (setting o v r x)
  lawful x t = record {
    some_class = (k.few x.order).0;
    few_classes = (k.few x.order).1;
    few_items = λ c l. x.counts.few c;
    few_in_all = omega (arith, sum_most x.counts.items (o.classes x.order), x.counts.few_in_all);
    reflexive = k.reflexive x.order;
    antisymmetric = k.antisymmetric x.order;
    transitive = k.transitive x.order;
    lower_below = k.monotone x.order;
    graded = t.not_exceeded;
    top_reached = t.reached;
    few_grades = x.clock.low;
    reading_fair = k.rivals Read;
    writing_fair = k.rivals Write;
  }

  pub lawfully : (x : Register O) (m : Memory V R) (q : Request V) (y : Reply V) (x' : Register O) (m' : Memory V R)
      → y ≡ (defined o v r x m q).reply → LeadsTo o v r x m q x' m' → Lawfully o v r x m q y x' m'
  lawfully x m q y x' m' e f h d =
      let z = keeps_laws (setting o v r x) (lawful x d.topped) (state o v r x m) (called o v r x m q) y (state o v r x' m') e f.1 h d.stands in
      let now_stands : Stands (setting o v r x') (entry (called o v r x m q) y ∷ h) (state o v r x' m') =
      subst (λ (S : Setting V). Stands S (entry (called o v r x m q) y ∷ h) (state o v r x' m')) (sym f.0) z.0 in
      let now_topped : Topped (setting o v r x') = subst (λ (S : Setting V). Topped S) (sym f.0) d.topped in (
        record { topped = now_topped; stands = now_stands },
        subst (λ (S : Setting V). Laws S (entry (called o v r x m q) y ∷ h) (state o v r x' m')) (sym f.0) z.1,
      )
