-- The ways through a read.
use Rattle.std.proofs.Common.{◌≡◌, ℕ, ◌-◌, ◌<◌, ◌≤◌, Bool, true, false, cond, ◌&&◌, ltb, List, map, get_or, Some, None, sym, ap, ◌∙◌, ap₂}
use Rattle.std.proofs.lemmas.Bool.{and_parts, lt-ltb, le-ltb, eq-eqb, ne_eqb}
use Rattle.cells.specs.Versions.{fresh}
use Rattle.cells.specs.Cells.{versions, item}
use Rattle.cells.specs.declared.value.Value.{Ghosts as ValueGhosts}
use Rattle.orders.specs.declared.class_order.ClassOrder.{Ghosts as OrderGhosts}
use Rattle.rules.specs.Claims.{Claims, with_read}
use Rattle.rules.specs.declared.access.Access.TheVariants.{Read}
use Rattle.rules.specs.declared.local_rule.LocalRule.{Ghosts as RuleGhosts}
use Rattle.laws.specs.Setting.{Setting, bay_count}
use Rattle.laws.specs.State as definition
use Rattle.laws.specs.State.{or_else, newest_value, value_at, find, Class, with_bay, fresh_class}
use Rattle.laws.specs.Calls.{by, read, got, denied, refused, not_dominated, no_such_item}
use Rattle.laws.specs.Clock.{declared}
use Rattle.laws.specs.Actions.{Outcome, answer, claimed, reads_in, reads_by, reads_own}
use Rattle.jobs.specs.Represents.{setting, no_state, cell_place, cell_of, class_of, claims_in, pending_of, job_of, bay_of, bay_values}
use Rattle.jobs.specs.Lent.{RuleBecomes}
use Rattle.jobs.specs.Parts.{with_bay_in, class_in, with_class_in}
use Rattle.register_parts.specs.declared.bay.Bay.{Bay}
use Rattle.register_parts.specs.declared.bay.Bay.TheVariants.{Open}
use Rattle.register_parts.specs.declared.bay.Job.{Job}
use Rattle.register_parts.specs.declared.bay.Job.TheVariants.{Update, Long}
use Rattle.register_parts.specs.declared.bay.UpdateJob.{UpdateJob}
use Rattle.jobs.specs.declared.memory.Memory.{Memory}
use Rattle.jobs.specs.declared.register.Register.{Register}
use Rattle.jobs.proofs.Exits.{Exit, at_memory}
use Rattle.jobs.proofs.Entrance.{claims_here, class_with, class_here, cells_of, Inside, refuses, stays, bay_becomes, rule_changes}

module _ {O V R : Type 0} (o : OrderGhosts O) (v : ValueGhosts V) (r : RuleGhosts R) (x : Register O) (m : Memory V R) (c b d i : ℕ) where
  abbrev S : Setting V
  S = setting o v r x

  abbrev K : Class V
  K = class_here o v r x m c b

  abbrev values : List V
  values = bay_values m.pending.now c b

  -- The versions of the item.
  abbrev pub found_versions : definition.Cell V
  found_versions = item (cell_place S d i) (map versions m.cells.now)

  abbrev pub reads : Bay → Outcome V
  reads y = reads_in S x.clock.ticks (cells_of o v r x m c b) c K b d i (bay_of values y)

  module _ (j : Job) (h : Inside o v r x m c b (read d i) (Open j)) where
    pub other_class : ltb d S.classes ≡ true
    other_class = (and_parts (ltb b bay_count) (ltb d S.classes) (and_parts (ltb c S.classes) (ltb b bay_count && ltb d S.classes) h.known).1).1

    pub not_below : o.dominates x.order c d ≡ false → Exit o v r x m (by c b (read d i)) (refused not_dominated) x m
    not_below e = refuses o v r x m c b (read d i) (Open j) h not_dominated (ap reads h.bay ∙ rw (h.class, other_class, e))

    module _ (e : o.dominates x.order c d ≡ true) where
      pub no_item : S.items d ≤ i → Exit o v r x m (by c b (read d i)) (refused no_such_item) x m
      no_item l =
          let f = le-ltb i (S.items d) l in
          refuses o v r x m c b (read d i) (Open j) h no_such_item (ap reads h.bay ∙ rw (h.class, other_class, e, f))

      module _ (l : i < S.items d) where
        cell_d : cell_of S m.cells.now d i ≡ found_versions
        cell_d =
            let z : Bool → definition.Cell V = λ q. cond q found_versions (fresh S.start) in
            ap z (lt-ltb i (S.items d) l)

        cell : cells_of o v r x m c b d i ≡ found_versions
        cell =
            let z : Bool → definition.Cell V = λ q. (cond q (class_of S m.cells.now m.pending.now d (get_or x.classes d no_state) (claims_in r m.rules.now d)) (fresh_class S)).cells i in
            ap z other_class ∙ cell_d

        proceeds : reads (Open j) ≡ reads_by S x.clock.ticks (cells_of o v r x m c b) c K b (job_of values j) d i
        proceeds = let f = lt-ltb i (S.items d) l in rw (h.class, other_class, e, f)

        -- A long job, at its long number.
        pub at_long : (n : ℕ) → j ≡ Long n → (w : V) → w ≡ or_else (value_at n found_versions) v.starting → Exit o v r x m (by c b (read d i)) (got w) x m
        at_long n q w f =
            let as_got : definition.Cell V → Outcome V = λ z. answer (got (or_else (value_at n z) v.starting)) K in
            let as_value : V → Outcome V = λ z. answer (got z) K in
            stays o v r x m c b (read d i) (Open j) h (got w) (ap reads h.bay ∙ proceeds ∙ rw q (ap as_got cell) ∙ ap as_value (sym f))

        module _ (u : UpdateJob) (q : j ≡ Update u) where
          -- From below, at the down number.
          pub below : ¬ (c ≡ d) → (a : ℕ) → a ≡ or_else u.down (declared x.clock.top (o.grade x.order c - 1) x.clock.ticks)
              → (w : V) → w ≡ or_else (value_at a found_versions) v.starting
              → Exit o v r x m (by c b (read d i)) (got w) (with_class_in x c (with_bay_in (class_in x c) b (Open (Update (record { down = Some a; pending = u.pending }))))) m
          below ne a p w f =
              let new : Bay = Open (Update (record { down = Some a; pending = u.pending })) in
              let k : definition.Bay V = bay_of values new in
              let as_got : definition.Cell V → Outcome V = λ z. answer (got (or_else (value_at a z) v.starting)) (with_bay K b k) in
              let as_value : V → Outcome V = λ z. answer (got z) (with_bay K b k) in
              bay_becomes o v r x m c b (read d i) (Open j) h (got w) new
              (ap reads h.bay ∙ proceeds ∙ rw (q, ne_eqb c d ne, ← p) (ap as_got cell) ∙ ap as_value (sym f))

          -- From the own class.
          module _ (same : c ≡ d) where
            owns : reads (Open j) ≡ reads_own S x.clock.ticks (cells_of o v r x m c b) c K b i (find i (pending_of u.pending values))
            owns = proceeds ∙ rw (q, eq-eqb c d same)

            pub own_pending : (w : V) → Some w ≡ find i (pending_of u.pending values) → Exit o v r x m (by c b (read d i)) (got w) x m
            own_pending w f = stays o v r x m c b (read d i) (Open j) h (got w) (ap reads h.bay ∙ owns ∙ rw (← f))

            module _ (f : None ≡ find i (pending_of u.pending values)) (k : Claims) (m' : Memory V R) (z : RuleBecomes r c k m m') where
              asks : reads (Open j)
                  ≡ claimed (r.policy Read (claims_here o v r x m c b) b i)
                  (answer (got (or_else (newest_value (cell_of S m.cells.now c i)) v.starting)) (class_with o v r x m c b (class_in x c) (with_read b i (claims_here o v r x m c b)))) K
              asks = owns ∙ rw (← f)

              pub own_denied : (rival : ℕ) → r.policy Read (claims_here o v r x m c b) b i ≡ Some rival → k ≡ claims_here o v r x m c b
                  → Exit o v r x m (by c b (read d i)) (denied rival) x m'
              own_denied rival n is =
                  let as_denied : Claims → Outcome V = λ y. answer (denied rival) (class_with o v r x m c b (class_in x c) y) in
                  at_memory o v r x m (by c b (read d i)) (denied rival) x z.1
                  (rule_changes o v r x m c b (read d i) (Open j) h (denied rival) z.0 (ap reads h.bay ∙ asks ∙ rw n (ap as_denied (sym (z.2 ∙ is)))))

              pub own_claimed : r.policy Read (claims_here o v r x m c b) b i ≡ None → k ≡ with_read b i (claims_here o v r x m c b)
                  → (w : V) → w ≡ or_else (newest_value found_versions) v.starting
                  → Exit o v r x m (by c b (read d i)) (got w) x m'
              own_claimed n is w g =
                  let as_claimed : definition.Cell V → Claims → Outcome V =
                  λ y y'. answer (got (or_else (newest_value y) v.starting)) (class_with o v r x m c b (class_in x c) y') in
                  let as_value : V → Outcome V = λ y. answer (got y) (class_with o v r x m c b (class_in x c) (r.meaning z.0)) in
                  let own_cell : cell_of S m.cells.now c i ≡ found_versions = ap (λ (e : ℕ). cell_of S m.cells.now e i) same ∙ cell_d in
                  at_memory o v r x m (by c b (read d i)) (got w) x z.1
                  (rule_changes o v r x m c b (read d i) (Open j) h (got w) z.0
                  (ap reads h.bay ∙ asks ∙ rw n (ap₂ as_claimed own_cell (sym (z.2 ∙ is))) ∙ ap as_value (sym g)))
