-- The ways through a call that writes, once the job, the item and the value are there.
use Rattle.std.proofs.Common.{◌≡◌, ℕ, ◌+◌, ◌<◌, ◌≤◌, false, cond, not, ◌&&◌, eqb, ltb, leb, List, length, get_or, set, is_some, Some, None, Option, sym, refl, ap, ◌∙◌, inl, inr, arith}
use mathlib.Core.Path.{fun_ext}
use Rattle.std.proofs.lemmas.List.{length-set, get_or-set_same, get_or-set_other}
use Rattle.std.proofs.lemmas.Bool.{lt-ltb, le-ltb, le-leb, lt-leb, eqb-false, cases_lt, and_from, both_ways}
use Rattle.cells.specs.declared.value.Value.{Ghosts as ValueGhosts}
use Rattle.orders.specs.declared.class_order.ClassOrder.{Ghosts as OrderGhosts}
use Rattle.rules.specs.Claims.{Claims, with_write}
use Rattle.rules.specs.declared.local_rule.LocalRule.{Ghosts as RuleGhosts}
use Rattle.laws.specs.Setting.{Setting}
use Rattle.laws.specs.State as definition
use Rattle.laws.specs.State.{Pending, find, pend, updating, running, Class, with_bay, with_claims}
use Rattle.laws.specs.Calls.{by, write, done, refused, denied, no_such_item, only_reads, no_value, too_many_pending}
use Rattle.laws.specs.Actions.{Outcome, answer, refuse, claimed, writes_in}
use Rattle.jobs.specs.Represents.{setting, beside, pending_of, bay_of, bay_values, class_of, pending_place}
use Rattle.jobs.specs.Lent.{none, with_rules, with_pending, RuleBecomes, ChangedOnly}
use Rattle.jobs.specs.Parts.{with_bay_in, class_in, with_class_in}
use Rattle.jobs.specs.OwnPlaces.{places_of}
use Rattle.register_parts.specs.PendingPlaces.{pending_items, place, with_item}
use Rattle.register_parts.specs.declared.bay.Bay.{Bay}
use Rattle.register_parts.specs.declared.bay.Bay.TheVariants.{Free, Open}
use Rattle.register_parts.specs.declared.bay.Job.TheVariants.{Update, Long}
use Rattle.register_parts.specs.declared.bay.UpdateJob.{UpdateJob}
use Rattle.register_parts.specs.declared.bay.PendingItems.{PendingItems}
use Rattle.register_parts.specs.declared.class_state.ClassState.{ClassState}
use Rattle.jobs.specs.declared.memory.Memory.{Memory}
use Rattle.jobs.specs.declared.register.Register.{Register}
use Rattle.jobs.proofs.ClassChanges.{put_at}
use Rattle.jobs.proofs.Exits.{Exit, at_memory}
use Rattle.jobs.proofs.Entrance.{claims_here, class_here, cells_of, Inside, performed, refuses, rule_changes, class_changes}
use Rattle.register_parts.proofs.ItemPlaces.{place_most}
use Rattle.jobs.proofs.PendingLists.{length_beside, is_found, put_pends}
use Rattle.jobs.proofs.BayPlaces.{eight_values, values_set, values_kept}

-- No room is left where the place for the item is past the last.
no_room_is : {V : Type 0} (i : ℕ) (items : List ℕ) (values : List V) → length items ≤ 8 → length items ≤ length values
    → (not (is_some (find i (beside items values))) && leb 8 (length (beside items values))) ≡ leb 8 (place i items)
no_room_is i items values few h =
    rw (is_found i items values h, length_beside items values h) (elim (cases_lt (place i items) (length items)) [
      | inl l ↦ rw (lt-ltb (place i items) (length items) l) (sym (lt-leb 8 (place i items) (omega arith)))
      | inr l ↦ let e : place i items ≡ length items = omega (arith, place_most i items) in rw (le-ltb (place i items) (length items) l, e)
    ])

-- What a write does where y is in the bay.
abbrev pub writes : {O V R : Type 0} → OrderGhosts O → ValueGhosts V → RuleGhosts R → Register O → Memory V R → ℕ → ℕ → ℕ → Option V → Bay → Outcome V
writes o v r x m c b i u y = writes_in (setting o v r x) x.clock.ticks (cells_of o v r x m c b) c (class_here o v r x m c b) b i u (bay_of (bay_values m.pending.now c b) y)

module _ {O V R : Type 0} (o : OrderGhosts O) (v : ValueGhosts V) (r : RuleGhosts R) (x : Register O) (m : Memory V R) (c b i : ℕ) (u : Option V) where
  pub is_long : (n : ℕ) → Inside o v r x m c b (write i u) (Open (Long n)) → Exit o v r x m (by c b (write i u)) (refused only_reads) x m
  is_long n h = refuses o v r x m c b (write i u) (Open (Long n)) h only_reads (ap (writes o v r x m c b i u) h.bay)

  module _ (job : UpdateJob) (h : Inside o v r x m c b (write i u) (Open (Update job))) where
    pub no_item : (setting o v r x).items c ≤ i → Exit o v r x m (by c b (write i u)) (refused no_such_item) x m
    no_item l =
        refuses o v r x m c b (write i u) (Open (Update job)) h no_such_item
        (ap (writes o v r x m c b i u) h.bay ∙ rw (le-ltb i ((setting o v r x).items c) l))

    pub nothing_to_write : u ≡ None → i < (setting o v r x).items c → Exit o v r x m (by c b (write i u)) (refused no_value) x m
    nothing_to_write e l =
        refuses o v r x m c b (write i u) (Open (Update job)) h no_value
        (ap (writes o v r x m c b i u) h.bay ∙ rw (lt-ltb i ((setting o v r x).items c) l, e))

module _ {O V R : Type 0} (o : OrderGhosts O) (v : ValueGhosts V) (r : RuleGhosts R) (x : Register O) (m : Memory V R) (c b i : ℕ) (u : V)
    (job : UpdateJob) (h : Inside o v r x m c b (write i (Some u)) (Open (Update job))) (is_item : i < (setting o v r x).items c)
    (few : length (pending_items job.pending) ≤ 8) where
  abbrev S : Setting V
  S = setting o v r x

  abbrev values : List V
  values = bay_values m.pending.now c b

  abbrev k : ℕ
  k = place i (pending_items job.pending)

  eight : length values ≡ 8
  eight = eight_values m.pending.now c b h.in_bays (omega (arith, h.pending_room, h.in_classes, h.in_bays))

  enough_values : length (pending_items job.pending) ≤ length values
  enough_values = omega (arith, few, eight)

  abbrev one_more : Class V
  one_more =
      with_bay (with_claims (class_here o v r x m c b) (with_write b i (claims_here o v r x m c b))) b
      (running (updating job.down (pend i u (pending_of job.pending values))))

  goes : performed o v r x m c b (write i (Some u))
      ≡ cond (leb 8 k) (refuse too_many_pending (class_here o v r x m c b))
      (claimed (S.writing (claims_here o v r x m c b) b i) (answer done one_more) (class_here o v r x m c b))
  goes = ap (writes o v r x m c b i (Some u)) h.bay ∙ rw (lt-ltb i (S.items c) is_item, no_room_is i (pending_items job.pending) values few enough_values)

  pub too_many : 8 ≤ k → Exit o v r x m (by c b (write i (Some u))) (refused too_many_pending) x m
  too_many l = refuses o v r x m c b (write i (Some u)) (Open (Update job)) h too_many_pending (goes ∙ rw (le-leb 8 k l))

  module _ (fits : k < 8) where
    -- Another bay stands in the way: the rule means what it meant.
    pub is_denied : (rival : ℕ) → S.writing (claims_here o v r x m c b) b i ≡ Some rival → (m' : Memory V R) → RuleBecomes r c (claims_here o v r x m c b) m m'
        → Exit o v r x m (by c b (write i (Some u))) (denied rival) x m'
    is_denied rival e m' w =
        let with_meaning : Claims → Outcome V = λ j. answer (denied rival) (class_of S m.cells.now m.pending.now c (class_in x c) j) in
        at_memory o v r x m (by c b (write i (Some u))) (denied rival) x w.1
        (rule_changes o v r x m c b (write i (Some u)) (Open (Update job)) h (denied rival) w.0 (goes ∙ rw (lt-leb 8 k fits, e) (ap with_meaning (sym w.2))))

    abbrev values_after : List V
    values_after = set m.pending.now (pending_place c b + k) u

    -- The job's bay has one more value, and no other bay is touched.
    module _ (p : PendingItems) (is : pending_items p ≡ with_item k i (pending_items job.pending)) where
      abbrev new : Bay
      new = Open (Update (record { down = job.down; pending = p }))

      own_bay : bay_of (bay_values values_after c b) new ≡ running (updating job.down (pend i u (pending_of job.pending values)))
      own_bay =
          let run : List (Pending V) → definition.Bay V = λ q. running (updating job.down q) in
          ap run (rw (is, values_set m.pending.now c b h.in_bays k u fits) (put_pends i u (pending_items job.pending) values enough_values (omega (arith, eight))))

      bay_stays : (k' : ClassState) (d e : ℕ) → bay_values values_after d e ≡ bay_values m.pending.now d e
          → bay_of (bay_values values_after d e) (get_or k'.bays e Free) ≡ bay_of (bay_values m.pending.now d e) (get_or k'.bays e Free)
      bay_stays k' d e q = ap (λ (vs : List V). bay_of vs (get_or k'.bays e Free)) q

      own_bays : class_of S m.cells.now values_after c (with_bay_in (class_in x c) b new) (with_write b i (claims_here o v r x m c b)) ≡ one_more
      own_bays =
          let with_bays : (ℕ → definition.Bay V) → Class V = λ f. record { floor = (class_in x c).floor; claims = with_write b i (claims_here o v r x m c b); bays = f; cells = (class_here o v r x m c b).cells } in
          ap with_bays (put_at (class_here o v r x m c b).bays (class_of S m.cells.now values_after c (with_bay_in (class_in x c) b new) (claims_here o v r x m c b)).bays b _
          (ap (bay_of (bay_values values_after c b)) (get_or-set_same (class_in x c).bays b new Free h.in_state) ∙ own_bay)
          (λ e a. ap (bay_of (bay_values values_after c e)) (get_or-set_other (class_in x c).bays b e new Free a) ∙ bay_stays (class_in x c) c e (values_kept m.pending.now c b h.in_bays k u fits c e (inr a))))

      other_class : (d : ℕ) → ¬ (d ≡ c) → (k' : ClassState) (j : Claims) → class_of S m.cells.now values_after d k' j ≡ class_of S m.cells.now m.pending.now d k' j
      other_class d a k' j =
          let with_bays : (ℕ → definition.Bay V) → Class V = λ f. record { floor = k'.floor; claims = j; bays = f; cells = (class_of S m.cells.now m.pending.now d k' j).cells } in
          ap with_bays (fun_ext (λ e. bay_stays k' d e (values_kept m.pending.now c b h.in_bays k u fits d e (inl a))))

      pub is_written : S.writing (claims_here o v r x m c b) b i ≡ None → (rule : R) → r.meaning rule ≡ with_write b i (claims_here o v r x m c b)
          → Exit o v r x m (by c b (write i (Some u))) done (with_class_in x c (with_bay_in (class_in x c) b new)) (with_pending (with_rules m (set m.rules.now c rule)) values_after)
      is_written e rule w =
          let with_meaning : Claims → Outcome V = λ j. answer done (class_of S m.cells.now values_after c (with_bay_in (class_in x c) b new) j) in
          class_changes o v r x m c b (write i (Some u)) (Open (Update job)) h done (with_bay_in (class_in x c) b new) rule
          (with_pending (with_rules m (set m.rules.now c rule)) values_after) refl other_class
          (goes ∙ rw (lt-leb 8 k fits, e) (ap (answer done) (sym own_bays) ∙ ap with_meaning (sym w)))

-- A value in one of a bay's places, and the rule of its class: nothing else has changed.
pub one_place_changed : {V R : Type 0} (m : Memory V R) (c b k : ℕ) (u : V) (rule : R) → k < 8
    → ChangedOnly none (places_of c b) (eqb c) m (with_pending (with_rules m (set m.rules.now c rule)) (set m.pending.now (pending_place c b + k) u))
one_place_changed {V} {R} m c b k u rule fits = record {
  lenders = (refl, refl, refl);
  lengths = (refl, length-set m.pending.now (pending_place c b + k) u, length-set m.rules.now c rule);
  cells = λ _ _ _. refl;
  pending = λ at n d. get_or-set_other m.pending.now (pending_place c b + k) at u d (elsewhere at n);
  rules = λ at n d. get_or-set_other m.rules.now c at rule d (λ e. eqb-false c at n (sym e));
}
  where
    elsewhere : (at : ℕ) → places_of c b at ≡ false → ¬ (at ≡ pending_place c b + k)
    elsewhere at n e =
        both_ways (places_of c b at) n
        (and_from (leb (pending_place c b) at) (ltb at (pending_place c b + 8)) (le-leb (pending_place c b) at (omega arith)) (lt-ltb at (pending_place c b + 8) (omega arith)))
