-- What every call for a bay shares: the first refusals, and the exits once it is through the door.
use Rattle.std.proofs.Common.{◌≡◌, ℕ, ◌*◌, ◌<◌, ◌≤◌, Bool, true, false, ◌&&◌, ltb, leb, List, map, length, set, Ok, Err, sym, refl, ap, ◌∙◌, ap₂, subst, arith}
use lib.ListN.{length-map}
use Rattle.std.proofs.lemmas.List.{map-set, set-get_or}
use Rattle.std.proofs.lemmas.Bool.{ltb-true, leb-true, and_parts}
use Rattle.cells.specs.declared.value.Value.{Ghosts as ValueGhosts}
use Rattle.orders.specs.declared.class_order.ClassOrder.{Ghosts as OrderGhosts}
use Rattle.rules.specs.Claims.{Claims, no_claims, forgotten}
use Rattle.rules.specs.declared.local_rule.LocalRule.{Ghosts as RuleGhosts}
use Rattle.laws.specs.Setting.{Setting, bay_count, sum_below}
use Rattle.laws.specs.State as definition
use Rattle.laws.specs.State.{put, Class, State, with_bay, ended}
use Rattle.laws.specs.Calls.{Action, Request, by, Reply, refused, unknown, bay_free, bay_closed}
use Rattle.laws.specs.Actions.{Outcome, answer, refuse, perform}
use Rattle.laws.specs.Step.{stepped, known, known_in, outcome, with_outcome}
use Rattle.jobs.specs.Faults.{fault_reply}
use Rattle.jobs.specs.Represents.{setting, state, enough, no_state, class_of, classes_of, claims_in, bay_of, bay_values}
use Rattle.jobs.specs.Lent.{with_rules, RuleBecomes}
use Rattle.jobs.specs.Parts.{with_bay_in, class_in, bay_in, with_class_in, at_door, job_in}
use Rattle.register_parts.specs.declared.bay.Bay.{Bay}
use Rattle.register_parts.specs.declared.bay.Bay.TheVariants.{Free, Closed, Open}
use Rattle.register_parts.specs.declared.bay.Job.{Job}
use Rattle.register_parts.specs.declared.class_state.ClassState.{ClassState}
use Rattle.register_parts.specs.declared.job_fault.JobFault.{JobFault}
use Rattle.register_parts.specs.declared.job_fault.JobFault.TheVariants.{TooLittleMemory, Unknown, BayFree, BayClosed}
use Rattle.jobs.specs.Answered.{Answered}
use Rattle.jobs.specs.declared.bay_id.BayId.{BayId}
use Rattle.jobs.specs.declared.memory.Memory.{Memory}
use Rattle.jobs.specs.declared.register.Register.{Register}
use Rattle.jobs.proofs.ClassChanges.{put_same, class_changed, bay_changed}
use Rattle.jobs.proofs.Exits.{Exit, exit, too_little, with_enough, at_memory}

pub ok_not_err : {A B E : Type 0} {y : A} {e : E} → Ok y ≡ Err e → B
ok_not_err p = let z : ◌≡◌ {A = ℕ} 0 1 = cc in absurd (omega arith)

module _ {O V R : Type 0} (o : OrderGhosts O) (v : ValueGhosts V) (r : RuleGhosts R) (x : Register O) (m : Memory V R) (c b : ℕ) where
  abbrev S : Setting V
  S = setting o v r x

  abbrev A : State V
  A = state o v r x m

  -- What class c's rule means.
  abbrev pub claims_here : Claims
  claims_here = claims_in r m.rules.now c

  -- Class c with another state of its own and other claims.
  abbrev pub class_with : ClassState → Claims → Class V
  class_with k j = class_of S m.cells.now m.pending.now c k j

  abbrev pub class_here : Class V
  class_here = class_with (class_in x c) claims_here

  abbrev pub cells_of : ℕ → ℕ → definition.Cell V
  cells_of d i = (A.class d).cells i

  abbrev pub performed : Action V → Outcome V
  performed a = perform S x.clock.ticks cells_of c class_here b a

  -- A call for action a is through the door, and y is in its bay.
  pub record Inside (a : Action V) (y : Bay) : Type 0 where
    pub room : enough o v r x m ≡ true
    pub known : known S c b a ≡ true
    pub class : ltb c S.classes ≡ true
    pub bay : bay_in x c b ≡ y
    pub in_classes : c < S.classes
    pub in_bays : b < 8
    pub in_states : c < length x.classes
    pub in_state : b < length (class_in x c).bays
    pub in_rules : c < length m.rules.now
    pub cells_room : sum_below S.classes S.items ≤ length m.cells.now
    pub pending_room : S.classes * 64 ≤ length m.pending.now

  -- What the door lets pass: enough memory, and numbers of a class and of a bay.
  record Passed : Type 0 where
    room : enough o v r x m ≡ true
    class : ltb c S.classes ≡ true
    bay : ltb b bay_count ≡ true

  passed : (y : Bay) → Ok y ≡ at_door (enough o v r x m) (ltb c S.classes && ltb b bay_count) (bay_in x c b) → Passed
  passed y e = go (enough o v r x m) (ltb c S.classes && ltb b bay_count) refl refl
    where
      go : (p q : Bool) → enough o v r x m ≡ p → (ltb c S.classes && ltb b bay_count) ≡ q → Passed
      go false q f g = ok_not_err (rw f at e)
      go true false f g = ok_not_err (rw (f, g) at e)
      go true true f g = let numbers = and_parts (ltb c S.classes) (ltb b bay_count) g in record { room = f; class = numbers.0; bay = numbers.1 }

  inside : (a : Action V) → known_in S a ≡ true → Passed → c < length x.classes → b < length (class_in x c).bays → Inside a (bay_in x c b)
  inside a k p states state =
      let rooms = and_parts (leb (sum_below S.classes S.items) (length m.cells.now)) _ p.room in
      let rooms' = and_parts (leb (S.classes * 64) (length m.pending.now)) (leb S.classes (length m.rules.now)) rooms.1 in
      let few : S.classes ≤ length m.rules.now = leb-true S.classes (length m.rules.now) rooms'.1 in
      let is_class : c < S.classes = ltb-true c S.classes p.class in
      record {
        room = p.room;
        known = rw (p.class, p.bay) k;
        class = p.class;
        bay = refl;
        in_classes = is_class;
        in_bays = ltb-true b bay_count p.bay;
        in_states = states;
        in_state = state;
        in_rules = omega arith;
        cells_room = leb-true (sum_below S.classes S.items) (length m.cells.now) rooms.0;
        pending_room = leb-true (S.classes * 64) (length m.pending.now) rooms'.0;
      }

  module _ (a : Action V) where
    -- Refused at the door.
    pub outside : (e : JobFault) → Err e ≡ at_door (enough o v r x m) (ltb c S.classes && ltb b bay_count) (bay_in x c b) → Exit o v r x m (by c b a) (fault_reply e) x m
    outside e p = go (enough o v r x m) (ltb c S.classes) (ltb b bay_count) refl refl refl
      where
        unnamed : enough o v r x m ≡ true → known S c b a ≡ false → e ≡ Unknown → Exit o v r x m (by c b a) (fault_reply e) x m
        unnamed f g k =
            rw k (exit o v r x m (by c b a) (refused unknown) x m refl (with_enough o v r x m (by c b a) (stepped (refused unknown) A) f (rw g)))

        go : (t q q' : Bool) → enough o v r x m ≡ t → ltb c S.classes ≡ q → ltb b bay_count ≡ q' → Exit o v r x m (by c b a) (fault_reply e) x m
        go false q q' f g g' =
            let h : Err e ≡ Err TooLittleMemory = rw f at p in
            let k : e ≡ TooLittleMemory = cc in
            rw k (too_little o v r x m (by c b a) f)
        go true false q' f g g' =
            let h : Err e ≡ Err Unknown = rw (f, g) at p in
            unnamed f (rw g) (cc)
        go true true false f g g' =
            let h : Err e ≡ Err Unknown = rw (f, g, g') at p in
            unnamed f (rw (g, g')) (cc)
        go true true true f g g' = ok_not_err (sym (rw (f, g, g') at p))

    -- Through the door, but what else the call names is unknown.
    pub not_known : (y : Bay) → Ok y ≡ at_door (enough o v r x m) (ltb c S.classes && ltb b bay_count) (bay_in x c b) → known_in S a ≡ false
        → Exit o v r x m (by c b a) (refused unknown) x m
    not_known y e g =
        let p = passed y e in
        exit o v r x m (by c b a) (refused unknown) x m refl (with_enough o v r x m (by c b a) (stepped (refused unknown) A) p.room (rw (p.class, p.bay, g)))

    module _ (y : Bay) (h : Inside a y) where
      -- The class does what it performs, and that is all that changes.
      pub acts : (z : Reply V) (k : Class V) (x' : Register O) (m' : Memory V R) → performed a ≡ answer z k → setting o v r x' ≡ S
          → state o v r x' m' ≡ record { ticks = x.clock.ticks; class = put A.class c k }
          → Exit o v r x m (by c b a) z x' m'
      acts z k x' m' e s f =
          exit o v r x m (by c b a) z x' m' s
          (with_enough o v r x m (by c b a) (stepped z (state o v r x' m')) h.room
          (rw h.known (ap (with_outcome S A c) (here_performs ∙ e) ∙ ap (stepped z) (sym f))))
        where
          here_performs : outcome S A c b a ≡ performed a
          here_performs = rw h.class

      -- Nothing changes.
      pub stays : (z : Reply V) → performed a ≡ answer z class_here → Exit o v r x m (by c b a) z x m
      stays z e =
          let with_classes : (ℕ → Class V) → State V = λ f. record { ticks = x.clock.ticks; class = f } in
          let is_here : class_here ≡ A.class c = rw h.class in
          acts z class_here x m e refl (ap with_classes (sym (ap (put A.class c) is_here ∙ put_same A.class c)))

      pub refuses : (n : ℕ) → performed a ≡ refuse n class_here → Exit o v r x m (by c b a) (refused n) x m
      refuses n e = stays (refused n) e

      abbrev with_classes : (ℕ → Class V) → State V
      with_classes f = record { ticks = x.clock.ticks; class = f }

      abbrev claims : List Claims
      claims = map r.meaning m.rules.now

      in_claims : c < length claims
      in_claims = simp length-map h.in_rules

      -- The class has another state of its own.
      pub own_changes : (z : Reply V) (k : ClassState) → performed a ≡ answer z (class_with k claims_here)
          → Exit o v r x m (by c b a) z (with_class_in x c k) m
      own_changes z k e =
          acts z (class_with k claims_here) (with_class_in x c k) m e refl (ap with_classes
          (ap (classes_of S m.cells.now m.pending.now (set x.classes c k)) (sym (set-get_or claims c (no_claims 0)))
          ∙ class_changed S m.cells.now m.cells.now m.pending.now m.pending.now x.classes claims c k claims_here h.class h.in_states in_claims (λ d n k j. refl)))

      -- The class's rule is another.
      pub rule_changes : (z : Reply V) (rule : R) → performed a ≡ answer z (class_with (class_in x c) (r.meaning rule))
          → Exit o v r x m (by c b a) z x (with_rules m (set m.rules.now c rule))
      rule_changes z rule e =
          acts z (class_with (class_in x c) (r.meaning rule)) x (with_rules m (set m.rules.now c rule)) e refl (ap with_classes
          (ap (classes_of S m.cells.now m.pending.now x.classes) (map-set r.meaning m.rules.now c rule)
          ∙ ap (λ (states : List ClassState). classes_of S m.cells.now m.pending.now states (set claims c (r.meaning rule))) (sym (set-get_or x.classes c no_state))
          ∙ class_changed S m.cells.now m.cells.now m.pending.now m.pending.now x.classes claims c (class_in x c) (r.meaning rule) h.class h.in_states in_claims (λ d n k j. refl)))

      -- Both are, and the class's cells and pending values may be others too.
      pub class_changes : (z : Reply V) (k : ClassState) (rule : R) (m' : Memory V R)
          → m'.rules.now ≡ set m.rules.now c rule
          → ((d : ℕ) → ¬ (d ≡ c) → (k : ClassState) (j : Claims) → class_of S m'.cells.now m'.pending.now d k j ≡ class_of S m.cells.now m.pending.now d k j)
          → performed a ≡ answer z (class_of S m'.cells.now m'.pending.now c k (r.meaning rule))
          → Exit o v r x m (by c b a) z (with_class_in x c k) m'
      class_changes z k rule m' p other e =
          acts z (class_of S m'.cells.now m'.pending.now c k (r.meaning rule)) (with_class_in x c k) m' e refl (ap with_classes
          (ap (classes_of S m'.cells.now m'.pending.now (set x.classes c k)) (ap (map r.meaning) p ∙ map-set r.meaning m.rules.now c rule)
          ∙ class_changed S m.cells.now m'.cells.now m.pending.now m'.pending.now x.classes claims c k (r.meaning rule) h.class h.in_states in_claims other))

      pub own_and_rule_change : (z : Reply V) (k : ClassState) (rule : R) → performed a ≡ answer z (class_with k (r.meaning rule))
          → Exit o v r x m (by c b a) z (with_class_in x c k) (with_rules m (set m.rules.now c rule))
      own_and_rule_change z k rule e = class_changes z k rule (with_rules m (set m.rules.now c rule)) refl (λ d n k j. refl) e

      -- Another bay takes the place of the old one.
      pub bay_becomes : (z : Reply V) (new : Bay) → performed a ≡ answer z (with_bay class_here b (bay_of (bay_values m.pending.now c b) new))
          → Exit o v r x m (by c b a) z (with_class_in x c (with_bay_in (class_in x c) b new)) m
      bay_becomes z new e =
          own_changes z (with_bay_in (class_in x c) b new)
          (e ∙ ap (answer z) (sym (bay_changed S m.cells.now m.pending.now c (class_in x c) claims_here b new h.in_state)))

      -- The job ends.
      pub job_ends : (z : Reply V) (m' : Memory V R) → RuleBecomes r c (forgotten b claims_here) m m' → performed a ≡ answer z (ended class_here b)
          → Exit o v r x m (by c b a) z (with_class_in x c (with_bay_in (class_in x c) b Free)) m'
      job_ends z m' w e =
          let freed : ClassState = with_bay_in (class_in x c) b Free in
          at_memory o v r x m (by c b a) z (with_class_in x c freed) w.1
          (own_and_rule_change z freed w.0
          (e ∙ ap (answer z) (sym (bay_changed S m.cells.now m.pending.now c (class_in x c) (forgotten b claims_here) b Free h.in_state)
          ∙ ap (class_with freed) (sym w.2))))

      -- There is no job.
      pub no_job : (bay_in x c b ≡ Free → performed a ≡ refuse bay_free class_here) → (bay_in x c b ≡ Closed → performed a ≡ refuse bay_closed class_here)
          → (e : JobFault) → Err e ≡ job_in y → Exit o v r x m (by c b a) (fault_reply e) x m
      no_job free closed e p = go y refl p
        where
          go : (z : Bay) → y ≡ z → Err e ≡ job_in z → Exit o v r x m (by c b a) (fault_reply e) x m
          go Free f q =
              let same : e ≡ BayFree = cc in
              rw same (refuses bay_free (free (h.bay ∙ f)))
          go Closed f q =
              let same : e ≡ BayClosed = cc in
              rw same (refuses bay_closed (closed (h.bay ∙ f)))
          go (Open j) f q = ok_not_err (sym q)

pub is_open : (j : Job) (y : Bay) → Ok j ≡ job_in y → y ≡ Open j
is_open j Free p = ok_not_err p
is_open j Closed p = ok_not_err p
is_open j (Open j') p = let same : j ≡ j' = cc in rw same

-- The bay that the door returns.
module _ {O V R : Type 0} (o : OrderGhosts O) (v : ValueGhosts V) (r : RuleGhosts R) (x : Register O) (m : Memory V R) (a : Action V) (id : BayId) where
  pub through : {c b : ℕ} {z : Bay} (y : Bay) → length x.classes ≡ 16 → length (class_in x id.class).bays ≡ 8 → known_in (setting o v r x) a ≡ true
      → Ok z ≡ at_door (enough o v r x m) (ltb c (o.classes x.order) && ltb b bay_count) (bay_in x c b) → (id.class ≡ c) × (id.bay ≡ b)
      → y ≡ bay_in x id.class id.bay → Inside o v r x m id.class id.bay a y
  through {c} {b} {z} y sixteen eight k e names is =
      let q : (c b : ℕ) → Type 0 = λ c b. Ok z ≡ at_door (enough o v r x m) (ltb c (o.classes x.order) && ltb b bay_count) (bay_in x c b) in
      let here : q id.class id.bay = subst (λ (d : ℕ). q d id.bay) (sym names.0) (subst (λ (d : ℕ). q c d) (sym names.1) e) in
      subst (Inside o v r x m id.class id.bay a) (sym is)
      (inside o v r x m id.class id.bay a k (passed o v r x m id.class id.bay z here) (omega (arith, id.one_of_sixteen)) (omega (arith, id.one_of_eight)))

  pub through_job : {c b : ℕ} {z : Bay} (j : Job) → length x.classes ≡ 16 → length (class_in x id.class).bays ≡ 8 → known_in (setting o v r x) a ≡ true
      → Ok z ≡ at_door (enough o v r x m) (ltb c (o.classes x.order) && ltb b bay_count) (bay_in x c b) → (id.class ≡ c) × (id.bay ≡ b)
      → Ok j ≡ job_in (bay_in x id.class id.bay) → Inside o v r x m id.class id.bay a (Open j)
  through_job j sixteen eight k e names is = through (Open j) sixteen eight k e names (sym (is_open j (bay_in x id.class id.bay) is))

  -- An exit for this bay is one for the numbers that name it.
  pub for_numbers : {c b : ℕ} {y : Reply V} {x' : Register O} {m' : Memory V R} → (id.class ≡ c) × (id.bay ≡ b)
      → Answered o v r x m (by id.class id.bay a) y x' m' → Answered o v r x m (by c b a) y x' m'
  for_numbers {c} {b} {y} {x'} {m'} names z =
      subst (λ (q : Request V). Answered o v r x m q y x' m') (ap₂ (λ (d e : ℕ). by d e a) names.0 names.1) z
