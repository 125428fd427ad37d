-- The sweep, class by class, is what the definition says of a tick.
use Rattle.std.proofs.Common.{◌≡◌, ℕ, ◌+◌, ◌<◌, ◌≤◌, Bool, true, false, cond, ◌&&◌, eqb, ltb, List, map, length, get_or, set, Some, None, Option, sym, refl, ap, ◌∙◌, ap₂, arith}
use mathlib.Core.Path.{fun_ext}
use lib.ListN.{length-map}
use Rattle.std.proofs.lemmas.List.{get_or-map, get_or_past, get_or-set_other, map-set, length-set}
use Rattle.std.proofs.lemmas.Bool.{eqb-true, eqb-false, ltb-true, ltb-false, lt-ltb, le-ltb, and_right, cond-true, cond-false}
use Rattle.cells.specs.declared.cell.Cell.{Cell}
use Rattle.cells.specs.declared.value.Value.{Ghosts as ValueGhosts}
use Rattle.orders.specs.declared.class_order.ClassOrder.{Ghosts as OrderGhosts}
use Rattle.rules.specs.Claims.{Claims, without}
use Rattle.rules.specs.declared.local_rule.LocalRule.{Ghosts as RuleGhosts}
use Rattle.laws.specs.Setting.{Setting}
use Rattle.laws.specs.State as definition
use Rattle.laws.specs.State.{Class, closed, fresh_class}
use Rattle.laws.specs.Clock.{late, swept}
use Rattle.jobs.specs.Represents.{no_state, bay_of, bay_values, class_of, classes_of, claims_in, setting, state}
use Rattle.jobs.specs.Lent.{with_rules, RuleBecomes}
use Rattle.jobs.specs.Parts.{class_in, with_class_in}
use Rattle.register_parts.specs.LateJobs.{behind, late_bay, closed_if_late}
use Rattle.jobs.specs.Sweeps.{with_late_closed, claims_left, with_classes, SweptBelow}
use Rattle.register_parts.specs.declared.bay.Bay.{Bay}
use Rattle.register_parts.specs.declared.bay.Bay.TheVariants.{Free, Closed, Open}
use Rattle.register_parts.specs.declared.bay.Job.TheVariants.{Update, Long}
use Rattle.register_parts.specs.declared.class_state.ClassState.{ClassState}
use Rattle.register_parts.specs.declared.declaration.Declaration.{Declaration}
use Rattle.jobs.specs.declared.memory.Memory.{Memory}
use Rattle.jobs.specs.declared.register.Register.{Register}
use Rattle.jobs.proofs.ClassChanges.{class_changed}
use Rattle.jobs.proofs.Sweeping.{same_below}

module _ {V : Type 0} (S : Setting V) (tick : Declaration) (c : ℕ) where
  abbrev late_there : definition.Bay V → Bool
  late_there = late S tick.grade tick.number c

  abbrev late_here : Bay → Bool
  late_here = late_bay (S.grade c) tick

  -- A job is late in memory where it is late by the definition.
  pub late_is : (values : List V) (y : Bay) → late_there (bay_of values y) ≡ late_here y
  late_is values Free = refl
  late_is values Closed = refl
  late_is values (Open (Long n)) = refl
  late_is values (Open (Update j)) = go j.down _
    where
      go : (down : Option ℕ) (p : List (definition.Pending V))
          → late_there (definition.running (definition.updating down p)) ≡ (eqb (S.grade c) tick.grade && behind down tick.number)
      go None p = sym (and_right (eqb (S.grade c) tick.grade) false refl)
      go (Some a) p = refl

  closed_is : (values : List V) (y : Bay) → bay_of values (closed_if_late (S.grade c) tick y) ≡ cond (late_there (bay_of values y)) closed (bay_of values y)
  closed_is values y = rw (late_is values y) (go (late_here y))
    where
      go : (q : Bool) → bay_of values (cond q Closed y) ≡ cond q closed (bay_of values y)
      go true = refl
      go false = refl

  module _ (cells : List (Cell V)) (pending : List V) (k : ClassState) (j : Claims) (eight : length k.bays ≡ 8) where
    abbrev K : Class V
    K = class_of S cells pending c k j

    abbrev bay : ℕ → Bay
    bay b = get_or k.bays b Free

    bay_closed : (b : ℕ) → get_or (map (closed_if_late (S.grade c) tick) k.bays) b Free ≡ closed_if_late (S.grade c) tick (bay b)
    bay_closed b = go (ltb b 8) refl
      where
        go : (q : Bool) → ltb b 8 ≡ q → get_or (map (closed_if_late (S.grade c) tick) k.bays) b Free ≡ closed_if_late (S.grade c) tick (bay b)
        go true e = let h = ltb-true b 8 e in get_or-map (closed_if_late (S.grade c) tick) k.bays b Free Free (omega arith)
        go false e =
            let h = ltb-false b 8 e in
            let past : bay b ≡ Free = get_or_past k.bays b Free (omega arith) in
            get_or_past (map (closed_if_late (S.grade c) tick) k.bays) b Free (simp length-map (omega arith)) ∙ sym (ap (closed_if_late (S.grade c) tick) past)

    late_among : (b : ℕ) → (ltb b 8 && late_here (bay b)) ≡ late_there (K.bays b)
    late_among b = go (ltb b 8) refl ∙ sym (late_is (bay_values pending c b) (bay b))
      where
        go : (q : Bool) → ltb b 8 ≡ q → (ltb b 8 && late_here (bay b)) ≡ late_here (bay b)
        go true e = rw e
        go false e =
            let h = ltb-false b 8 e in
            let past : bay b ≡ Free = get_or_past k.bays b Free (omega arith) in
            rw e (sym (ap late_here past))

    -- One class.
    pub swept_class : class_of S cells pending c (with_late_closed (S.grade c) tick k) (claims_left (S.grade c) tick k.bays 8 j) ≡ swept S tick.grade tick.number c K
    swept_class =
        let made : Claims → (ℕ → definition.Bay V) → Class V = λ claims bays. record { floor = k.floor; claims = claims; bays = bays; cells = K.cells } in
        ap₂ made
        (ap (λ (ends : ℕ → Bool). without ends j) (fun_ext late_among))
        (fun_ext (λ b. ap (bay_of (bay_values pending c b)) (bay_closed b) ∙ closed_is (bay_values pending c b) (bay b)))

module _ {O V R : Type 0} (o : OrderGhosts O) (v : ValueGhosts V) (r : RuleGhosts R) (tick : Declaration) (x : Register O) (m : Memory V R) where
  abbrev S : Setting V
  S = setting o v r x

  abbrev before : ℕ → Class V
  before = (state o v r x m).class

  abbrev after : ℕ → Class V
  after c = swept S tick.grade tick.number c (before c)

  -- The classes where their states and rules are these.
  abbrev among : List ClassState → List R → ℕ → Class V
  among states rules = classes_of S m.cells.now m.pending.now states (map r.meaning rules)

  -- The classes below n are swept: class n is swept too.
  module _ (n : ℕ) (states : List ClassState) (rules : List R) (k : ClassState) (rule : R) (inside : n < S.classes) (l : n < length states) (h : n < length rules)
      (eight : length (get_or states n no_state).bays ≡ 8) (so_far : (c : ℕ) → among states rules c ≡ cond (ltb c n) (after c) (before c))
      (k_is : k ≡ with_late_closed (S.grade n) tick (get_or states n no_state))
      (rule_is : r.meaning rule ≡ claims_left (S.grade n) tick (get_or states n no_state).bays 8 (claims_in r rules n)) where
    abbrev own : ClassState → Claims → Class V
    own = class_of S m.cells.now m.pending.now n

    here : own k (r.meaning rule) ≡ after n
    here =
        ap₂ own k_is rule_is
        ∙ swept_class S tick n m.cells.now m.pending.now (get_or states n no_state) (claims_in r rules n) eight
        ∙ ap (swept S tick.grade tick.number n)
        (sym (cond-true (ltb n S.classes) _ (fresh_class S) (lt-ltb n S.classes inside)) ∙ so_far n ∙ cond-false (ltb n n) (after n) (before n) (le-ltb n n (omega arith)))

    pub class_swept : (c : ℕ) → among (set states n k) (set rules n rule) c ≡ cond (ltb c (n + 1)) (after c) (before c)
    class_swept c =
        ap (λ (claims : List Claims). classes_of S m.cells.now m.pending.now (set states n k) claims c) (map-set r.meaning rules n rule)
        ∙ ap (λ (f : ℕ → Class V). f c) (class_changed S m.cells.now m.cells.now m.pending.now m.pending.now states (map r.meaning rules) n k (r.meaning rule)
        (lt-ltb n S.classes inside) l (simp length-map h) (λ d ne k j. refl))
        ∙ go (eqb n c) refl
      where
        go : (q : Bool) → eqb n c ≡ q → cond (eqb n c) (own k (r.meaning rule)) (among states rules c) ≡ cond (ltb c (n + 1)) (after c) (before c)
        go true e =
            let f : n ≡ c = eqb-true n c e in
            rw (e, lt-ltb c (n + 1) (omega arith)) (here ∙ ap after f)
        go false e =
            cond-false (eqb n c) (own k (r.meaning rule)) (among states rules c) e ∙ so_far c ∙ ap (λ (q : Bool). cond q (after c) (before c)) (same_below n c (eqb-false n c e))

  pub swept_none : SweptBelow o v r 0 tick x m x m
  swept_none = record {
    register = refl;
    memory = refl;
    rules = refl;
    other_rules = λ c e d. refl;
    classes = λ c. sym (cond-false (ltb c 0) (after c) (before c) (le-ltb c 0 (omega arith)));
  }

  pub swept_next : (n : ℕ) (x' x'' : Register O) (m' m'' : Memory V R) → n < S.classes → S.classes ≤ length m.rules.now → SweptBelow o v r n tick x m x' m'
      → x'' ≡ with_class_in x' n (with_late_closed (o.grade x'.order n) tick (class_in x' n))
      → RuleBecomes r n (claims_left (o.grade x'.order n) tick (class_in x' n).bays 8 (claims_in r m'.rules.now n)) m' m''
      → length x'.classes ≡ 16 → length (class_in x' n).bays ≡ 8 → S.classes ≤ 16
      → SweptBelow o v r (n + 1) tick x m x'' m''
  swept_next n x' x'' m' m'' inside room w p q sixteen eight few = record {
    register = x_is ∙ ap (with_classes x) (sym states_is);
    memory = m_is ∙ ap (with_rules m) (sym rules_is);
    rules = ap length rules_is ∙ length-set m'.rules.now n q.0 ∙ w.rules;
    other_rules = λ c e d.
        ap (λ (l : List R). get_or l c d) rules_is
        ∙ get_or-set_other m'.rules.now n c q.0 d (λ f. let l = ltb-false c (n + 1) e in let g : n + 1 ≤ n = omega arith in absurd (omega arith))
        ∙ w.other_rules c (le-ltb c n (let l = ltb-false c (n + 1) e in omega arith)) d;
    classes = λ c.
        ap₂ (λ (y : Register O) (z : Memory V R). (state o v r y z).class c) x_is m_is
        ∙ class_swept n x'.classes m'.rules.now k q.0 inside (omega arith) (omega (arith, w.rules)) eight so_far k_is
        (q.2 ∙ ap (λ (y : O). claims_left (o.grade y n) tick (class_in x' n).bays 8 (claims_in r m'.rules.now n)) same_order) c;
  }
    where
      same_order : x'.order ≡ x.order
      same_order = ap (λ (y : Register O). y.order) w.register

      k : ClassState
      k = with_late_closed (o.grade x'.order n) tick (class_in x' n)

      k_is : k ≡ with_late_closed (S.grade n) tick (class_in x' n)
      k_is = ap (λ (y : O). with_late_closed (o.grade y n) tick (class_in x' n)) same_order

      states_is : x''.classes ≡ set x'.classes n k
      states_is = ap (λ (y : Register O). y.classes) p

      rules_is : m''.rules.now ≡ set m'.rules.now n q.0
      rules_is = ap (λ (z : Memory V R). z.rules.now) q.1

      x_is : x'' ≡ with_classes x (set x'.classes n k)
      x_is = p ∙ ap (λ (y : Register O). with_classes y (set x'.classes n k)) w.register

      m_is : m'' ≡ with_rules m (set m'.rules.now n q.0)
      m_is = q.1 ∙ ap (λ (z : Memory V R). with_rules z (set m'.rules.now n q.0)) w.memory

      so_far : (c : ℕ) → among x'.classes m'.rules.now c ≡ cond (ltb c n) (after c) (before c)
      so_far c = sym (ap₂ (λ (y : Register O) (z : Memory V R). (state o v r y z).class c) w.register w.memory) ∙ w.classes c
