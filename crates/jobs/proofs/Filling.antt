-- Memory that set-up has filled: a fresh register stands on it.
use Rattle.std.proofs.Common.{◌≡◌, ℕ, zero, suc, ◌+◌, ◌*◌, ◌<◌, ◌≤◌, Bool, true, false, cond, ltb, leb, List, [], ◌∷◌, map, length, get_or, replicate, is_some, Some, None, Option, sym, refl, ap, ◌∙◌, ap₂, arith}
use mathlib.Core.Path.{fun_ext}
use Rattle.std.specs.Option.{option_map}
use Rattle.std.proofs.lemmas.Bool.{and_parts, leb-true, ltb-true}
use Rattle.cells.specs.Versions.{fresh}
use Rattle.cells.specs.Cells.{versions, item}
use Rattle.cells.specs.declared.value.Value.{Ghosts as ValueGhosts}
use Rattle.orders.specs.declared.class_order.ClassOrder.{Ghosts as OrderGhosts}
use Rattle.rules.specs.Claims.{Claims, no_claims}
use Rattle.rules.specs.Calls.{fresh_claims}
use Rattle.rules.specs.declared.local_rule.LocalRule.{Ghosts as RuleGhosts}
use Rattle.laws.specs.Setting.{Setting, sum_below}
use Rattle.laws.specs.State as definition
use Rattle.laws.specs.State.{Class, State, free, fresh_class}
use Rattle.laws.specs.History.{Stands}
use Rattle.jobs.specs.Represents.{no_state, bay_of, bay_values, class_of, claims_in, setting, state, enough}
use Rattle.jobs.specs.SetUp.{fresh_class_state}
use Rattle.jobs.specs.Fill.{FreshMemory, Unused}
use Rattle.register_parts.specs.declared.bay.Bay.TheVariants.{Free}
use Rattle.register_parts.specs.declared.class_state.ClassState.{ClassState}
use Rattle.jobs.specs.declared.memory.Memory.{Memory}
use Rattle.jobs.specs.declared.register.Register.{Register}
use Rattle.jobs.proofs.ItemSums.{sum_in}

-- What f says of an element, wherever a list has it.
in_map : {X Y : Type 0} (f : X → Y) (xs : List X) (k : ℕ) (e y : Y) → k < length xs → ((d : X) → f (get_or xs k d) ≡ y) → get_or (map f xs) k e ≡ y
in_map f [] k e y l h = absurd (omega arith)
in_map f (x ∷ xs) zero e y l h = h x
in_map f (x ∷ xs) (suc k) e y l h = in_map f xs k e y (omega arith) h

in_replicate : {X : Type 0} (n : ℕ) (a : X) (k : ℕ) → get_or (replicate n a) k a ≡ a
in_replicate zero a k = refl
in_replicate (suc n) a zero = refl
in_replicate (suc n) a (suc k) = in_replicate n a k

in_replicate_first : {X : Type 0} (n : ℕ) (a d : X) (k : ℕ) → k < n → get_or (replicate n a) k d ≡ a
in_replicate_first zero a d k h = absurd (omega arith)
in_replicate_first (suc n) a d zero h = refl
in_replicate_first (suc n) a d (suc k) h = in_replicate_first n a d k (omega arith)

-- A rule can be made where there is the variant.
pub has_variant : {R : Type 0} (r : RuleGhosts R) (variant : ℕ) (made : Option R) → option_map r.meaning made ≡ fresh_claims r.variants variant → is_some made ≡ ltb variant r.variants
has_variant {R} r variant made e = sym (mapped_some made) ∙ ap is_some e ∙ go (ltb variant r.variants)
  where
    mapped_some : (made : Option R) → is_some (option_map r.meaning made) ≡ is_some made
    mapped_some None = refl
    mapped_some (Some rule) = refl

    go : (q : Bool) → is_some (cond q (Some (no_claims variant)) None) ≡ q
    go true = refl
    go false = refl

module _ {O V R : Type 0} (o : OrderGhosts O) (v : ValueGhosts V) (r : RuleGhosts R) (x : Register O) (m : Memory V R) where
  abbrev S : Setting V
  S = setting o v r x

  -- Enough memory is enough of each.
  pub record Room : Type 0 where
    pub cells : sum_below S.classes S.items ≤ length m.cells.now
    pub pending : S.classes * 64 ≤ length m.pending.now
    pub rules : S.classes ≤ length m.rules.now

  pub room : enough o v r x m ≡ true → Room
  room e =
      let p = and_parts (leb (sum_below S.classes S.items) (length m.cells.now)) _ e in
      let q = and_parts (leb (S.classes * 64) (length m.pending.now)) (leb S.classes (length m.rules.now)) p.1 in
      record { cells = leb-true _ _ p.0; pending = leb-true _ _ q.0; rules = leb-true _ _ q.1 }

  module _ (m' : Memory V R) (few : S.classes ≤ 16) (h : Room) (w : FreshMemory o v r x m m') (u : Unused o v r x) where
    rule_fresh : (c : ℕ) → c < S.classes → claims_in r m'.rules.now c ≡ no_claims x.variant
    rule_fresh c l =
        in_map r.meaning m'.rules.now c (no_claims 0) (no_claims x.variant) (omega (arith, h.rules, w.rules.length_is)) (w.rules.first c l)

    cell_fresh : (c i : ℕ) → c < S.classes → (class_of S m'.cells.now m'.pending.now c fresh_class_state (no_claims 0)).cells i ≡ fresh S.start
    cell_fresh c i l = go (ltb i (S.items c)) refl
      where
        go : (q : Bool) → ltb i (S.items c) ≡ q → cond (ltb i (S.items c)) (item (sum_below c S.items + i) (map versions m'.cells.now)) (fresh S.start) ≡ fresh S.start
        go false e = rw e
        go true e =
            let p : sum_below c S.items + i < sum_below S.classes S.items = omega (arith, sum_in S.items c S.classes l, ltb-true i (S.items c) e) in
            rw e (in_map versions m'.cells.now (sum_below c S.items + i) [] (fresh S.start) (omega (arith, h.cells, w.cells.length_is)) (w.cells.first _ p))

    class_fresh : (c : ℕ) → c < S.classes → class_of S m'.cells.now m'.pending.now c fresh_class_state (claims_in r m'.rules.now c) ≡ fresh_class S
    class_fresh c l =
        let made : Claims → (ℕ → definition.Bay V) → (ℕ → definition.Cell V) → Class V = λ k bays cells. record { floor = 0; claims = k; bays = bays; cells = cells } in
        let bays_are : (λ b. bay_of (bay_values m'.pending.now c b) (get_or (replicate 8 Free) b Free)) ≡ (λ b. free) =
        fun_ext (λ b. ap (bay_of (bay_values m'.pending.now c b)) (in_replicate 8 Free b)) in
        ap₂ (λ (k : Claims) (bays : ℕ → definition.Bay V). made k bays (class_of S m'.cells.now m'.pending.now c fresh_class_state (no_claims 0)).cells) (rule_fresh c l) bays_are
        ∙ ap (made (no_claims x.variant) (λ b. free)) (fun_ext (λ i. cell_fresh c i l))

    classes_fresh : (c : ℕ) → (state o v r x m').class c ≡ fresh_class S
    classes_fresh c = go (ltb c S.classes) refl
      where
        go : (q : Bool) → ltb c S.classes ≡ q → (state o v r x m').class c ≡ fresh_class S
        go false e = rw e
        go true e =
            let l = ltb-true c S.classes e in
            let k : get_or x.classes c no_state ≡ fresh_class_state = ap (λ (s : List ClassState). get_or s c no_state) u.states ∙ in_replicate_first 16 fresh_class_state no_state c (omega arith) in
            rw e (ap (λ (s : ClassState). class_of S m'.cells.now m'.pending.now c s (claims_in r m'.rules.now c)) k ∙ class_fresh c l)

    -- The register stands after the empty history.
    pub stands_fresh : Stands S [] (state o v r x m')
    stands_fresh =
        let made : ℕ → (ℕ → Class V) → State V = λ t f. record { ticks = t; class = f } in
        record { replies = tt; state = ap₂ made u.ticks (fun_ext classes_fresh) }
