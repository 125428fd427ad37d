-- What a table of holds means after a claim, after a release, and at first.
use Rattle.std.proofs.Common.{◌≡◌, ℕ, zero, suc, ◌<◌, Bool, true, false, not, ◌&&◌, ◌||◌, eqb, ltb, List, map, length, set, replicate, Some, None, Option, sym, refl, ap, ◌∙◌, ap₂, ⊎_elim, arith, get_or-set_other, get_or-set_same}
use lib.ListN.{get_or-map}
use Rattle.std.proofs.lemmas.Bool.{cases_eq, cases_Bool, eq-eqb, ne_eqb, eqb-true, and_parts}
use Rattle.std.proofs.lemmas.Bool.Decides.{nat_tests}
use Rattle.rules.specs.declared.access.Access.{Access}
use Rattle.rules.specs.declared.access.Access.TheVariants.{Read, Write}
use Rattle.rules.specs.Claims.{no_claims, forgotten, settled, this_item}
use Rattle.rules.specs.Calls.{with_claim}
use Rattle.rules.proofs.Tables.{same_claims, same_bay}
use Rattle.rules.proofs.Settling.{settles_unread}
use Rattle.exclusive_rule.specs.declared.hold.Hold.{Hold}
use Rattle.exclusive_rule.specs.Holds.{held_by_another, held_also, released_by, hold_at, holds_for, claims_of}

-- Tests on numbers: bay n has a hold with the flag x, which bay b takes over or releases; bay b' is any.
module _ (n b b' : ℕ) (x y : Bool) where
  -- Where bay b takes over, another bay had nothing.
  added : b < 8 → y ≡ true → (ltb n 8 && (not (eqb n b) && x)) ≡ false → ((ltb b' 8 && eqb b b') && true) ≡ ((eqb b b' && y) || ((ltb b' 8 && eqb n b') && x))
  added small here free = grind (arith, nat_tests)

  kept : b < 8 → (ltb n 8 && (not (eqb n b) && x)) ≡ false → ((ltb b' 8 && eqb b b') && (eqb n b && x)) ≡ ((ltb b' 8 && eqb n b') && x)
  kept small free = grind (arith, nat_tests)

  added_first : b < 8 → y ≡ true → ((ltb b' 8 && eqb b b') && true) ≡ ((eqb b b' && y) || false)
  added_first small here = grind (arith, nat_tests)

  elsewhere : y ≡ false → x ≡ ((eqb b b' && y) || x)
  elsewhere no_item = grind (arith, nat_tests)

  dropped : eqb n b ≡ true → false ≡ (not (eqb b b') && ((ltb b' 8 && eqb n b') && x))
  dropped own = grind (arith, nat_tests)

  left : eqb n b ≡ false → ((ltb b' 8 && eqb n b') && x) ≡ (not (eqb b b') && ((ltb b' 8 && eqb n b') && x))
  left other = grind (arith, nat_tests)

no_flag : (a b r w : Bool) → (a && (b && (r || w))) ≡ false → ((a && (b && r)) ≡ false) × ((a && (b && w)) ≡ false)
no_flag false b r w t = (refl, refl)
no_flag true false r w t = (refl, refl)
no_flag true true false w t = (refl, t)
no_flag true true true w t = let z : true ≡ false = t in (z, absurd (both z))
  where
    both : true ≡ false → ⊥
    both e = let z : ◌≡◌ {A = ℕ} 0 1 = cc in omega arith

no_and : (x : Bool) → (x && false) ≡ false
no_and true = refl
no_and false = refl

-- One item, which o says who holds: f is one of the two flags.
module _ (f : Hold → Bool) (b b' : ℕ) where
  -- Another bay than b has the flag set.
  abbrev blocks : Option Hold → Bool
  blocks None = false
  blocks (Some h) = ltb h.bay 8 && (not (eqb h.bay b) && f h)

  -- What bay b itself has of the flag.
  abbrev own_flag : Option Hold → Bool
  own_flag None = false
  own_flag (Some h) = eqb h.bay b && f h

  added_at : (o : Option Hold) (y : Bool) → b < 8 → y ≡ true → blocks o ≡ false → ((ltb b' 8 && eqb b b') && true) ≡ ((eqb b b' && y) || holds_for f b' o)
  added_at None y small here free = added_first 0 b b' true y small here
  added_at (Some h) y small here free = added h.bay b b' (f h) y small here free

  kept_at : (o : Option Hold) → b < 8 → blocks o ≡ false → ((ltb b' 8 && eqb b b') && own_flag o) ≡ holds_for f b' o
  kept_at None small free = no_and (ltb b' 8 && eqb b b')
  kept_at (Some h) small free = kept h.bay b b' (f h) true small free

  released_at : (o : Option Hold) → holds_for f b' (released_by b o) ≡ (not (eqb b b') && holds_for f b' o)
  released_at None = sym (no_and (not (eqb b b')))
  released_at (Some h) =
      ⊎_elim (λ t. rw t (dropped h.bay b b' (f h) true t)) (λ t. rw t (left h.bay b b' (f h) true t)) (cases_Bool (eqb h.bay b))

-- The same in a table.
module _ (f : Hold → Bool) (holds : List (Option Hold)) where
  abbrev flagged : List (Option Hold) → ℕ → ℕ → Bool
  flagged hs b i = holds_for f b (hold_at hs i)

  module _ (i b : ℕ) (y : Hold) (in_table : i < length holds) (small : b < 8) (own : y.bay ≡ b) (b' i' : ℕ) where
    now_holds : {x : Bool} → i ≡ i' → f y ≡ x → flagged (set holds i (Some y)) b' i' ≡ ((ltb b' 8 && eqb b b') && x)
    now_holds e flag =
        ap (holds_for f b') (ap (hold_at (set holds i (Some y))) (sym e) ∙ get_or-set_same holds i (Some y) None in_table)
        ∙ ap₂ (λ (n : ℕ) (t : Bool). (ltb b' 8 && eqb n b') && t) own flag

    away : (i ≡ i' → ⊥) → hold_at (set holds i (Some y)) i' ≡ hold_at holds i'
    away ne = get_or-set_other holds i i' (Some y) None (λ e. ne (sym e))

    flag_added : f y ≡ true → blocks f b b' (hold_at holds i) ≡ false
        → flagged (set holds i (Some y)) b' i' ≡ (this_item b i b' i' || flagged holds b' i')
    flag_added set_now free =
        ⊎_elim
        (λ (e : i ≡ i'). now_holds e set_now ∙ rw (← e) (added_at f b b' (hold_at holds i) (eqb i i) small (eq-eqb i i refl) free))
        (λ (ne : i ≡ i' → ⊥). rw (away ne) (elsewhere 0 b b' (flagged holds b' i') (eqb i i') (ne_eqb i i' ne)))
        (cases_eq i i')

    flag_kept : f y ≡ own_flag f b b' (hold_at holds i) → blocks f b b' (hold_at holds i) ≡ false
        → flagged (set holds i (Some y)) b' i' ≡ flagged holds b' i'
    flag_kept as_before free =
        ⊎_elim (λ (e : i ≡ i'). now_holds e as_before ∙ rw (← e) (kept_at f b b' (hold_at holds i) small free))
        (λ (ne : i ≡ i' → ⊥). rw (away ne)) (cases_eq i i')

  flag_released : (b b' i : ℕ) → flagged (map (released_by b) holds) b' i ≡ (not (eqb b b') && flagged holds b' i)
  flag_released b b' i = ap (holds_for f b') (get_or-map (released_by b) holds i None) ∙ released_at f b b' (hold_at holds i)

-- What bay b makes of a hold that no other bay has.
free_of : (b b' : ℕ) (o : Option Hold) → held_by_another o b ≡ false → (blocks (λ x. x.reads) b b' o ≡ false) × (blocks (λ x. x.writes) b b' o ≡ false)
free_of b b' None free = (refl, refl)
free_of b b' (Some h) free = no_flag (ltb h.bay 8) (not (eqb h.bay b)) h.reads h.writes free

claimed_by : (access : Access) (b : ℕ) (o : Option Hold) → (held_also access b o).bay ≡ b
claimed_by Read b None = refl
claimed_by Read b (Some h) = refl
claimed_by Write b None = refl
claimed_by Write b (Some h) = refl

read_also : (b b' : ℕ) (o : Option Hold) → ((held_also Read b o).reads ≡ true) × ((held_also Read b o).writes ≡ own_flag (λ x. x.writes) b b' o)
read_also b b' None = (refl, refl)
read_also b b' (Some h) = (refl, refl)

written_also : (b b' : ℕ) (o : Option Hold) → ((held_also Write b o).writes ≡ true) × ((held_also Write b o).reads ≡ own_flag (λ x. x.reads) b b' o)
written_also b b' None = (refl, refl)
written_also b b' (Some h) = (refl, refl)

pub after_claim : (access : Access) (holds : List (Option Hold)) (i b : ℕ) → i < length holds → b < 8 → held_by_another (hold_at holds i) b ≡ false
    → claims_of (set holds i (Some (held_also access b (hold_at holds i)))) ≡ with_claim access b i (claims_of holds)
after_claim Read holds i b h small free =
    let o = hold_at holds i in
    let y = held_also Read b o in
    let own = claimed_by Read b o in
    same_claims (claims_of (set holds i (Some y))) (with_claim Read b i (claims_of holds)) refl
    (λ b'. same_bay _ _ (λ i'. flag_added (λ x. x.reads) holds i b y h small own b' i' (read_also b b' o).0 (free_of b b' o free).0)
    (λ i'. flag_kept (λ x. x.writes) holds i b y h small own b' i' (read_also b b' o).1 (free_of b b' o free).1) refl)
after_claim Write holds i b h small free =
    let o = hold_at holds i in
    let y = held_also Write b o in
    let own = claimed_by Write b o in
    same_claims (claims_of (set holds i (Some y))) (with_claim Write b i (claims_of holds)) refl
    (λ b'. same_bay _ _ (λ i'. flag_kept (λ x. x.reads) holds i b y h small own b' i' (written_also b b' o).1 (free_of b b' o free).0)
    (λ i'. flag_added (λ x. x.writes) holds i b y h small own b' i' (written_also b b' o).0 (free_of b b' o free).1) refl)

pub after_release : (holds : List (Option Hold)) (b : ℕ) → claims_of (map (released_by b) holds) ≡ forgotten b (claims_of holds)
after_release holds b =
    same_claims (claims_of (map (released_by b) holds)) (forgotten b (claims_of holds)) refl
    (λ b'. same_bay _ _ (flag_released (λ x. x.reads) holds b b') (flag_released (λ x. x.writes) holds b b') (sym (no_and (not (eqb b b')))))

-- An item has one holder, so nobody else reads what a bay writes.
pub settles_alone : (holds : List (Option Hold)) (b : ℕ) → settled b (claims_of holds) ≡ forgotten b (claims_of holds)
settles_alone holds b = settles_unread (claims_of holds) b (λ b' i ne w r. ne (one_holder b' (hold_at holds i) w r))
  where
    owner : (b n : ℕ) (x : Bool) → ((ltb b 8 && eqb n b) && x) ≡ true → n ≡ b
    owner b n x t = eqb-true n b (and_parts (ltb b 8) (eqb n b) (and_parts (ltb b 8 && eqb n b) x t).0).1

    one_holder : (b' : ℕ) (o : Option Hold) → holds_for (λ x. x.writes) b o ≡ true → holds_for (λ x. x.reads) b' o ≡ true → b ≡ b'
    one_holder b' None w r = let z : ◌≡◌ {A = ℕ} 0 1 = cc in absurd (omega arith)
    one_holder b' (Some h) w r = sym (owner b h.bay h.writes w) ∙ owner b' h.bay h.reads r

pub none_held : (n : ℕ) → claims_of (replicate n None) ≡ no_claims 0
none_held n = same_claims (claims_of (replicate n None)) (no_claims 0) refl (λ b. same_bay _ _ (λ i. rw (each n i)) (λ i. rw (each n i)) refl)
  where
    each : (n i : ℕ) → hold_at (replicate n None) i ≡ None
    each zero i = refl
    each (suc n) zero = refl
    each (suc n) (suc i) = each n i
