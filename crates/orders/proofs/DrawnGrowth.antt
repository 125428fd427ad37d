-- One more class with the set below it: what a drawn order keeps still holds.
use Rattle.std.proofs.Common.{◌≡◌, ℕ, zero, suc, ◌^◌, ◌<◌, ◌≤◌, Bool, true, false, cond, not, ◌&&◌, ◌||◌, eqb, ltb, List, [], ◌∷◌, ◌++◌, length, get_or, set, replicate, sym, refl, ap, ◌∙◌, subst, ap₂, ⊎_elim, arith, get_or-set_other, get_or-set_same}
use Rattle.std.proofs.lemmas.Bool.{eqb-true, eqb-false, le-ltb, and_from, cases_order, cases_lt, both_ways}
use Rattle.sets.specs.Below.{some_below, greatest_below}
use Rattle.sets.specs.Members.{Members, has_bit, members, with_member, all_under}
use Rattle.sets.specs.declared.small_set.SmallSet.{SmallSet}
use Rattle.sets.proofs.Below.{some_is, some_same, greatest_same}
use Rattle.sets.proofs.Bits.{has_past, has_none}
use Rattle.orders.specs.Links.{bit_set, link, set_at, reaches, height, step_up, Drawn, Falling, Tables}
use Rattle.orders.proofs.Appended.{longer, at_old, at_new, past_new}
use Rattle.orders.specs.Newest.{older, height_older, same_reaches, same_height}

-- The members of a set of which all are under n.
pub all_smaller : (m n : ℕ) → m < 2 ^ 64 → all_under n (has_bit m) ≡ true → (e : ℕ) → has_bit m e ≡ true → e < n
unfolding all_under
all_smaller m n h a e k = ⊎_elim (λ (z : e < n). z) (λ (z : n ≤ e). absurd (both_ways (all_under n (has_bit m)) (ap not (beyond z)) a)) (cases_lt e n)
  where
    below_64 : e < 64
    below_64 = ⊎_elim (λ (z : e < 64). z) (λ (z : 64 ≤ e). absurd (both_ways (has_bit m e) (has_past m 64 e h z) k)) (cases_lt e 64)

    beyond : n ≤ e → some_below 64 (λ x. has_bit m x && not (ltb x n)) ≡ true
    beyond z = (some_is (λ x. has_bit m x && not (ltb x n)) 64).1 (e, below_64, and_from (has_bit m e) (not (ltb e n)) k (ap not (le-ltb e n z)))

module _ (n : ℕ) (w : List SmallSet) (len : length w ≡ n) (s : SmallSet) where
  old_link : (c e : ℕ) → c < n → link (w ++ (s ∷ [])) c e ≡ link w c e
  old_link c e h = ap (λ x. members x e) (at_old w s (bit_set 0) c (omega arith))

  new_link : (e : ℕ) → link (w ++ (s ∷ [])) n e ≡ members s e
  new_link e = ap (λ x. members x e) (at_new w s (bit_set 0) n len)

  no_link : (c e : ℕ) → n < c → link (w ++ (s ∷ [])) c e ≡ false
  no_link c e h = ap (λ x. members x e) (past_new w s (bit_set 0) c (omega arith)) ∙ has_none e

  total : length (w ++ (s ∷ [])) ≡ suc n
  total = omega (arith, longer w s (bit_set 0))

  pub still_drawn : Drawn n w → n < 16 → Drawn (suc n) (w ++ (s ∷ []))
  still_drawn D few = (omega arith, omega arith, total)

  pub still_falling : Falling w → ((e : ℕ) → members s e ≡ true → e < n) → Falling (w ++ (s ∷ []))
  still_falling F small c e k =
      ⊎_elim
      (λ (h : c ≡ n). let q : link (w ++ (s ∷ [])) n e ≡ true = subst (λ (x : ℕ). link (w ++ (s ∷ [])) x e ≡ true) h k in omega (arith, small e (sym (new_link e) ∙ q)))
      (⊎_elim
      (λ (h : c < n). F c e (sym (old_link c e h) ∙ k))
      (λ (h : n < c). absurd (both_ways (link (w ++ (s ∷ [])) c e) (no_link c e h) k)))
      (cases_order c n)

  module _ (reached : List SmallSet) (grades : List ℕ) (T : Tables w reached grades) (row : SmallSet) (grade : ℕ) (nR : n < length reached) (nG : n < length grades)
      (J : (d : ℕ) → members row d ≡ (eqb n d || some_below n (λ e. members s e && members (set_at reached e) d)))
      (K : grade ≡ greatest_below n (step_up (members s) (λ e. get_or grades e 0))) where
    reach_before : (c d : ℕ) → reaches (link (w ++ (s ∷ []))) n c d ≡ members (set_at reached c) d
    reach_before c d = same_reaches (link (w ++ (s ∷ []))) (link w) n old_link c d ∙ ap (λ k. reaches (link w) k c d) (sym len) ∙ sym (T.0 c d)

    height_before : (c : ℕ) → height (link (w ++ (s ∷ []))) n c ≡ get_or grades c 0
    height_before c = same_height (link (w ++ (s ∷ []))) (link w) n old_link c ∙ ap (λ k. height (link w) k c) (sym len) ∙ sym (T.1 c)

    reach_now : (c d : ℕ) → members (set_at (set reached n row) c) d ≡ reaches (link (w ++ (s ∷ []))) (suc n) c d
    reach_now c d = go (eqb c n) refl
      where
        go : (q : Bool) → eqb c n ≡ q → members (set_at (set reached n row) c) d ≡ reaches (link (w ++ (s ∷ []))) (suc n) c d
        go true e =
            let z : c ≡ n = eqb-true c n e in
            let new : members (set_at (set reached n row) c) d ≡ members row d = ap (λ (x : ℕ). members (set_at (set reached n row) x) d) z ∙ ap (λ x. members x d) (get_or-set_same reached n row (bit_set 0) nR) in
            new ∙ J d ∙ rw e (ap (λ x. eqb n d || x) (some_same _ _ n (λ e h. ap₂ (λ x y. x && y) (sym (new_link e)) (sym (reach_before e d)))))
        go false e =
            let z = eqb-false c n e in
            ap (λ x. members x d) (get_or-set_other reached n c row (bit_set 0) z) ∙ sym (reach_before c d) ∙ sym (older (link (w ++ (s ∷ []))) n c d z)

    height_now : (c : ℕ) → get_or (set grades n grade) c 0 ≡ height (link (w ++ (s ∷ []))) (suc n) c
    height_now c = go (eqb c n) refl
      where
        go : (q : Bool) → eqb c n ≡ q → get_or (set grades n grade) c 0 ≡ height (link (w ++ (s ∷ []))) (suc n) c
        go true e =
            let z : c ≡ n = eqb-true c n e in
            let new : get_or (set grades n grade) c 0 ≡ grade = rw (z, get_or-set_same grades n grade 0 nG) in
            new ∙ K ∙ rw e (greatest_same _ _ n (λ e h. ap₂ (λ x y. cond x (suc y) 0) (sym (new_link e)) (sym (height_before e))))
        go false e = let z = eqb-false c n e in get_or-set_other grades n c grade 0 z ∙ sym (height_before c) ∙ sym (height_older (link (w ++ (s ∷ []))) n c z)

    pub still_tables : Tables (w ++ (s ∷ [])) (set reached n row) (set grades n grade)
    still_tables = (
      (λ c d. reach_now c d ∙ ap (λ k. reaches (link (w ++ (s ∷ []))) k c d) (sym total)),
      (λ c. height_now c ∙ ap (λ k. height (link (w ++ (s ∷ []))) k c) (sym total)),
    )

-- The first class, which has nothing below it.
module _ (none : SmallSet) (z : none.bits ≡ 0) (row : SmallSet) (R : members row ≡ with_member 0 (members none)) where
  empty : (d : ℕ) → members none d ≡ false
  empty d = ap (λ x. has_bit x d) z ∙ has_none d

  all_empty : (n c d : ℕ) → members (set_at (replicate n none) c) d ≡ false
  all_empty zero c d = has_none d
  all_empty (suc n) zero d = empty d
  all_empty (suc n) (suc c) d = all_empty n c d

  all_zero : (n c : ℕ) → get_or {A = ℕ} (replicate n 0) c 0 ≡ 0
  all_zero zero c = refl
  all_zero (suc n) zero = refl
  all_zero (suc n) (suc c) = all_zero n c

  pub first_falling : Falling (none ∷ [])
  first_falling = still_falling 0 [] refl none (λ c e k. absurd (both_ways (link [] c e) (has_none e) k)) (λ e k. absurd (both_ways (members none e) (empty e) k))

  pub first_tables : Tables (none ∷ []) (set (replicate 16 none) 0 row) (replicate 16 0)
  first_tables =
      still_tables 0 [] refl none (replicate 16 none) (replicate 16 0) (all_empty 16, all_zero 16) row 0 (omega arith) (omega arith)
      (λ d. ap (λ (p : Members). p d) R ∙ ap (λ x. eqb 0 d || x) (empty d)) refl
