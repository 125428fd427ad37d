-- The bay that holds an item is the only one in the way, so it is the lowest.
use Rattle.std.proofs.Common.{◌≡◌, ℕ, ◌<◌, Bool, true, false, not, ◌&&◌, ◌||◌, eqb, ltb, List, Some, None, Option, refl, ◌∙◌, ⊎_elim, arith}
use Rattle.std.proofs.lemmas.Bool.{cases_Bool, cond-true, cond-false, and_parts, ltb-true}
use Rattle.std.proofs.lemmas.Bool.Decides.{nat_tests}
use Rattle.rules.specs.declared.access.Access.TheVariants.{Write}
use Rattle.rules.specs.Policies.{lock}
use Rattle.rules.specs.Refusals.{lock_some, lock_none}
use Rattle.exclusive_rule.specs.declared.hold.Hold.{Hold}
use Rattle.exclusive_rule.specs.Holds.{held_by_another, other_holder, hold_at, claims_of}

-- Bay n holds the item, r and w say what for; bay b asks; bay j is any.
module _ (n b j : ℕ) (r w : Bool) where
  held : Bool
  held = ltb n 8 && (not (eqb n b) && (r || w))

  way : Bool
  way = not (eqb b j) && (((ltb j 8 && eqb n j) && r) || ((ltb j 8 && eqb n j) && w))

  holder_in_way : held ≡ true → n ≡ j → way ≡ true
  unfolding held way
  holder_in_way t e = grind (arith, nat_tests)

  others_clear : j < n → way ≡ false
  unfolding way
  others_clear l = grind (arith, nat_tests)

  all_clear : held ≡ false → way ≡ false
  unfolding held way
  all_clear t = grind (arith, nat_tests)

no_and : (x : Bool) → (x && false) ≡ false
no_and true = refl
no_and false = refl

module _ (holds : List (Option Hold)) (b i : ℕ) where
  answer_at : (o : Option Hold) → hold_at holds i ≡ o → other_holder o b ≡ lock Write (claims_of holds) b i
  unfolding held way
  answer_at None e = lock_none Write (claims_of holds) b i (λ j l. rw e (no_and (not (eqb b j))))
  answer_at (Some h) e =
      ⊎_elim
      (λ (t : held_by_another (Some h) b ≡ true).
      let parts = and_parts (ltb h.bay 8) (not (eqb h.bay b) && (h.reads || h.writes)) t in
      cond-true (held_by_another (Some h) b) (Some h.bay) None t
      ∙ lock_some Write (claims_of holds) b i h.bay (ltb-true h.bay 8 parts.0) (rw e (holder_in_way h.bay b h.bay h.reads h.writes t refl))
      (λ j l. rw e (others_clear h.bay b j h.reads h.writes l)))
      (λ (t : held_by_another (Some h) b ≡ false).
      cond-false (held_by_another (Some h) b) (Some h.bay) None t
      ∙ lock_none Write (claims_of holds) b i (λ j l. rw e (all_clear h.bay b j h.reads h.writes t)))
      (cases_Bool (held_by_another (Some h) b))

  pub answer_is : other_holder (hold_at holds i) b ≡ lock Write (claims_of holds) b i
  answer_is = answer_at (hold_at holds i) refl
