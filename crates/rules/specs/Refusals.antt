-- The locks name the lowest bay in the way; so every rule of this crate names a rival.
use Rattle.std.specs.Prelude.{◌≡◌, ℕ, ◌<◌, Bool, true, not, ◌||◌, Some, None, Option, ◌==◌}
use Rattle.std.proofs.Common.{sym, subst, ◌∙◌, ⊎_elim, arith}
use Rattle.std.proofs.lemmas.Bool.{and_parts, not-true, eqb-false, or_right, cases_Bool, cond-true, cond-false}
use Rattle.rules.specs.declared.access.Access.{Access}
use Rattle.rules.specs.declared.access.Access.TheVariants.{Read, Write}
use Rattle.rules.specs.Claims.{Claims}
use Rattle.rules.specs.Rivals.{NamesARival}
use Rattle.rules.specs.Policies.{lowest_below, bars, in_the_way, lock, NamesTheLowest, chosen}
use Rattle.rules.specs.Lowest.{Found, NoneBelow, lowest_found, lowest_some, lowest_none}

module _ (access : Access) (k : Claims) (b i : ℕ) where
  lowest_named : (o : Option ℕ) → Found 8 (in_the_way access k b i) o → NamesTheLowest access k b i o
  lowest_named None f = f
  lowest_named (Some m) f = f

  pub lock_names_the_lowest : NamesTheLowest access k b i (lock access k b i)
  lock_names_the_lowest = lowest_named (lowest_below 8 (in_the_way access k b i)) (lowest_found (in_the_way access k b i) 8)

  -- A scan from bay 0 that stops at the first bay in the way gives the locks' answer.
  pub lock_some : (n : ℕ) → n < 8 → in_the_way access k b i n ≡ true → NoneBelow n (in_the_way access k b i) → Some n ≡ lock access k b i
  lock_some n h here below = let e = lowest_some (in_the_way access k b i) 8 n h here below in rw e

  pub lock_none : NoneBelow 8 (in_the_way access k b i) → None ≡ lock access k b i
  lock_none below = let e = lowest_none (in_the_way access k b i) 8 below in rw e

claims_at_all : (access : Access) (r w : Bool) → bars access r w ≡ true → (r || w) ≡ true
claims_at_all Read r w t = or_right r w t
claims_at_all Write r w t = t

pub lock_names_a_rival : (access : Access) → NamesARival (lock access)
lock_names_a_rival access k b i n e =
    let l : NamesTheLowest access k b i (Some n) = subst (NamesTheLowest access k b i) e (lock_names_the_lowest access k b i) in
    let p = and_parts (not (b == n)) (bars access (k.reads n i) (k.writes n i)) l.1 in
    record {
      one_of_eight = l.0;
      another = λ same. eqb-false b n (not-true (b == n) p.0) (sym same);
      claims_it = claims_at_all access (k.reads n i) (k.writes n i) p.1;
    }

pub chosen_names_a_rival : (access : Access) → NamesARival (chosen access)
chosen_names_a_rival access k b i n e =
    ⊎_elim
    (λ t. lock_names_a_rival access k b i n (sym (cond-true (k.variant == 0) (lock access k b i) None t) ∙ e))
    (λ t. let never : ◌≡◌ {A = Option ℕ} None (Some n) = sym (cond-false (k.variant == 0) (lock access k b i) None t) ∙ e in let z : ◌≡◌ {A = ℕ} 0 1 = cc in absurd (omega arith))
    (cases_Bool (k.variant == 0))
