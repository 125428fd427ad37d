-- Small facts on tests and options that the other proofs share.
use Rattle.std.proofs.Common.{◌≡◌, ℕ, Bool, true, false, cond, not, ◌&&◌, ◌||◌, eqb, Some, None, sym, refl, ◌∙◌, arith}
use Rattle.std.proofs.lemmas.Bool.{eqb-true, eqb-false, eq-eqb, ne_eqb, and_parts}
use Rattle.laws.specs.State.{update, long}

pub true_not_false : {A : Type 0} → true ≡ false → A
true_not_false e = let z : ◌≡◌ {A = ℕ} 0 1 = cc in absurd (omega arith)

pub long_not_update : {A : Type 0} → long ≡ update → A
long_not_update e = let z : ◌≡◌ {A = ℕ} 0 1 = cc in absurd (omega arith)

pub none_not_some : {A B : Type 0} {x : A} → None ≡ Some x → B
none_not_some e = let z : ◌≡◌ {A = ℕ} 0 1 = cc in absurd (omega arith)

pub some_eq : {A : Type 0} {x y : A} → Some x ≡ Some y → x ≡ y
some_eq e = cc

pub and_l : (p q : Bool) → (p && q) ≡ true → p ≡ true
and_l p q e = (and_parts p q e).0

pub and_r : (p q : Bool) → (p && q) ≡ true → q ≡ true
and_r p q e = (and_parts p q e).1

pub or_r : (p q : Bool) → p ≡ true → (not p || q) ≡ true → q ≡ true
or_r true q h e = e
or_r false q h e = true_not_false (sym h)

pub of_not : (q : Bool) → (q ≡ true → ⊥) → q ≡ false
of_not true f = absurd (f refl)
of_not false f = refl

pub eqb_same : (n : ℕ) → eqb n n ≡ true
eqb_same n = eq-eqb n n refl

pub eqb_turn : (m n : ℕ) → eqb m n ≡ eqb n m
eqb_turn m n = go (eqb m n) refl
  where
    go : (q : Bool) → eqb m n ≡ q → eqb m n ≡ eqb n m
    go true e = rw (eqb-true m n e)
    go false e = e ∙ sym (ne_eqb n m (λ x. eqb-false m n e (sym x)))

pub cond_twice : {A : Type 0} (q : Bool) (x y z : A) → cond q x z ≡ cond q x (cond q y z)
cond_twice true x y z = refl
cond_twice false x y z = refl

pub cond_swap : {A : Type 0} (p q : Bool) (x y z : A) → (p ≡ true → q ≡ true → ⊥) → cond q x (cond p y z) ≡ cond p y (cond q x z)
cond_swap true true x y z h = absurd (h refl refl)
cond_swap true false x y z h = refl
cond_swap false true x y z h = refl
cond_swap false false x y z h = refl
