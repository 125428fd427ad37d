-- What it says that a number is the lowest below n that passes a test.
use Rattle.std.specs.Prelude.{◌≡◌, ℕ, zero, suc, ◌<◌, ◌≤◌, Bool, true, false, cond, Some, None, Option, refl}
use Rattle.std.proofs.Common.{⊎_elim, arith}
use Rattle.std.specs.Option.{option_or}
use Rattle.std.proofs.lemmas.Bool.{cases_eq, cases_lt}
use Rattle.rules.specs.Policies.{lowest_below}

-- No number below n passes the test.
abbrev pub NoneBelow : ℕ → (ℕ → Bool) → Type 0
NoneBelow n p = (j : ℕ) → j < n → p j ≡ false

pub one_more : (p : ℕ → Bool) (n : ℕ) → NoneBelow n p → p n ≡ false → NoneBelow (suc n) p
one_more p n below here j h = ⊎_elim (λ (e : j ≡ n). rw e here) (λ (ne : j ≡ n → ⊥). below j (omega arith)) (cases_eq j n)

pub lowest_none : (p : ℕ → Bool) (n : ℕ) → NoneBelow n p → lowest_below n p ≡ None
unfolding lowest_below
lowest_none p zero below = refl
lowest_none p (suc n) below =
    let before = lowest_none p n (λ j h. below j (omega arith)) in
    let here = below n (omega arith) in
    rw (before, here)

pub lowest_some : (p : ℕ → Bool) (n m : ℕ) → m < n → p m ≡ true → NoneBelow m p → lowest_below n p ≡ Some m
unfolding lowest_below
lowest_some p zero m h passes below = absurd (omega arith)
lowest_some p (suc n) m h passes below =
    ⊎_elim
    (λ (l : m < n). let before = lowest_some p n m l passes below in rw before)
    (λ (l : n ≤ m).
    let e : m ≡ n = omega arith in
    let before : lowest_below n p ≡ None = lowest_none p n (λ j b. below j (omega arith)) in
    let here : p n ≡ true = rw (← e) passes in
    rw (before, here, e))
    (cases_lt m n)

-- What is found is below n, passes the test, and is the lowest to do so; nothing is found only where no number passes.
abbrev pub Found : ℕ → (ℕ → Bool) → Option ℕ → Type 0
Found n p None = NoneBelow n p
Found n p (Some m) = (m < n) × (p m ≡ true) × NoneBelow m p

pub lowest_found : (p : ℕ → Bool) (n : ℕ) → Found n p (lowest_below n p)
unfolding lowest_below
lowest_found p zero = λ j h. absurd (omega arith)
lowest_found p (suc n) = either (lowest_below n p) (lowest_found p n) (p n) refl
  where
    either : (o : Option ℕ) → Found n p o → (t : Bool) → p n ≡ t → Found (suc n) p (option_or o (cond t (Some n) None))
    either (Some m) f t e = (omega arith, f.1, f.2)
    either None f true e = (omega arith, e, f)
    either None f false e = one_more p n f e
