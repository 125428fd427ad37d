-- The declared numbers: their closed form, and how those of two grades or two times lie.
use Rattle.std.proofs.Common.{◌≡◌, ℕ, zero, suc, ◌+◌, ◌-◌, ◌*◌, ◌/◌, ◌%◌, ◌<◌, ◌≤◌, Bool, true, false, cond, ltb, leb, ◌⊎◌, refl, inl, inr, mod-lt, div-add-mod', arith}
use native.Mathlib.Nat.{zero-div, zero-mod}
use lib.Arith.{digits_div, digits_mod}
use Rattle.std.proofs.lemmas.Bool.{ltb-true, ltb-false, leb-true, leb-false}
use Rattle.laws.specs.Clock.{tick_grade, tick_number, declared}
use Rattle.laws.proofs.Tests.{eqb_same}

-- One tick more: the round goes on, or it was full and the next begins.
record Turn (t n : ℕ) : Type 0 where
  quo : suc t / suc n ≡ t / suc n
  rem : suc t % suc n ≡ suc (t % suc n)

record Full (t n : ℕ) : Type 0 where
  was : t % suc n ≡ n
  quo : suc t / suc n ≡ suc (t / suc n)
  rem : suc t % suc n ≡ 0

parts : (t n : ℕ) → t / suc n * suc n + t % suc n ≡ t
parts t n = div-add-mod' t (suc n)

small : (t n : ℕ) → t % suc n < suc n
small t n = mod-lt t (omega arith)

turn : (t n : ℕ) → Turn t n ⊎ Full t n
turn t n = go (ltb (t % suc n) n) refl
  where
    q : ℕ
    q = t / suc n

    r : ℕ
    r = t % suc n

    go : (x : Bool) → ltb r n ≡ x → Turn t n ⊎ Full t n
    go true e =
        let h = ltb-true r n e in
        let k : suc r < suc n = omega arith in
        let s : q * suc n + suc r ≡ suc t = omega (arith, parts t n) in
        inl (record { quo = rw s at (digits_div q k); rem = rw s at (digits_mod q k) })
    go false e =
        let h = ltb-false r n e in
        let l = small t n in
        let k : 0 < suc n = omega arith in
        let s : suc q * suc n + 0 ≡ suc t = omega (arith, parts t n) in
        inr (record { was = omega arith; quo = rw s at (digits_div (suc q) k); rem = rw s at (digits_mod (suc q) k) })

abbrev past : ℕ → ℕ → ℕ → ℕ
past n g t = cond (ltb g (t % suc n)) 1 0

-- The closed form.
pub declared_is : (n g t : ℕ) → g ≤ n → declared n g t ≡ t / suc n + past n g t
declared_is n g zero h = grind (arith, zero-div (suc n), zero-mod (suc n))
declared_is n g (suc t) h = go (turn t n) (declared_is n g t h)
  where
    go : Turn t n ⊎ Full t n → declared n g t ≡ t / suc n + past n g t → declared n g (suc t) ≡ suc t / suc n + past n g (suc t)
    go (inl r) e = rw (r.quo, r.rem, e) grind arith
    go (inr r) e = rw (r.quo, r.rem, e) grind arith

-- Of two grades the lower is ahead by at most one.
pub declared_falls : (n g g' t : ℕ) → g ≤ g' → g' ≤ n → declared n g' t ≤ declared n g t
declared_falls n g g' t h k = rw (declared_is n g t (omega arith), declared_is n g' t k) (grind arith)

pub declared_near : (n g g' t : ℕ) → g ≤ g' → g' ≤ n → declared n g t ≤ declared n g' t + 1
declared_near n g g' t h k = rw (declared_is n g t (omega arith), declared_is n g' t k) (grind arith)

pub declared_rises : (n g s t : ℕ) → s ≤ t → declared n g s ≤ declared n g t
declared_rises n g s zero h = let e : s ≡ 0 = omega arith in rw e (omega arith)
declared_rises n g s (suc t) h = go (leb s t) refl (declared_rises n g s t)
  where
    go : (q : Bool) → leb s t ≡ q → (s ≤ t → declared n g s ≤ declared n g t) → declared n g s ≤ declared n g (suc t)
    go true e ih = omega (arith, ih (leb-true s t e))
    go false e ih = let k : s ≡ suc t = omega (arith, leb-false s t e) in rw k (omega arith)

-- What was declared before a tick: at its own grade, at the grade just under it, and at every grade before a tick at grade 0.
pub tick_here : (n t : ℕ) → declared n (t % suc n) t ≡ t / suc n
tick_here n t = rw (declared_is n (t % suc n) t (omega (arith, small t n))) (grind arith)

pub tick_under : (n g t : ℕ) → t % suc n ≡ g → 1 ≤ g → declared n (g - 1) t ≡ t / suc n + 1
tick_under n g t e h = rw (declared_is n (g - 1) t (omega (arith, small t n))) (grind arith)

pub tick_first : (n g t : ℕ) → g ≤ n → t % suc n ≡ 0 → declared n g t ≡ t / suc n
tick_first n g t h e = rw (declared_is n g t h) (grind arith)

-- A tick's number is the declared number of its grade after it.
pub tick_declares : (n t : ℕ) → tick_number n t ≡ declared n (tick_grade n t) (suc t)
tick_declares n t = rw (eqb_same (t % suc n), tick_here n t) (omega arith)

-- The declared number without a count: what code computes.
pub declared_formula : (n g t : ℕ) → g ≤ n → declared n g t ≡ (t + n - g) / suc n
declared_formula n g t h = go (ltb g (t % suc n)) refl
  where
    go : (q : Bool) → ltb g (t % suc n) ≡ q → declared n g t ≡ (t + n - g) / suc n
    go true e =
        let l = ltb-true g (t % suc n) e in
        let r = small t n in
        let s : suc (t / suc n) * suc n + (t % suc n - g - 1) ≡ t + n - g = omega (arith, parts t n) in
        let f : (t + n - g) / suc n ≡ suc (t / suc n) = rw s at (digits_div (suc (t / suc n)) {m = suc n} {r = t % suc n - g - 1} (omega arith)) in
        rw (declared_is n g t h, e, f) (omega arith)
    go false e =
        let l = ltb-false g (t % suc n) e in
        let r = small t n in
        let s : t / suc n * suc n + (t % suc n + n - g) ≡ t + n - g = omega (arith, parts t n) in
        let f : (t + n - g) / suc n ≡ t / suc n = rw s at (digits_div (t / suc n) {m = suc n} {r = t % suc n + n - g} (omega arith)) in
        rw (declared_is n g t h, e, f) (omega arith)
