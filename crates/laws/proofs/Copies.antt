-- What operations and jobs do to the copy.
use Rattle.std.proofs.Common.{◌≡◌, ℕ, Bool, true, false, List, [], ◌∷◌, ◌++◌, None, filter, sym, refl, ap, ◌∙◌}
use Rattle.std.specs.List.{AllByRecursion}
use Rattle.std.proofs.lemmas.Bool.{ne_eqb}
use Rattle.laws.specs.State.{or_else}
use Rattle.laws.specs.Transactions.{Operation, Committed, read_of, write_of}
use Rattle.laws.specs.OneCopy.{Copy, last_write, after_operations, ReadsOfJob, after_jobs, ReadsOfCopy}
use Rattle.laws.proofs.Tests.{eqb_same, eqb_turn}
use Rattle.laws.proofs.Bays.{written, WritesTo, WritesNone}

pub all_both : {A : Type 0} (P Q R : A → Type 0) → ((x : A) → P x → Q x → R x) → (xs : List A) → AllByRecursion P xs → AllByRecursion Q xs → AllByRecursion R xs
all_both P Q R f [] a b = tt
all_both P Q R f (x ∷ xs) a b = (f x a.0 b.0, all_both P Q R f xs a.1 b.1)

pub all_left : {A : Type 0} (P : A → Type 0) (xs ys : List A) → AllByRecursion P (xs ++ ys) → AllByRecursion P xs
all_left P [] ys a = tt
all_left P (x ∷ xs) ys a = (a.0, all_left P xs ys a.1)

pub all_right : {A : Type 0} (P : A → Type 0) (xs ys : List A) → AllByRecursion P (xs ++ ys) → AllByRecursion P ys
all_right P [] ys a = a
all_right P (x ∷ xs) ys a = all_right P xs ys a.1

module _ {A : Type 0} (p : A → Bool) where
  pub kept_by_none : (xs : List A) → AllByRecursion (λ x. p x ≡ false) xs → filter p xs ≡ []
  kept_by_none [] a = refl
  kept_by_none (x ∷ xs) a = rw (a.0, kept_by_none xs a.1)

pub append_nil : {A : Type 0} (xs : List A) → xs ++ [] ≡ xs
append_nil [] = refl
append_nil {A} (x ∷ xs) = ap {B = List A} (λ ys. x ∷ ys) (append_nil xs)

module _ {V : Type 0} where
  -- What a job's operations do to the copy at one class and item.
  pub after_same : (m m' : Copy V) (os : List (Operation V)) (d i : ℕ) → m d i ≡ m' d i → after_operations m os d i ≡ after_operations m' os d i
  after_same m m' os d i e = ap (λ (x : V). or_else (last_write d i os) x) e

  last_write_own : (c i : ℕ) (os : List (Operation V)) → WritesTo c os → last_write c i os ≡ written i os
  last_write_own c i [] w = refl
  last_write_own c i (read_of d i' v ∷ os) w = last_write_own c i os w
  last_write_own c i (write_of c' i' v ∷ os) w = rw (w.0, eqb_same, eqb_turn i' i, last_write_own c i os w.1)

  last_write_other : (c d i : ℕ) (os : List (Operation V)) → WritesTo c os → ¬ (c ≡ d) → last_write d i os ≡ None
  last_write_other c d i [] w n = refl
  last_write_other c d i (read_of d' i' v ∷ os) w n = last_write_other c d i os w n
  last_write_other c d i (write_of c' i' v ∷ os) w n = rw (w.0, ne_eqb c d n) (last_write_other c d i os w.1 n)

  last_write_none : (d i : ℕ) (os : List (Operation V)) → WritesNone os → last_write d i os ≡ None
  last_write_none d i [] w = refl
  last_write_none d i (read_of d' i' v ∷ os) w = last_write_none d i os w
  last_write_none d i (write_of c' i' v ∷ os) w = absurd w

  pub after_own : (m : Copy V) (c i : ℕ) (os : List (Operation V)) → WritesTo c os → after_operations m os c i ≡ or_else (written i os) (m c i)
  after_own m c i os w = rw (last_write_own c i os w)

  pub after_other : (m : Copy V) (c d i : ℕ) (os : List (Operation V)) → WritesTo c os → ¬ (c ≡ d) → after_operations m os d i ≡ m d i
  after_other m c d i os w n = rw (last_write_other c d i os w n)

  pub after_none : (m : Copy V) (d i : ℕ) (os : List (Operation V)) → WritesNone os → after_operations m os d i ≡ m d i
  after_none m d i os w = rw (last_write_none d i os w)

  -- What jobs do to the copy.
  pub jobs_same : (m m' : Copy V) (xs : List (Committed V)) (d i : ℕ) → m d i ≡ m' d i → after_jobs m xs d i ≡ after_jobs m' xs d i
  jobs_same m m' [] d i e = e
  jobs_same m m' (x ∷ xs) d i e = jobs_same (after_operations m x.job.operations) (after_operations m' x.job.operations) xs d i (after_same m m' x.job.operations d i e)

  pub jobs_append : (m : Copy V) (xs ys : List (Committed V)) → after_jobs m (xs ++ ys) ≡ after_jobs (after_jobs m xs) ys
  jobs_append m [] ys = refl
  jobs_append m (x ∷ xs) ys = jobs_append (after_operations m x.job.operations) xs ys

  -- A job that leaves class d as it is.
  abbrev pub Quiet : ℕ → Committed V → Type 0
  Quiet d x = (m : Copy V) (i : ℕ) → after_operations m x.job.operations d i ≡ m d i

  pub jobs_quiet : (m : Copy V) (xs : List (Committed V)) (d i : ℕ) → AllByRecursion (Quiet d) xs → after_jobs m xs d i ≡ m d i
  jobs_quiet m [] d i a = refl
  jobs_quiet m (x ∷ xs) d i a = jobs_quiet (after_operations m x.job.operations) xs d i a.1 ∙ a.0 m i

  -- Leaving out quiet jobs changes nothing.
  pub jobs_keep : (m : Copy V) (p : Committed V → Bool) (xs : List (Committed V)) (d i : ℕ) → AllByRecursion (λ x. p x ≡ false → Quiet d x) xs
      → after_jobs m (filter p xs) d i ≡ after_jobs m xs d i
  jobs_keep m p [] d i a = refl
  jobs_keep m p (x ∷ xs) d i a = go (p x) refl (λ m. jobs_keep m p xs d i a.1)
    where
      go : (q : Bool) → p x ≡ q → ((m : Copy V) → after_jobs m (filter p xs) d i ≡ after_jobs m xs d i)
          → after_jobs m (filter p (x ∷ xs)) d i ≡ after_jobs m (x ∷ xs) d i
      go true f ih = rw f (ih (after_operations m x.job.operations))
      go false f ih = rw f (ih m ∙ jobs_same _ _ xs d i (sym (a.0 f m i)))

  pub reads_append : (m : Copy V) (xs ys : List (Committed V)) → ReadsOfCopy m xs → ReadsOfCopy (after_jobs m xs) ys → ReadsOfCopy m (xs ++ ys)
  reads_append m [] ys a b = b
  reads_append m (x ∷ xs) ys a b = (a.0, reads_append (after_operations m x.job.operations) xs ys a.1 b)

  pub reads_left : (m : Copy V) (xs ys : List (Committed V)) → ReadsOfCopy m (xs ++ ys) → ReadsOfCopy m xs
  reads_left m [] ys a = tt
  reads_left m (x ∷ xs) ys a = (a.0, reads_left (after_operations m x.job.operations) xs ys a.1)

  pub reads_right : (m : Copy V) (xs ys : List (Committed V)) → ReadsOfCopy m (xs ++ ys) → ReadsOfCopy (after_jobs m xs) ys
  reads_right m [] ys a = a
  reads_right m (x ∷ xs) ys a = reads_right (after_operations m x.job.operations) xs ys a.1

  -- The operations read no item of class c.
  abbrev pub Blind : ℕ → List (Operation V) → Type 0
  Blind c [] = Unit {0}
  Blind c (read_of d i v ∷ os) = (¬ (c ≡ d)) × Blind c os
  Blind c (write_of d i v ∷ os) = Blind c os

  abbrev pub Alike : ℕ → Copy V → Copy V → Type 0
  Alike c m m' = (d i : ℕ) → ¬ (c ≡ d) → m d i ≡ m' d i

  pub blind_operations : (c : ℕ) (m m' : Copy V) (os : List (Operation V)) → Alike c m m' → Blind c os → ReadsOfJob m os → ReadsOfJob m' os
  blind_operations c m m' [] e b t = tt
  blind_operations c m m' (read_of d i v ∷ os) e b t = (t.0 ∙ after_same m m' os d i (e d i b.0), blind_operations c m m' os e b.1 t.1)
  blind_operations c m m' (write_of d i v ∷ os) e b t = blind_operations c m m' os e b t

  pub blind_jobs : (c : ℕ) (m m' : Copy V) (xs : List (Committed V)) → Alike c m m' → AllByRecursion (λ x. Blind c x.job.operations) xs → ReadsOfCopy m xs → ReadsOfCopy m' xs
  blind_jobs c m m' [] e b t = tt
  blind_jobs c m m' (x ∷ xs) e b t =
      let os = x.job.operations in (
        blind_operations c m m' os e b.0 t.0,
        blind_jobs c (after_operations m os) (after_operations m' os) xs (λ d i n. after_same m m' os d i (e d i n)) b.1 t.1,
      )
