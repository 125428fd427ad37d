-- The serialization order is an order, and insertion keeps it.
use Rattle.std.proofs.Common.{◌≡◌, ℕ, ◌<◌, ◌≤◌, Bool, true, false, eqb, ltb, List, [], ◌∷◌, ◌++◌, sym, refl, ap, arith}
use Rattle.std.specs.List.{AllByRecursion}
use Rattle.std.proofs.lemmas.Bool.{ltb-true, ltb-false, eqb-true, eqb-false, le-ltb}
use Rattle.std.proofs.ByRecursion.{All-weaker}
use Rattle.laws.specs.Setting.{Setting}
use Rattle.laws.specs.Transactions.{Committed}
use Rattle.laws.specs.OneCopy.{smaller_or, place, turn, kind_turn, precedes, insert, Ordered}
use Rattle.laws.proofs.Tests.{true_not_false, eqb_same}

module _ {V : Type 0} (S : Setting V) where
  number_true : (m n : ℕ) (r : Bool) → m ≤ n → (m ≡ n → r ≡ true) → smaller_or m n r ≡ true
  number_true m n r h f = go (ltb m n) refl
    where
      go : (q : Bool) → ltb m n ≡ q → smaller_or m n r ≡ true
      go true e = rw e
      go false e = let x : m ≡ n = omega (arith, ltb-false m n e) in rw (e, f x, x, eqb_same)

  number_false : (m n : ℕ) (r : Bool) → n ≤ m → (m ≡ n → r ≡ false) → smaller_or m n r ≡ false
  number_false m n r h f = go (eqb m n) refl
    where
      go : (q : Bool) → eqb m n ≡ q → smaller_or m n r ≡ false
      go true e = rw (le-ltb m n h, e, f (eqb-true m n e))
      go false e = rw (le-ltb m n h, e)

  -- What the comparison says.
  number_was_true : (m n : ℕ) (r : Bool) → smaller_or m n r ≡ true → (m ≤ n) × (m ≡ n → r ≡ true)
  number_was_true m n r h = go (ltb m n) (eqb m n) refl refl
    where
      go : (q q' : Bool) → ltb m n ≡ q → eqb m n ≡ q' → (m ≤ n) × (m ≡ n → r ≡ true)
      go true q e f = let x = ltb-true m n e in (omega arith, λ y. absurd (omega arith))
      go false true e f = let x = eqb-true m n f in (omega arith, λ y. rw (e, f) at h)
      go false false e f = true_not_false (sym (rw (e, f) at h))

  number_was_false : (m n : ℕ) (r : Bool) → smaller_or m n r ≡ false → (n ≤ m) × (m ≡ n → r ≡ false)
  number_was_false m n r h = go (ltb m n) (eqb m n) refl refl
    where
      go : (q q' : Bool) → ltb m n ≡ q → eqb m n ≡ q' → (n ≤ m) × (m ≡ n → r ≡ false)
      go true q e f = true_not_false (rw e at h)
      go false true e f = let x = eqb-true m n f in (omega arith, λ y. rw (e, f) at h)
      go false false e f = let x = ltb-false m n e in (omega arith, λ y. absurd (eqb-false m n f y))

  -- What precedes one that a third does not precede, precedes the third.
  number_trans : (j k x : ℕ) (r r' r'' : Bool) → smaller_or j x r ≡ true → smaller_or k x r' ≡ false → (r ≡ true → r' ≡ false → r'' ≡ true) → smaller_or j k r'' ≡ true
  number_trans j k x r r' r'' e f g =
      let a = number_was_true j x r e in
      let b = number_was_false k x r' f in
      number_true j k r'' (omega arith) (λ y. g (a.1 (omega arith)) (b.1 (omega arith)))

  number_asym : (j k : ℕ) (r r' : Bool) → smaller_or j k r ≡ true → (r ≡ true → r' ≡ false) → smaller_or k j r' ≡ false
  number_asym j k r r' e g = let a = number_was_true j k r e in number_false k j r' (omega arith) (λ y. g (a.1 (sym y)))

  pub precedes_trans : (j k x : Committed V) → precedes S j x ≡ true → precedes S k x ≡ false → precedes S j k ≡ true
  precedes_trans j k x e f =
      number_trans (place S j) (place S k) (place S x) _ _ _ e f λ e f.
      number_trans (turn S j) (turn S k) (turn S x) _ _ _ e f λ e f.
      number_trans j.class k.class x.class _ _ _ e f λ e f.
      number_trans (kind_turn S j) (kind_turn S k) (kind_turn S x) false false false e f λ e f. true_not_false (sym e)

  pub precedes_asym : (j k : Committed V) → precedes S j k ≡ true → precedes S k j ≡ false
  precedes_asym j k e =
      number_asym (place S j) (place S k) _ _ e λ e.
      number_asym (turn S j) (turn S k) _ _ e λ e.
      number_asym j.class k.class _ _ e λ e.
      number_asym (kind_turn S j) (kind_turn S k) false false e λ e. refl

  pub does_precede : (j k : Committed V) → place S j ≤ place S k
      → (place S j ≡ place S k → turn S j ≤ turn S k)
      → (place S j ≡ place S k → turn S j ≡ turn S k → j.class ≤ k.class)
      → (place S j ≡ place S k → turn S j ≡ turn S k → j.class ≡ k.class → kind_turn S j < kind_turn S k)
      → precedes S j k ≡ true
  does_precede j k a b c d =
      number_true _ _ _ a λ x. number_true _ _ _ (b x) λ y. number_true _ _ _ (c x y) λ z.
      let h = d x y z in number_true (kind_turn S j) (kind_turn S k) false (omega arith) (λ u. absurd (omega arith))

  pub not_precede : (j k : Committed V) → place S k ≤ place S j
      → (place S j ≡ place S k → turn S k ≤ turn S j)
      → (place S j ≡ place S k → turn S j ≡ turn S k → k.class ≤ j.class)
      → (place S j ≡ place S k → turn S j ≡ turn S k → j.class ≡ k.class → kind_turn S k ≤ kind_turn S j)
      → precedes S j k ≡ false
  not_precede j k a b c d =
      number_false _ _ _ a λ x. number_false _ _ _ (b x) λ y. number_false _ _ _ (c x y) λ z. number_false _ _ _ (d x y z) λ u. refl

  -- Insertion.
  pub record Split (j : Committed V) (xs : List (Committed V)) : Type 0 where
    pub pre : List (Committed V)
    pub post : List (Committed V)
    pub whole : xs ≡ pre ++ post
    pub inserted : insert S j xs ≡ pre ++ (j ∷ post)
    pub left : AllByRecursion (λ k. precedes S j k ≡ false) pre
    pub right : AllByRecursion (λ k. precedes S j k ≡ true) post

  pub split : (j : Committed V) (xs : List (Committed V)) → Ordered S xs → Split j xs
  split j [] s = record { pre = []; post = []; whole = refl; inserted = refl; left = tt; right = tt }
  split j (x ∷ xs) s = go (precedes S j x) refl (split j xs s.1)
    where
      go : (q : Bool) → precedes S j x ≡ q → Split j xs → Split j (x ∷ xs)
      go true e ih = record {
        pre = [];
        post = x ∷ xs;
        whole = refl;
        inserted = rw e;
        left = tt;
        right = (e, All-weaker _ _ (λ y f. precedes_trans j y x e f) xs s.0);
      }
      go false e ih = record {
        pre = x ∷ ih.pre;
        post = ih.post;
        whole = ap {B = List (Committed V)} (λ ys. x ∷ ys) ih.whole;
        inserted = rw (e, ih.inserted);
        left = (e, ih.left);
        right = ih.right;
      }

  pub all_insert : (P : Committed V → Type 0) (j : Committed V) (xs : List (Committed V)) → P j → AllByRecursion P xs → AllByRecursion P (insert S j xs)
  all_insert P j [] p a = (p, tt)
  all_insert P j (x ∷ xs) p a = go (precedes S j x) refl (all_insert P j xs p a.1)
    where
      go : (q : Bool) → precedes S j x ≡ q → AllByRecursion P (insert S j xs) → AllByRecursion P (insert S j (x ∷ xs))
      go true e ih = rw e (p, a)
      go false e ih = rw e (a.0, ih)

  pub ordered_insert : (j : Committed V) (xs : List (Committed V)) → Ordered S xs → Ordered S (insert S j xs)
  ordered_insert j [] s = (tt, tt)
  ordered_insert j (x ∷ xs) s = go (precedes S j x) refl (ordered_insert j xs s.1)
    where
      go : (q : Bool) → precedes S j x ≡ q → Ordered S (insert S j xs) → Ordered S (insert S j (x ∷ xs))
      go true e ih = rw e ((precedes_asym j x e, All-weaker _ _ (λ y f. precedes_asym j y (precedes_trans j y x e f)) xs s.0), s)
      go false e ih = rw e (all_insert (λ y. precedes S y x ≡ false) j xs e s.0, ih)
