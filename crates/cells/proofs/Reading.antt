-- A read serves the version with the greatest number not above the one asked for, since the numbers fall.
use Rattle.std.proofs.Common.{◌≡◌, ℕ, suc, ◌<◌, ◌≤◌, true, cond, ltb, leb, List, [], ◌∷◌, Some, None, Option, refl, ap, arith}
use Rattle.std.specs.Prelude.{All, Contains}
use Rattle.std.proofs.lemmas.List.Elements.{All-nil, All-cons, All-weaker}
use Rattle.std.proofs.lemmas.Bool.{ltb-true, leb-true, leb-false, le-leb, lt-leb, and_parts, cond_both}
use Rattle.cells.specs.Versions.{read_at, falling}
use Rattle.cells.specs.Laws.{Serves}
use Rattle.cells.specs.declared.version.Version.{Version}

module _ {V : Type 0} where
  has_first : (x : Version V) (older : List (Version V)) → Contains (x ∷ older) x
  has_first x older = (0, omega arith, refl)

  has_later : (x y : Version V) (older : List (Version V)) → Contains older y → Contains (x ∷ older) y
  has_later x y older h = (suc h.0, omega (arith, h.1), h.2)

  pub older_fall : (x : Version V) (older : List (Version V)) → falling (x ∷ older) ≡ true → falling older ≡ true
  older_fall x [] f = refl
  older_fall x (y ∷ older) f = (and_parts (ltb y.number x.number) (falling (y ∷ older)) f).1

  pub second_below : (x y : Version V) (older : List (Version V)) → falling (x ∷ y ∷ older) ≡ true → y.number < x.number
  second_below x y older f = ltb-true y.number x.number (and_parts (ltb y.number x.number) (falling (y ∷ older)) f).0

  older_below : (x : Version V) (older : List (Version V)) → falling (x ∷ older) ≡ true → All (λ y. y.number < x.number) older
  older_below x [] f = All-nil (λ y. y.number < x.number)
  older_below x (y ∷ older) f =
      let below = second_below x y older f in
      All-cons (λ z. z.number < x.number) y older below
      (All-weaker (λ z. z.number < y.number) (λ z. z.number < x.number) (λ z h. omega arith) older (older_below y older (older_fall x (y ∷ older) f)))

  pub newest_greatest : (x : Version V) (older : List (Version V)) → falling (x ∷ older) ≡ true → Contains (x ∷ older) x × All (λ y. y.number ≤ x.number) (x ∷ older)
  newest_greatest x older f = (
    has_first x older,
    All-cons (λ y. y.number ≤ x.number) x older (omega arith)
        (All-weaker (λ y. y.number < x.number) (λ y. y.number ≤ x.number) (λ y h. omega arith) older (older_below x older f)),
  )

  -- A version with a number above n changes nothing for a read at n.
  passed_over : (n : ℕ) (x : Version V) (older : List (Version V)) (found : Option (Version V)) → n < x.number → Serves n older found → Serves n (x ∷ older) found
  passed_over n x older None above s = All-cons (λ y. n < y.number) x older above s
  passed_over n x older (Some y) above s = (has_later x y older s.0, s.1, All-cons (λ z. z.number ≤ n → z.number ≤ y.number) x older (λ h. absurd (omega arith)) s.2)

  pub serves : (n : ℕ) (vs : List (Version V)) → falling vs ≡ true → Serves n vs (read_at n vs)
  serves n [] f = All-nil (λ y. n < y.number)
  serves n (x ∷ older) f =
      cond_both (leb x.number n) (Some x) (read_at n older) (Serves n (x ∷ older))
      (λ t. let greatest = newest_greatest x older f in (greatest.0, leb-true x.number n t, All-weaker (λ y. y.number ≤ x.number) (λ y. y.number ≤ n → y.number ≤ x.number) (λ y h _. h) (x ∷ older) greatest.1))
      (λ t. passed_over n x older (read_at n older) (leb-false x.number n t) (serves n older (older_fall x older f)))

  pub read_first : (m : ℕ) (x : Version V) (older : List (Version V)) → x.number ≤ m → read_at m (x ∷ older) ≡ Some x
  read_first m x older h = ap (λ t. cond t (Some x) (read_at m older)) (le-leb x.number m h)

  pub read_older : (m : ℕ) (x : Version V) (older : List (Version V)) → m < x.number → read_at m (x ∷ older) ≡ read_at m older
  read_older m x older h = ap (λ t. cond t (Some x) (read_at m older)) (lt-leb x.number m h)
