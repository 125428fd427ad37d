-- What a store does to an item: the numbers still fall, and reads at kept numbers are served what they were.
use Rattle.std.proofs.Common.{◌≡◌, ℕ, zero, suc, ◌+◌, ◌<◌, ◌≤◌, true, cond, eqb, ltb, leb, List, [], ◌∷◌, length, take, Some, sym, refl, ap, ◌∙◌, inl, inr, arith, length-take}
use Rattle.std.proofs.lemmas.Bool.{ltb-true, ltb-false, leb-true, eqb-true, eqb-false, lt-ltb, and_from, cond_both, cases_lt}
use Rattle.cells.specs.Versions.{version, kept, accepts, stored, read_at, falling}
use Rattle.cells.specs.Laws.{Stores}
use Rattle.cells.specs.declared.version.Version.{Version}
use Rattle.cells.proofs.Reading.{older_fall, second_below, read_first, read_older}

module _ {V : Type 0} where
  falls_on : (x y : Version V) (older : List (Version V)) → y.number < x.number → falling (y ∷ older) ≡ true → falling (x ∷ y ∷ older) ≡ true
  falls_on x y older below f = and_from (ltb y.number x.number) (falling (y ∷ older)) (lt-ltb y.number x.number below) f

  -- Another version under the newest number leaves the numbers falling.
  falls_replaced : (x y : Version V) (older : List (Version V)) → x.number ≡ y.number → falling (y ∷ older) ≡ true → falling (x ∷ older) ≡ true
  falls_replaced x y [] e f = refl
  falls_replaced x y (z ∷ older) e f = falls_on x z older (omega (arith, second_below y z older f)) (older_fall y (z ∷ older) f)

  -- The newest of falling versions fall too.
  take_falls : (k : ℕ) (vs : List (Version V)) → falling vs ≡ true → falling (take k vs) ≡ true
  take_falls zero vs f = refl
  take_falls (suc k) [] f = refl
  take_falls (suc zero) (x ∷ older) f = refl
  take_falls (suc (suc k)) (x ∷ []) f = refl
  take_falls (suc (suc k)) (x ∷ y ∷ older) f =
      falls_on x y (take k older) (second_below x y older f) (take_falls (suc k) (y ∷ older) (older_fall x (y ∷ older) f))

  -- What a read finds among the newest versions it finds among all.
  read_take : (k m : ℕ) (y : Version V) (vs : List (Version V)) → read_at m (take k vs) ≡ Some y → read_at m vs ≡ Some y
  read_take zero m y vs e = let z : ◌≡◌ {A = ℕ} 0 1 = cc in absurd (omega arith)
  read_take (suc k) m y [] e = e
  read_take (suc k) m y (x ∷ older) e =
      elim (cases_lt m x.number) [ inl h ↦ read_older m x older h ∙ read_take k m y older (sym (read_older m x (take k older) h) ∙ e) | inr h ↦ read_first m x older h ∙ sym (read_first m x (take k older) h) ∙ e ]

  -- Since the numbers fall by at least one, a read at most k below the newest number finds its version among the k + 1 newest.
  pub read_recent : (k m : ℕ) (x : Version V) (older : List (Version V)) → falling (x ∷ older) ≡ true → x.number ≤ m + k → read_at m (take (suc k) (x ∷ older)) ≡ read_at m (x ∷ older)
  read_recent zero m x older f h = read_first m x [] (omega arith) ∙ sym (read_first m x older (omega arith))
  read_recent (suc k) m x [] f h = refl
  read_recent (suc k) m x (y ∷ older) f h =
      let below = second_below x y older f in
      ap (λ r. cond (leb x.number m) (Some x) r) (read_recent k m y older (older_fall x (y ∷ older) f) (omega arith))

  -- The three ways of a store.
  stored_ways : (n : ℕ) (v : V) (x : Version V) (older : List (Version V)) (P : List (Version V) → Type 0) →
      (n ≡ x.number → P (version n v ∷ older)) → (x.number < n → P (take kept (version n v ∷ x ∷ older))) → (n < x.number → P (x ∷ older)) → P (stored n v (x ∷ older))
  stored_ways n v x older P same greater smaller =
      cond_both (eqb n x.number) _ _ P
      (λ t. same (eqb-true n x.number t))
      (λ t. cond_both (ltb x.number n) _ _ P
      (λ u. greater (ltb-true x.number n u))
      (λ u. smaller (omega (arith, ltb-false x.number n u, eqb-false n x.number t))))

  pub stored_recent : (m n : ℕ) (v : V) (vs : List (Version V)) → falling vs ≡ true → m < n → n < m + kept → read_at m (stored n v vs) ≡ read_at m vs
  stored_recent m n v [] f h near = read_older m (version n v) [] h
  stored_recent m n v (x ∷ older) f h near =
      stored_ways n v x older (λ after. read_at m after ≡ read_at m (x ∷ older))
      (λ e. read_older m (version n v) older h ∙ sym (read_older m x older (omega arith)))
      (λ l. read_recent 2 m (version n v) (x ∷ older) (falls_on (version n v) x older l f) (omega arith) ∙ read_older m (version n v) (x ∷ older) h)
      (λ _. refl)

  stored_below : (m n : ℕ) (v : V) (y : Version V) (vs : List (Version V)) → m < n → read_at m (stored n v vs) ≡ Some y → read_at m vs ≡ Some y
  stored_below m n v y [] h = λ e. sym (read_older m (version n v) [] h) ∙ e
  stored_below m n v y (x ∷ older) h =
      stored_ways n v x older (λ after. read_at m after ≡ Some y → read_at m (x ∷ older) ≡ Some y)
      (λ s e. read_older m x older (omega arith) ∙ sym (read_older m (version n v) older h) ∙ e)
      (λ l e. sym (read_older m (version n v) (x ∷ older) h) ∙ read_take kept m y (version n v ∷ x ∷ older) e)
      (λ _ e. e)

  stored_served : (m n : ℕ) (v : V) (vs : List (Version V)) → accepts n vs ≡ true → n ≤ m → read_at m (stored n v vs) ≡ Some (version n v)
  stored_served m n v [] t h = read_first m (version n v) [] h
  stored_served m n v (x ∷ older) t h =
      stored_ways n v x older (λ after. read_at m after ≡ Some (version n v))
      (λ _. read_first m (version n v) older h)
      (λ _. read_first m (version n v) (take 2 (x ∷ older)) h)
      (λ l. absurd (omega (arith, leb-true x.number n t)))

  pub stored_falls : (n : ℕ) (v : V) (vs : List (Version V)) → falling vs ≡ true → falling (stored n v vs) ≡ true
  stored_falls n v [] f = refl
  stored_falls n v (x ∷ older) f =
      stored_ways n v x older (λ after. falling after ≡ true)
      (λ e. falls_replaced (version n v) x older e f)
      (λ l. take_falls kept (version n v ∷ x ∷ older) (falls_on (version n v) x older l f))
      (λ _. f)

  pub stored_few : (n : ℕ) (v : V) (vs : List (Version V)) → length vs ≤ kept → length (stored n v vs) ≤ kept
  stored_few n v [] h = omega arith
  stored_few n v (x ∷ older) h =
      stored_ways n v x older (λ after. length after ≤ kept) (λ _. h) (λ _. simp length-take (omega arith)) (λ _. h)

  pub stores : (n : ℕ) (v : V) (vs : List (Version V)) → falling vs ≡ true → length vs ≤ kept → accepts n vs ≡ true → Stores n v vs (stored n v vs)
  stores n v vs f few accepted = record {
    ordered = stored_falls n v vs f;
    few = stored_few n v vs few;
    served = λ m h. stored_served m n v vs accepted h;
    below = λ m y h e. stored_below m n v y vs h e;
    recent = λ m h near. stored_recent m n v vs f h near;
  }
