-- What an array's `map` gives, where each call of the closure leaves it as it was and computes h.
use denote.Param.Members.{Mut, Called}
use Rattle.std.proofs.Common.{◌≡◌, ℕ, zero, suc, ◌+◌, ◌<◌, ◌≤◌, List, map, length, get_or, sym, refl, ap, ◌∙◌, subst, ⊎_elim, arith}
use Rattle.std.specs.Array.{MapsFrom, IsMapOf}
use Rattle.std.proofs.lemmas.Bool.{cases_eq}
use Rattle.std.proofs.lemmas.List.{ext_get_or, get_or-map, length-map}

module _ {F A B : Type 0} (g : Mut F (A × Unit {0}) B) (f : F) (h : A → B)
    (step : (x : A) (y : B) (q : F) → Called g f (x, tt) y q → (q ≡ f) × (y ≡ h x)) (xs : List A) (ys : List B) where
  each : (n i : ℕ) (q : F) → q ≡ f → MapsFrom g q xs ys i n → (k : ℕ) → i ≤ k → k < i + n → (d : A) (e : B) → get_or ys k e ≡ h (get_or xs k d)
  each zero i q same m k l u d e = absurd (omega arith)
  each (suc n) i q same m k l u d e =
      let done = step m.1 m.2 m.0 (subst (λ (z : F). Called g z (m.1, tt) m.2 m.0) same m.5) in
      ⊎_elim
      (λ (here : k ≡ i). ap (λ (j : ℕ). get_or ys j e) here ∙ m.4.1 e ∙ done.1 ∙ ap h (sym (ap (λ (j : ℕ). get_or xs j d) here ∙ m.3.1 d)))
      (λ (past : k ≡ i → ⊥). each n (i + 1) m.0 done.0 m.6 k (omega arith) (omega arith) d e)
      (cases_eq k i)

  pub mapped : (n : ℕ) → IsMapOf g f xs ys n → length xs ≡ n → A → B → ys ≡ map h xs
  mapped n m long d e =
      let same_length : length ys ≡ length (map h xs) = m.long ∙ sym long ∙ sym (length-map xs h) in
      ext_get_or e ys (map h xs) same_length
      (λ k l. each n 0 f refl m.each k (omega arith) (omega (arith, m.long)) d e ∙ sym (get_or-map h xs k d e (omega (arith, m.long, long))))
