-- One more label: what an order keeps still holds.
use Rattle.std.proofs.Common.{◌≡◌, ℕ, suc, ◌^◌, ◌<◌, ◌≤◌, true, false, eqb, ◌⊎◌, List, [], ◌∷◌, ◌++◌, length, sym, ap, ◌∙◌, subst, inl, inr, ⊎_elim, arith}
use Rattle.std.proofs.lemmas.Bool.{and_from, eq-eqb, cases_order, both_ways}
use Rattle.std.proofs.lemmas.Option.{slice_get-get_or}
use Rattle.std.proofs.lemmas.Map.Keys.{any_passes_from_place}
use Rattle.orders.specs.Labels.{lowest, label_at, same_label, Labelled, Distinct}
use Rattle.orders.specs.LabelledOrders.{used}
use Rattle.orders.specs.declared.label.Label.{Label}
use Rattle.orders.proofs.Appended.{longer, at_old, at_new, past_new}

same : (a b : Label) → a ≡ b → same_label a b ≡ true
same a b e = and_from (eqb a.rank b.rank) (eqb a.compartments b.compartments) (eq-eqb a.rank b.rank (ap (λ (x : Label). x.rank) e)) (eq-eqb a.compartments b.compartments (ap (λ (x : Label). x.compartments) e))

module _ (w : List Label) (l : Label) where
  -- What holds of each old label, of the new one and of the lowest holds of all.
  each : (P : Label → Type 0) → ((c : ℕ) → P (label_at w c)) → P l → P lowest → (c : ℕ) → P (label_at (w ++ (l ∷ [])) c)
  each P h p z c =
      ⊎_elim (λ (e : c ≡ length w). subst P (sym (at_new w l lowest c (sym e))) p)
      (⊎_elim (λ (k : c < length w). subst P (sym (at_old w l lowest c k)) (h c)) (λ (k : length w < c). subst P (sym (past_new w l lowest c k)) z))
      (cases_order c (length w))

  pub still_labelled : (n : ℕ) → Labelled n w → n < 16 → l.rank ≤ 15 → l.compartments < 256 → Labelled (suc n) (w ++ (l ∷ []))
  still_labelled n L few r p = (
    omega arith,
    omega arith,
    omega (arith, longer w l lowest, L.2),
    each (λ (x : Label). x.rank ≤ 15) L.3 r (omega arith),
    each (λ (x : Label). x.compartments < 2 ^ 8) L.4 (omega arith) (omega arith),
  )

  module _ (u : used w l ≡ false) where
    other : (c : ℕ) → c < length w → label_at w c ≡ l → ⊥
    other c h e = both_ways _ u (any_passes_from_place (λ x. same_label x l) w c (label_at w c) (slice_get-get_or w c lowest h) (same (label_at w c) l e))

    pub still_distinct : Distinct w → Distinct (w ++ (l ∷ []))
    still_distinct D c d a = go (place c a.0) (place d a.1)
      where
        place : (k : ℕ) → k < length (w ++ (l ∷ [])) → (k ≡ length w) ⊎ (k < length w)
        place k h =
            ⊎_elim (λ (e : k ≡ length w). inl e) (⊎_elim (λ (e : k < length w). inr e) (λ (e : length w < k). absurd (omega (arith, longer w l lowest)))) (cases_order k (length w))

        go : (c ≡ length w) ⊎ (c < length w) → (d ≡ length w) ⊎ (d < length w) → c ≡ d
        go (inl x) (inl y) = x ∙ sym y
        go (inl x) (inr y) = absurd (other d y (sym (at_old w l lowest d y) ∙ sym a.2 ∙ at_new w l lowest c (sym x)))
        go (inr x) (inl y) = absurd (other c x (sym (at_old w l lowest c x) ∙ a.2 ∙ at_new w l lowest d (sym y)))
        go (inr x) (inr y) = D c d (x, y, sym (at_old w l lowest c x) ∙ a.2 ∙ at_old w l lowest d y)
