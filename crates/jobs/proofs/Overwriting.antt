-- Writing over the first elements of a list.
use Rattle.std.proofs.Common.{◌≡◌, ℕ, zero, suc, ◌+◌, ◌-◌, ◌<◌, ◌≤◌, ltb, List, [], ◌∷◌, ◌++◌, length, set, get_or, take, drop, Some, None, Option, sym, refl, ap, ◌∙◌, subst, ⊎_elim, arith}
use Rattle.std.proofs.lemmas.List.{length-take, length-drop, length-append, length-set, get_or-set_same, get_or-set_other, get_or_append_left, get_or-append_right, get_or-drop}
use Rattle.std.specs.List.{FoldsTo}
use Rattle.std.specs.Option.{option_map}
use Rattle.std.proofs.lemmas.Bool.{cases_eq, cond-true, lt-ltb}
use Rattle.rules.specs.Claims.{no_claims}
use Rattle.rules.specs.Calls.{fresh_claims}
use Rattle.rules.specs.declared.local_rule.LocalRule.{Ghosts as RuleGhosts}
use Rattle.jobs.specs.SetUp.{Overwritten}

-- What each call of a function that stays as it is gives.
module _ {F X : Type 0} (step : F → X → F → Type 0) (P : X → Type 0) (f : F) (stays : (x : X) (g : F) → step f x g → P x × (g ≡ f)) where
  pub each_made : (xs : List X) (last : F) → FoldsTo step f xs last → (k : ℕ) → k < length xs → (d : X) → P (get_or xs k d)
  each_made [] last z k l d = absurd (omega arith)
  each_made (x ∷ xs) last z zero l d = (stays x z.0 z.1).0
  each_made (x ∷ xs) last z (suc k) l d = each_made xs last (subst (λ (g : F). FoldsTo step g xs last) (stays x z.0 z.1).1 z.2) k (omega arith) d

module _ {X : Type 0} (P : X → Type 0) (old : List X) where
  -- A loop that writes over them one by one.
  pub overwritten_none : Overwritten P 0 old old
  overwritten_none = record { length_is = refl; first = λ k h d. absurd (omega arith); others = λ k h d. refl }

  pub overwritten_next : (now : List X) (i : ℕ) (y : X) → i < length old → Overwritten P i old now → P y → Overwritten P (i + 1) old (set now i y)
  overwritten_next now i y l w p = record {
    length_is = length-set now i y ∙ w.length_is;
    first = λ k h d. ⊎_elim
        (λ (e : k ≡ i). subst P (sym (rw e (get_or-set_same now i y d (omega (arith, w.length_is))))) p)
        (λ (n : k ≡ i → ⊥). subst P (sym (get_or-set_other now i k y d n)) (w.first k (omega (arith, n)) d))
        (cases_eq k i);
    others = λ k h d. get_or-set_other now i k y d (λ e. absurd (omega arith)) ∙ w.others k (omega arith) d;
  }

  -- Other first elements, behind which the old ones stand.
  pub overwritten_front : (front : List X) (n : ℕ) → n ≤ length old → length front ≡ length (take n old)
      → ((k : ℕ) → k < length front → (d : X) → P (get_or front k d)) → Overwritten P n old (front ++ drop n old)
  overwritten_front front n room e made =
      let as_many : length front ≡ n = e ∙ simp length-take (omega arith) in
      record {
        length_is = simp (length-append, length-drop) (omega arith);
        first = λ k h d. subst P (sym (get_or_append_left front (drop n old) d k (omega arith))) (made k (omega arith) d);
        others = λ k h d.
            let at : n + (k - n) ≡ k = omega arith in
            get_or-append_right front (drop n old) n k d as_many h ∙ get_or-drop n old (k - n) d ∙ ap (λ i. get_or old i d) at;
      }

  pub overwritten_all : {Q : X → Type 0} (now : List X) {i : ℕ} (n : ℕ) → Overwritten Q i old now → i ≡ n → ((y : X) → Q y → P y) → Overwritten P n old now
  overwritten_all now n w e implies = record {
    length_is = w.length_is;
    first = λ k h d. implies _ (w.first k (omega arith) d);
    others = λ k h d. w.others k (omega arith) d;
  }

-- A rule of a variant that there is, is fresh.
pub made_fresh : {R : Type 0} (r : RuleGhosts R) (variant : ℕ) (made : Option R) (rule : R) → variant < r.variants
    → option_map r.meaning made ≡ fresh_claims r.variants variant → made ≡ Some rule → r.meaning rule ≡ no_claims variant
made_fresh r variant made rule h e is =
    let a : Some (r.meaning rule) ≡ Some (no_claims variant) = sym (ap (option_map r.meaning) is) ∙ e ∙ cond-true (ltb variant r.variants) (Some (no_claims variant)) None (lt-ltb variant r.variants h) in
    cc
