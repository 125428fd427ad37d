-- What set-up makes of checked counts.
use Rattle.std.proofs.Common.{◌≡◌, ℕ, List, length, Ok, Err, Result, refl, ◌∙◌, subst}
use Rattle.std.proofs.lemmas.Bool.{eq-eqb, ne_eqb}
use Rattle.orders.specs.declared.class_order.ClassOrder.{Ghosts as OrderGhosts}
use Rattle.register_parts.specs.CheckedCounts.{checked_counts}
use Rattle.jobs.specs.SetUp.{counts_for, FreshRegister, SetUp}
use Rattle.jobs.specs.declared.register.Register.{Register}
use Rattle.register_parts.specs.declared.setup_fault.SetUpFault.{SetUpFault}
use Rattle.register_parts.specs.declared.setup_fault.SetUpFault.TheVariants.{OtherClassCount}

module _ {O : Type 0} (o : OrderGhosts O) (order : O) (classes : ℕ) (counts : List ℕ) (variant : ℕ) where
  pub other_count : (length counts ≡ classes → ⊥) → SetUp o order (counts_for classes counts) variant (Err OtherClassCount)
  other_count h = rw (ne_eqb (length counts) classes h) refl

  module _ (h : length counts ≡ classes) where
    checked : checked_counts counts ≡ counts_for classes counts
    checked = rw (eq-eqb (length counts) classes h)

    pub bad_counts : (fault : SetUpFault) → Err fault ≡ checked_counts counts → SetUp o order (counts_for classes counts) variant (Err fault)
    bad_counts fault e = subst (λ (z : Result (List ℕ) SetUpFault). SetUp o order z variant (Err fault)) (e ∙ checked) refl

    pub good_counts : (items : List ℕ) (x : Register O) → Ok items ≡ checked_counts counts → FreshRegister o order items variant x
        → SetUp o order (counts_for classes counts) variant (Ok x)
    good_counts items x e w = subst (λ (z : Result (List ℕ) SetUpFault). SetUp o order z variant (Ok x)) (e ∙ checked) w
