-- What a drawn order keeps of a class, read from the array of its classes.
use Rattle.std.proofs.Common.{◌≡◌, ℕ, ◌<◌, List, get_or, take, Option, None, Some, sym, ap, ◌∙◌, get_or-take}
use lib.ListN.{get_or-map}
use Rattle.std.specs.Option.{MatchOption, option_map, unwrap_or}
use Rattle.orders.specs.Links.{bit_set, set_at}
use Rattle.orders.specs.DrawnClasses.{sets_reached, grades}
use Rattle.orders.specs.declared.drawn_order.DrawnClass.{DrawnClass}
use denote.Bor.{Bor}

-- What stands past the classes.
abbrev pub no_class : DrawnClass
no_class = record { below = bit_set 0; reached = bit_set 0; grade = 0 }

-- What a call gives of the class that `get` found.
pub looked_up : {B N : Type 0} {P : Bor DrawnClass → Type 0} (f : DrawnClass → B) (classes : List DrawnClass) (c : ℕ) (found : Option (Bor DrawnClass)) (y : B)
    → unwrap_or (option_map (λ x. x.now) found) no_class ≡ get_or classes c no_class → MatchOption found N P → (N → y ≡ f no_class) → ((x : Bor DrawnClass) → P x → y ≡ f x.now)
    → y ≡ f (get_or classes c no_class)
looked_up f classes c None y e h n k = n h ∙ ap f e
looked_up f classes c (Some x) y e h n k = k x h ∙ ap f e

module _ (classes : List DrawnClass) (n e : ℕ) (h : e < n) where
  pub reached_at : (get_or (take n classes) e no_class).reached ≡ set_at (sets_reached classes) e
  reached_at = ap (λ (x : DrawnClass). x.reached) (get_or-take n classes e no_class h) ∙ sym (get_or-map (λ (x : DrawnClass). x.reached) classes e no_class)

  pub grade_at : (get_or (take n classes) e no_class).grade ≡ get_or (grades classes) e 0
  grade_at = ap (λ (x : DrawnClass). x.grade) (get_or-take n classes e no_class h) ∙ sym (get_or-map (λ (x : DrawnClass). x.grade) classes e no_class)
