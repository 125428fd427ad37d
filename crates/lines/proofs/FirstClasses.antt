-- The first class of a drawn order: nothing is below it.
use Rattle.std.proofs.Common.{◌≡◌, ℕ, ◌+◌, ◌*◌, ◌/◌, ◌^◌, ◌<◌, Bool, true, false, eqb, [], ◌∷◌, Ok, sym, refl, ap, ◌∙◌, arith}
use Rattle.std.specs.Result.{result_map_both}
use Rattle.std.proofs.lemmas.Bool.{eqb-true}
use Rattle.sets.specs.Members.{has_bit, all_under}
use Rattle.sets.proofs.Overlap.{all_under_bits}
use Rattle.orders.specs.Links.{bit_set}
use Rattle.orders.specs.DrawnOrders.{first_set}
use Rattle.lines.specs.Drafts.{drawn, one_more}
use Rattle.lines.specs.LineFaults.{fault_of_order}

-- Only the empty set has all its members below 0.
all_under_none : (m : ℕ) → m < 2 ^ 64 → all_under 0 (has_bit m) ≡ eqb m 0
all_under_none m h =
    let one : m / 2 ^ 0 ≡ m = omega arith in
    sym (all_under_bits m 0 h) ∙ ap (λ n. eqb n 0) one

pub first_drawn : (high low m : ℕ) → m ≡ high * 256 + low → m < 2 ^ 64 → result_map_both drawn fault_of_order (first_set m) ≡ one_more (drawn []) high low
first_drawn high low m is h = go (eqb m 0) refl
  where
    go : (q : Bool) → eqb m 0 ≡ q → result_map_both drawn fault_of_order (first_set m) ≡ one_more (drawn []) high low
    go true e =
        let under : all_under 0 (has_bit (high * 256 + low)) ≡ true = ap (λ k. all_under 0 (has_bit k)) (sym is) ∙ all_under_none m h ∙ e in
        rw (e, under) (ap (λ k. Ok (drawn (bit_set k ∷ []))) (sym (eqb-true m 0 e) ∙ is))
    go false e =
        let under : all_under 0 (has_bit (high * 256 + low)) ≡ false = ap (λ k. all_under 0 (has_bit k)) (sym is) ∙ all_under_none m h ∙ e in
        rw (e, under)
