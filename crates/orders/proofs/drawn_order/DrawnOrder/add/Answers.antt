use Rattle.std.proofs.Common.{◌≡◌, ◌+◌, ◌^◌, ◌<◌, true, ltb, List, [], ◌∷◌, ◌++◌, length, map, set, sym, ap, ◌∙◌, subst, ap₂, add-one, arith, take-suc-set}
use Rattle.std.proofs.lemmas.List.{map-set, length-map}
use Rattle.std.proofs.lemmas.Bool.{lt-ltb}
use Rattle.sets.specs.Members.{has_bit, all_under}
use Rattle.sets.specs.declared.small_set.SmallSet.{SmallSet}
use Rattle.orders.specs.Links.{bit_set, Drawn, Falling}
use Rattle.orders.specs.DrawnClasses.{sets_below, sets_reached, grades}
use Rattle.orders.specs.DrawnOrders.{drawing_of}
use Rattle.orders.specs.declared.drawn_order.DrawnClass.{DrawnClass}
use Rattle.orders.specs.declared.drawn_order.DrawnOrder.{DrawnOrder}
use Rattle.orders.proofs.DrawnGrowth.{all_smaller, still_drawn, still_falling, still_tables}
use Rattle.orders.proofs.drawn_order.DrawnOrder.add.Goals as goal

-- The sets below the classes, with one more class.
grown : (s : DrawnOrder) (x : DrawnClass) (b : SmallSet) → x.below ≡ b → s.count < length s.classes → sets_below (s.count + 1) (set s.classes s.count x) ≡ drawing_of s ++ (b ∷ [])
grown s x b e h =
    rw (add-one, map-set (λ (c : DrawnClass). c.below) s.classes s.count x) (take-suc-set (map (λ c. c.below) s.classes) s.count x.below (omega (arith, length-map s.classes (λ (c : DrawnClass). c.below)))) ∙ ap (λ m. drawing_of s ++ (m ∷ [])) e

pub invariant_of-self : goal.invariant_of-self
invariant_of-self c =
    let s = c.args.self.now in
    let n = s.count in
    let w = drawing_of s in
    let b = c.from-set.result in
    let x = c.next_class.result in
    let h : n < length s.classes = omega arith in
    let g = grown s x b c.next_class.ensures.below h in
    let bits : b.bits < 2 ^ 64 = omega (arith, c.from-set.ensures) in record {
      drawn = subst (λ (w : List SmallSet). Drawn (n + 1) w) (sym g) (rw add-one (still_drawn n w s.drawn.2 b s.drawn (omega arith)));
      falling = subst Falling (sym g) (still_falling n w s.drawn.2 b s.falling (all_smaller b.bits n bits (sym c.if-not-all_under.ensures)));
      tables = rw (g, map-set (λ (c : DrawnClass). c.reached) s.classes n x, map-set (λ (c : DrawnClass). c.grade) s.classes n x)
          (still_tables n w s.drawn.2 b (sets_reached s.classes) (grades s.classes) s.tables x.reached x.grade (omega (arith, length-map s.classes (λ (c : DrawnClass). c.reached))) (omega (arith, length-map s.classes (λ (c : DrawnClass). c.grade))) c.next_class.ensures.reached c.next_class.ensures.grade);
    }

pub returns : goal.returns
returns c =
    let s = c.args.self.now in
    let b = c.from-set.result in
    let few : ltb (length (drawing_of s)) 16 ≡ true = lt-ltb (length (drawing_of s)) 16 (omega (arith, s.drawn.2)) in
    let bits : b.bits ≡ c.args.below = omega (arith, c.from-set.ensures, c.from.ensures) in
    let smaller : all_under (length (drawing_of s)) (has_bit c.args.below) ≡ true =
    ap₂ (λ n m. all_under n (has_bit m)) s.drawn.2 (sym bits) ∙ sym c.if-not-all_under.ensures
    in
    record {
      reply = rw (few, smaller);
      state = rw (few, smaller) (grown s c.next_class.result (bit_set c.args.below) (c.next_class.ensures.below ∙ ap bit_set bits) (omega arith));
    }
