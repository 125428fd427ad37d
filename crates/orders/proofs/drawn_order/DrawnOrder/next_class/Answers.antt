use Rattle.std.proofs.Common.{◌≡◌, ℕ, ◌+◌, ◌<◌, max, true, false, ◌&&◌, ◌||◌, eqb, ltb, List, get_or, sym, refl, ap, ◌∙◌, ap₂, add-one, arith, length-take}
use Rattle.std.proofs.lemmas.Bool.{lt-ltb}
use Rattle.sets.specs.Below.{some_below, greatest_below}
use Rattle.sets.specs.Members.{Members, members, union}
use Rattle.sets.specs.declared.small_set.SmallSet.{SmallSet}
use Rattle.orders.specs.Links.{set_at, step_up}
use Rattle.orders.specs.DrawnClasses.{sets_reached, grades}
use Rattle.orders.specs.DrawnOrders.{drawing_of}
use Rattle.orders.specs.DrawnLaws.{grade_le}
use Rattle.orders.proofs.Tables.{reached_at, grade_at}
use Rattle.orders.proofs.drawn_order.DrawnOrder.next_class.Goals as goal
use Rattle.orders.proofs.drawn_order.DrawnOrder.next_class.Goals.{then-contains, else-contains}

-- One more turn, at a class of the set and at any other.
module _ (rows : List SmallSet) (heights : List ℕ) (p : Members) (e : ℕ) where
  member_reaches : (all : Members) (d : ℕ) → all d ≡ some_below e (λ e. p e && members (set_at rows e) d) → p e ≡ true → union (members (set_at rows e)) all d ≡ some_below (e + 1) (λ e. p e && members (set_at rows e) d)
  member_reaches all d k t = rw (add-one, t) (ap (λ x. members (set_at rows e) d || x) k)

  other_reaches : (all : Members) (d : ℕ) → all d ≡ some_below e (λ e. p e && members (set_at rows e) d) → p e ≡ false → all d ≡ some_below (e + 1) (λ e. p e && members (set_at rows e) d)
  other_reaches all d k t = rw (add-one, t) k

  member_grade : (grade : ℕ) → grade ≡ greatest_below e (step_up p (λ e. get_or heights e 0)) → p e ≡ true → max (get_or heights e 0 + 1) grade ≡ greatest_below (e + 1) (step_up p (λ e. get_or heights e 0))
  member_grade grade k t = rw (add-one e, t) (ap₂ max (add-one (get_or heights e 0)) k)

  other_grade : (grade : ℕ) → grade ≡ greatest_below e (step_up p (λ e. get_or heights e 0)) → p e ≡ false → grade ≡ greatest_below (e + 1) (step_up p (λ e. get_or heights e 0))
  other_grade grade k t = rw (add-one, t) (omega arith)

pub loop-e-init : goal.loop-e-init
loop-e-init c = record { reached = λ d. ap (λ (p : Members). p d) c.empty-reached.ensures; grade = refl }

pub overflow_add-class : goal.overflow_add-class
overflow_add-class c =
    let s = c.args.self.now in
    let e = c.loop-e.e in
    let h : e < s.count = omega (arith, length-take s.count s.classes) in
    omega (arith, s.drawn.1, s.tables.1 e, grade_at s.classes s.count e h, grade_le s.count (drawing_of s) s.drawn e h)

pub loop-e-preserved : goal.loop-e-preserved
loop-e-preserved c =
    let s = c.args.self.now in
    let e = c.loop-e.e in
    let p = members c.args.below in
    let rows = sets_reached s.classes in
    let heights = grades s.classes in
    let h : e < s.count = omega (arith, length-take s.count s.classes) in
    elim c.if-contains.branch [
      | then-contains w ↦ let t = sym w.if-contains.ensures in record {
        reached = λ d. ap (λ x. members x d) w.reached-is
            ∙ ap (λ (q : Members). q d) w.union-reached.ensures
            ∙ ap (λ x. union (members x) (members c.loop-e.reached) d) (reached_at s.classes s.count e h)
            ∙ member_reaches rows heights p e (members c.loop-e.reached) d (c.loop-e.invariant.reached d) t;
        grade = let m = member_grade rows heights p e c.loop-e.grade c.loop-e.invariant.grade t in let a = grade_at s.classes s.count e h in cc;
      }
      | else-contains w ↦ let t = sym w.if-contains.ensures in record {
        reached = λ d. ap (λ x. members x d) w.reached-is ∙ other_reaches rows heights p e (members c.loop-e.reached) d (c.loop-e.invariant.reached d) t;
        grade = w.grade-is ∙ other_grade rows heights p e c.loop-e.grade c.loop-e.invariant.grade t;
      }
    ]

pub returns-clause-reached : goal.returns-clause-reached
returns-clause-reached c d =
    let s = c.args.self.now in
    let few : ltb s.count 64 ≡ true = lt-ltb s.count 64 (omega arith) in
    let end : c.loop-e.e ≡ s.count = omega (arith, length-take s.count s.classes) in
    ap (λ (p : Members). p d) c.with-reached.ensures
    ∙ ap (λ b. (b && eqb s.count d) || members c.loop-e.reached d) few
    ∙ ap (λ b. eqb s.count d || b) (c.loop-e.invariant.reached d ∙ ap (λ n. some_below n (λ e. members c.args.below e && members (set_at (sets_reached s.classes) e) d)) end)
