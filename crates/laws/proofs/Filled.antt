-- An accepted read finds its value, and a cell accepts what an accepted commit stores.
use Rattle.std.proofs.Common.{◌≡◌, ℕ, ◌-◌, ◌<◌, ◌≤◌, Bool, true, false, ltb, List, [], ◌∷◌, Some, None, Option, refl, arith}
use Rattle.std.proofs.lemmas.Bool.{ltb-true, le-leb, ne_eqb}
use Rattle.cells.specs.Versions.{accepts}
use Rattle.laws.specs.Setting.{Setting, dominates, Lawful}
use Rattle.laws.specs.State.{or_else, Cell, value_at, Pending, State}
use Rattle.laws.specs.Calls.{Action, Request, Call, by, tick}
use Rattle.laws.specs.Clock.{last_tick, declared_for, declared_under}
use Rattle.laws.specs.Actions.{Outcome, or_start}
use Rattle.laws.specs.Step.{known, outcome, request_step, step}
use Rattle.laws.specs.History.{History}
use Rattle.laws.specs.Transactions.{event, Time, job}
use Rattle.laws.specs.Filled.{FilledAt}
use Rattle.laws.proofs.Tests.{none_not_some, and_l, eqb_same}
use Rattle.laws.proofs.Dominance.{inside, lower}
use Rattle.laws.proofs.ClockLaws.{declared_falls, declared_near}
use Rattle.laws.proofs.Courses.{Course, course, is_refused, is_denied, began_update, began_long, read_long, read_pending, read_newest, read_lower, wrote_item, failed, learned_late, freed, gave_up, committed_long, committed_update}
use Rattle.laws.proofs.Bays.{Updating, Reading}
use Rattle.laws.proofs.Cells.{head}
use Rattle.laws.proofs.JobReads.{UpdateRead}
use Rattle.laws.proofs.Invariant.{cells_in, Invariant}

module _ {V : Type 0} (S : Setting V) where
  found_one : (x : Option V) (v : V) → x ≡ Some v → x ≡ Some (or_start S x)
  found_one x v e = rw e

  accepts_head : (w : ℕ) (x : Cell V) → head x ≤ w → accepts w x ≡ true
  accepts_head w [] h = refl
  accepts_head w (x ∷ r) h = le-leb _ _ h

  module _ (L : Lawful S) (s : State V) (h : History V) (W : Invariant S s h) (c b : ℕ) (lc : c < S.classes) where
    full_long : (r d i : ℕ) → Reading S s.ticks c r (job c b h) → dominates S c d ≡ true
        → value_at r (cells_in S s d i) ≡ Some (or_start S (value_at r (cells_in S s d i)))
    full_long r d i u dom =
        let kd = inside S L c d dom in
        let nr = declared_falls S.top 0 (S.grade d) s.ticks (omega arith) (L.graded d kd) in
        found_one _ _ (W.serial.reads d i r kd (omega (arith, W.serial.heads d i kd, u.young)))

    full_below : (a d i : ℕ) → declared_for S s.ticks c ≤ a → ¬ (c ≡ d) → dominates S c d ≡ true
        → value_at a (cells_in S s d i) ≡ Some (or_start S (value_at a (cells_in S s d i)))
    full_below a d i l n dom =
        let kd = inside S L c d dom in
        let nr = declared_near S.top (S.grade d) (S.grade c) s.ticks (omega (arith, lower S L c d dom n)) (L.graded c lc) in
        found_one _ _ (W.serial.reads d i a kd (omega (arith, W.serial.heads d i kd)))

    down_late : (dn : Option ℕ) (p : List (Pending V)) → Updating S s.ticks c dn p (job c b h) → (low : Option Time) → (job c b h).below ≡ low
        → declared_for S s.ticks c ≤ or_else dn (declared_under S s.ticks c)
    down_late dn p u None e =
        let d : dn ≡ None = rw e at u.down in
        rw d (declared_falls S.top (S.grade c - 1) (S.grade c) s.ticks (omega arith) (L.graded c lc))
    down_late dn p u (Some q) e =
        let d : dn ≡ Some (q.declared (S.grade c - 1)) = rw e at u.down in
        rw d (u.low q e).near

    filled_by : (a : Action V) (o : Outcome V) → Course S s.ticks (cells_in S s) c (s.class c) b a o → FilledAt S s (event (by c b a) o.reply)
    filled_by a o (is_refused n x e) = rw e tt
    filled_by a o (is_denied b' e) = rw e tt
    filled_by a o (began_update q e y f g) = rw (g, f) tt
    filled_by a o (began_long q e y f g) = rw (g, f) tt
    filled_by a o (read_long r d i e dom f g) = rw (g, f, e) (full_long r d i (rw e at (W.tracked.bays c b lc)) dom)
    filled_by a o (read_pending dn p i v e x f g) = rw (g, f, e, eqb_same, x)
    filled_by a o (read_newest dn p i e x y f g) = rw (g, f, e, eqb_same, x) (found_one _ _ (W.serial.newests c i lc))
    filled_by a o (read_lower dn p d i e n dom f g) =
        rw (g, f, e, ne_eqb c d n) (full_below _ d i (down_late dn p (rw e at (W.tracked.bays c b lc)) _ refl) n dom)
    filled_by a o (wrote_item dn p i v e x f g) = rw (g, f) tt
    filled_by a o (failed n j x e f g) = rw g tt
    filled_by a o (learned_late e f g) = rw g tt
    filled_by a o (freed e f g) = rw (g, f) tt
    filled_by a o (gave_up j e f g) = rw (g, f) tt
    filled_by a o (committed_long r e f g) = rw (g, f, e) (λ i v x. none_not_some x)
    filled_by a o (committed_update dn p e x st f g) =
        let u : UpdateRead S (cells_in S s) (s.class c).claims c b dn p (job c b h) = rw e at (W.sound c b lc) in
        rw (g, f, e) (λ i v y. ((u.claims i v y).1, accepts_head _ _ (W.serial.heads c i lc)))

  module _ (L : Lawful S) (s : State V) (h : History V) (W : Invariant S s h) where
    filled_request : (x : Request V) → FilledAt S s (event x (request_step S s x).reply)
    filled_request tick = go (ltb s.ticks last_tick) refl
      where
        go : (q : Bool) → ltb s.ticks last_tick ≡ q → FilledAt S s (event tick (request_step S s tick).reply)
        go true e = rw e tt
        go false e = rw e tt
    filled_request (by c b a) = go (known S c b a) refl
      where
        go : (q : Bool) → known S c b a ≡ q → FilledAt S s (event (by c b a) (request_step S s (by c b a)).reply)
        go true e =
            rw e (filled_by L s h W c b (ltb-true _ _ (and_l _ _ e)) a (outcome S s c b a) (course S s.ticks (cells_in S s) c (s.class c) b a))
        go false e = rw e tt

    pub filled_step : (x : Call V) → FilledAt S s (event x.request (step S s x).reply)
    filled_step x = go x.enough refl
      where
        go : (q : Bool) → x.enough ≡ q → FilledAt S s (event x.request (step S s x).reply)
        go true e = rw e (filled_request x.request)
        go false e = rw e tt
