-- A bay of the register and the job that the history tells of it say the same.
use Rattle.std.proofs.Common.{◌≡◌, ℕ, suc, ◌+◌, ◌-◌, ◌/◌, ◌<◌, ◌≤◌, Bool, true, false, cond, ◌&&◌, eqb, List, [], ◌∷◌, Some, None, Option, sym, refl, ap, ◌∙◌, arith}
use Rattle.std.proofs.lemmas.Bool.{ltb-true, ltb-false, leb-true, leb-false, eqb-true, eqb-false, ne_eqb}
use Rattle.laws.specs.Setting.{Setting, dominates, Lawful}
use Rattle.laws.specs.State.{or_else, Cell, Pending, find, pend, Kind, Bay, Class, update, long, updating, reading, free, closed, running}
use Rattle.laws.specs.Calls.{Action, Reply, begin, read, write, commit, give_up, by, done, got, ticked, refused, denied}
use Rattle.laws.specs.Clock.{tick_grade, tick_number, declared, outdated, outdated_long, declared_for, declared_under, late}
use Rattle.laws.specs.Actions.{Outcome}
use Rattle.laws.specs.Transactions.{event, Time, later, Operation, Transaction, new_transaction, with_operation, continued, down_since, read_of, write_of}
use Rattle.laws.specs.Deadlines.{TwoSince, HadItsTime}
use Rattle.laws.proofs.Tests.{true_not_false, none_not_some, some_eq, and_l, and_r, eqb_same, cond_twice, cond_swap}
use Rattle.laws.proofs.Dominance.{lower}
use Rattle.laws.proofs.ClockLaws.{declared_falls, declared_near, tick_here, tick_under, tick_first}
use Rattle.laws.proofs.Courses.{Course, is_refused, is_denied, began_update, began_long, read_long, read_pending, read_newest, read_lower, wrote_item, failed, learned_late, freed, gave_up, committed_long, committed_update}

-- What operations wrote last to an item, whatever the class.
abbrev pub written : {V : Type 0} → ℕ → List (Operation V) → Option V
written i [] = None
written i (read_of d i' v ∷ ds) = written i ds
written i (write_of c i' v ∷ ds) = cond (eqb i i') (Some v) (written i ds)

-- All writes go to class c.
abbrev pub WritesTo : {V : Type 0} → ℕ → List (Operation V) → Type 0
WritesTo c [] = Unit {0}
WritesTo c (read_of d i v ∷ ds) = WritesTo c ds
WritesTo c (write_of d i v ∷ ds) = (d ≡ c) × WritesTo c ds

abbrev pub WritesNone : {V : Type 0} → List (Operation V) → Type 0
WritesNone [] = Unit {0}
WritesNone (read_of d i v ∷ ds) = WritesNone ds
WritesNone (write_of d i v ∷ ds) = ⊥

pub find_pend : {V : Type 0} (i i' : ℕ) (v : V) (p : List (Pending V)) → find i (pend i' v p) ≡ cond (eqb i i') (Some v) (find i p)
find_pend i i' v [] = refl
find_pend i i' v (x ∷ p) = go (eqb i' x.item) refl (find_pend i i' v p)
  where
    go : (q : Bool) → eqb i' x.item ≡ q → find i (pend i' v p) ≡ cond (eqb i i') (Some v) (find i p)
        → find i (pend i' v (x ∷ p)) ≡ cond (eqb i i') (Some v) (find i (x ∷ p))
    go true e ih = rw (e, ← (eqb-true i' x.item e)) (cond_twice (eqb i i') _ _ _)
    go false e ih = rw (e, ih) (cond_swap (eqb i i') (eqb i x.item) _ _ _ (λ f g. eqb-false i' x.item e (sym (eqb-true i i' f) ∙ eqb-true i x.item g)))

module _ {V : Type 0} (S : Setting V) where
  -- What the clock shows after t ticks.
  abbrev pub at_tick : ℕ → Time
  at_tick t = record { ticks = t; declared = λ g. declared S.top g t }

  -- A time that a history tells shows the clock's numbers.
  abbrev pub Exact : Time → Type 0
  Exact q = (g : ℕ) → q.declared g ≡ declared S.top g q.ticks

  -- The time of a first read from below, of a job of class c that is still open after t ticks.
  pub record Low (t c : ℕ) (q : Time) : Type 0 where
    pub exact : Exact q
    pub past : q.ticks ≤ t
    pub graded : 1 ≤ S.grade c
    pub near : declared_for S t c ≤ q.declared (S.grade c - 1)

  pub record Updating (t c : ℕ) (dn : Option ℕ) (p : List (Pending V)) (j : Transaction V) : Type 0 where
    pub kind : j.kind ≡ update
    pub down : dn ≡ down_since S c update j.below
    pub low : (q : Time) → j.below ≡ Some q → Low t c q
    pub pending : (i : ℕ) → find i p ≡ written i j.operations
    pub own : WritesTo c j.operations

  pub record Reading (t c r : ℕ) (j : Transaction V) : Type 0 where
    pub kind : j.kind ≡ long
    pub number : r ≡ j.begun.declared (S.grade c)
    pub exact : Exact j.begun
    pub begun : j.begun.ticks ≤ t
    pub young : declared S.top 0 t ≤ r + 1
    pub mute : WritesNone j.operations

  abbrev pub Tracks : ℕ → ℕ → Bay V → Transaction V → Type 0
  Tracks t c free j = Unit {0}
  Tracks t c closed j = HadItsTime t j
  Tracks t c (running (updating dn p)) j = Updating t c dn p j
  Tracks t c (running (reading r)) j = Reading t c r j

module _ {V : Type 0} (S : Setting V) (L : Lawful S) where
  module _ (t : ℕ) (cells_of : ℕ → ℕ → Cell V) (c : ℕ) (k : Class V) (b : ℕ) (lc : c < S.classes) where
    down_more : (dn : Option ℕ) (low : Option Time) → dn ≡ down_since S c update low
        → Some (or_else dn (declared_under S t c)) ≡ down_since S c update (Some (or_else low (at_tick S t)))
    down_more dn None e = rw e
    down_more dn (Some q) e = rw e

    low_more : (d : ℕ) → ¬ (c ≡ d) → dominates S c d ≡ true → (low : Option Time) → ((q : Time) → low ≡ Some q → Low S t c q)
        → (q : Time) → Some (or_else low (at_tick S t)) ≡ Some q → Low S t c q
    low_more d n h (Some q₀) l q e = l q e
    low_more d n h None l q e =
        rw (← (some_eq e)) (record {
          exact = λ g. refl;
          past = omega arith;
          graded = omega (arith, lower S L c d h n);
          near = declared_falls S.top (S.grade c - 1) (S.grade c) t (omega arith) (L.graded c lc);
        })

    new_updating : Updating S t c None [] (new_transaction update (at_tick S t))
    new_updating = record { kind = refl; down = refl; low = λ q x. none_not_some x; pending = λ i. refl; own = tt }

    new_reading : Reading S t c (declared_for S t c) (new_transaction long (at_tick S t))
    new_reading = record {
      kind = refl;
      number = refl;
      exact = λ g. refl;
      begun = omega arith;
      young = declared_near S.top 0 (S.grade c) t (omega arith) (L.graded c lc);
      mute = tt;
    }

    -- A read of the own class, or a long job's read, changes nothing of this.
    updating_more : (dn : Option ℕ) (p : List (Pending V)) (j : Transaction V) → Updating S t c dn p j → (d i : ℕ) (v : V)
        → Updating S t c dn p (with_operation (read_of d i v) j.below j)
    updating_more dn p j u d i v = record { kind = u.kind; down = u.down; low = u.low; pending = u.pending; own = u.own }

    reading_more : (r : ℕ) (j : Transaction V) → Reading S t c r j → (d i : ℕ) (v : V) (low : Option Time)
        → Reading S t c r (with_operation (read_of d i v) low j)
    reading_more r j u d i v low =
        record { kind = u.kind; number = u.number; exact = u.exact; begun = u.begun; young = u.young; mute = u.mute }

    abbrev pub Next : Action V → Outcome V → Transaction V → Type 0
    Next a o j = Tracks S t c (o.next.bays b) (continued c b (at_tick S t) (event (by c b a) o.reply) j)

    pub tracks_own : (a : Action V) (o : Outcome V) (j : Transaction V) → Tracks S t c (k.bays b) j → Course S t cells_of c k b a o → Next a o j
    tracks_own a o j l (is_refused n h e) = rw e l
    tracks_own a o j l (is_denied b' e) = rw e l
    tracks_own a o j l (began_update q e y f g) = rw (g, f, y) (simp eqb_same new_updating)
    tracks_own a o j l (began_long q e y f g) = rw (g, f, y) (simp eqb_same new_reading)
    tracks_own a o j l (read_long r d i e h f g) = let u : Reading S t c r j = rw e at l in rw (g, f) (simp (eqb_same, e) (reading_more r j u d i _ _))
    tracks_own a o j l (read_pending dn p i v e h f g) = let u : Updating S t c dn p j = rw e at l in rw (g, f) (simp (eqb_same, e) (updating_more dn p j u c i v))
    tracks_own a o j l (read_newest dn p i e h s f g) = let u : Updating S t c dn p j = rw e at l in rw (g, f) (simp (eqb_same, e) (updating_more dn p j u c i _))
    tracks_own a o j l (read_lower dn p d i e n h f g) =
        let u : Updating S t c dn p j = rw e at l in
        rw (g, f) (simp (eqb_same, ne_eqb c d n) (record {
          kind = u.kind;
          down = down_more dn j.below u.down;
          low = low_more d n h j.below u.low;
          pending = u.pending;
          own = u.own;
        }))
    tracks_own a o j l (wrote_item dn p i v e h f g) =
        let u : Updating S t c dn p j = rw e at l in
        rw (g, f) (simp eqb_same (record {
          kind = u.kind;
          down = u.down;
          low = u.low;
          pending = λ i'. find_pend i' i v p ∙ ap (λ (x : Option V). cond (eqb i' i) (Some v) x) (u.pending i');
          own = (refl, u.own);
        }))
    tracks_own a o j l (failed n x h e f g) = rw g (simp (eqb_same) tt)
    tracks_own a o j l (learned_late e f g) = rw g (simp (eqb_same) tt)
    tracks_own a o j l (freed e f g) = rw (g, f) (simp (eqb_same) tt)
    tracks_own a o j l (gave_up x e f g) = rw (g, f) (simp (eqb_same) tt)
    tracks_own a o j l (committed_long r e f g) = rw (g, f) (simp (eqb_same) tt)
    tracks_own a o j l (committed_update dn p e h s f g) = rw (g, f) (simp (eqb_same) tt)

    pub bays_other : (a : Action V) (o : Outcome V) → Course S t cells_of c k b a o → (b' : ℕ) → eqb b b' ≡ false → o.next.bays b' ≡ k.bays b'
    bays_other a o (is_refused n h e) b' x = rw e
    bays_other a o (is_denied b'' e) b' x = rw e
    bays_other a o (began_update q e y f g) b' x = rw (g, x)
    bays_other a o (began_long q e y f g) b' x = rw (g, x)
    bays_other a o (read_long r d i e h f g) b' x = rw g
    bays_other a o (read_pending dn p i v e h f g) b' x = rw g
    bays_other a o (read_newest dn p i e h s f g) b' x = rw g
    bays_other a o (read_lower dn p d i e n h f g) b' x = rw (g, x)
    bays_other a o (wrote_item dn p i v e h f g) b' x = rw (g, x)
    bays_other a o (failed n y h e f g) b' x = rw (g, x)
    bays_other a o (learned_late e f g) b' x = rw (g, x)
    bays_other a o (freed e f g) b' x = rw (g, x)
    bays_other a o (gave_up y e f g) b' x = rw (g, x)
    bays_other a o (committed_long r e f g) b' x = rw (g, x)
    bays_other a o (committed_update dn p e h s f g) b' x = rw (g, x)

  -- A tick: what is late had its time, and the rest is still in time.
  module _ (t c : ℕ) (lc : c < S.classes) where
    abbrev Late : Bay V → Bool
    Late x = late S (tick_grade S.top t) (tick_number S.top t) c x

    had_more : (k : Kind) (begun : Time) (low : Option Time) → TwoSince t k begun low → TwoSince (suc t) k begun low
    had_more long begun low h = omega arith
    had_more update begun None h = h
    had_more update begun (Some q) h = omega arith

    late_update : (dn : Option ℕ) (p : List (Pending V)) (j : Transaction V) (low : Option Time) → j.below ≡ low → Updating S t c dn p j
        → Late (running (updating dn p)) ≡ true → TwoSince (suc t) update j.begun low
    late_update dn p j None e u l =
        let d : dn ≡ None = rw e at u.down in
        true_not_false (sym (rw d at l))
    late_update dn p j (Some q) e u l = go (eqb q.ticks t) refl
      where
        go : (x : Bool) → eqb q.ticks t ≡ x → TwoSince (suc t) update j.begun (Some q)
        go false x = omega (arith, (u.low q e).past, eqb-false q.ticks t x)
        go true x =
            let d : dn ≡ Some (q.declared (S.grade c - 1)) = rw e at u.down in
            let f : (eqb (S.grade c) (tick_grade S.top t) && outdated (q.declared (S.grade c - 1)) (tick_number S.top t)) ≡ true = rw d at l in
            let g = sym (eqb-true _ _ (and_l _ _ f)) in
            let h = ltb-true _ _ (and_r (eqb (S.grade c) (tick_grade S.top t)) _ f) in
            let y : declared S.top (S.grade c - 1) q.ticks ≡ tick_number S.top t =
            rw (eqb-true _ _ x) (tick_under S.top (S.grade c) t g (u.low q e).graded) in
            absurd (omega (arith, (u.low q e).exact (S.grade c - 1)))

    in_time : (dn : Option ℕ) (p : List (Pending V)) (j : Transaction V) → Updating S t c dn p j → Late (running (updating dn p)) ≡ false
        → (q : Time) → j.below ≡ Some q → declared_for S (suc t) c ≤ q.declared (S.grade c - 1)
    in_time dn p j u l q e = go (eqb (tick_grade S.top t) (S.grade c)) refl
      where
        d : dn ≡ Some (q.declared (S.grade c - 1))
        d = rw e at u.down

        f : (eqb (S.grade c) (tick_grade S.top t) && outdated (q.declared (S.grade c - 1)) (tick_number S.top t)) ≡ false
        f = rw d at l

        go : (x : Bool) → eqb (tick_grade S.top t) (S.grade c) ≡ x → declared_for S (suc t) c ≤ q.declared (S.grade c - 1)
        go false x = rw x (omega (arith, (u.low q e).near))
        go true x =
            let y : tick_grade S.top t ≡ S.grade c = eqb-true _ _ x in
            let z : declared_for S t c ≡ t / suc S.top = rw y at (tick_here S.top t) in
            let h : outdated (q.declared (S.grade c - 1)) (tick_number S.top t) ≡ false = rw (y, eqb_same) at f in
            let i = ltb-false _ _ h in
            rw x (omega arith)

    tick_updating : (dn : Option ℕ) (p : List (Pending V)) (j : Transaction V) → Updating S t c dn p j
        → (x : Bool) → Late (running (updating dn p)) ≡ x → Tracks S (suc t) c (cond x closed (running (updating dn p))) j
    tick_updating dn p j u true l = rw u.kind (late_update dn p j j.below refl u l)
    tick_updating dn p j u false l = record {
      kind = u.kind;
      down = u.down;
      pending = u.pending;
      own = u.own;
      low = λ q e.
          let lo = u.low q e in record { exact = lo.exact; past = omega (arith, lo.past); graded = lo.graded; near = in_time dn p j u l q e };
    }

    late_read : (r : ℕ) (j : Transaction V) → Reading S t c r j → Late (running (reading r)) ≡ true
        → (x : Bool) → eqb j.begun.ticks t ≡ x → TwoSince (suc t) long j.begun j.below
    late_read r j u l false x = omega (arith, u.begun, eqb-false j.begun.ticks t x)
    late_read r j u l true x =
        let y = tick_first S.top (S.grade c) t (L.graded c lc) (eqb-true _ _ (and_l _ _ l)) in
        let z : declared_for S j.begun.ticks c ≡ declared_for S t c = rw (eqb-true _ _ x) in
        let o = leb-true _ _ (and_r (eqb (tick_grade S.top t) 0) _ l) in
        absurd (omega (arith, u.number, u.exact (S.grade c)))

    still_young : (r : ℕ) (j : Transaction V) → Reading S t c r j → Late (running (reading r)) ≡ false
        → (x : Bool) → eqb (tick_grade S.top t) 0 ≡ x → declared S.top 0 (suc t) ≤ r + 1
    still_young r j u l false x = rw x (omega (arith, u.young))
    still_young r j u l true x =
        let y = tick_first S.top 0 t (omega arith) (eqb-true _ _ x) in
        let z : outdated_long r (tick_number S.top t) ≡ false = rw x at l in
        let o = leb-false _ _ z in
        rw x (omega arith)

    tick_reading : (r : ℕ) (j : Transaction V) → Reading S t c r j
        → (x : Bool) → Late (running (reading r)) ≡ x → Tracks S (suc t) c (cond x closed (running (reading r))) j
    tick_reading r j u true l = rw u.kind (late_read r j u l _ refl)
    tick_reading r j u false l = record {
      kind = u.kind;
      number = u.number;
      exact = u.exact;
      begun = omega (arith, u.begun);
      young = still_young r j u l _ refl;
      mute = u.mute;
    }

    pub tracks_tick : (x : Bay V) (j : Transaction V) → Tracks S t c x j → Tracks S (suc t) c (cond (Late x) closed x) j
    tracks_tick free j l = tt
    tracks_tick closed j l = had_more j.kind j.begun j.below l
    tracks_tick (running (updating dn p)) j l = tick_updating dn p j l _ refl
    tracks_tick (running (reading r)) j l = tick_reading r j l _ refl

-- A call of another bay or class leaves a job as it is, and no such call moves the clock.
module _ {V : Type 0} (c b : ℕ) (t : Time) (j : Transaction V) (c' b' : ℕ) (e : (eqb c c' && eqb b b') ≡ false) where
  done_other : (a : Action V) → continued c b t (event (by c' b' a) done) j ≡ j
  done_other (begin q) = rw e
  done_other (read d i) = refl
  done_other (write i None) = refl
  done_other (write i (Some v)) = rw e
  done_other commit = refl
  done_other give_up = refl

  got_other : (v : V) (a : Action V) → continued c b t (event (by c' b' a) (got v)) j ≡ j
  got_other v (begin q) = refl
  got_other v (read d i) = rw e
  got_other v (write i w) = refl
  got_other v commit = refl
  got_other v give_up = refl

  pub continued_other : (a : Action V) (r : Reply V) → continued c b t (event (by c' b' a) r) j ≡ j
  continued_other a done = done_other a
  continued_other a (got v) = got_other v a
  continued_other a (ticked g n) = refl
  continued_other a (refused n) = refl
  continued_other a (denied b'') = refl

module _ {V : Type 0} (c b : ℕ) (t : Time) where
  done_at : (a : Action V) → later (event (by c b a) done) t ≡ t
  done_at (begin q) = refl
  done_at (read d i) = refl
  done_at (write i None) = refl
  done_at (write i (Some v)) = refl
  done_at commit = refl
  done_at give_up = refl

  got_at : (v : V) (a : Action V) → later (event (by c b a) (got v)) t ≡ t
  got_at v (begin q) = refl
  got_at v (read d i) = refl
  got_at v (write i w) = refl
  got_at v commit = refl
  got_at v give_up = refl

  pub same_time : (a : Action V) (r : Reply V) → later (event (by c b a) r) t ≡ t
  same_time a done = done_at a
  same_time a (got v) = got_at v a
  same_time a (ticked g n) = refl
  same_time a (refused n) = refl
  same_time a (denied b') = refl
