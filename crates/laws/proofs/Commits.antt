-- A commit: what it makes of the cells fits the committed jobs, its own among them.
use Rattle.std.proofs.Common.{◌≡◌, ℕ, ◌+◌, ◌-◌, ◌<◌, ◌≤◌, max, Bool, true, false, eqb, ltb, List, [], ◌∷◌, Some, None, Option, sym, refl, ap, ◌∙◌, subst, ap₂, subst₂, arith}
use mathlib.Core.Path.{fun_ext}
use Rattle.std.proofs.lemmas.Bool.{ltb-false, eqb-true, lt-ltb, ne_eqb}
use Rattle.laws.specs.Setting.{Setting, dominates, Lawful}
use Rattle.laws.specs.State.{put, or_else, Cell, newest_value, value_at, Pending, find, Class, State, ended, update, updating, reading, running}
use Rattle.laws.specs.Calls.{Action, by, done}
use Rattle.laws.specs.Clock.{writing_number}
use Rattle.laws.specs.Actions.{Outcome, stored_pending, stored_item, after_commit, below_floor, invalid}
use Rattle.laws.specs.History.{History}
use Rattle.laws.specs.Transactions.{event, Time, Operation, job, Committed, down_since, floor_of, committed_job, one_more, committed, read_of, write_of}
use Rattle.laws.specs.OneCopy.{wrote_under, base, Copy, ReadsOfJob}
use Rattle.laws.proofs.Tests.{true_not_false, long_not_update, none_not_some, some_eq, eqb_same}
use Rattle.laws.proofs.Points.{put_here, put_same}
use Rattle.laws.proofs.ClockLaws.{declared_near, declared_rises}
use Rattle.laws.proofs.Bays.{written, WritesTo, WritesNone, Updating, Reading}
use Rattle.laws.proofs.Places.{declared_at, WellPlaced, CommitsNow}
use Rattle.laws.proofs.Serial.{Serial}
use Rattle.laws.proofs.SerialCommit.{serial_update, serial_long}
use Rattle.laws.proofs.JobReads.{UpdateRead, LongRead}
use Rattle.laws.proofs.Rivals.{Effect, quiet, long_commit, update_commit}
use Rattle.laws.proofs.Invariant.{cells_in, floors_in, Invariant}

-- Where every pending item is an item of the class, the guard of the store does nothing.
unguarded : {V : Type 0} (n : ℕ) (p : List (Pending V)) → ((i : ℕ) (v : V) → find i p ≡ Some v → i < n) → (i w : ℕ) (x : Cell V)
    → stored_item (ltb i n) (find i p) w x ≡ stored_pending (find i p) w x
unguarded {V} n p cl i w x = go (find i p) (ltb i n) refl refl
  where
    go : (v : Option V) (q : Bool) → find i p ≡ v → ltb i n ≡ q → stored_item (ltb i n) (find i p) w x ≡ stored_pending (find i p) w x
    go v true e f = rw f
    go None false e f = rw (e, f)
    go (Some v) false e f = true_not_false (sym (lt-ltb i n (cl i v e)) ∙ f)

writes_none : {V : Type 0} (c : ℕ) (ds : List (Operation V)) → WritesNone ds → WritesTo c ds
writes_none c [] w = tt
writes_none c (read_of d i v ∷ ds) w = writes_none c ds w
writes_none c (write_of d i v ∷ ds) w = absurd w

module _ {V : Type 0} (S : Setting V) (L : Lawful S) (s : State V) (h : History V) (W : Invariant S s h) (c b : ℕ) (lc : c < S.classes) where
  abbrev K : Class V
  K = s.class c

  abbrev j : Committed V
  j = committed_job S c b h (committed S h)

  -- The committed long job.
  module _ (r : ℕ) (e : K.bays b ≡ running (reading r)) where
    track_r : Reading S s.ticks c r (job c b h)
    track_r = rw e at (W.tracked.bays c b lc)

    sound_r : LongRead S (cells_in S s) c r (job c b h)
    sound_r = rw e at (W.sound c b lc)

    placed_r : WellPlaced S s.ticks (floor_of S c (committed S h)) j
    placed_r = record {
      known = lc;
      own = writes_none c (job c b h).operations track_r.mute;
      mute = λ u. track_r.mute;
      allowed = rw track_r.kind sound_r.allowed;
      under = λ u. long_not_update (sym track_r.kind ∙ u);
      near = λ u. long_not_update (sym track_r.kind ∙ u);
      stays = λ u. long_not_update (sym track_r.kind ∙ u);
      low = λ q u. long_not_update (sym track_r.kind ∙ u);
      begun = λ u. omega (arith, declared_rises S.top (S.grade c) (job c b h).begun.ticks s.ticks track_r.begun, track_r.exact (S.grade c));
    }

    serial_r : Serial S s.ticks (floors_in S s) (cells_in S s) (j ∷ committed S h)
    serial_r =
        serial_long S L s.ticks (floors_in S s) (cells_in S s) (committed S h) W.serial j track_r.kind placed_r (omega (arith, track_r.young, track_r.number))
        (λ m x. sound_r.reads m (λ d i dom. rw track_r.number (x d i dom)))

  -- The committed update job.
  module _ (dn : Option ℕ) (p : List (Pending V)) (e : K.bays b ≡ running (updating dn p))
      (fl : below_floor K.floor dn ≡ false) (st : invalid K.claims b ≡ false) where
    track_u : Updating S s.ticks c dn p (job c b h)
    track_u = rw e at (W.tracked.bays c b lc)

    sound_u : UpdateRead S (cells_in S s) K.claims c b dn p (job c b h)
    sound_u = rw e at (W.sound c b lc)

    under_u : wrote_under S j ≡ declared_at S (S.grade c) s.ticks + 1
    under_u = rw W.tracked.time

    -- Its base, with and without a down number.
    base_none : (job c b h).below ≡ None → base S j ≡ max (declared_at S (S.grade c) s.ticks) (floor_of S c (committed S h))
    base_none x = rw (track_u.kind, x) (omega (arith, under_u))

    base_some : (q : Time) → (job c b h).below ≡ Some q → base S j ≡ q.declared (S.grade c - 1)
    base_some q x = rw (track_u.kind, x)

    down_some : (q : Time) → (job c b h).below ≡ Some q → dn ≡ Some (q.declared (S.grade c - 1))
    down_some q x = rw x at track_u.down

    over_floor : (q : Time) → (job c b h).below ≡ Some q → floor_of S c (committed S h) ≤ q.declared (S.grade c - 1)
    over_floor q x =
        let y : ltb (q.declared (S.grade c - 1)) K.floor ≡ false = rw (down_some q x) at fl in
        omega (arith, ltb-false (q.declared (S.grade c - 1)) K.floor y, W.serial.floors c lc)

    now_u : (low : Option Time) → (job c b h).below ≡ low → CommitsNow S s.ticks (floor_of S c (committed S h)) j
    now_u None x = record { kind = track_u.kind; known = lc; under = under_u; least = omega (arith, base_none x) }
    now_u (Some q) x = record { kind = track_u.kind; known = lc; under = under_u; least = omega (arith, base_some q x, over_floor q x, track_u.low q x) }

    new_floor : floor_of S c (j ∷ committed S h) ≡ or_else (down_since S c update (job c b h).below) (floor_of S c (committed S h))
    new_floor = rw (eqb_same c, track_u.kind)

    near_u : (low : Option Time) → (job c b h).below ≡ low → (base S j ≤ wrote_under S j) × (wrote_under S j ≤ base S j + 1)
    near_u None x = let y = base_none x in let z = under_u in let w = W.serial.floor_low c lc in (omega arith, omega arith)
    near_u (Some q) x =
        let y = base_some q x in
        let z = under_u in
        let lo = track_u.low q x in
        let r = declared_rises S.top (S.grade c - 1) q.ticks s.ticks lo.past in
        let v = lo.exact (S.grade c - 1) in
        let w = declared_near S.top (S.grade c - 1) (S.grade c) s.ticks (omega arith) (L.graded c lc) in
        (omega arith, omega arith)

    stays_u : (low : Option Time) → (job c b h).below ≡ low → base S j ≤ max (declared_at S (S.grade c) s.ticks) (floor_of S c (j ∷ committed S h))
    stays_u None x =
        let y : floor_of S c (j ∷ committed S h) ≡ floor_of S c (committed S h) = new_floor ∙ (rw x) in
        omega (arith, base_none x)
    stays_u (Some q) x =
        let y : floor_of S c (j ∷ committed S h) ≡ q.declared (S.grade c - 1) = new_floor ∙ (rw x) in
        omega (arith, base_some q x)

    placed_u : WellPlaced S s.ticks (floor_of S c (j ∷ committed S h)) j
    placed_u = record {
      known = lc;
      own = track_u.own;
      mute = λ u. long_not_update (sym u ∙ track_u.kind);
      allowed = rw track_u.kind sound_u.allowed;
      under = λ u. omega (arith, under_u);
      near = λ u. near_u _ refl;
      stays = λ u. stays_u _ refl;
      low = λ q u x. let lo = track_u.low q x in record { base = base_some q x; exact = lo.exact (S.grade c - 1); past = lo.past; graded = lo.graded };
      begun = λ u. long_not_update (sym u ∙ track_u.kind);
    }

    reads_u : (m : Copy V) → ((i : ℕ) → Some (m c i) ≡ newest_value (cells_in S s c i))
        → ((d i : ℕ) (q : Time) → ¬ (c ≡ d) → dominates S c d ≡ true → (job c b h).below ≡ Some q → Some (m d i) ≡ value_at (base S j) (cells_in S s d i))
        → ReadsOfJob m (job c b h).operations
    reads_u m x y = sound_u.reads st m (λ i z. x i) (λ d i a n dom f. go d i a n dom f (job c b h).below refl)
      where
        go : (d i a : ℕ) → ¬ (c ≡ d) → dominates S c d ≡ true → dn ≡ Some a → (low : Option Time) → (job c b h).below ≡ low → Some (m d i) ≡ value_at a (cells_in S s d i)
        go d i a n dom f None g = none_not_some (sym (rw g at track_u.down) ∙ f)
        go d i a n dom f (Some q) g =
            let z : a ≡ base S j = some_eq (sym f ∙ down_some q g) ∙ sym (base_some q g) in
            subst (λ (a : ℕ). Some (m d i) ≡ value_at a (cells_in S s d i)) (sym z) (y d i q n dom g)

    serial_u : (cells_of' : ℕ → ℕ → Cell V) (floor' : ℕ → ℕ)
        → ((d : ℕ) → d < S.classes → floor' d ≡ floor_of S d (j ∷ committed S h))
        → ((i : ℕ) → cells_of' c i ≡ stored_pending (written i (job c b h).operations) (wrote_under S j) (cells_in S s c i))
        → ((d i : ℕ) → ¬ (c ≡ d) → cells_of' d i ≡ cells_in S s d i)
        → Serial S s.ticks floor' cells_of' (j ∷ committed S h)
    serial_u cells_of' floor' x y z =
        serial_update S L s.ticks (floors_in S s) (cells_in S s) (committed S h) W.serial j (now_u _ refl) placed_u reads_u floor' cells_of' x y z

    -- The new floors and cells.
    abbrev N : Class V
    N = after_commit (S.items c) (writing_number S s.ticks c) K b dn p

    floor_c : (put s.class c N c).floor ≡ floor_of S c (j ∷ committed S h)
    floor_c =
        let x : (put s.class c N c).floor ≡ or_else dn K.floor = rw (eqb_same c) in
        x ∙ ap₂ (λ (y : Option ℕ) (z : ℕ). or_else y z) track_u.down (W.serial.floors c lc) ∙ sym new_floor

    floor_u : (d : ℕ) → d < S.classes → (q : Bool) → eqb c d ≡ q → (put s.class c N d).floor ≡ floor_of S d (j ∷ committed S h)
    floor_u d l true x = subst (λ (d : ℕ). (put s.class c N d).floor ≡ floor_of S d (j ∷ committed S h)) (eqb-true c d x) floor_c
    floor_u d l false x = rw x (W.serial.floors d l)

    cells_u : (i : ℕ) → (put s.class c N c).cells i ≡ stored_pending (written i (job c b h).operations) (wrote_under S j) (cells_in S s c i)
    cells_u i =
        ap (λ (k : Class V). k.cells i) (put_here s.class c N) ∙ unguarded (S.items c) p (λ i v e. (sound_u.claims i v e).1) i (declared_at S (S.grade c) s.ticks + 1) (K.cells i)
        ∙ rw (← (track_u.pending i), under_u)

    others_u : (d i : ℕ) → ¬ (c ≡ d) → (put s.class c N d).cells i ≡ cells_in S s d i
    others_u d i n = rw (ne_eqb c d n)

  serial_as : (o : Outcome V) (js : List (Committed V)) → o.next.floor ≡ K.floor → o.next.cells ≡ K.cells
      → Serial S s.ticks (floors_in S s) (cells_in S s) js
      → Serial S s.ticks (λ d. (put s.class c o.next d).floor) (λ d i. (put s.class c o.next d).cells i) js
  serial_as o js fl ce =
      subst₂ (λ (f : ℕ → ℕ) (l : ℕ → ℕ → Cell V). Serial S s.ticks f l js)
      (sym (fun_ext (put_same (λ (k : Class V). k.floor) s.class c o.next fl)))
      (sym (fun_ext (put_same (λ (k : Class V). k.cells) s.class c o.next ce)))

  pub serial_after : (a : Action V) (o : Outcome V) → Effect S s.ticks (cells_in S s) c K b a o
      → Serial S s.ticks (λ d. (put s.class c o.next d).floor) (λ d i. (put s.class c o.next d).cells i)
      (one_more S h (event (by c b a) o.reply) (committed S h))
  serial_after a o (quiet fl ce js) = rw (js h (committed S h)) (serial_as o (committed S h) fl ce W.serial)
  serial_after a o (long_commit r e f g) = rw (g, f) (serial_as (record { reply = done; next = ended K b }) (j ∷ committed S h) refl refl (serial_r r e))
  serial_after a o (update_commit dn p e fl st f g) =
      rw (g, f) (serial_u dn p e fl st (λ d i. (put s.class c (N dn p e fl st) d).cells i) (λ d. (put s.class c (N dn p e fl st) d).floor)
      (λ d l. floor_u dn p e fl st d l _ refl) (cells_u dn p e fl st) (others_u dn p e fl st))
