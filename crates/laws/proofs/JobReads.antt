-- What an open job has read so far is what it would read of a copy with the right values, and stays so while others act.
use Rattle.std.proofs.Common.{◌≡◌, ℕ, ◌+◌, ◌-◌, ◌<◌, ◌≤◌, Bool, true, false, eqb, List, [], ◌∷◌, Some, None, Option, sym, refl, ap, ◌∙◌, arith}
use Rattle.std.proofs.lemmas.Bool.{eqb-true, eqb-false, ne_eqb, and_from, or_left, or_right}
use Rattle.rules.specs.Claims.{Claims, with_write}
use Rattle.laws.specs.Setting.{Setting, dominates, Lawful}
use Rattle.laws.specs.State.{or_else, Cell, newest_value, value_at, Pending, find, pend, Bay, Class, update, long, updating, reading, free, closed, running}
use Rattle.laws.specs.Calls.{Action, by}
use Rattle.laws.specs.Clock.{writing_number}
use Rattle.laws.specs.Actions.{Outcome, or_start}
use Rattle.laws.specs.Transactions.{event, Time, Operation, Transaction, continued, read_of, write_of}
use Rattle.laws.specs.OneCopy.{Copy, after_operations, ReadsOfJob}
use Rattle.laws.proofs.Tests.{long_not_update, none_not_some, some_eq, eqb_same}
use Rattle.laws.proofs.Dominance.{inside, reflexive, lower}
use Rattle.laws.proofs.ClockLaws.{declared_falls, declared_near, declared_rises}
use Rattle.laws.proofs.Courses.{Course, is_refused, is_denied, began_update, began_long, read_long, read_pending, read_newest, read_lower, wrote_item, failed, learned_late, freed, gave_up, committed_long, committed_update}
use Rattle.laws.proofs.Bays.{written, WritesTo, find_pend, at_tick, Updating, Reading, Tracks}
use Rattle.laws.proofs.Copies.{after_own, after_other, after_none}
use Rattle.laws.proofs.Places.{ReadsAllowed}

sees_own : {V : Type 0} (m : Copy V) (c i : ℕ) (v : V) (ds : List (Operation V)) → WritesTo c ds → written i ds ≡ Some v → after_operations m ds c i ≡ v
sees_own m c i v ds w e = after_own m c i ds w ∙ (rw e)

sees_none : {V : Type 0} (m : Copy V) (c i : ℕ) (ds : List (Operation V)) → WritesTo c ds → written i ds ≡ None → after_operations m ds c i ≡ m c i
sees_none m c i ds w e = after_own m c i ds w ∙ (rw e)

-- What others leave to bay b: its claims and, unless the bay has become stale, the newest values of what it claims for reading.
pub record Undisturbed {V : Type 0} (b : ℕ) (k k' : Claims) (cells cells' : ℕ → Cell V) : Type 0 where
  pub stale : k'.stale b ≡ false → k.stale b ≡ false
  pub reads : (i : ℕ) → k.reads b i ≡ true → k'.reads b i ≡ true
  pub writes : (i : ℕ) → k.writes b i ≡ true → k'.writes b i ≡ true
  pub newest : k'.stale b ≡ false → (i : ℕ) → k.reads b i ≡ true → newest_value (cells' i) ≡ newest_value (cells i)

-- Reads at a number below the writing number, but by no more than two, give the same.
abbrev pub Calm : {V : Type 0} → Setting V → ℕ → (ℕ → ℕ → Cell V) → (ℕ → ℕ → Cell V) → Type 0
Calm S t cells_of cells_of' =
    (d i n : ℕ) → d < S.classes → n < writing_number S t d → writing_number S t d ≤ n + 2 → value_at n (cells_of' d i) ≡ value_at n (cells_of d i)

module _ {V : Type 0} (S : Setting V) where
  pub record UpdateRead (cells_of : ℕ → ℕ → Cell V) (k : Claims) (c b : ℕ) (dn : Option ℕ) (p : List (Pending V)) (j : Transaction V) : Type 0 where
    pub reads : k.stale b ≡ false → (m : Copy V) → ((i : ℕ) → k.reads b i ≡ true → Some (m c i) ≡ newest_value (cells_of c i))
        → ((d i a : ℕ) → ¬ (c ≡ d) → dominates S c d ≡ true → dn ≡ Some a → Some (m d i) ≡ value_at a (cells_of d i))
        → ReadsOfJob m j.operations
    pub allowed : ReadsAllowed S c update j.below j.operations
    pub claims : (i : ℕ) (v : V) → find i p ≡ Some v → (k.writes b i ≡ true) × (i < S.items c)

  pub record LongRead (cells_of : ℕ → ℕ → Cell V) (c r : ℕ) (j : Transaction V) : Type 0 where
    pub reads : (m : Copy V) → ((d i : ℕ) → dominates S c d ≡ true → Some (m d i) ≡ value_at r (cells_of d i)) → ReadsOfJob m j.operations
    pub allowed : ReadsAllowed S c long j.below j.operations

  abbrev pub Sound : (ℕ → ℕ → Cell V) → Claims → ℕ → ℕ → Bay V → Transaction V → Type 0
  Sound cells_of k c b free j = Unit {0}
  Sound cells_of k c b closed j = Unit {0}
  Sound cells_of k c b (running (updating dn p)) j = UpdateRead cells_of k c b dn p j
  Sound cells_of k c b (running (reading r)) j = LongRead cells_of c r j

  allowed_long : (c : ℕ) (low low' : Option Time) (ds : List (Operation V)) → ReadsAllowed S c long low ds → ReadsAllowed S c long low' ds
  allowed_long c low low' [] l = tt
  allowed_long c low low' (read_of d i v ∷ ds) l = ((l.0.0, λ e. long_not_update e), allowed_long c low low' ds l.1)
  allowed_long c low low' (write_of d i v ∷ ds) l = allowed_long c low low' ds l

  allowed_some : (c : ℕ) (low : Option Time) (t : Time) (ds : List (Operation V)) → ReadsAllowed S c update low ds → ReadsAllowed S c update (Some t) ds
  allowed_some c low t [] l = tt
  allowed_some c low t (read_of d i v ∷ ds) l = ((l.0.0, λ e n. (t, refl)), allowed_some c low t ds l.1)
  allowed_some c low t (write_of d i v ∷ ds) l = allowed_some c low t ds l

  same_down : (dn : Option ℕ) (x a : ℕ) → dn ≡ Some a → Some (or_else dn x) ≡ Some a
  same_down dn x a e = rw e

  module _ (L : Lawful S) (t : ℕ) (cells_of : ℕ → ℕ → Cell V) (c : ℕ) (k : Class V) (b : ℕ) (lc : c < S.classes)
      (here : (i : ℕ) → cells_of c i ≡ k.cells i) where
    more_claims : (p : List (Pending V)) (i : ℕ) (v : V) → i < S.items c
        → ((i' : ℕ) (v' : V) → find i' p ≡ Some v' → (k.claims.writes b i' ≡ true) × (i' < S.items c))
        → (i' : ℕ) (v' : V) → find i' (pend i v p) ≡ Some v' → (q : Bool) → eqb i' i ≡ q
        → ((with_write b i k.claims).writes b i' ≡ true) × (i' < S.items c)
    more_claims p i v h w i' v' x true e =
        let z = eqb-true i' i e in (or_left _ _ (and_from _ _ (eqb_same b) (rw z (eqb_same i))), omega arith)
    more_claims p i v h w i' v' x false e =
        let z = w i' v' (rw e at (sym (find_pend i' i v p) ∙ x)) in (or_right _ _ z.0, z.1)

    pub sound_own : (a : Action V) (o : Outcome V) (j : Transaction V) → Tracks S t c (k.bays b) j → Sound cells_of k.claims c b (k.bays b) j
        → Course S t cells_of c k b a o → Sound cells_of o.next.claims c b (o.next.bays b) (continued c b (at_tick S t) (event (by c b a) o.reply) j)
    sound_own a o j l s (is_refused n h e) = rw e s
    sound_own a o j l s (is_denied b' e) = rw e s
    sound_own a o j l s (began_update q e y f g) = rw (g, f, y) (simp eqb_same (record { reads = λ st m x y. tt; allowed = tt; claims = λ i v x. none_not_some x }))
    sound_own a o j l s (began_long q e y f g) = rw (g, f, y) (simp eqb_same (record { reads = λ m x. tt; allowed = tt }))
    sound_own a o j l s (read_long r d i e h f g) =
        let u : Reading S t c r j = rw e at l in
        let v : LongRead cells_of c r j = rw e at s in
        rw (g, f) (simp (eqb_same, e) (record {
          reads = λ m x. (ap (or_start S) (sym (x d i h)) ∙ sym (after_none m d i j.operations u.mute), v.reads m x);
          allowed = ((h, λ z. long_not_update z), allowed_long c j.below _ j.operations v.allowed);
        }))
    sound_own a o j l s (read_pending dn p i v e h f g) =
        let u : Updating S t c dn p j = rw e at l in
        let w : UpdateRead cells_of k.claims c b dn p j = rw e at s in
        rw (g, f) (simp (eqb_same, e) (record {
          reads = λ st m x y. (sym (sees_own m c i v j.operations u.own (sym (u.pending i) ∙ h)), w.reads st m x y);
          allowed = ((reflexive S L c lc, λ z n. absurd (n refl)), w.allowed);
          claims = w.claims;
        }))
    sound_own a o j l s (read_newest dn p i e h q f g) =
        let u : Updating S t c dn p j = rw e at l in
        let w : UpdateRead cells_of k.claims c b dn p j = rw e at s in
        rw (g, f) (simp (eqb_same, e) (record {
          reads = λ st m x y. (
            ap (λ (z : Cell V). or_start S (newest_value z)) (sym (here i))
                ∙ ap (or_start S) (sym (x i (or_left _ _ (and_from _ _ (eqb_same b) (eqb_same i)))))
                ∙ sym (sees_none m c i j.operations u.own (sym (u.pending i) ∙ h)),
            w.reads st m (λ i' z. x i' (or_right _ _ z)) y,
          );
          allowed = ((reflexive S L c lc, λ z n. absurd (n refl)), w.allowed);
          claims = w.claims;
        }))
    sound_own a o j l s (read_lower dn p d i e n h f g) =
        let u : Updating S t c dn p j = rw e at l in
        let w : UpdateRead cells_of k.claims c b dn p j = rw e at s in
        rw (g, f) (simp (eqb_same, ne_eqb c d n) (record {
          reads = λ st m x y. (
            ap (or_start S) (sym (y d i _ n h refl)) ∙ sym (after_other m c d i j.operations u.own n),
            w.reads st m x (λ d' i' a' n' h' z. y d' i' a' n' h' (same_down dn _ a' z)),
          );
          allowed = ((h, λ z n'. (_, refl)), allowed_some c j.below _ j.operations w.allowed);
          claims = w.claims;
        }))
    sound_own a o j l s (wrote_item dn p i v e h f g) =
        let w : UpdateRead cells_of k.claims c b dn p j = rw e at s in
        rw (g, f) (simp (eqb_same) (record { reads = w.reads; allowed = w.allowed; claims = λ i' v' x. more_claims p i v h w.claims i' v' x _ refl }))
    sound_own a o j l s (failed n x h e f g) = rw g (simp (eqb_same) tt)
    sound_own a o j l s (learned_late e f g) = rw g (simp (eqb_same) tt)
    sound_own a o j l s (freed e f g) = rw (g, f) (simp (eqb_same) tt)
    sound_own a o j l s (gave_up x e f g) = rw (g, f) (simp (eqb_same) tt)
    sound_own a o j l s (committed_long r e f g) = rw (g, f) (simp (eqb_same) tt)
    sound_own a o j l s (committed_update dn p e h q f g) = rw (g, f) (simp (eqb_same) tt)

  -- So it stays while others act.
  module _ (L : Lawful S) (t : ℕ) (c b : ℕ) (lc : c < S.classes) (cells_of cells_of' : ℕ → ℕ → Cell V) (k k' : Claims)
      (U : Undisturbed b k k' (cells_of c) (cells_of' c)) (calm : Calm S t cells_of cells_of') where
    -- Reads of an update job from below are at such a number.
    calm_below : (dn : Option ℕ) (p : List (Pending V)) (j : Transaction V) → Updating S t c dn p j → (low : Option Time) → j.below ≡ low
        → (d i a : ℕ) → ¬ (c ≡ d) → dominates S c d ≡ true → dn ≡ Some a → value_at a (cells_of' d i) ≡ value_at a (cells_of d i)
    calm_below dn p j u None f d i a n h e = none_not_some (sym (rw f at u.down) ∙ e)
    calm_below dn p j u (Some q) f d i a n h e =
        let x : Some a ≡ Some (q.declared (S.grade c - 1)) = sym e ∙ (rw f at u.down) in
        let y : a ≡ q.declared (S.grade c - 1) = some_eq x in
        let lo = u.low q f in
        let z = lo.exact (S.grade c - 1) in
        let gc = L.graded c lc in
        let g = lower S L c d h n in
        let r = declared_rises S.top (S.grade c - 1) q.ticks t lo.past in
        let r' = declared_falls S.top (S.grade d) (S.grade c - 1) t (omega arith) (omega arith) in
        let r'' = declared_near S.top (S.grade d) (S.grade c) t (omega arith) gc in
        calm d i a (inside S L c d h) (omega arith) (omega arith)

    grade_le : (d : ℕ) → dominates S c d ≡ true → (q : Bool) → eqb c d ≡ q → S.grade d ≤ S.grade c
    grade_le d h true e = rw (eqb-true c d e) (omega arith)
    grade_le d h false e = omega (arith, lower S L c d h (eqb-false c d e))

    calm_long : (r : ℕ) (j : Transaction V) → Reading S t c r j → (d i : ℕ) → dominates S c d ≡ true → value_at r (cells_of' d i) ≡ value_at r (cells_of d i)
    calm_long r j u d i h =
        let kd = inside S L c d h in
        let g = grade_le d h _ refl in
        let s = declared_rises S.top (S.grade c) j.begun.ticks t u.begun in
        let s' = declared_falls S.top (S.grade d) (S.grade c) t g (L.graded c lc) in
        let s'' = declared_falls S.top 0 (S.grade d) t (omega arith) (L.graded d kd) in
        calm d i r kd (omega (arith, u.number, u.exact (S.grade c))) (omega (arith, u.young))

    pub sound_move : (x : Bay V) (j : Transaction V) → Tracks S t c x j → Sound cells_of k c b x j → Sound cells_of' k' c b x j
    sound_move free j l s = tt
    sound_move closed j l s = tt
    sound_move (running (updating dn p)) j l s = record {
      reads = λ q m x y.
          s.reads (U.stale q) m (λ i z. x i (U.reads i z) ∙ U.newest q i z) (λ d i a n h e. y d i a n h e ∙ calm_below dn p j l j.below refl d i a n h e);
      allowed = s.allowed;
      claims = λ i v e. (U.writes i (s.claims i v e).0, (s.claims i v e).1);
    }
    sound_move (running (reading r)) j l s = record {
      reads = λ m x. s.reads m (λ d i h. x d i h ∙ calm_long r j l d i h);
      allowed = s.allowed;
    }
