-- Every step keeps the invariant.
use Rattle.std.proofs.Common.{◌≡◌, ℕ, suc, ◌+◌, ◌<◌, ◌≤◌, Bool, true, false, eqb, ltb, ◌∷◌, sym, refl, ap, ◌∙◌, subst, subst₂, arith}
use mathlib.Core.Path.{fun_ext}
use Rattle.std.proofs.lemmas.Bool.{ltb-true, eqb-true, eqb-false, ne_eqb, and_left, and_right}
use Rattle.laws.specs.Setting.{Setting, Lawful}
use Rattle.laws.specs.State.{put, Cell, newest_value, value_at, Class, State}
use Rattle.laws.specs.Calls.{Action, Request, Call, by, tick}
use Rattle.laws.specs.Clock.{last_tick, tick_grade, tick_number, late, after_tick}
use Rattle.laws.specs.Actions.{Outcome}
use Rattle.laws.specs.Step.{known, outcome, request_step, step}
use Rattle.laws.specs.History.{entry, History}
use Rattle.laws.specs.Transactions.{event, time, Transaction, continued, job, committed}
use Rattle.laws.proofs.Tests.{and_l, eqb_same}
use Rattle.laws.proofs.Points.{put_here, put_other, put_same}
use Rattle.laws.proofs.Courses.{Course, course}
use Rattle.laws.proofs.Bays.{bays_other, continued_other}
use Rattle.laws.proofs.Deadlines.{Tracked, tracked_action, tracked_request}
use Rattle.laws.proofs.Places.{declared_at}
use Rattle.laws.proofs.Serial.{serial_later}
use Rattle.laws.proofs.JobReads.{Undisturbed, Sound, sound_own, sound_move}
use Rattle.laws.proofs.Rivals.{left_in, Effect, effect, calm_cell, undisturbed, quiet, long_commit, update_commit}
use Rattle.laws.proofs.Invariant.{cells_in, floors_in, Invariant}
use Rattle.laws.proofs.Commits.{serial_after}

module _ {V : Type 0} (S : Setting V) (L : Lawful S) where
  module _ (s : State V) (h : History V) (W : Invariant S s h) (c b : ℕ) (lc : c < S.classes) (a : Action V) where
    abbrev K : Class V
    K = s.class c

    abbrev O : Outcome V
    O = outcome S s c b a

    abbrev s' : State V
    s' = record { ticks = s.ticks; class = put s.class c O.next }

    took : Course S s.ticks (cells_in S s) c K b a O
    took = course S s.ticks (cells_in S s) c K b a

    -- What other classes and bays read is not disturbed.
    calm' : (d i n : ℕ) → d < S.classes → n < declared_at S (S.grade d) s.ticks + 1 → declared_at S (S.grade d) s.ticks + 1 ≤ n + 2
        → (q : Bool) → eqb c d ≡ q → value_at n (cells_in S s' d i) ≡ value_at n (cells_in S s d i)
    calm' d i n l x y false e = ap (λ (k : Class V). value_at n (k.cells i)) (put_other s.class c O.next d e)
    calm' d i n l x y true e =
        let z : c ≡ d = eqb-true c d e in
        subst (λ (d : ℕ). value_at n (cells_in S s' d i) ≡ value_at n (cells_in S s d i)) z
        (ap (λ (k : Class V). value_at n (k.cells i)) (put_here s.class c O.next)
        ∙ calm_cell S s.ticks (cells_in S s) c K b a O took i n (W.serial.falls c i lc) (W.serial.heads c i lc) (rw z x) (rw z y))

    own_of : (a : Action V) (o : Outcome V) (J : Transaction V) → Effect S s.ticks (cells_in S s) c K b a o → Sound S (cells_in S s) o.next.claims c b (o.next.bays b) J
        → Sound S (λ d i. (put s.class c o.next d).cells i) o.next.claims c b (o.next.bays b) J
    own_of a o J (quiet fl ce js) x =
        subst (λ (l : ℕ → ℕ → Cell V). Sound S l o.next.claims c b (o.next.bays b) J)
        (sym (fun_ext (put_same (λ (k : Class V). k.cells) s.class c o.next ce))) x
    own_of a o J (long_commit r e f g) x = rw g (simp eqb_same tt)
    own_of a o J (update_commit dn p e fl st f g) x = rw g (simp eqb_same tt)

    -- After the action the job of each bay has read rightly.
    abbrev SoundThen : ℕ → ℕ → Type 0
    SoundThen c' b' =
        Sound S (cells_in S s') (put s.class c O.next c').claims c' b' ((put s.class c O.next c').bays b')
        (continued c' b' (time h) (event (by c b a) O.reply) (job c' b' h))

    sound' : (c' b' : ℕ) → c' < S.classes → (q q' : Bool) → eqb c c' ≡ q → eqb b b' ≡ q'
        → SoundThen c' b'
    sound' c' b' l false q e f =
        rw (continued_other c' b' (time h) (job c' b' h) c b (and_left _ _ (ne_eqb c' c (λ x. eqb-false c c' e (sym x)))) a O.reply)
        (subst (λ (k : Class V). Sound S (cells_in S s') k.claims c' b' (k.bays b') (job c' b' h)) (sym here)
        (sound_move S L s.ticks c' b' l (cells_in S s) (cells_in S s') (s.class c').claims (s.class c').claims other (λ d i n l x y. calm' d i n l x y _ refl)
        ((s.class c').bays b') (job c' b' h) (W.tracked.bays c' b' l) (W.sound c' b' l)))
      where
        here : put s.class c O.next c' ≡ s.class c'
        here = rw e

        other : Undisturbed b' (s.class c').claims (s.class c').claims (s.class c').cells (put s.class c O.next c').cells
        other = record { stale = λ x. x; reads = λ i x. x; writes = λ i x. x; newest = λ x i y. ap (λ (k : Class V). newest_value (k.cells i)) here }
    sound' c' b' l true false e f = subst (λ (c' : ℕ). SoundThen c' b') (eqb-true c c' e) same
      where
        here : put s.class c O.next c ≡ O.next
        here = rw (eqb_same c)

        other : Undisturbed b' K.claims O.next.claims K.cells (put s.class c O.next c).cells
        other =
            subst (λ (k : Class V). Undisturbed b' K.claims O.next.claims K.cells k.cells) (sym here)
            (undisturbed S s.ticks (cells_in S s) c K b (L.few_items c lc) a O (job c b h) (W.sound c b lc) took b' f)

        same : SoundThen c b'
        same =
            rw (continued_other c b' (time h) (job c b' h) c b (and_right _ _ (ne_eqb b' b (λ x. eqb-false b b' f (sym x)))) a O.reply)
            (subst (λ (k : Class V). Sound S (cells_in S s') k.claims c b' (k.bays b') (job c b' h)) (sym here)
            (rw (bays_other S L s.ticks (cells_in S s) c K b lc a O took b' f)
            (sound_move S L s.ticks c b' lc (cells_in S s) (cells_in S s') K.claims O.next.claims other (λ d i n l x y. calm' d i n l x y _ refl)
            (K.bays b') (job c b' h) (W.tracked.bays c b' lc) (W.sound c b' lc))))
    sound' c' b' l true true e f = subst₂ SoundThen (eqb-true c c' e) (eqb-true b b' f) same
      where
        here : put s.class c O.next c ≡ O.next
        here = rw (eqb_same c)

        same : SoundThen c b
        same =
            subst (λ (k : Class V). Sound S (cells_in S s') k.claims c b (k.bays b) (continued c b (time h) (event (by c b a) O.reply) (job c b h))) (sym here)
            (own_of a O _ (effect S s.ticks (cells_in S s) c K b a O took)
            (rw W.tracked.time
            (sound_own S L s.ticks (cells_in S s) c K b lc (λ i. refl) a O (job c b h) (W.tracked.bays c b lc) (W.sound c b lc) took)))

    invariant_action : (m : Bool) → Invariant S s' (entry (record { enough = m; request = by c b a }) O.reply ∷ h)
    invariant_action m = record {
      tracked = tracked_action S L s h W.tracked c b lc a m;
      serial = serial_after S L s h W c b lc a O (effect S s.ticks (cells_in S s) c K b a O took);
      sound = λ c' b' l. sound' c' b' l _ _ refl refl;
    }

  module _ (s : State V) (h : History V) (W : Invariant S s h) where
    invariant_tick : (m : Bool) → Invariant S (request_step S s tick).next (entry (record { enough = m; request = tick }) (request_step S s tick).reply ∷ h)
    invariant_tick m = go (ltb s.ticks last_tick) refl
      where
        tracked' : Tracked S (request_step S s tick).next (entry (record { enough = m; request = tick }) (request_step S s tick).reply ∷ h)
        tracked' = tracked_request S L s h W.tracked m tick

        bay : (c b : ℕ) → c < S.classes → (q : Bool) → late S (tick_grade S.top s.ticks) (tick_number S.top s.ticks) c ((s.class c).bays b) ≡ q
            → Sound S (cells_in S s) ((after_tick S s).class c).claims c b (((after_tick S s).class c).bays b) (job c b h)
        bay c b l true e = rw e tt
        bay c b l false e =
            rw e (sound_move S L s.ticks c b l (cells_in S s) (cells_in S s) (s.class c).claims ((after_tick S s).class c).claims
            (record { stale = λ x. sym (left_in _ _ e) ∙ x; reads = λ i x. left_in _ _ e ∙ x; writes = λ i x. left_in _ _ e ∙ x; newest = λ x i y. refl })
            (λ d i n l x y. refl)
            ((s.class c).bays b) (job c b h) (W.tracked.bays c b l) (W.sound c b l))

        go : (q : Bool) → ltb s.ticks last_tick ≡ q
            → Invariant S (request_step S s tick).next (entry (record { enough = m; request = tick }) (request_step S s tick).reply ∷ h)
        go true e = rw e (record {
          tracked = rw e at tracked';
          serial = serial_later S s.ticks (suc s.ticks) (floors_in S s) (cells_in S s) (committed S h) (omega arith) W.serial;
          sound = λ c b l. bay c b l _ refl;
        })
        go false e = rw e (record { tracked = rw e at tracked'; serial = W.serial; sound = W.sound })

    invariant_request : (m : Bool) (x : Request V)
        → Invariant S (request_step S s x).next (entry (record { enough = m; request = x }) (request_step S s x).reply ∷ h)
    invariant_request m tick = invariant_tick m
    invariant_request m (by c b a) = go (known S c b a) refl
      where
        go : (q : Bool) → known S c b a ≡ q
            → Invariant S (request_step S s (by c b a)).next (entry (record { enough = m; request = by c b a }) (request_step S s (by c b a)).reply ∷ h)
        go true e = rw e (invariant_action s h W c b (ltb-true _ _ (and_l _ _ e)) a m)
        go false e = rw e (record { tracked = rw e at (tracked_request S L s h W.tracked m (by c b a)); serial = W.serial; sound = W.sound })

    -- A call with too little memory leaves everything as it is.
    pub invariant_step : (x : Call V) → Invariant S (step S s x).next (entry x (step S s x).reply ∷ h)
    invariant_step x = go x.enough refl
      where
        go : (q : Bool) → x.enough ≡ q → Invariant S (step S s x).next (entry x (step S s x).reply ∷ h)
        go true e = rw e (invariant_request true x.request)
        go false e = rw e (record { tracked = record { time = W.tracked.time; bays = W.tracked.bays }; serial = W.serial; sound = W.sound })
