-- The bays of a register and the jobs of its history say the same at every step; so no job is told too early that its bay is closed.
use Rattle.std.proofs.Common.{◌≡◌, ℕ, ◌<◌, Bool, true, false, eqb, ltb, ◌∷◌, Some, sym, refl, ap, ◌∙◌, arith}
use Rattle.std.proofs.lemmas.Bool.{ltb-true, eqb-true, eqb-false, ne_eqb, and_left, and_right}
use Rattle.laws.specs.Setting.{Setting, Lawful}
use Rattle.laws.specs.State.{put, State, closed}
use Rattle.laws.specs.Calls.{Action, Request, Call, too_little_memory, unknown, bay_closed, claim_denied, clock_at_end, refusal, by, tick}
use Rattle.laws.specs.Clock.{last_tick, tick_grade}
use Rattle.laws.specs.Actions.{Outcome}
use Rattle.laws.specs.Step.{known, outcome, request_step, step}
use Rattle.laws.specs.History.{entry, History}
use Rattle.laws.specs.Transactions.{event, next_tick, time, continued, job}
use Rattle.laws.specs.Deadlines.{HadItsTime, InTime}
use Rattle.laws.proofs.Tests.{none_not_some, some_eq, and_l}
use Rattle.laws.proofs.Courses.{Course, course, is_refused, is_denied, began_update, began_long, read_long, read_pending, read_newest, read_lower, wrote_item, failed, learned_late, freed, gave_up, committed_long, committed_update}
use Rattle.laws.proofs.Bays.{at_tick, Tracks, tracks_own, bays_other, tracks_tick, continued_other, same_time}

module _ {V : Type 0} (S : Setting V) where
  pub record Tracked (s : State V) (h : History V) : Type 0 where
    pub time : time h ≡ at_tick S s.ticks
    pub bays : (c b : ℕ) → c < S.classes → Tracks S s.ticks c ((s.class c).bays b) (job c b h)

  module _ (L : Lawful S) where
    module _ (s : State V) (h : History V) (i : Tracked s h) (c b : ℕ) (lc : c < S.classes) (a : Action V) where
      o : Outcome V
      o = outcome S s c b a

      took : Course S s.ticks (λ d i. (s.class d).cells i) c (s.class c) b a o
      unfolding o
      took = course S s.ticks (λ d i. (s.class d).cells i) c (s.class c) b a

      tracked_bay : (c' b' : ℕ) → c' < S.classes → (q q' : Bool) → eqb c c' ≡ q → eqb b b' ≡ q'
          → Tracks S s.ticks c' ((put s.class c o.next c').bays b') (continued c' b' (time h) (event (by c b a) o.reply) (job c' b' h))
      tracked_bay c' b' l false q e f =
          rw (e, continued_other c' b' (time h) (job c' b' h) c b (and_left _ _ (ne_eqb c' c (λ x. eqb-false c c' e (sym x)))) a o.reply) (i.bays c' b' l)
      tracked_bay c' b' l true false e f =
          rw (
            e,
            ← (eqb-true c c' e),
            continued_other c b' (time h) (job c b' h) c b (and_right _ _ (ne_eqb b' b (λ x. eqb-false b b' f (sym x)))) a o.reply,
            bays_other S L s.ticks _ c (s.class c) b lc a o took b' f,
          ) (i.bays c b' lc)
      tracked_bay c' b' l true true e f =
          rw (e, ← (eqb-true c c' e), ← (eqb-true b b' f), i.time) (tracks_own S L s.ticks _ c (s.class c) b lc a o (job c b h) (i.bays c b lc) took)

      pub tracked_action : (m : Bool) → Tracked
          (record { ticks = s.ticks; class = put s.class c (outcome S s c b a).next })
          (entry (record { enough = m; request = by c b a }) (outcome S s c b a).reply ∷ h)
      unfolding o
      tracked_action m = record {
        time = same_time c b (time h) a (outcome S s c b a).reply ∙ i.time;
        bays = λ c' b' l. tracked_bay c' b' l _ _ refl refl;
      }

      -- Only a closed bay is refused with the number of a closed bay.
      timely_action : refusal (outcome S s c b a).reply ≡ Some bay_closed → HadItsTime (time h).ticks (job c b h)
      timely_action = go (outcome S s c b a) (course S s.ticks (λ d i. (s.class d).cells i) c (s.class c) b a)
        where
          had : (s.class c).bays b ≡ closed → HadItsTime (time h).ticks (job c b h)
          had e = rw i.time (rw e at (i.bays c b lc))

          go : (o : Outcome V) → Course S s.ticks (λ d i. (s.class d).cells i) c (s.class c) b a o
              → refusal o.reply ≡ Some bay_closed → HadItsTime (time h).ticks (job c b h)
          go o (is_refused n h e) = rw e (λ x. had (h (some_eq x)))
          go o (is_denied b'' e) = rw e (λ x. let y : claim_denied ≡ bay_closed = some_eq x in absurd (omega arith))
          go o (began_update q e y f g) = rw g (λ x. none_not_some x)
          go o (began_long q e y f g) = rw g (λ x. none_not_some x)
          go o (read_long r d i e h f g) = rw g (λ x. none_not_some x)
          go o (read_pending dn p i v e h f g) = rw g (λ x. none_not_some x)
          go o (read_newest dn p i e h s f g) = rw g (λ x. none_not_some x)
          go o (read_lower dn p d i e n h f g) = rw g (λ x. none_not_some x)
          go o (wrote_item dn p i v e h f g) = rw g (λ x. none_not_some x)
          go o (failed n y h e f g) = rw g (λ x. absurd (h (some_eq x)))
          go o (learned_late e f g) = rw g (λ x. had e)
          go o (freed e f g) = rw g (λ x. none_not_some x)
          go o (gave_up y e f g) = rw g (λ x. none_not_some x)
          go o (committed_long r e f g) = rw g (λ x. none_not_some x)
          go o (committed_update dn p e h s f g) = rw g (λ x. none_not_some x)

    module _ (s : State V) (h : History V) (i : Tracked s h) where
      pub tracked_request : (m : Bool) (x : Request V)
          → Tracked (request_step S s x).next (entry (record { enough = m; request = x }) (request_step S s x).reply ∷ h)
      tracked_request m tick = go (ltb s.ticks last_tick) refl
        where
          go : (q : Bool) → ltb s.ticks last_tick ≡ q
              → Tracked (request_step S s tick).next (entry (record { enough = m; request = tick }) (request_step S s tick).reply ∷ h)
          go true e = rw e (record {
            time = ap (next_tick (tick_grade S.top s.ticks)) i.time;
            bays = λ c b l. tracks_tick S L s.ticks c l ((s.class c).bays b) (job c b h) (i.bays c b l);
          })
          go false e = rw e (record { time = i.time; bays = i.bays })
      tracked_request m (by c b a) = go (known S c b a) refl
        where
          go : (q : Bool) → known S c b a ≡ q
              → Tracked (request_step S s (by c b a)).next (entry (record { enough = m; request = by c b a }) (request_step S s (by c b a)).reply ∷ h)
          go true e = rw e (tracked_action s h i c b (ltb-true _ _ (and_l _ _ e)) a m)
          go false e = rw e (record { time = i.time; bays = i.bays })

      timely_request : (x : Request V) → refusal (request_step S s x).reply ≡ Some bay_closed → InTime x h
      timely_request tick = go (ltb s.ticks last_tick) refl
        where
          go : (q : Bool) → ltb s.ticks last_tick ≡ q → refusal (request_step S s tick).reply ≡ Some bay_closed → ⊥
          go true e = rw e (λ x. none_not_some x)
          go false e = rw e (λ x. let y : clock_at_end ≡ bay_closed = some_eq x in omega arith)
      timely_request (by c b a) = go (known S c b a) refl
        where
          go : (q : Bool) → known S c b a ≡ q → refusal (request_step S s (by c b a)).reply ≡ Some bay_closed → InTime (by c b a) h
          go true e = rw e (timely_action s h i c b (ltb-true _ _ (and_l _ _ e)) a)
          go false e = rw e (λ x. let y : unknown ≡ bay_closed = some_eq x in absurd (omega arith))

      pub timely_step : (x : Call V) → refusal (step S s x).reply ≡ Some bay_closed → InTime x.request h
      timely_step x = go x.enough refl
        where
          go : (q : Bool) → x.enough ≡ q → refusal (step S s x).reply ≡ Some bay_closed → InTime x.request h
          go true e = rw e (timely_request x.request)
          go false e = rw e (λ x. let y : too_little_memory ≡ bay_closed = some_eq x in absurd (omega arith))
