-- One step of the register: the reply to a call, and the state afterwards.
use Rattle.std.specs.Prelude.{ℕ, Bool, true, cond, ◌&&◌, nat_le, nat_lt}
use Rattle.laws.specs.Setting.{Setting, bay_count}
use Rattle.laws.specs.State.{put, State}
use Rattle.laws.specs.Calls.{Action, Request, Call, Reply, too_little_memory, unknown, clock_at_end, begin, read, write, commit, give_up, by, tick, ticked, refused}
use Rattle.laws.specs.Clock.{last_tick, tick_grade, tick_number, after_tick}
use Rattle.laws.specs.Actions.{Outcome, perform}

pub record Stepped (V : Type 0) : Type 0 where
  pub reply : Reply V
  pub next : State V

abbrev pub stepped : {V : Type 0} → Reply V → State V → Stepped V
stepped r s = record { reply = r; next = s }

module _ {V : Type 0} (S : Setting V) where
  -- Whether there is the kind of job that a begin names, the class that a read names.
  abbrev pub known_in : Action V → Bool
  known_in (begin q) = nat_le q 1
  known_in (read d i) = nat_lt d S.classes
  known_in (write i v) = true
  known_in commit = true
  known_in give_up = true

  abbrev pub known : ℕ → ℕ → Action V → Bool
  known c b a = nat_lt c S.classes && (nat_lt b bay_count && known_in a)

  abbrev pub outcome : State V → ℕ → ℕ → Action V → Outcome V
  outcome s c b a = perform S s.ticks (λ d i. (s.class d).cells i) c (s.class c) b a

  abbrev pub with_outcome : State V → ℕ → Outcome V → Stepped V
  with_outcome s c o = stepped o.reply (record { ticks = s.ticks; class = put s.class c o.next })

  abbrev pub tick_step : State V → Stepped V
  tick_step s = stepped (ticked (tick_grade S.top s.ticks) (tick_number S.top s.ticks)) (after_tick S s)

  -- The step where enough memory is supplied.
  abbrev pub request_step : State V → Request V → Stepped V
  request_step s tick = cond (nat_lt s.ticks last_tick) (tick_step s) (stepped (refused clock_at_end) s)
  request_step s (by c b a) = cond (known c b a) (with_outcome s c (outcome s c b a)) (stepped (refused unknown) s)

  abbrev pub step : State V → Call V → Stepped V
  step s x = cond x.enough (request_step s x.request) (stepped (refused too_little_memory) s)
