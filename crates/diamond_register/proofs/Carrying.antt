-- A session goes on from call to call: with each, register and memory stand after a history that is one entry longer.
use Rattle.std.proofs.Common.{◌≡◌, ℕ, ◌*◌, Bool, ◌&&◌, leb, ◌∷◌, length, ap, ◌∙◌, subst}
use Rattle.cells.specs.declared.value.Value.{Ghosts as ValueGhosts}
use Rattle.orders.specs.declared.class_order.ClassOrder.{Ghosts as OrderGhosts}
use Rattle.rules.specs.declared.local_rule.LocalRule.{Ghosts as RuleGhosts}
use Rattle.laws.specs.Setting.{Setting, sum_below}
use Rattle.laws.specs.State.{State}
use Rattle.laws.specs.Calls.{Request, Reply}
use Rattle.laws.specs.Step.{Stepped, step}
use Rattle.laws.specs.History.{entry, History}
use Rattle.jobs.specs.CallLaws.{StandsAfter, Lawfully}
use Rattle.jobs.specs.Represents.{setting, state, enough, defined, LeadsTo}
use Rattle.jobs.specs.declared.memory.Memory.{Memory}
use Rattle.jobs.specs.declared.register.Register.{Register}
use Rattle.diamond_register.specs.Session.{lent, LawfulAfter}

-- Whether so many cells, pending places and rules are enough.
abbrev enough_for : {V : Type 0} → Setting V → ℕ → ℕ → ℕ → Bool
enough_for S cells pending rules =
    leb (sum_below S.classes S.items) cells && (leb (S.classes * 64) pending && leb S.classes rules)

-- The memory has as many cells, pending places and rules.
abbrev pub AsLong : {V R : Type 0} → Memory V R → Memory V R → Type 0
AsLong m m' =
    (length m'.cells.now ≡ length m.cells.now) × (length m'.pending.now ≡ length m.pending.now)
    × (length m'.rules.now ≡ length m.rules.now)

module _ {O V R : Type 0} (o : OrderGhosts O) (v : ValueGhosts V) (r : RuleGhosts R) where
  pub still_enough : (x : Register O) (m : Memory V R) (x' : Register O) (m' : Memory V R)
      → setting o v r x' ≡ setting o v r x → AsLong m m' → enough o v r x' m' ≡ enough o v r x m
  still_enough x m x' m' same l =
      let S = setting o v r x in
      ap (λ (z : Setting V). enough_for z (length m'.cells.now) (length m'.pending.now) (length m'.rules.now)) same
      ∙ (ap (λ n. enough_for S n (length m'.pending.now) (length m'.rules.now)) l.0
      ∙ (ap (λ n. enough_for S (length m.cells.now) n (length m'.rules.now)) l.1
      ∙ ap (λ n. enough_for S (length m.cells.now) (length m.pending.now) n) l.2))

  -- Where a session has come to: it began with setting S, and memory that was enough or not, and is in state s.
  pub record At (S : Setting V) (room : Bool) (s : State V) (x : Register O) (m : Memory V R) : Type 0 where
    pub setting_is : setting o v r x ≡ S
    pub room_is : enough o v r x m ≡ room
    pub state_is : state o v r x m ≡ s

  -- What one call adds to a session, where q is the request and y the reply.
  pub record Made (S : Setting V) (room : Bool) (s : State V) (x : Register O) (m : Memory V R) (q : Request V) (y : Reply V) (x' : Register O) (m' : Memory V R) : Type 0 where
    pub replied : y ≡ (step S s (lent room q)).reply
    pub next : At S room (step S s (lent room q)).next x' m'
    pub lawful : (h : History V) → StandsAfter o v r h x m → LawfulAfter o v r (entry (lent room q) y ∷ h) x' m'

  module _ (S : Setting V) (room : Bool) (s : State V) (x : Register O) (m : Memory V R) (here : At S room s x m) where
    -- What the definition says of a request, in the terms of the session.
    defined_here : (q : Request V) → defined o v r x m q ≡ step S s (lent room q)
    defined_here q =
        ap (λ (z : Setting V). step z (state o v r x m) (lent (enough o v r x m) q)) here.setting_is
        ∙ (ap (λ (z : State V). step S z (lent (enough o v r x m) q)) here.state_is
        ∙ ap (λ (z : Bool). step S s (lent z q)) here.room_is)

    -- The promises of a call are all that it takes.
    pub made : (q : Request V) (y : Reply V) (x' : Register O) (m' : Memory V R)
        → Lawfully o v r x m q y x' m' → y ≡ (defined o v r x m q).reply → LeadsTo o v r x m q x' m' → AsLong m m' → Made S room s x m q y x' m'
    made q y x' m' law reply leads l = record {
      replied = reply ∙ ap (λ (z : Stepped V). z.reply) (defined_here q);
      next = record {
        setting_is = leads.0 ∙ here.setting_is;
        room_is = still_enough x m x' m' leads.0 l ∙ here.room_is;
        state_is = leads.1 ∙ ap (λ (z : Stepped V). z.next) (defined_here q);
      };
      lawful = λ h stands. subst (λ (b : Bool). LawfulAfter o v r (entry (lent b q) y ∷ h) x' m') here.room_is (law h stands);
    }
