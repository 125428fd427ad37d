-- Separation, proved of any set of classes that has with a class all that it dominates.
use Rattle.std.proofs.Common.{◌≡◌, ℕ, suc, Bool, true, false, cond, not, eqb, ltb, [], ◌∷◌, sym, refl, ap, ◌∙◌, ap₂}
use Rattle.std.proofs.lemmas.Bool.{eqb-true, or_parts}
use Rattle.laws.specs.Setting.{Setting, dominates, Lawful}
use Rattle.laws.specs.State.{put, Cell, Job, Bay, Class, State, updating, reading, free, closed, running}
use Rattle.laws.specs.Calls.{Action, Request, Call, Reply, begin, read, write, commit, give_up, by, tick, ticked}
use Rattle.laws.specs.Clock.{last_tick, tick_grade, tick_number, swept, after_tick}
use Rattle.laws.specs.Actions.{Outcome, reads_by, reads_in, perform}
use Rattle.laws.specs.Step.{Stepped, known, outcome, request_step, step}
use Rattle.laws.specs.History.{History, after, Faithful}
use Rattle.laws.specs.Separation.{stays, only, Separated, ClosedBelow}
use Rattle.laws.proofs.Tests.{true_not_false, and_l, or_r}
use Rattle.laws.proofs.Dominance.{transitive}

module _ {V : Type 0} (S : Setting V) where
  -- An action depends on the cells of dominated classes alone.
  module _ (t : ℕ) (cells_of cells_of' : ℕ → ℕ → Cell V) (c : ℕ) (k : Class V) (b : ℕ)
      (same : (d : ℕ) → dominates S c d ≡ true → cells_of d ≡ cells_of' d) where
    reads_by_local : (j : Job V) (d i : ℕ) → cells_of d ≡ cells_of' d → reads_by S t cells_of c k b j d i ≡ reads_by S t cells_of' c k b j d i
    reads_by_local (reading r) d i e = rw e
    reads_by_local (updating down p) d i e = rw e

    reads_local : (x : Bay V) (d i : ℕ) → reads_in S t cells_of c k b d i x ≡ reads_in S t cells_of' c k b d i x
    reads_local free d i = refl
    reads_local closed d i = refl
    reads_local (running j) d i = go (dominates S c d) refl
      where
        go : (q : Bool) → dominates S c d ≡ q → reads_in S t cells_of c k b d i (running j) ≡ reads_in S t cells_of' c k b d i (running j)
        go false e = rw e
        go true e = rw (reads_by_local j d i (same d e))

    perform_local : (a : Action V) → perform S t cells_of c k b a ≡ perform S t cells_of' c k b a
    perform_local (begin q) = refl
    perform_local (read d i) = reads_local (k.bays b) d i
    perform_local (write i v) = refl
    perform_local commit = refl
    perform_local give_up = refl

  module _ (heard : ℕ → Bool) (closed_below : ClosedBelow S heard) where
    -- Two registers agree on the clock and on the classes that are heard.
    record Agree (s s' : State V) : Type 0 where
      ticks : s.ticks ≡ s'.ticks
      class : (d : ℕ) → heard d ≡ true → s.class d ≡ s'.class d

    same_outcome : (s s' : State V) → Agree s s' → (c b : ℕ) (a : Action V) → heard c ≡ true → outcome S s c b a ≡ outcome S s' c b a
    same_outcome s s' g c b a e =
        perform_local s.ticks (λ d i. (s.class d).cells i) (λ d i. (s'.class d).cells i) c (s.class c) b
        (λ d h. ap {B = ℕ → Cell V} (λ (x : Class V) (i : ℕ). x.cells i) (g.class d (closed_below c d e h))) a
        ∙ ap₂ (λ (t : ℕ) (x : Class V). perform S t (λ d i. (s'.class d).cells i) c x b a) g.ticks (g.class c e)

    tick_agree : (s s' : State V) → Agree s s' → Agree (after_tick S s) (after_tick S s')
    tick_agree s s' g = record {
      ticks = ap suc g.ticks;
      class = λ d h. ap₂ (λ (t : ℕ) (x : Class V). swept S (tick_grade S.top t) (tick_number S.top t) d x) g.ticks (g.class d h);
    }

    put_agree : (s s' : State V) → Agree s s' → (c : ℕ) (x x' : Class V) → x ≡ x'
        → Agree (record { ticks = s.ticks; class = put s.class c x }) (record { ticks = s'.ticks; class = put s'.class c x' })
    put_agree s s' g c x x' e = record {
      ticks = g.ticks;
      class = λ d h. ap₂ (λ (y z : Class V). cond (eqb c d) y z) e (g.class d h);
    }

    abbrev Alike : Stepped V → Stepped V → Type 0
    Alike x y = (x.reply ≡ y.reply) × Agree x.next y.next

    -- A request that stays gets the same reply of both.
    request_same : (s s' : State V) → Agree s s' → (x : Request V) → stays S heard x ≡ true → Alike (request_step S s x) (request_step S s' x)
    request_same s s' g tick e = go (ltb s.ticks last_tick) refl (rw (← g.ticks))
      where
        go : (q : Bool) → ltb s.ticks last_tick ≡ q → ltb s'.ticks last_tick ≡ ltb s.ticks last_tick
            → Alike (request_step S s tick) (request_step S s' tick)
        go false h h' = rw (h', h) (refl, g)
        go true h h' = rw (h', h) (ap {B = Reply V} (λ (t : ℕ). ticked (tick_grade S.top t) (tick_number S.top t)) g.ticks, tick_agree s s' g)
    request_same s s' g (by c b a) e = go (known S c b a) refl
      where
        go : (q : Bool) → known S c b a ≡ q → Alike (request_step S s (by c b a)) (request_step S s' (by c b a))
        go false h = rw h (refl, g)
        go true h =
            let o = same_outcome s s' g c b a (or_r _ _ (and_l _ _ h) e) in
            rw h (ap (λ (o : Outcome V). o.reply) o, put_agree s s' g c _ _ (ap (λ (o : Outcome V). o.next) o))

    same : (s s' : State V) → Agree s s' → (x : Call V) → stays S heard x.request ≡ true → Alike (step S s x) (step S s' x)
    same s s' g x e = go x.enough refl
      where
        go : (q : Bool) → x.enough ≡ q → Alike (step S s x) (step S s' x)
        go true h = rw h (request_same s s' g x.request e)
        go false h = rw h (refl, g)

    -- One that is struck out changes no class that is heard.
    request_struck : (s s' : State V) → Agree s s' → (x : Request V) → stays S heard x ≡ false → Agree (request_step S s x).next s'
    request_struck s s' g tick e = true_not_false e
    request_struck s s' g (by c b a) e = go (known S c b a) refl
      where
        other : (d : ℕ) (q : Bool) → eqb c d ≡ q → heard d ≡ true → (x : Class V) → put s.class c x d ≡ s.class d
        other d false h l x = rw h
        other d true h l x = true_not_false (sym l ∙ (rw (eqb-true c d h) at (or_parts (not (ltb c S.classes)) (heard c) e).1))

        go : (q : Bool) → known S c b a ≡ q → Agree (request_step S s (by c b a)).next s'
        go false h = rw h g
        go true h = rw h (record { ticks = g.ticks; class = λ d l. other d (eqb c d) refl l _ ∙ g.class d l })

    struck : (s s' : State V) → Agree s s' → (x : Call V) → stays S heard x.request ≡ false → Agree (step S s x).next s'
    struck s s' g x e = go x.enough refl
      where
        go : (q : Bool) → x.enough ≡ q → Agree (step S s x).next s'
        go true h = rw h (request_struck s s' g x.request e)
        go false h = rw h g

    abbrev Both : History V → Type 0
    Both h = Agree (after S h) (after S (only S heard h)) × Faithful S (only S heard h)

    both : (h : History V) → Faithful S h → Both h
    both [] t = (record { ticks = refl; class = λ d h. refl }, tt)
    both (e ∷ h) t = go (stays S heard e.call.request) refl (both h t.1)
      where
        go : (q : Bool) → stays S heard e.call.request ≡ q → Both h → Both (e ∷ h)
        go true f p = let o = same (after S h) (after S (only S heard h)) p.0 e.call f in rw f (o.1, (t.0 ∙ o.0, p.1))
        go false f p = rw f (struck (after S h) (after S (only S heard h)) p.0 e.call f, p.1)

    -- What is left of a faithful history, when only heard classes' calls stay, is a faithful history.
    pub faithful_only : (h : History V) → Faithful S h → Faithful S (only S heard h)
    faithful_only h t = (both h t).1

pub separated : {V : Type 0} (S : Setting V) (L : Lawful S) (h : History V) → Faithful S h → Separated S h
separated S L h t k = faithful_only S (dominates S k) (λ c d. transitive S L k c d) h t
