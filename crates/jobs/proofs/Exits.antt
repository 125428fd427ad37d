-- What an exit of a call has to show of its reply and of the state afterwards.
use Rattle.std.proofs.Common.{◌≡◌, ℕ, ◌<◌, true, false, sym, refl, ap, subst}
use Rattle.cells.specs.declared.value.Value.{Ghosts as ValueGhosts}
use Rattle.orders.specs.declared.class_order.ClassOrder.{Ghosts as OrderGhosts}
use Rattle.rules.specs.Claims.{Claims}
use Rattle.rules.specs.declared.local_rule.LocalRule.{Ghosts as RuleGhosts}
use Rattle.laws.specs.Calls.{Action, Request, by, Reply, refused, too_little_memory}
use Rattle.laws.specs.Step.{Stepped, stepped, request_step}
use Rattle.jobs.specs.Represents.{setting, state, enough, defined, LeadsTo}
use Rattle.jobs.specs.Lent.{RuleBecomes}
use Rattle.jobs.specs.Answered.{cells_by, places_by, changed_cells, changed_places, changed_rules, Answered}
use Rattle.jobs.specs.declared.register.Register.{Register}
use Rattle.jobs.specs.declared.memory.Memory.{Memory}
use Rattle.jobs.proofs.LentChanges.{nothing_changed, bay_rule_changed}

module _ {O V R : Type 0} (o : OrderGhosts O) (v : ValueGhosts V) (r : RuleGhosts R) (x : Register O) (m : Memory V R) (q : Request V) where
  -- The call returns y and leaves register x' and memory m'.
  abbrev pub Exit : Reply V → Register O → Memory V R → Type 0
  Exit y x' m' = (y ≡ (defined o v r x m q).reply) × LeadsTo o v r x m q x' m'

  pub exit : (y : Reply V) (x' : Register O) (m' : Memory V R) → setting o v r x' ≡ setting o v r x → defined o v r x m q ≡ stepped y (state o v r x' m') → Exit y x' m'
  exit y x' m' s e = (sym (ap (λ (z : Stepped V). z.reply) e), (s, sym (ap (λ (z : Stepped V). z.next) e)))

  pub too_little : enough o v r x m ≡ false → Exit (refused too_little_memory) x m
  too_little e = exit (refused too_little_memory) x m refl (rw e)

  pub with_enough : (z : Stepped V) → enough o v r x m ≡ true → request_step (setting o v r x) (state o v r x m) q ≡ z → defined o v r x m q ≡ z
  with_enough z e f = rw e f

  -- The same exit at what callees say that the register, the memory and the reply are.
  pub at_register : (y : Reply V) (m' : Memory V R) {x' x'' : Register O} → x'' ≡ x' → Exit y x' m' → Exit y x'' m'
  at_register y m' p e = subst (λ (z : Register O). Exit y z m') (sym p) e

  pub at_memory : (y : Reply V) (x' : Register O) {m' m'' : Memory V R} → m'' ≡ m' → Exit y x' m' → Exit y x' m''
  at_memory y x' p e = subst (λ (z : Memory V R). Exit y x' z) (sym p) e

  pub at_both : (y : Reply V) {x' x'' : Register O} {m' m'' : Memory V R} → x'' ≡ x' → m'' ≡ m' → Exit y x' m' → Exit y x'' m''
  at_both y {x'} {x''} {m'} {m''} p n e = at_register y m'' p (at_memory y x' n e)

  pub at_reply : (x' : Register O) (m' : Memory V R) {y y' : Reply V} → y' ≡ y → Exit y x' m' → Exit y' x' m'
  at_reply x' m' p e = subst (λ (z : Reply V). Exit z x' m') (sym p) e

-- Such an exit where the memory is as before,
pub unchanged : {O V R : Type 0} (o : OrderGhosts O) (v : ValueGhosts V) (r : RuleGhosts R) (x : Register O) (m : Memory V R) (q : Request V)
    {y : Reply V} {x' : Register O} → Exit o v r x m q y x' m → Answered o v r x m q y x' m
unchanged o v r x m q e = record { reply = e.0; state = e.1; memory = nothing_changed (changed_cells o x q) (changed_places o x q) m (changed_rules o x q) }

-- and where the rule of the class is another.
pub with_rule : {O V R : Type 0} (o : OrderGhosts O) (v : ValueGhosts V) (r : RuleGhosts R) (x : Register O) (m : Memory V R) (c b : ℕ) (a : Action V)
    {y : Reply V} {x' : Register O} {m' : Memory V R} {k : Claims} → c < o.classes x.order → b < 8 → RuleBecomes r c k m m'
    → Exit o v r x m (by c b a) y x' m' → Answered o v r x m (by c b a) y x' m'
with_rule o v r x m c b a {m' = m'} {k = k} l n w e = record {
  reply = e.0;
  state = e.1;
  memory = bay_rule_changed (cells_by o x c b a) (places_by o x c b a) m r (o.classes x.order) c b l n k m' w;
}
