-- What set-up and filling make: a fresh register on lent memory.
use Rattle.std.proofs.Common.{◌≡◌, ℕ, zero, suc, List, [], ◌∷◌, ◌++◌, get_or, replicate, Ok, Result, refl, ap, ◌∙◌, subst, ap₂}
use mathlib.Core.Path.{fun_ext}
use Rattle.std.proofs.lemmas.Bool.{ltb-false}
use Rattle.cells.specs.declared.value.Value.{Ghosts as ValueGhosts}
use Rattle.orders.specs.declared.class_order.ClassOrder.{Ghosts as OrderGhosts}
use Rattle.rules.specs.declared.access.Access.TheVariants.{Read, Write}
use Rattle.rules.specs.declared.local_rule.LocalRule.{Ghosts as RuleGhosts}
use Rattle.laws.specs.Setting.{Setting, Lawful}
use Rattle.laws.specs.State.{fresh_state}
use Rattle.jobs.specs.Represents.{setting, enough}
use Rattle.register_parts.specs.CheckedCounts.{for_16}
use Rattle.jobs.specs.SetUp.{counts_for, FreshRegister, SetUp}
use Rattle.jobs.specs.Fill.{fill_reply, FreshMemory, StandsFilled}
use Rattle.jobs.specs.CallLaws.{Topped}
use Rattle.jobs.specs.declared.memory.Memory.{Memory}
use Rattle.jobs.specs.declared.register.Register.{Register}
use Rattle.register_parts.specs.declared.setup_fault.SetUpFault.{SetUpFault}
use Rattle.jobs.proofs.CallLaws.{KeptLaws, lawful}
use Rattle.lines.specs.FreshRegisters.{InRange, set_up_with, Opened}
use Rattle.lines.specs.JobLines.{room_of, suffices}
use Rattle.lines.specs.Needs.{needed, ChangedWithin}

-- The classes without a count have no items.
count_at : (items : List ℕ) (k c : ℕ) → get_or (items ++ replicate k 0) c 0 ≡ get_or items c 0
count_at [] zero c = refl
count_at [] (suc k) zero = refl
count_at [] (suc k) (suc c) = count_at [] k c
count_at (i ∷ items) k zero = refl
count_at (i ∷ items) k (suc c) = count_at items k c

module _ {O V R : Type 0} (o : OrderGhosts O) (v : ValueGhosts V) (r : RuleGhosts R) (order : O) (items : List ℕ) (variant : ℕ)
    (x : Register O) (range : InRange (o.classes order) items) (made_so : SetUp o order (counts_for (o.classes order) items) variant (Ok x)) where
  w : FreshRegister o order (for_16 items) variant x
  w = subst (λ (z : Result (List ℕ) SetUpFault). SetUp o order z variant (Ok x)) range made_so

  set_up_so : setting o v r x ≡ set_up_with o v r order items variant
  set_up_so =
      let made : O → ℕ → (ℕ → ℕ) → ℕ → Setting V = λ order top items variant. record {
        classes = o.classes order;
        above = o.dominates order;
        grade = o.grade order;
        top = top;
        items = items;
        start = v.starting;
        reading = r.policy Read;
        writing = r.policy Write;
        variant = variant;
      } in
      ap₂ (λ (a : O) (top : ℕ). made a top (λ c. get_or x.counts.items c 0) x.variant) w.order_is w.clock_shows.0
      ∙ ap (λ (counts : List ℕ). made order (set_up_with o v r order items variant).top (λ c. get_or counts c 0) x.variant) w.counts_are
      ∙ ap₂ (made order (set_up_with o v r order items variant).top) (fun_ext (count_at items _)) w.variant_is

  module _ (m : Memory V R) where
    pub fill_reply_is : fill_reply r.variants x.variant (enough o v r x m) ≡ fill_reply r.variants variant (suffices (room_of m) (set_up_with o v r order items variant))
    fill_reply_is = ap₂ (fill_reply r.variants) w.variant_is (ap (suffices (room_of m)) set_up_so)

    pub opened : (m' : Memory V R) → KeptLaws o r → Topped (setting o v r x) → FreshMemory o v r x m m' → StandsFilled o v r x m' (Ok tt)
        → Opened o v r (set_up_with o v r order items variant) m x m'
    opened m' k t f s = record {
      setting_is = set_up_so;
      state_is = (s (record { ticks = w.clock_shows.1; states = w.states_are })).state ∙ ap fresh_state set_up_so;
      lawful = subst (λ (S : Setting V). Lawful S) set_up_so (lawful o v r k x t);
      memory = subst (λ (S : Setting V). ChangedWithin (needed S) m m') set_up_so changed;
    }
      where
        changed : ChangedWithin (needed (setting o v r x)) m m'
        changed = record {
          lenders = f.lenders;
          lengths = (f.cells.length_is, f.pending.length_is, f.rules.length_is);
          cells = λ k n. f.cells.others k (ltb-false k _ n);
          pending = λ k n. f.pending.others k (ltb-false k _ n);
          rules = λ k n. f.rules.others k (ltb-false k _ n);
        }
