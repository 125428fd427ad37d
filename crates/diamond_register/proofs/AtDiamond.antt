-- The session at the diamond comes out by computation.
use Rattle.std.proofs.Common.{◌≡◌, ℕ, Bool, true, false, ◌&&◌, leb, List, [], ◌∷◌, length, get_or, Ok, Err, Result, sym, refl, ap, ◌∙◌, subst, arith}
use Rattle.cells.specs.contracts.word.U32Value.TheImpl.{ghosts as word}
use Rattle.rules.specs.declared.access.Access.TheVariants.{Write}
use Rattle.rules.specs.Policies.{lock, lowest_below}
use Rattle.exclusive_rule.specs.contracts.exclusive.ExclusiveLocalRule.TheImpl.{ghosts as exclusive}
use Rattle.exclusive_rule.specs.declared.exclusive.Exclusive.{Exclusive}
use Rattle.laws.specs.Setting.{Setting, sum_below}
use Rattle.laws.specs.State.{State, fresh_state}
use Rattle.laws.specs.Calls.{Call, Reply}
use Rattle.laws.specs.History.{entry, History}
use Rattle.jobs.specs.CallLaws.{StandsAfter}
use Rattle.jobs.specs.Fill.{fill_reply}
use Rattle.jobs.specs.Represents.{setting, state, enough}
use Rattle.register_parts.specs.CheckedCounts.{for_16}
use Rattle.jobs.specs.SetUp.{counts_for, FreshRegister}
use Rattle.jobs.specs.declared.memory.Memory.{Memory}
use Rattle.jobs.specs.declared.register.Register.{Register}
use Rattle.register_parts.specs.declared.setup_fault.SetUpFault.{SetUpFault}
use Rattle.diamond_register.specs.contracts.diamond_order.DiamondOrderClassOrder.TheImpl.{ghosts as diamond}
use Rattle.diamond_register.specs.declared.diamond_order.DiamondOrder.{DiamondOrder}
use Rattle.diamond_register.specs.declared.session.Replies.{Replies}
use Rattle.diamond_register.specs.Diamond.{diamond_above, diamond_grade}
use Rattle.diamond_register.specs.Session.{told, FaithfulFrom, RepliesDefined, Carries, LawfulAfter}
use Rattle.diamond_register.specs.SetUp.{Ready, NotFilled, SetUpFilled}
use Rattle.diamond_register.specs.DiamondSession.{history, room_for_diamond, Plays, LawfullyPlayed}
use Rattle.diamond_register.proofs.Carrying.{still_enough}

-- The setting ---------------------------------------------------------------------------------------------------

abbrev over_diamond : ℕ → List ℕ → ℕ → Setting ℕ
over_diamond top items variant = record {
  classes = 4;
  above = diamond_above;
  grade = diamond_grade;
  top = top;
  items = λ c. get_or items c 0;
  start = 0;
  reading = lock Write;
  writing = lock Write;
  variant = variant;
}

abbrev items_of : List ℕ
items_of = for_16 (2 ∷ 1 ∷ 1 ∷ 1 ∷ [])

-- What set-up makes of the records of the diamond.
pub set_up_is : (l : List ℕ) (order : DiamondOrder) (m m' : Memory ℕ Exclusive) (z : Result (Register DiamondOrder) SetUpFault) → l ≡ 2 ∷ 1 ∷ 1 ∷ 1 ∷ []
    → SetUpFilled diamond word exclusive order 0 (counts_for 4 l) m z m' → SetUpFilled diamond word exclusive order 0 (Ok items_of) m z m'
set_up_is l order m m' z e s = subst (λ (n : List ℕ). SetUpFilled diamond word exclusive order 0 (counts_for 4 n) m z m') e s

abbrev diamond_setting : Setting ℕ
diamond_setting = over_diamond 2 items_of 0

module _ (order : DiamondOrder) (x : Register DiamondOrder) (fresh : FreshRegister diamond order items_of 0 x) where
  setting_is : setting diamond word exclusive x ≡ diamond_setting
  setting_is =
      ap (λ (n : ℕ). over_diamond n x.counts.items x.variant) fresh.clock_shows.0
      ∙ (ap (λ (l : List ℕ). over_diamond 2 l x.variant) fresh.counts_are
      ∙ ap (λ (n : ℕ). over_diamond 2 items_of n) fresh.variant_is)

  enough_is : (m : Memory ℕ Exclusive) → enough diamond word exclusive x m ≡ room_for_diamond m
  enough_is m =
      ap (λ (l : List ℕ). leb (sum_below 4 (λ c. get_or l c 0)) (length m.cells.now) && (leb 256 (length m.pending.now) && leb 4 (length m.rules.now)))
      fresh.counts_are

-- The replies ---------------------------------------------------------------------------------------------------

one_more : (c : Call ℕ) (y y' : Reply ℕ) (h h' : History ℕ) → y ≡ y' → h ≡ h' → ◌≡◌ {A = History ℕ} (entry c y ∷ h) (entry c y' ∷ h')
one_more c y y' h h' e k = ap (λ (z : Reply ℕ). entry c z ∷ h) e ∙ ap (λ (z : History ℕ). entry c y' ∷ z) k

-- From a fresh register at the diamond on, only one list of replies is faithful.
told_is : (firmware : ℕ) (y : Replies ℕ)
    → FaithfulFrom diamond_setting (fresh_state diamond_setting) (told true firmware y []) → told true firmware y [] ≡ history firmware
unfolding lowest_below
told_is firmware y f =
    one_more _ _ _ _ _ f.0
    (one_more _ _ _ _ _ f.1.0
    (one_more _ _ _ _ _ f.1.1.0
    (one_more _ _ _ _ _ f.1.1.1.0
    (one_more _ _ _ _ _ f.1.1.1.1.0
    (one_more _ _ _ _ _ f.1.1.1.1.1.0
    (one_more _ _ _ _ _ f.1.1.1.1.1.1.0 refl))))))

-- The same of a register with this setting and state.
told_there : (firmware : ℕ) (y : Replies ℕ) (S : Setting ℕ) (s : State ℕ) (room : Bool)
    → S ≡ diamond_setting → s ≡ fresh_state S → room ≡ true
    → FaithfulFrom S s (told room firmware y []) → told true firmware y [] ≡ history firmware
told_there firmware y S s room same fresh is_room f =
    let g : FaithfulFrom S s (told true firmware y []) = subst (λ (b : Bool). FaithfulFrom S s (told b firmware y [])) is_room f in
    let k : FaithfulFrom S (fresh_state S) (told true firmware y []) = subst (λ (z : State ℕ). FaithfulFrom S z (told true firmware y [])) fresh g in
    told_is firmware y (subst (λ (Z : Setting ℕ). FaithfulFrom Z (fresh_state Z) (told true firmware y [])) same k)

-- The outcomes --------------------------------------------------------------------------------------------------

refused_plays : (b : Bool) (firmware : ℕ) (m m' : Memory ℕ Exclusive) (e : SetUpFault)
    → fill_reply 1 0 b ≡ Err e → m' ≡ m → Plays b firmware m (Err e) m'
refused_plays true firmware m m' e q kept = let z : ◌≡◌ {A = ℕ} 0 1 = cc in absurd (omega arith)
refused_plays false firmware m m' e q kept = (cc, kept)

accepted_room : (b : Bool) → fill_reply 1 0 b ≡ Ok tt → b ≡ true
accepted_room true q = refl
accepted_room false q = let z : ◌≡◌ {A = ℕ} 0 1 = cc in absurd (omega arith)

pub not_played : (firmware : ℕ) (order : DiamondOrder) (m m' : Memory ℕ Exclusive) (e : SetUpFault)
    → NotFilled diamond word exclusive order 0 items_of m e → m' ≡ m → Plays (room_for_diamond m) firmware m (Err e) m'
not_played firmware order m m' e n kept =
    subst (λ (b : Bool). Plays b firmware m (Err e) m') (enough_is order n.unfilled n.register m)
    (refused_plays (enough diamond word exclusive n.unfilled m) firmware m m' e n.refused kept)

module _ (firmware : ℕ) (order : DiamondOrder) (m m₁ m' : Memory ℕ Exclusive) (x x' : Register DiamondOrder) (y : Replies ℕ)
    (ready : Ready diamond word exclusive order 0 items_of m x m₁) (stands : StandsAfter diamond word exclusive [] x m₁)
    (replies : RepliesDefined diamond word exclusive firmware y x m₁) where
  was_room : enough diamond word exclusive x m ≡ true
  was_room = accepted_room (enough diamond word exclusive x m) ready.accepted

  is_room : enough diamond word exclusive x m₁ ≡ true
  is_room =
      still_enough diamond word exclusive x m x m₁ refl (ready.memory.cells.length_is, ready.memory.pending.length_is, ready.memory.rules.length_is)
      ∙ was_room

  history_is : told true firmware y [] ≡ history firmware
  history_is =
      told_there firmware y (setting diamond word exclusive x) (state diamond word exclusive x m₁) (enough diamond word exclusive x m₁)
      (setting_is order x ready.register) stands.stands.state is_room replies

  pub played : Plays (room_for_diamond m) firmware m (Ok (x', y)) m'
  played =
      subst (λ (b : Bool). Plays b firmware m (Ok (x', y)) m') (sym was_room ∙ enough_is order x ready.register m) history_is

  pub lawfully_played : Carries diamond word exclusive firmware y x m₁ x' m' → LawfullyPlayed firmware (Ok (x', y)) m'
  lawfully_played carries =
      subst (λ (h : History ℕ). LawfulAfter diamond word exclusive h x' m') history_is
      (subst (λ (b : Bool). LawfulAfter diamond word exclusive (told b firmware y []) x' m') is_room (carries [] stands))
