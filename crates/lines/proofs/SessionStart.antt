-- A plan whose register is opened, over words or over slips.
use Rattle.std.proofs.Common.{◌≡◌, ℕ, cond, leb, List, [], ◌∷◌, Some, None, Ok, Err, Result, sym, subst}
use Rattle.cells.specs.declared.slip.Slip.{Slip}
use Rattle.cells.specs.contracts.word.U32Value.TheImpl.{ghosts as words}
use Rattle.cells.specs.contracts.slip.SlipValue.TheImpl.{ghosts as slips}
use Rattle.orders.specs.contracts.chosen_order.ChosenOrderClassOrder.TheImpl.{ghosts as orders}
use Rattle.orders.specs.declared.chosen_order.ChosenOrder.{ChosenOrder}
use Rattle.rules.specs.ChosenRules.{ChosenRule, chosen_rule as rules}
use Rattle.jobs.specs.Represents.{setting, state}
use Rattle.jobs.specs.declared.memory.Memory.{Memory}
use Rattle.jobs.specs.declared.register.Register.{Register}
use Rattle.lines.specs.Answers.{Meets, SetUpAnswered}
use Rattle.lines.specs.Drafts.{drafted}
use Rattle.lines.specs.JobLines.{room_of}
use Rattle.lines.specs.FreshRegisters.{Opened}
use Rattle.lines.specs.LineFaults.{fault_bytes}
use Rattle.lines.specs.Openings.{opening_fault}
use Rattle.lines.specs.Phases.{Phase, planning, serving_words, serving_slips, refuse, start_as, start_answer}
use Rattle.lines.specs.Plans.{draft_of}
use Rattle.lines.specs.Sessions.{serving}
use Rattle.lines.specs.Supplies.{rooms_of}
use Rattle.lines.specs.declared.kinds.ValueKind.{ValueKind}
use Rattle.lines.specs.declared.kinds.ValueKind.TheVariants.{Words, Slips}
use Rattle.lines.specs.declared.line_fault.LineFault.{LineFault}
use Rattle.lines.specs.declared.line_fault.LineFault.TheVariants.{OutOfRange}
use Rattle.lines.specs.declared.plan.Plan.{Plan}
use Rattle.lines.specs.declared.stage.Stage.{Stage}
use Rattle.lines.specs.declared.stage.Stage.TheVariants.{Serving}
use Rattle.lines.specs.declared.supplied.Supplied.{Supplied}
use Rattle.lines.proofs.PhaseLaws.{words_start, slips_start}
use Rattle.lines.proofs.SuppliedChanges.{kept_within}
use Rattle.lines.proofs.Starting.{start_of, start_refused, start_accepted}

module _ (p : Plan) (m : Supplied) (variant : ℕ) where
  -- The answer for a kind of value is the answer for the plan.
  at_kind : (kind : ValueKind) → p.values ≡ kind → (bytes : List ℕ) (q : Phase) (m' : Supplied)
      → Meets (planning (draft_of p)) m (cond (leb variant 1) (start_as kind (rooms_of m) (draft_of p) variant) (refuse (planning (draft_of p)) OutOfRange)) bytes q m'
      → Meets (planning (draft_of p)) m (start_answer (rooms_of m) (draft_of p) variant) bytes q m'
  at_kind kind k bytes q m' z =
      let d = draft_of p in
      subst (λ (v : ValueKind). Meets (planning d) m (cond (leb variant 1) (start_as v (rooms_of m) d variant) (refuse (planning d) OutOfRange)) bytes q m') (sym k) z

  abbrev pub Started : Result Stage LineFault → Supplied → Type 0
  Started r m' = SetUpAnswered (planning (draft_of p)) m (start_answer (rooms_of m) (draft_of p) variant) r m'

  pub words_refused : p.values ≡ Words → (e : LineFault) (w : Memory ℕ ChosenRule)
      → Some e ≡ opening_fault (room_of m.words) (drafted words (draft_of p) variant) variant → w ≡ m.words
      → Started (Err e) (record { words = w; slips = m.slips })
  words_refused k e w f g =
      let d = draft_of p in
      subst (λ (z : Memory ℕ ChosenRule). Started (Err e) (record { words = z; slips = m.slips })) (sym g)
      (at_kind Words k (fault_bytes e) (planning d) m (start_refused words Words serving_words (room_of m.words) d variant e m f))

  pub slips_refused : p.values ≡ Slips → (e : LineFault) (w : Memory Slip ChosenRule)
      → Some e ≡ opening_fault (room_of m.slips) (drafted slips (draft_of p) variant) variant → w ≡ m.slips
      → Started (Err e) (record { words = m.words; slips = w })
  slips_refused k e w f g =
      let d = draft_of p in
      subst (λ (z : Memory Slip ChosenRule). Started (Err e) (record { words = m.words; slips = z })) (sym g)
      (at_kind Slips k (fault_bytes e) (planning d) m (start_refused slips Slips serving_slips (room_of m.slips) d variant e m f))

  pub words_accepted : p.values ≡ Words → (x : Register ChosenOrder) (w : Memory ℕ ChosenRule)
      → None ≡ opening_fault (room_of m.words) (drafted words (draft_of p) variant) variant
      → Opened orders words rules (drafted words (draft_of p) variant) m.words x w
      → Started (Ok (Serving p.values x)) (record { words = w; slips = m.slips })
  words_accepted k x w f o =
      let d = draft_of p in
      let m' : Supplied = record { words = w; slips = m.slips } in
      at_kind Words k (0 ∷ []) (serving p.values x m') m'
      (subst (λ (v : ValueKind). Meets (planning d) m (start_of words Words serving_words (room_of m.words) d variant) (0 ∷ []) (serving v x m') m') (sym k)
      (start_accepted words Words serving_words (room_of m.words) d variant m m' (setting orders words rules x) (state orders words rules x w) f o.setting_is o.state_is
      (record { words = o.memory; slips = kept_within _ m.slips }) (words_start d (drafted words d variant) o.lawful)))

  pub slips_accepted : p.values ≡ Slips → (x : Register ChosenOrder) (w : Memory Slip ChosenRule)
      → None ≡ opening_fault (room_of m.slips) (drafted slips (draft_of p) variant) variant
      → Opened orders slips rules (drafted slips (draft_of p) variant) m.slips x w
      → Started (Ok (Serving p.values x)) (record { words = m.words; slips = w })
  slips_accepted k x w f o =
      let d = draft_of p in
      let m' : Supplied = record { words = m.words; slips = w } in
      at_kind Slips k (0 ∷ []) (serving p.values x m') m'
      (subst (λ (v : ValueKind). Meets (planning d) m (start_of slips Slips serving_slips (room_of m.slips) d variant) (0 ∷ []) (serving v x m') m') (sym k)
      (start_accepted slips Slips serving_slips (room_of m.slips) d variant m m' (setting orders slips rules x) (state orders slips rules x w) f o.setting_is o.state_is
      (record { words = kept_within _ m.words; slips = o.memory }) (slips_start d (drafted slips d variant) o.lawful)))
