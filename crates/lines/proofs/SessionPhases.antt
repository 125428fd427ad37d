-- Frames that reach a session whose register serves jobs.
use Rattle.std.proofs.Common.{◌≡◌, ℕ, List, sym, subst}
use Rattle.cells.specs.declared.slip.Slip.{Slip}
use Rattle.cells.specs.contracts.word.U32Value.TheImpl.{ghosts as words}
use Rattle.cells.specs.contracts.slip.SlipValue.TheImpl.{ghosts as slips}
use Rattle.orders.specs.contracts.chosen_order.ChosenOrderClassOrder.TheImpl.{ghosts as orders}
use Rattle.orders.specs.declared.chosen_order.ChosenOrder.{ChosenOrder}
use Rattle.rules.specs.ChosenRules.{ChosenRule, chosen_rule as rules}
use Rattle.jobs.specs.Represents.{setting, state}
use Rattle.jobs.specs.declared.memory.Memory.{Memory}
use Rattle.jobs.specs.declared.register.Register.{Register}
use Rattle.lines.specs.Answers.{Meets}
use Rattle.lines.specs.JobFrames.{right_length, FrameServed}
use Rattle.lines.specs.JobLines.{room_of, call_of}
use Rattle.lines.specs.LineFaults.{fault_bytes}
use Rattle.lines.specs.Phases.{Answer, serving_words, serving_slips, word_call, slip_call, refuse, in_phase}
use Rattle.lines.specs.Sessions.{serving}
use Rattle.lines.specs.Supplies.{rooms_of}
use Rattle.lines.specs.declared.kinds.ValueKind.{ValueKind}
use Rattle.lines.specs.declared.kinds.ValueKind.TheVariants.{Words, Slips}
use Rattle.lines.specs.declared.line_fault.LineFault.TheVariants.{OutOfOrder}
use Rattle.lines.specs.declared.operation.Operation.{Operation}
use Rattle.lines.specs.declared.operation.Operation.TheVariants.{Job}
use Rattle.lines.specs.declared.operation.JobOperation.{JobOperation}
use Rattle.lines.specs.declared.supplied.Supplied.{Supplied}
use Rattle.lines.proofs.PhaseLaws.{word_call_keeps, slip_call_keeps}
use Rattle.lines.proofs.SuppliedChanges.{kept_within}
use Rattle.lines.proofs.MeetingAnswers.{refuses, serves_no, serves_frame}

module _ (x : Register ChosenOrder) (m : Supplied) where
  no_set_up : (kind : ValueKind) (operation : Operation) (frame : List ℕ) → ((job : JobOperation) → operation ≡ Job job → ⊥)
      → in_phase (rooms_of m) (serving kind x m) operation frame ≡ refuse (serving kind x m) OutOfOrder
  no_set_up Words operation frame n = serves_no words serving_words word_call (room_of m.words) _ _ operation frame n
  no_set_up Slips operation frame n = serves_no slips serving_slips slip_call (room_of m.slips) _ _ operation frame n

  -- Set-up is over.
  pub out_of_order : (kind : ValueKind) (operation : Operation) (frame : List ℕ) → ((job : JobOperation) → operation ≡ Job job → ⊥)
      → Meets (serving kind x m) m (in_phase (rooms_of m) (serving kind x m) operation frame) (fault_bytes OutOfOrder) (serving kind x m) m
  out_of_order kind operation frame n =
      let p = serving kind x m in
      subst (λ (a : Answer). Meets p m a (fault_bytes OutOfOrder) p m) (sym (no_set_up kind operation frame n)) (refuses p m OutOfOrder)

  -- A job frame over words, and one over slips.
  pub word_frame : (job : JobOperation) (frame bytes : List ℕ) (x' : Register ChosenOrder) (w : Memory ℕ ChosenRule)
      → FrameServed orders words rules x m.words job frame bytes x' w
      → Meets (serving Words x m) m (in_phase (rooms_of m) (serving Words x m) (Job job) frame) bytes
      (serving Words x' (record { words = w; slips = m.slips })) (record { words = w; slips = m.slips })
  word_frame job frame bytes x' w z =
      let m' : Supplied = record { words = w; slips = m.slips } in
      let S = setting orders words rules x in
      let t = state orders words rules x m.words in
      let call = call_of words (room_of m.words) S job frame in
      serves_frame words serving_words word_call (room_of m.words) S t m m' call bytes (setting orders words rules x') (state orders words rules x' w)
      (right_length words.WIDTH job frame) z.reply z.setting_kept z.state (λ u. record { words = z.memory; slips = kept_within _ m.slips }) (word_call_keeps S t call)

  pub slip_frame : (job : JobOperation) (frame bytes : List ℕ) (x' : Register ChosenOrder) (w : Memory Slip ChosenRule)
      → FrameServed orders slips rules x m.slips job frame bytes x' w
      → Meets (serving Slips x m) m (in_phase (rooms_of m) (serving Slips x m) (Job job) frame) bytes
      (serving Slips x' (record { words = m.words; slips = w })) (record { words = m.words; slips = w })
  slip_frame job frame bytes x' w z =
      let m' : Supplied = record { words = m.words; slips = w } in
      let S = setting orders slips rules x in
      let t = state orders slips rules x m.slips in
      let call = call_of slips (room_of m.slips) S job frame in
      serves_frame slips serving_slips slip_call (room_of m.slips) S t m m' call bytes (setting orders slips rules x') (state orders slips rules x' w)
      (right_length slips.WIDTH job frame) z.reply z.setting_kept z.state (λ u. record { words = kept_within _ m.words; slips = z.memory }) (slip_call_keeps S t call)
