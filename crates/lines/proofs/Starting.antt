-- The end of set-up: what the register that is opened, or the refusal, makes of the session.
use Rattle.std.proofs.Common.{◌≡◌, ℕ, Bool, true, false, cond, leb, [], ◌∷◌, Some, None, Option, sym, refl, ap, ◌∙◌, subst, arith}
use Rattle.cells.specs.declared.value.Value.{Ghosts as ValueGhosts}
use Rattle.laws.specs.Setting.{Setting}
use Rattle.laws.specs.State.{State, fresh_state}
use Rattle.register_parts.specs.declared.job_fault.JobFault.TheVariants.{TooLittleMemory}
use Rattle.lines.specs.Drafts.{Draft, drafted}
use Rattle.lines.specs.JobLines.{Room, suffices}
use Rattle.lines.specs.Openings.{opening_fault}
use Rattle.lines.specs.LineFaults.{fault_bytes}
use Rattle.lines.specs.Answers.{Meets}
use Rattle.lines.specs.Phases.{Phase, planning, Answer, refuse, started, fresh_answer}
use Rattle.lines.specs.SessionLaws.{KeepsSessionLaws}
use Rattle.lines.specs.Supplies.{ChangedFor}
use Rattle.lines.specs.declared.kinds.ValueKind.{ValueKind}
use Rattle.lines.specs.declared.line_fault.LineFault.{LineFault}
use Rattle.lines.specs.declared.line_fault.LineFault.TheVariants.{OutOfRange, Refused}
use Rattle.lines.specs.declared.supplied.Supplied.{Supplied}
use Rattle.lines.proofs.MeetingAnswers.{refuses}

-- The answer where the rule is known and the memory suffices, or not.
absurd : ◌≡◌ {A = ℕ} 0 1 → ⊥
absurd z = omega arith

judged : Phase → Answer → Bool → Bool → Answer
judged p a known enough = cond known (cond enough a (refuse p (Refused TooLittleMemory))) (refuse p OutOfRange)

fault : Bool → Bool → Option LineFault
fault known enough = cond known (cond enough None (Some (Refused TooLittleMemory))) (Some OutOfRange)

judged_refused : (p : Phase) (a : Answer) (known enough : Bool) (e : LineFault) → Some e ≡ fault known enough → judged p a known enough ≡ refuse p e
unfolding judged fault
judged_refused p a true true e f = let z : ◌≡◌ {A = ℕ} 0 1 = cc in elim (absurd z) [ ]
judged_refused p a true false e f = let z : Refused TooLittleMemory ≡ e = cc in ap (refuse p) z
judged_refused p a false enough e f = let z : OutOfRange ≡ e = cc in ap (refuse p) z

judged_accepted : (p : Phase) (a : Answer) (known enough : Bool) → None ≡ fault known enough → judged p a known enough ≡ a
unfolding judged fault
judged_accepted p a true true f = refl
judged_accepted p a true false f = let z : ◌≡◌ {A = ℕ} 0 1 = cc in elim (absurd z) [ ]
judged_accepted p a false enough f = let z : ◌≡◌ {A = ℕ} 0 1 = cc in elim (absurd z) [ ]

module _ {V : Type 0} (v : ValueGhosts V) (kind : ValueKind) (serving : Setting V → State V → Phase) (room : Room) (d : Draft) (variant : ℕ) where
  -- What the last frame of set-up is answered, for one kind of value.
  abbrev pub start_of : Answer
  start_of = cond (leb variant 1) (fresh_answer v kind serving room d variant) (refuse (planning d) OutOfRange)

  pub start_refused : (e : LineFault) (m : Supplied) → Some e ≡ opening_fault room (drafted v d variant) variant
      → Meets (planning d) m start_of (fault_bytes e) (planning d) m
  unfolding judged fault
  start_refused e m f =
      subst (λ (a : Answer). Meets (planning d) m a (fault_bytes e) (planning d) m) (sym (judged_refused (planning d) _ (leb variant 1) (suffices room (drafted v d variant)) e f)) (refuses (planning d) m e)

  pub start_accepted : (m m' : Supplied) (S' : Setting V) (s' : State V) → None ≡ opening_fault room (drafted v d variant) variant
      → S' ≡ drafted v d variant → s' ≡ fresh_state (drafted v d variant)
      → ChangedFor (serving (drafted v d variant) (fresh_state (drafted v d variant))) m m'
      → KeepsSessionLaws (planning d) (started kind ∷ []) (serving (drafted v d variant) (fresh_state (drafted v d variant)))
      → Meets (planning d) m start_of (0 ∷ []) (serving S' s') m'
  unfolding judged fault
  start_accepted m m' S' s' f g h c k =
      subst (λ (a : Answer). Meets (planning d) m a (0 ∷ []) (serving S' s') m') (sym (judged_accepted (planning d) _ (leb variant 1) (suffices room (drafted v d variant)) f))
      (record { reply = refl; leaves = record { state = ap (λ (T : Setting V). serving T s') g ∙ ap (serving (drafted v d variant)) h; memory = c; laws = k } })
