-- A value that a frame writes is told again byte for byte.
use Rattle.std.proofs.Common.{◌≡◌, ℕ, ◌<◌, Bool, true, false, cond, List, [], ◌∷◌, drop, Some, sym, ap, ◌∙◌, subst, arith}
use Rattle.std.specs.Prelude.{All}
use Rattle.std.proofs.lemmas.List.Elements.{All-drop}
use Rattle.cells.specs.declared.value.Value.{Ghosts as ValueGhosts}
use Rattle.orders.specs.declared.class_order.ClassOrder.{Ghosts as OrderGhosts}
use Rattle.rules.specs.declared.local_rule.LocalRule.{Ghosts as RuleGhosts}
use Rattle.laws.specs.Setting.{Setting}
use Rattle.laws.specs.State.{State}
use Rattle.laws.specs.Calls.{Call, got}
use Rattle.laws.specs.Step.{step}
use Rattle.jobs.specs.Requests.{to_read, to_write}
use Rattle.jobs.specs.Represents.{setting, state, enough, defined, LeadsTo}
use Rattle.jobs.specs.declared.memory.Memory.{Memory}
use Rattle.jobs.specs.declared.register.Register.{Register}
use Rattle.lines.specs.Operations.{byte}
use Rattle.lines.specs.JobFrames.{right_length, FrameServed}
use Rattle.lines.specs.LineFaults.{fault_bytes}
use Rattle.lines.specs.JobLines.{request_of, Room, room_of, suffices}
use Rattle.lines.specs.Replies.{reply_bytes}
use Rattle.lines.specs.Needs.{ChangedWithin}
use Rattle.lines.specs.ReadBack.{own_read, ReadsBack}
use Rattle.lines.specs.declared.line_fault.LineFault.TheVariants.{WrongLength}
use Rattle.lines.specs.declared.operation.JobOperation.{JobOperation}
use Rattle.lines.specs.declared.operation.JobOperation.TheVariants.{Begin, Read, Write, Commit, GiveUp, Tick}
use Rattle.lines.proofs.OwnWrites.{reads_own_write}

-- Bytes -----------------------------------------------------------------------------------------------------------

abbrev pub Bytes : List ℕ → Type 0
Bytes = All (λ b. b < 256)

module _ {V : Type 0} (v : ValueGhosts V) (encodes : (bytes : List ℕ) (x : V) → Bytes bytes → v.decoding bytes ≡ Some x → v.encoding x ≡ bytes) where
  -- The frame writes this value: it has its bytes.
  told_as_written : (frame : List ℕ) → Bytes frame → (x : V) → v.decoding (drop 4 frame) ≡ Some x → reply_bytes v (got x) ≡ 0 ∷ drop 4 frame
  told_as_written frame h x e = ap (◌∷◌ 0) (encodes (drop 4 frame) x (All-drop (λ b. b < 256) 4 frame h) e)

  -- No other frame writes.
  same_bytes : (job : JobOperation) (frame : List ℕ) → Bytes frame → (c b i : ℕ) (x : V) → request_of v job frame ≡ to_write c b i (Some x) → reply_bytes v (got x) ≡ 0 ∷ drop 4 frame
  same_bytes Write frame h c b i x e = let d : v.decoding (drop 4 frame) ≡ Some x = cc in told_as_written frame h x d
  same_bytes Begin frame h c b i x e = let z : ◌≡◌ {A = ℕ} 0 1 = cc in absurd (omega arith)
  same_bytes Read frame h c b i x e = let z : ◌≡◌ {A = ℕ} 0 1 = cc in absurd (omega arith)
  same_bytes Commit frame h c b i x e = let z : ◌≡◌ {A = ℕ} 0 1 = cc in absurd (omega arith)
  same_bytes GiveUp frame h c b i x e = let z : ◌≡◌ {A = ℕ} 0 1 = cc in absurd (omega arith)
  same_bytes Tick frame h c b i x e = let z : ◌≡◌ {A = ℕ} 0 1 = cc in absurd (omega arith)

  -- Calls ---------------------------------------------------------------------------------------------------------

  module _ {O R : Type 0} (o : OrderGhosts O) (r : RuleGhosts R) (reflexive : (s : O) (c : ℕ) → c < o.classes s → o.dominates s c c ≡ true)
      (x x' : Register O) (m m' : Memory V R) (same_room : room_of m' ≡ room_of m) where
    -- The next call, a read of what was written.
    own_told : (frame : List ℕ) → Bytes frame → LeadsTo o v r x m (request_of v Write frame) x' m'
        → reply_bytes v (defined o v r x m (request_of v Write frame)).reply ≡ 0 ∷ []
        → reply_bytes v (defined o v r x' m' (request_of v Read (own_read frame))).reply ≡ 0 ∷ drop 4 frame
    own_told frame h leads accepted =
        let S = setting o v r x in
        let s = (defined o v r x m (request_of v Write frame)).next in
        let reading : Bool → Call V = λ e. record { enough = e; request = to_read (byte 1 frame) (byte 2 frame) (byte 1 frame) (byte 3 frame) } in
        let found = reads_own_write v S (state o v r x m) (byte 1 frame) (byte 2 frame) (byte 3 frame) (v.decoding (drop 4 frame)) (enough o v r x m) (reflexive x.order (byte 1 frame)) accepted in
        let room : enough o v r x' m' ≡ enough o v r x m = ap (suffices (room_of m')) leads.0 ∙ ap (λ (q : Room). suffices q S) same_room in
        let is : (defined o v r x' m' (request_of v Read (own_read frame))).reply ≡ got found.0 =
        ap (λ (T : Setting V). (step T (state o v r x' m') (reading (enough o v r x' m'))).reply) leads.0
        ∙ ap (λ (u : State V). (step S u (reading (enough o v r x' m'))).reply) leads.1
        ∙ ap (λ (e : Bool). (step S s (reading e)).reply) room
        ∙ found.2 in
        ap (reply_bytes v) is ∙ told_as_written frame h found.0 found.1

    -- A frame of another length gets another answer than an accepted one.
    pub reads_back : (job : JobOperation) (frame answer : List ℕ) → Bytes frame → FrameServed o v r x m job frame answer x' m' → ReadsBack o v r job frame answer x' m'
    reads_back job frame answer h served = record {
      same_bytes = same_bytes job frame h;
      own = λ is accepted. go is (right_length v.WIDTH job frame) served.reply served.state accepted;
    }
      where
        go : job ≡ Write → (right : Bool) → answer ≡ cond right (reply_bytes v (defined o v r x m (request_of v job frame)).reply) (fault_bytes WrongLength)
            → state o v r x' m' ≡ cond right (defined o v r x m (request_of v job frame)).next (state o v r x m) → answer ≡ 0 ∷ []
            → reply_bytes v (defined o v r x' m' (request_of v Read (own_read frame))).reply ≡ 0 ∷ drop 4 frame
        go is true e f accepted =
            own_told frame h (subst (λ (j : JobOperation). LeadsTo o v r x m (request_of v j frame) x' m') is (served.setting_kept, f))
            (subst (λ (j : JobOperation). reply_bytes v (defined o v r x m (request_of v j frame)).reply ≡ 0 ∷ []) is (sym e ∙ accepted))
        go is false e f accepted = let z : ◌≡◌ {A = ℕ} 4 0 = cc in absurd (omega arith)

-- Memory of which only a part has changed is as large as before.
pub same_room : {V R : Type 0} (room : Room) (m m' : Memory V R) → ChangedWithin room m m' → room_of m' ≡ room_of m
same_room room m m' h =
    let cells = h.lengths.0 in
    let pending = h.lengths.1 in
    let rules = h.lengths.2 in
    cc
