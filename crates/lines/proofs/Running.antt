-- A session call, line by line: what was done so far, before what the rest of the input leads to.
use Rattle.std.proofs.Common.{◌≡◌, ℕ, ◌+◌, ◌-◌, ◌<◌, ◌≤◌, ltb, List, [], ◌∷◌, ◌++◌, length, take, drop, sym, refl, ap, ◌∙◌, subst, add-zero, add_assoc, zero-add, arith}
use native.Mathlib.Nat.{sub-zero}
use borrow.Rule.Slice.PartMut.{put_mid, put_same}
use Rattle.std.proofs.lemmas.List.{append-nil, append_assoc, drop_all, length-take-le, length-drop, length-append, take_at, drop_at, take_rest, drop-drop}
use Rattle.std.proofs.lemmas.Bool.{cond-true, cond-false, le-ltb, lt-ltb}
use Rattle.frames.specs.Lines.{TextLine, lines}
use Rattle.frames.specs.Writing.{encoded_line}
use Rattle.lines.specs.Phases.{Phase, Rooms, Event, Answer, answered}
use Rattle.lines.specs.Runs.{reply_room, Run, stopped, then_run, run, RanTo}
use Rattle.lines.specs.SessionLaws.{KeepsSessionLaws}
use Rattle.lines.specs.Sessions.{phase_of}
use Rattle.lines.specs.Supplies.{rooms_of, ChangedFor}
use Rattle.lines.specs.NextLines.{LineAnswered, NothingDone}
use Rattle.lines.specs.declared.served.Served.{Served}
use Rattle.lines.specs.declared.session.Session.{Session}
use Rattle.lines.specs.declared.supplied.Supplied.{Supplied}
use Rattle.lines.proofs.PhaseLaws.{session_laws, keeps_both}
use Rattle.lines.proofs.SuppliedChanges.{nothing_changed_for, rooms_kept, changed_on}
use Rattle.lines.proofs.NeedsGrow.{needs_grow}

-- From session s₀ with memory m₀ and output out₀ to s, m and out, by the first bytes of the input.
pub record SoFar (s₀ : Session) (m₀ : Supplied) (input out₀ : List ℕ) (s : Session) (m : Supplied) (out : List ℕ) (taken written : ℕ) : Type 0 where
  pub in_input : taken ≤ length input
  pub in_output : written ≤ length out
  pub output_length : length out ≡ length out₀
  pub beyond : drop written out ≡ drop written out₀
  pub rooms : rooms_of m ≡ rooms_of m₀
  pub memory : ChangedFor (phase_of s m) m₀ m
  pub events : List Event
  pub ran : then_run taken events (take written out) (run (rooms_of m₀) (length out - written) (phase_of s m) (lines (drop taken input)))
      ≡ run (rooms_of m₀) (length out₀) (phase_of s₀ m₀) (lines input)
  pub laws : KeepsSessionLaws (phase_of s₀ m₀) events (phase_of s m)

-- Two pieces of a run, one behind the other.
pub then_then : (a b : ℕ) (es fs : List Event) (v w : List ℕ) (r : Run) → then_run a es v (then_run b fs w r) ≡ then_run (a + b) (es ++ fs) (v ++ w) r
then_then a b es fs v w r =
    let f : ℕ → List Event → List ℕ → Run = λ n gs x. record { phase = r.phase; events = gs; taken = n; written = x; rest = r.rest } in
    ap (λ (n : ℕ). f n (es ++ (fs ++ r.events)) (v ++ (w ++ r.written))) (sym (add_assoc a b r.taken))
    ∙ ap (λ (gs : List Event). f (a + b + r.taken) gs (v ++ (w ++ r.written))) (sym (append_assoc es fs r.events))
    ∙ ap (λ (x : List ℕ). f (a + b + r.taken) ((es ++ fs) ++ r.events) x) (sym (append_assoc v w r.written))

then_none : (r : Run) → then_run 0 [] [] r ≡ r
then_none r = ap (λ (n : ℕ). let q : Run = record { phase = r.phase; events = r.events; taken = n; written = r.written; rest = r.rest } in q) (zero-add r.taken)

-- With room for the longest reply, a line is answered.
pub run_line : (rooms : Rooms) (room : ℕ) (p : Phase) (l : TextLine) (ls : List TextLine) → reply_room ≤ room
    → run rooms room p (l ∷ ls)
    ≡ then_run l.size ((answered rooms p l.text).event ∷ []) (encoded_line (answered rooms p l.text).reply)
    (run rooms (room - length (encoded_line (answered rooms p l.text).reply)) (answered rooms p l.text).next ls)
run_line rooms room p l ls h = cond-false (ltb room reply_room) _ _ (le-ltb room reply_room h)

-- Lent and written: the front of what is lent is another, the rest of the output stays.
module _ (out reply : List ℕ) (w : ℕ) (fits : w + length reply ≤ length out) where
  put_front : (ys : List ℕ) → ys ≡ reply ++ drop (length reply) (take (length out - w) (drop w out))
      → put_mid w (length out - w) out ys ≡ (take w out ++ reply) ++ drop (w + length reply) out
  put_front ys y =
      let n = length-drop w out in
      ap (λ (z : List ℕ). take w out ++ (z ++ drop (length out - w) (drop w out))) y
      ∙ ap (λ (z : List ℕ). take w out ++ ((reply ++ drop (length reply) z) ++ drop (length out - w) (drop w out))) (take_rest out w)
      ∙ ap (λ (z : List ℕ). take w out ++ ((reply ++ drop (length reply) (drop w out)) ++ z)) (drop_all (length out - w) (drop w out) (omega arith))
      ∙ ap (λ (z : List ℕ). take w out ++ z) (append-nil (reply ++ drop (length reply) (drop w out)))
      ∙ ap (λ (z : List ℕ). take w out ++ (reply ++ z)) (drop-drop (length reply) w out)
      ∙ sym (append_assoc (take w out) reply (drop (w + length reply) out))

  front_length : length (take w out ++ reply) ≡ w + length reply
  front_length = let a = length-append (take w out) reply in let b = length-take-le w out (omega arith) in omega arith

  module _ (ys : List ℕ) (y : ys ≡ reply ++ drop (length reply) (take (length out - w) (drop w out))) where
    pub written_front : take (w + length reply) (put_mid w (length out - w) out ys) ≡ take w out ++ reply
    written_front = ap (take (w + length reply)) (put_front ys y) ∙ take_at (take w out ++ reply) (drop (w + length reply) out) (w + length reply) front_length

    pub written_back : drop (w + length reply) (put_mid w (length out - w) out ys) ≡ drop (w + length reply) out
    written_back = ap (drop (w + length reply)) (put_front ys y) ∙ drop_at (take w out ++ reply) (drop (w + length reply) out) (w + length reply) front_length

    pub written_length : length (put_mid w (length out - w) out ys) ≡ length out
    written_length =
        ap length (put_front ys y)
        ∙ (let a = length-append (take w out ++ reply) (drop (w + length reply) out) in let b = length-drop (w + length reply) out in let c = front_length in omega arith)

module _ (s₀ : Session) (m₀ : Supplied) (input out₀ : List ℕ) where
  -- Before the first line.
  pub starts : SoFar s₀ m₀ input out₀ s₀ m₀ out₀ 0 0
  starts = record {
    in_input = omega arith;
    in_output = omega arith;
    output_length = refl;
    beyond = refl;
    rooms = refl;
    memory = nothing_changed_for (phase_of s₀ m₀) m₀;
    events = [];
    ran = then_none _ ∙ ap (λ (n : ℕ). run (rooms_of m₀) n (phase_of s₀ m₀) (lines input)) (sub-zero (length out₀));
    laws = λ g d. (d, session_laws (phase_of s₀ m₀) g d);
  }

  -- One more line.
  pub goes_on : (s : Session) (m : Supplied) (out : List ℕ) (t w : ℕ) → SoFar s₀ m₀ input out₀ s m out t w
      → (left_input part text : List ℕ) (served : Served) (s' : Session) (m' : Supplied) (ys : List ℕ)
      → left_input ≡ drop t input → part ≡ take (length out - w) (drop w out)
      → LineAnswered s m left_input part text served s' m' ys
      → SoFar s₀ m₀ input out₀ s' m' (put_mid w (length out - w) out ys) (t + served.taken) (w + served.written)
  goes_on s m out t w z left_input part text served s' m' ys left_is lent d₀ =
      let d = subst (λ (q : List ℕ). LineAnswered s m q part text served s' m' ys) left_is d₀ in
      let a = answered (rooms_of m) (phase_of s m) text in
      let reply = encoded_line a.reply in
      let part_is : part ≡ drop w out = lent ∙ take_rest out w in
      let room : 15 ≤ length out - w = omega (arith, d.room, ap length part_is, length-drop w out) in
      let fits : w + length reply ≤ length out = omega (arith, d.few, d.written, z.in_output) in
      let y : ys ≡ reply ++ drop (length reply) (take (length out - w) (drop w out)) = d.output ∙ ap (λ (n : ℕ). reply ++ drop n part) d.written ∙ ap (λ (p : List ℕ). reply ++ drop (length reply) p) lent in
      let out' = put_mid w (length out - w) out ys in
      let len = written_length out reply w fits ys y in
      let l : TextLine = record { text = text; size = served.taken } in
      let rest : lines (drop t input) ≡ l ∷ lines (drop (t + served.taken) input) =
      d.line ∙ ap (λ (q : List ℕ). l ∷ lines q) (drop-drop served.taken t input) in
      let left : length out' - (w + length reply) ≡ length out - w - length reply = omega arith in
      let next : phase_of s' m' ≡ a.next = d.leaves.state in
      let R = λ (n : ℕ) (p : Phase). run (rooms_of m₀) n p (lines (drop (t + served.taken) input)) in
      let same : answered (rooms_of m₀) (phase_of s m) text ≡ a = ap (λ (r : Rooms). answered r (phase_of s m) text) (sym z.rooms) in
      let ran : then_run (t + served.taken) (z.events ++ (a.event ∷ [])) (take (w + length reply) out') (R (length out' - (w + length reply)) (phase_of s' m'))
      ≡ run (rooms_of m₀) (length out₀) (phase_of s₀ m₀) (lines input) =
      ap (λ (q : List ℕ). then_run (t + served.taken) (z.events ++ (a.event ∷ [])) q (R (length out' - (w + length reply)) (phase_of s' m'))) (written_front out reply w fits ys y)
      ∙ ap (λ (n : ℕ). then_run (t + served.taken) (z.events ++ (a.event ∷ [])) (take w out ++ reply) (R n (phase_of s' m'))) left
      ∙ ap (λ (p : Phase). then_run (t + served.taken) (z.events ++ (a.event ∷ [])) (take w out ++ reply) (R (length out - w - length reply) p)) next
      ∙ sym (then_then t served.taken z.events (a.event ∷ []) (take w out) reply (R (length out - w - length reply) a.next))
      ∙ ap (λ (b : Answer). then_run t z.events (take w out) (then_run served.taken (b.event ∷ []) (encoded_line b.reply) (R (length out - w - length (encoded_line b.reply)) b.next))) (sym same)
      ∙ ap (then_run t z.events (take w out)) (sym (run_line (rooms_of m₀) (length out - w) (phase_of s m) l (lines (drop (t + served.taken) input)) room))
      ∙ ap (λ (ls : List TextLine). then_run t z.events (take w out) (run (rooms_of m₀) (length out - w) (phase_of s m) ls)) (sym rest)
      ∙ z.ran in
      let at : ℕ → Type 0 = λ n. SoFar s₀ m₀ input out₀ s' m' out' (t + served.taken) (w + n) in
      subst at (sym d.written) (record {
        in_input = omega (arith, d.taken.1, length-drop t input, z.in_input);
        in_output = omega arith;
        output_length = len ∙ z.output_length;
        beyond = written_back out reply w fits ys y ∙ sym (drop-drop (length reply) w out) ∙ ap (drop (length reply)) z.beyond ∙ drop-drop (length reply) w out₀;
        rooms = rooms_kept a.next m m' d.leaves.memory ∙ z.rooms;
        memory = subst (λ (p : Phase). ChangedFor p m₀ m') (sym next) (changed_on (phase_of s m) a.next m₀ m m' (needs_grow (rooms_of m) (phase_of s m) text) z.memory d.leaves.memory);
        events = z.events ++ (a.event ∷ []);
        ran = ran;
        laws = keeps_both (phase_of s₀ m₀) (phase_of s m) (phase_of s' m') z.events (a.event ∷ []) z.laws
            (subst (λ (p : Phase). KeepsSessionLaws (phase_of s m) (a.event ∷ []) p) (sym next) d.leaves.laws);
      })

  -- What the call owes at its end.
  pub record Ended (s' : Session) (m' : Supplied) (out' : List ℕ) (served : Served) : Type 0 where
    pub reply : RanTo (run (rooms_of m₀) (length out₀) (phase_of s₀ m₀) (lines input)) (phase_of s' m') served input out₀ out'
    pub memory : ChangedFor (phase_of s' m') m₀ m'
    pub laws : KeepsSessionLaws (phase_of s₀ m₀) (run (rooms_of m₀) (length out₀) (phase_of s₀ m₀) (lines input)).events (phase_of s' m')

  -- Where no more is done.
  stops_here : (s : Session) (m : Supplied) (out : List ℕ) (t w : ℕ) (z : SoFar s₀ m₀ input out₀ s m out t w)
      → run (rooms_of m) (length out - w) (phase_of s m) (lines (drop t input)) ≡ stopped (phase_of s m) (lines (drop t input))
      → Ended s m out (record { taken = t; written = w })
  stops_here s m out t w z e =
      let R = run (rooms_of m₀) (length out₀) (phase_of s₀ m₀) (lines input) in
      let is : then_run t z.events (take w out) (stopped (phase_of s m) (lines (drop t input))) ≡ R =
      ap (then_run t z.events (take w out)) (sym e ∙ ap (λ (r : Rooms). run r (length out - w) (phase_of s m) (lines (drop t input))) z.rooms) ∙ z.ran in
      let events : z.events ≡ R.events = sym (append-nil z.events) ∙ ap (λ (r : Run). r.events) is in
      let written : take w out ≡ R.written = sym (append-nil (take w out)) ∙ ap (λ (r : Run). r.written) is in
      record {
        reply = record {
          phase = ap (λ (r : Run). r.phase) is;
          taken = sym (add-zero t) ∙ ap (λ (r : Run). r.taken) is;
          rest = ap (λ (r : Run). r.rest) is;
          written = written;
          count = sym (length-take-le w out z.in_output) ∙ ap length written;
          beyond = z.beyond;
          in_input = z.in_input;
          in_output = omega (arith, z.in_output, z.output_length);
        };
        memory = z.memory;
        laws = subst (λ (es : List Event). KeepsSessionLaws (phase_of s₀ m₀) es (phase_of s m)) events z.laws;
      }

  pub ended : (s : Session) (m : Supplied) (out : List ℕ) (t w : ℕ) → SoFar s₀ m₀ input out₀ s m out t w
      → (left_input part : List ℕ) (s' : Session) (m' : Supplied) (ys : List ℕ)
      → left_input ≡ drop t input → part ≡ take (length out - w) (drop w out)
      → NothingDone s m left_input part s' m' ys
      → Ended s' m' (put_mid w (length out - w) out ys) (record { taken = t; written = w })
  ended s m out t w z left_input part s' m' ys left_is lent d₀ =
      let d = subst (λ (q : List ℕ). NothingDone s m q part s' m' ys) left_is d₀ in
      let size : length part ≡ length out - w = ap length (lent ∙ take_rest out w) ∙ length-drop w out in
      let same : put_mid w (length out - w) out ys ≡ out = ap (put_mid w (length out - w) out) (d.output ∙ lent) ∙ put_same w (length out - w) out in
      let here = stops_here s m out t w z (ap (λ (n : ℕ). run (rooms_of m) n (phase_of s m) (lines (drop t input))) (sym size) ∙ d.stops) in
      let E : Session → Supplied → List ℕ → Type 0 = λ u n o. Ended u n o (record { taken = t; written = w }) in
      subst (λ (o : List ℕ). E s' m' o) (sym same) (subst (λ (n : Supplied). E s' n out) (sym d.memory) (subst (λ (u : Session). E u m out) (sym d.session) here))

-- Without room, or without a line, a run stops.
pub run_full : (rooms : Rooms) (room : ℕ) (p : Phase) (ls : List TextLine) → room < reply_room → run rooms room p ls ≡ stopped p ls
run_full rooms room p [] h = refl
run_full rooms room p (l ∷ ls) h = cond-true (ltb room reply_room) _ _ (lt-ltb room reply_room h)
