-- What an action leaves to the other bays of its class: their claims, and the cells that they read.
use Rattle.std.proofs.Common.{◌≡◌, ℕ, ◌+◌, ◌<◌, ◌≤◌, Bool, true, false, not, ◌&&◌, eqb, ltb, List, Some, None, Option, sym, refl, ◌∙◌, arith}
use Rattle.std.proofs.lemmas.Bool.{or_right, or_parts}
use Rattle.sets.specs.Members.{overlap}
use Rattle.sets.proofs.Overlap.{overlap_at}
use Rattle.laws.specs.Setting.{Setting}
use Rattle.laws.specs.State.{Cell, newest_value, value_at, Pending, find, Class, ended, updating, reading, running}
use Rattle.laws.specs.Calls.{Action, commit, by, done}
use Rattle.laws.specs.Clock.{writing_number}
use Rattle.laws.specs.Actions.{Outcome, stored_item, after_commit, below_floor, invalid}
use Rattle.laws.specs.History.{History}
use Rattle.laws.specs.Transactions.{event, Transaction, Committed, one_more}
use Rattle.laws.proofs.Tests.{true_not_false}
use Rattle.laws.proofs.Courses.{Course, is_refused, is_denied, began_update, began_long, read_long, read_pending, read_newest, read_lower, wrote_item, failed, learned_late, freed, gave_up, committed_long, committed_update}
use Rattle.laws.proofs.Cells.{head, Falls, store_before}
use Rattle.laws.proofs.JobReads.{Undisturbed, UpdateRead, Sound}

pub left_in : (q r : Bool) → q ≡ false → (not q && r) ≡ r
left_in q r e = rw e

module _ {V : Type 0} (S : Setting V) (t : ℕ) (cells_of : ℕ → ℕ → Cell V) (c : ℕ) (k : Class V) (b : ℕ) where
  -- An action commits nothing and leaves floor and cells, or it commits a long job or an update job.
  pub data Effect (a : Action V) (o : Outcome V) : Type 0 where
    quiet : o.next.floor ≡ k.floor → o.next.cells ≡ k.cells
        → ((h : History V) (js : List (Committed V)) → one_more S h (event (by c b a) o.reply) js ≡ js) → Effect a o
    long_commit : (r : ℕ) → k.bays b ≡ running (reading r) → a ≡ commit → o ≡ record { reply = done; next = ended k b } → Effect a o
    update_commit : (down : Option ℕ) (p : List (Pending V)) → k.bays b ≡ running (updating down p)
        → below_floor k.floor down ≡ false → invalid k.claims b ≡ false → a ≡ commit
        → o ≡ record { reply = done; next = after_commit (S.items c) (writing_number S t c) k b down p } → Effect a o

  pub effect : (a : Action V) (o : Outcome V) → Course S t cells_of c k b a o → Effect a o
  effect a o (is_refused n h e) = quiet (rw e) (rw e) (λ x y. rw e)
  effect a o (is_denied b' e) = quiet (rw e) (rw e) (λ x y. rw e)
  effect a o (began_update q e y f g) = quiet (rw g) (rw g) (λ x y. rw (g, f))
  effect a o (began_long q e y f g) = quiet (rw g) (rw g) (λ x y. rw (g, f))
  effect a o (read_long r d i e h f g) = quiet (rw g) (rw g) (λ x y. rw (g, f))
  effect a o (read_pending dn p i v e h f g) = quiet (rw g) (rw g) (λ x y. rw (g, f))
  effect a o (read_newest dn p i e h q f g) = quiet (rw g) (rw g) (λ x y. rw (g, f))
  effect a o (read_lower dn p d i e n h f g) = quiet (rw g) (rw g) (λ x y. rw (g, f))
  effect a o (wrote_item dn p i v e h f g) = quiet (rw g) (rw g) (λ x y. rw (g, f))
  effect a o (failed n y h e f g) = quiet (rw g) (rw g) (λ x y. rw g)
  effect a o (learned_late e f g) = quiet (rw g) (rw g) (λ x y. rw g)
  effect a o (freed e f g) = quiet (rw g) (rw g) (λ x y. rw (g, f))
  effect a o (gave_up y e f g) = quiet (rw g) (rw g) (λ x y. rw (g, f))
  effect a o (committed_long r e f g) = long_commit r e f g
  effect a o (committed_update dn p e h q f g) = update_commit dn p e h q f g

  -- Reads at a number up to two below the writing number are calm: the action does not change them.
  pub calm_cell : (a : Action V) (o : Outcome V) → Course S t cells_of c k b a o → (i n : ℕ) → Falls (k.cells i) → head (k.cells i) ≤ writing_number S t c
      → n < writing_number S t c → writing_number S t c ≤ n + 2 → value_at n (o.next.cells i) ≡ value_at n (k.cells i)
  calm_cell a o x i n f h l l' = go (effect a o x)
    where
      stores : (v : Option V) (w : ℕ) → head (k.cells i) ≤ w → n < w → w ≤ n + 2
          → (p : List (Pending V)) → find i p ≡ v → (dn : Option ℕ) → value_at n ((after_commit (S.items c) w k b dn p).cells i) ≡ value_at n (k.cells i)
      stores v w h l l' p e dn = go v (ltb i (S.items c)) e refl
        where
          go : (v : Option V) (q : Bool) → find i p ≡ v → ltb i (S.items c) ≡ q → value_at n ((after_commit (S.items c) w k b dn p).cells i) ≡ value_at n (k.cells i)
          go v false e g = rw g
          go None true e g = rw (g, e)
          go (Some v) true e g = rw (g, e) (store_before w n v (k.cells i) f h l l')

      go : Effect a o → value_at n (o.next.cells i) ≡ value_at n (k.cells i)
      go (quiet fl ce js) = rw ce
      go (long_commit r e f g) = rw g
      go (update_commit dn p e b q f g) = rw g (stores (find i p) _ h l l' p refl dn)

  -- What the outcome leaves to another bay.
  abbrev pub Leaves : Outcome V → ℕ → Type 0
  Leaves o b' = Undisturbed b' k.claims o.next.claims k.cells o.next.cells

  same_claims : (o : Outcome V) (b' : ℕ) → o.next.claims ≡ k.claims → o.next.cells ≡ k.cells → Leaves o b'
  same_claims o b' e f = record { stale = λ x. rw (← e) x; reads = λ i x. rw e x; writes = λ i x. rw e x; newest = λ x i y. rw f }

  freed_claims : (o : Outcome V) (b' : ℕ) → eqb b b' ≡ false → o.next ≡ ended k b → Leaves o b'
  freed_claims o b' x e = record {
    stale = λ y. sym (left_in (eqb b b') _ x) ∙ (rw e at y);
    reads = λ i y. rw e (left_in (eqb b b') _ x ∙ y);
    writes = λ i y. rw e (left_in (eqb b b') _ x ∙ y);
    newest = λ y i z. rw e;
  }

  settled_rivals : (dn : Option ℕ) (p : List (Pending V)) → ((i : ℕ) (v : V) → find i p ≡ Some v → (k.claims.writes b i ≡ true) × (i < S.items c))
      → S.items c ≤ 64 → (b' : ℕ) → eqb b b' ≡ false → (w : ℕ) → Leaves (record { reply = done; next = after_commit (S.items c) w k b dn p }) b'
  settled_rivals dn p cl few b' x w = record {
    stale = λ y. (or_parts (k.claims.stale b') _ (sym (left_in (eqb b b') _ x) ∙ y)).0;
    reads = λ i y. left_in (eqb b b') _ x ∙ y;
    writes = λ i y. left_in (eqb b b') _ x ∙ y;
    newest = λ y i z. go i z (or_parts (k.claims.stale b') _ (sym (left_in (eqb b b') _ x) ∙ y)).1 (ltb i (S.items c)) refl (find i p) refl;
  }
    where
      go : (i : ℕ) → k.claims.reads b' i ≡ true → overlap (k.claims.writes b) (k.claims.reads b') ≡ false
          → (q : Bool) → ltb i (S.items c) ≡ q → (v : Option V) → find i p ≡ v → newest_value (stored_item (ltb i (S.items c)) (find i p) w (k.cells i)) ≡ newest_value (k.cells i)
      go i z y true f None e = rw (f, e)
      go i z y false f None e = rw f
      go i z y q f (Some v) e =
          true_not_false (sym (overlap_at (k.claims.writes b) (k.claims.reads b') i (omega (arith, (cl i v e).1)) (cl i v e).0 z) ∙ y)

  pub undisturbed : S.items c ≤ 64 → (a : Action V) (o : Outcome V) (j : Transaction V) → Sound S cells_of k.claims c b (k.bays b) j → Course S t cells_of c k b a o
      → (b' : ℕ) → eqb b b' ≡ false → Leaves o b'
  undisturbed few a o j s (is_refused n h e) b' x = same_claims o b' (rw e) (rw e)
  undisturbed few a o j s (is_denied b'' e) b' x = same_claims o b' (rw e) (rw e)
  undisturbed few a o j s (began_update q e y f g) b' x = same_claims o b' (rw g) (rw g)
  undisturbed few a o j s (began_long q e y f g) b' x = same_claims o b' (rw g) (rw g)
  undisturbed few a o j s (read_long r d i e h f g) b' x = same_claims o b' (rw g) (rw g)
  undisturbed few a o j s (read_pending dn p i v e h f g) b' x = same_claims o b' (rw g) (rw g)
  undisturbed few a o j s (read_newest dn p i e h q f g) b' x = rw g (record { stale = λ y. y; reads = λ i y. or_right _ _ y; writes = λ i y. y; newest = λ y i z. refl })
  undisturbed few a o j s (read_lower dn p d i e n h f g) b' x = same_claims o b' (rw g) (rw g)
  undisturbed few a o j s (wrote_item dn p i v e h f g) b' x = rw g (record { stale = λ y. y; reads = λ i y. y; writes = λ i y. or_right _ _ y; newest = λ y i z. refl })
  undisturbed few a o j s (failed n y h e f g) b' x = freed_claims o b' x (rw g)
  undisturbed few a o j s (learned_late e f g) b' x = same_claims o b' (rw g) (rw g)
  undisturbed few a o j s (freed e f g) b' x = same_claims o b' (rw g) (rw g)
  undisturbed few a o j s (gave_up y e f g) b' x = freed_claims o b' x (rw g)
  undisturbed few a o j s (committed_long r e f g) b' x = freed_claims o b' x (rw g)
  undisturbed few a o j s (committed_update dn p e h q f g) b' x =
      let u : UpdateRead S cells_of k.claims c b dn p j = rw e at s in
      rw g (settled_rivals dn p u.claims few b' x _)
