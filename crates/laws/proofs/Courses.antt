-- The courses that an action can take: a proof about a step goes by these cases and not by the tests in the definition.
use Rattle.std.proofs.Common.{◌≡◌, ℕ, ◌<◌, Bool, true, false, not, eqb, ltb, List, Some, None, Option, refl, arith}
use Rattle.std.proofs.lemmas.Bool.{ltb-true, eqb-true, eqb-false, not-false, cond_both}
use Rattle.laws.specs.Setting.{Setting, dominates}
use Rattle.laws.specs.State.{Cell, Pending, find, Kind, Job, Bay, Class, with_bay, ended, update, long, updating, reading, free, closed, running}
use Rattle.laws.specs.Calls.{Action, bay_not_free, bay_free, bay_closed, not_dominated, no_such_item, only_reads, no_value, too_many_pending, overtaken, stale_job, begin, read, write, commit, give_up, done, got, denied}
use Rattle.laws.specs.Clock.{writing_number, down_number}
use Rattle.laws.specs.Actions.{Outcome, answer, refuse, claimed, after_commit, below_floor, invalid, kind_of, no_room, hidden, new_job, begins_in, reads_long, reads_below, reads_newest, reads_own, reads_by, reads_in, writes_pending, writes_value, writes_by, writes_in, commits_by, commits_in, gives_up_in, perform}

module _ {V : Type 0} (S : Setting V) (t : ℕ) (cells_of : ℕ → ℕ → Cell V) (c : ℕ) (k : Class V) (b : ℕ) where
  pub data Course (a : Action V) (o : Outcome V) : Type 0 where
    is_refused : (n : ℕ) → (n ≡ bay_closed → k.bays b ≡ closed) → o ≡ refuse n k → Course a o
    is_denied : (b' : ℕ) → o ≡ answer (denied b') k → Course a o
    began_update : (q : ℕ) → k.bays b ≡ free → kind_of q ≡ update → a ≡ begin q
        → o ≡ answer done (with_bay k b (running (new_job S t c update))) → Course a o
    began_long : (q : ℕ) → k.bays b ≡ free → kind_of q ≡ long → a ≡ begin q
        → o ≡ answer done (with_bay k b (running (new_job S t c long))) → Course a o
    read_long : (r d i : ℕ) → k.bays b ≡ running (reading r) → dominates S c d ≡ true → a ≡ read d i
        → o ≡ reads_long S t cells_of c k b r d i → Course a o
    read_pending : (down : Option ℕ) (p : List (Pending V)) (i : ℕ) (v : V) → k.bays b ≡ running (updating down p) → find i p ≡ Some v → a ≡ read c i
        → o ≡ answer (got v) k → Course a o
    read_newest : (down : Option ℕ) (p : List (Pending V)) (i : ℕ) → k.bays b ≡ running (updating down p) → find i p ≡ None → i < S.items c → a ≡ read c i
        → o ≡ reads_newest S t cells_of c k b i → Course a o
    read_lower : (down : Option ℕ) (p : List (Pending V)) (d i : ℕ) → k.bays b ≡ running (updating down p) → ¬ (c ≡ d) → dominates S c d ≡ true → a ≡ read d i
        → o ≡ reads_below S t cells_of c k b (down_number S t c down) d i p → Course a o
    wrote_item : (down : Option ℕ) (p : List (Pending V)) (i : ℕ) (v : V) → k.bays b ≡ running (updating down p) → i < S.items c → a ≡ write i (Some v)
        → o ≡ writes_pending S t cells_of c k b down p i v → Course a o
    failed : (n : ℕ) (j : Job V) → ¬ (n ≡ bay_closed) → k.bays b ≡ running j → a ≡ commit → o ≡ refuse n (ended k b) → Course a o
    learned_late : k.bays b ≡ closed → a ≡ commit → o ≡ refuse bay_closed (with_bay k b free) → Course a o
    freed : k.bays b ≡ closed → a ≡ give_up → o ≡ answer done (with_bay k b free) → Course a o
    gave_up : (j : Job V) → k.bays b ≡ running j → a ≡ give_up → o ≡ answer done (ended k b) → Course a o
    committed_long : (r : ℕ) → k.bays b ≡ running (reading r) → a ≡ commit → o ≡ answer done (ended k b) → Course a o
    committed_update : (down : Option ℕ) (p : List (Pending V)) → k.bays b ≡ running (updating down p)
        → below_floor k.floor down ≡ false → invalid k.claims b ≡ false → a ≡ commit
        → o ≡ answer done (after_commit (S.items c) (writing_number S t c) k b down p) → Course a o

  does_begin : (q : ℕ) (x : Kind) → kind_of q ≡ x → (y : Bay V) → k.bays b ≡ y → Course (begin q) (begins_in S t cells_of c k b x y)
  does_begin q update f free e = began_update q e f refl refl
  does_begin q long f free e = began_long q e f refl refl
  does_begin q x f closed e = is_refused bay_not_free (λ z. absurd (omega arith)) refl
  does_begin q x f (running j) e = is_refused bay_not_free (λ z. absurd (omega arith)) refl

  does_own : (down : Option ℕ) (p : List (Pending V)) (i : ℕ) → k.bays b ≡ running (updating down p) → i < S.items c
      → (x : Option V) → find i p ≡ x → Course (read c i) (reads_own S t cells_of c k b i x)
  does_own down p i e h (Some v) f = read_pending down p i v e f refl refl
  does_own down p i e h None f = go (S.reading k.claims b i)
    where
      go : (x : Option ℕ) → Course (read c i) (claimed x (reads_newest S t cells_of c k b i) k)
      go None = read_newest down p i e f h refl refl
      go (Some b') = is_denied b' refl

  does_read_by : (j : Job V) (d i : ℕ) → k.bays b ≡ running j → dominates S c d ≡ true → i < S.items d → Course (read d i) (reads_by S t cells_of c k b j d i)
  does_read_by (reading r) d i e h l = read_long r d i e h refl refl
  does_read_by (updating down p) d i e h l = go (eqb c d) refl
    where
      go : (q : Bool) → eqb c d ≡ q → Course (read d i) (reads_by S t cells_of c k b (updating down p) d i)
      go false f = rw f (read_lower down p d i e (eqb-false c d f) h refl refl)
      go true f = rw (f, ← (eqb-true c d f)) (does_own down p i e (rw (eqb-true c d f) l) (find i p) refl)

  does_read : (d i : ℕ) (x : Bay V) → k.bays b ≡ x → Course (read d i) (reads_in S t cells_of c k b d i x)
  does_read d i free e = is_refused bay_free (λ z. absurd (omega arith)) refl
  does_read d i closed e = is_refused bay_closed (λ z. e) refl
  does_read d i (running j) e =
      cond_both (hidden S c d) _ _ (Course (read d i)) (λ f. is_refused not_dominated (λ z. absurd (omega arith)) refl)
      (λ f. cond_both (not (ltb i (S.items d))) _ _ (Course (read d i)) (λ g. is_refused no_such_item (λ z. absurd (omega arith)) refl)
      (λ g. does_read_by j d i e (not-false _ f) (ltb-true _ _ (not-false _ g))))

  does_write_value : (down : Option ℕ) (p : List (Pending V)) (i : ℕ) (v : Option V) → k.bays b ≡ running (updating down p) → i < S.items c
      → Course (write i v) (writes_value S t cells_of c k b down p i v)
  does_write_value down p i None e h = is_refused no_value (λ z. absurd (omega arith)) refl
  does_write_value down p i (Some v) e h =
      cond_both (no_room i p) _ _ (Course (write i (Some v))) (λ f. is_refused too_many_pending (λ z. absurd (omega arith)) refl)
      (λ f. go (S.writing k.claims b i))
    where
      go : (x : Option ℕ) → Course (write i (Some v)) (claimed x (writes_pending S t cells_of c k b down p i v) k)
      go None = wrote_item down p i v e h refl refl
      go (Some b') = is_denied b' refl

  does_write_by : (j : Job V) (i : ℕ) (v : Option V) → k.bays b ≡ running j → Course (write i v) (writes_by S t cells_of c k b j i v)
  does_write_by (reading r) i v e = is_refused only_reads (λ z. absurd (omega arith)) refl
  does_write_by (updating down p) i v e =
      cond_both (not (ltb i (S.items c))) _ _ (Course (write i v)) (λ f. is_refused no_such_item (λ z. absurd (omega arith)) refl)
      (λ f. does_write_value down p i v e (ltb-true _ _ (not-false _ f)))

  does_write : (i : ℕ) (v : Option V) (x : Bay V) → k.bays b ≡ x → Course (write i v) (writes_in S t cells_of c k b i v x)
  does_write i v free e = is_refused bay_free (λ z. absurd (omega arith)) refl
  does_write i v closed e = is_refused bay_closed (λ z. e) refl
  does_write i v (running j) e = does_write_by j i v e

  does_commit_by : (j : Job V) → k.bays b ≡ running j → Course commit (commits_by S t cells_of c k b j)
  does_commit_by (reading r) e = committed_long r e refl refl
  does_commit_by (updating down p) e =
      cond_both (below_floor k.floor down) _ _ (Course commit) (λ f. failed overtaken (updating down p) (λ z. omega arith) e refl refl)
      (λ f. cond_both (invalid k.claims b) _ _ (Course commit) (λ g. failed stale_job (updating down p) (λ z. omega arith) e refl refl)
      (λ g. committed_update down p e f g refl refl))

  does_commit : (x : Bay V) → k.bays b ≡ x → Course commit (commits_in S t cells_of c k b x)
  does_commit free e = is_refused bay_free (λ z. absurd (omega arith)) refl
  does_commit closed e = learned_late e refl refl
  does_commit (running j) e = does_commit_by j e

  does_give_up : (x : Bay V) → k.bays b ≡ x → Course give_up (gives_up_in S t cells_of c k b x)
  does_give_up free e = is_refused bay_free (λ z. absurd (omega arith)) refl
  does_give_up closed e = freed e refl refl
  does_give_up (running j) e = gave_up j e refl refl

  pub course : (a : Action V) → Course a (perform S t cells_of c k b a)
  course (begin q) = does_begin q (kind_of q) refl (k.bays b) refl
  course (read d i) = does_read d i (k.bays b) refl
  course (write i v) = does_write i v (k.bays b) refl
  course commit = does_commit (k.bays b) refl
  course give_up = does_give_up (k.bays b) refl
