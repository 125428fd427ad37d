-- One more committed job takes its place among the others, and the cells still hold what the committed jobs wrote.
use Rattle.std.proofs.Common.{◌≡◌, ℕ, ◌+◌, ◌<◌, ◌≤◌, Bool, true, false, cond, eqb, leb, List, [], ◌∷◌, ◌++◌, Some, None, filter, Option, sym, refl, ap, ◌∙◌, subst, arith}
use mathlib.Core.Path.{fun_ext}
use Rattle.std.specs.List.{AllByRecursion}
use Rattle.std.proofs.lemmas.Bool.{leb-true, leb-false, eqb-true, eqb-false, and_left, and_right}
use Rattle.std.proofs.lemmas.List.Elements.{filter-append}
use Rattle.std.proofs.ByRecursion.{All-weaker, all_kept_by}
use Rattle.laws.specs.Setting.{Setting, dominates, Lawful}
use Rattle.laws.specs.State.{or_else, Cell, newest_value, value_at, Kind, update, long}
use Rattle.laws.specs.Actions.{stored_pending}
use Rattle.laws.specs.Transactions.{Time, Committed, down_since, floor_of}
use Rattle.laws.specs.OneCopy.{grade_of, wrote_under, base, long_number, precedes, insert, placed, Copy, after_operations, ReadsOfJob, after_jobs, ReadsOfCopy, start_copy}
use Rattle.laws.proofs.Tests.{true_not_false, of_not, eqb_same}
use Rattle.laws.proofs.Dominance.{inside, lower}
use Rattle.laws.proofs.ClockLaws.{declared_falls, declared_near}
use Rattle.laws.proofs.Bays.{written}
use Rattle.laws.proofs.Cells.{head, Falls, stored_falls, stored_head, stored_newest, stored_past, stored_before}
use Rattle.laws.proofs.Copies.{all_both, all_left, all_right, kept_by_none, append_nil, after_own, after_other, after_none, jobs_same, jobs_append, Quiet, jobs_quiet, jobs_keep, reads_append, reads_left, reads_right, Blind, blind_jobs}
use Rattle.laws.proofs.Order.{Split, split, all_insert, ordered_insert}
use Rattle.laws.proofs.Places.{declared_at, WellPlaced, well_placed_later, CommitsNow, own_first, readers_first, below_before, below_after, long_before, long_after_below, long_after_own}
use Rattle.laws.proofs.Serial.{wrote_by, view, Serial, quiet_other, quiet_long, quiet_wrote_by, InView, in_view, blind_of}

module _ {V : Type 0} (S : Setting V) (L : Lawful S) (t : ℕ) (floor : ℕ → ℕ) (cells_of : ℕ → ℕ → Cell V) (js : List (Committed V)) (B : Serial S t floor cells_of js) (j : Committed V) where
  parts : Split S j (placed S js)
  parts = split S j (placed S js) B.ordered

  abbrev Placed : Committed V → Type 0
  Placed x = WellPlaced S t (floor_of S x.class js) x

  abbrev pre : List (Committed V)
  pre = parts.pre

  abbrev post : List (Committed V)
  post = parts.post

  abbrev m₁ : Copy V
  m₁ = after_jobs (start_copy S) pre

  placed_pre : AllByRecursion Placed pre
  placed_pre = all_left Placed pre post (rw parts.whole at B.well_placed)

  placed_post : AllByRecursion Placed post
  placed_post = all_right Placed pre post (rw parts.whole at B.well_placed)

  -- What j finds in the copy at class d, where it stands behind just what was written there under a or less.
  copy_at : (d a i : ℕ)
      → ((x : Committed V) → Placed x → InView S d a x → precedes S j x ≡ false)
      → ((x : Committed V) → Placed x → x.class ≡ d → x.job.kind ≡ update → a < wrote_under S x → precedes S j x ≡ true)
      → view S d a (placed S js) i ≡ m₁ d i
  copy_at d a i bef aft =
      ap (λ (xs : List (Committed V)). view S d a xs i) parts.whole
      ∙ ap (λ (xs : List (Committed V)). after_jobs (start_copy S) xs d i)
      (filter-append p pre post ∙ ap {B = List (Committed V)} (λ (xs : List (Committed V)). filter p pre ++ xs) none_post ∙ append_nil (filter p pre))
      ∙ jobs_keep (start_copy S) p pre d i quiet_pre
    where
      p : Committed V → Bool
      p = wrote_by S d a

      none_post : filter p post ≡ []
      none_post =
          kept_by_none p post (all_both Placed (λ x. precedes S j x ≡ true) (λ x. p x ≡ false)
          (λ x h r. of_not (p x) (λ e. true_not_false (sym r ∙ bef x h (in_view S d a x e)))) post placed_post parts.right)

      quiet_pre : AllByRecursion (λ x. p x ≡ false → Quiet d x) pre
      quiet_pre =
          all_both Placed (λ x. precedes S j x ≡ false) (λ x. p x ≡ false → Quiet d x)
          (λ x h l e. quiet_wrote_by S t _ d a x h e (λ c u w. true_not_false (sym (aft x h c u w) ∙ l))) pre placed_pre parts.left

  -- One more update job.
  module _ (n : CommitsNow S t (floor_of S j.class js) j) (g : WellPlaced S t (floor_of S j.class (j ∷ js)) j) where
    same_floor : (x : Committed V) → x.class ≡ j.class → floor_of S x.class js ≤ floor_of S j.class js
    same_floor x e = rw e (omega arith)

    quiet_post : AllByRecursion (Quiet j.class) post
    quiet_post = all_both Placed (λ x. precedes S j x ≡ true) (Quiet j.class) one post placed_post parts.right
      where
        one : (x : Committed V) → Placed x → precedes S j x ≡ true → Quiet j.class x
        one x h r = go x.job.kind (eqb x.class j.class) refl refl
          where
            go : (u : Kind) (q : Bool) → x.job.kind ≡ u → eqb x.class j.class ≡ q → Quiet j.class x
            go long q u e = quiet_long S t _ j.class x h u
            go update false u e = quiet_other S t _ j.class x h (eqb-false _ _ e)
            go update true u e = true_not_false (sym r ∙ own_first S L t _ _ j x n h (same_floor x (eqb-true _ _ e)) (eqb-true _ _ e) u)

    blind_post : AllByRecursion (λ x. Blind j.class x.job.operations) post
    blind_post =
        all_both Placed (λ x. precedes S j x ≡ true) (λ x. Blind j.class x.job.operations)
        (λ x h r. blind_of S j.class x.class x.job.kind x.job.below x.job.operations h.allowed
        (λ l. true_not_false (sym r ∙ readers_first S L t _ _ j x n h l (same_floor x)))) post placed_post parts.right

    -- What j finds in the copy at its own class,
    own_copy : (i : ℕ) → after_jobs (start_copy S) (placed S js) j.class i ≡ m₁ j.class i
    own_copy i =
        ap (λ (xs : List (Committed V)). after_jobs (start_copy S) xs j.class i) parts.whole
        ∙ ap (λ (m : Copy V). m j.class i) (jobs_append (start_copy S) pre post)
        ∙ jobs_quiet m₁ post j.class i quiet_post

    -- and at a class below.
    below_copy : (d i : ℕ) (q : Time) → S.grade d < grade_of S j → j.job.below ≡ Some q → view S d (base S j) (placed S js) i ≡ m₁ d i
    below_copy d i q h e =
        copy_at d (base S j) i
        (λ x k v. below_before S L t _ t _ j x g k v.kind q n.kind e (rw v.class h) v.under)
        (λ x k c u w. below_after S L t _ t _ j x g k u q n.kind e (rw c h) w)

    -- What j read: the newest version in its own class, and below what was written under its down number or less.
    abbrev pub ReadsRight : Type 0
    ReadsRight =
        (m : Copy V) → ((i : ℕ) → Some (m j.class i) ≡ newest_value (cells_of j.class i))
        → ((d i : ℕ) (q : Time) → ¬ (j.class ≡ d) → dominates S j.class d ≡ true → j.job.below ≡ Some q → Some (m d i) ≡ value_at (base S j) (cells_of d i))
        → ReadsOfJob m j.job.operations

    module _ (rr : ReadsRight) where
      j_right : ReadsOfJob m₁ j.job.operations
      j_right =
          rr m₁ (λ i. ap Some (sym (own_copy i)) ∙ sym (B.newests j.class i n.known))
          (λ d i q ne dom e.
          let lo = lower S L j.class d dom ne in
          let kd = inside S L j.class d dom in
          let nr = declared_near S.top (S.grade d) (grade_of S j) t (omega arith) (L.graded j.class n.known) in
          ap Some (sym (below_copy d i q lo e)) ∙ sym (B.reads d i (base S j) kd (omega (arith, B.heads d i kd, n.least))))

      new_true : ReadsOfCopy (start_copy S) (insert S j (placed S js))
      new_true =
          let old : ReadsOfCopy (start_copy S) (pre ++ post) = rw parts.whole at B.true_reads in
          rw parts.inserted (reads_append (start_copy S) pre (j ∷ post) (reads_left (start_copy S) pre post old) (
            j_right,
            blind_jobs j.class m₁ _ post (λ d i ne. sym (after_other m₁ j.class d i j.job.operations g.own ne)) blind_post
                (reads_right (start_copy S) pre post old),
          ))

    -- The copy at the end.
    end_other : (d i : ℕ) → ¬ (j.class ≡ d) → after_jobs (start_copy S) (insert S j (placed S js)) d i ≡ after_jobs (start_copy S) (placed S js) d i
    end_other d i ne =
        ap (λ (xs : List (Committed V)). after_jobs (start_copy S) xs d i) parts.inserted
        ∙ ap (λ (m : Copy V). m d i) (jobs_append (start_copy S) pre (j ∷ post))
        ∙ jobs_same _ m₁ post d i (after_other m₁ j.class d i j.job.operations g.own ne)
        ∙ sym (ap (λ (m : Copy V). m d i) (jobs_append (start_copy S) pre post))
        ∙ ap (λ (xs : List (Committed V)). after_jobs (start_copy S) xs d i) (sym parts.whole)

    end_own : (i : ℕ) → after_jobs (start_copy S) (insert S j (placed S js)) j.class i
        ≡ or_else (written i j.job.operations) (after_jobs (start_copy S) (placed S js) j.class i)
    end_own i =
        ap (λ (xs : List (Committed V)). after_jobs (start_copy S) xs j.class i) parts.inserted
        ∙ ap (λ (m : Copy V). m j.class i) (jobs_append (start_copy S) pre (j ∷ post))
        ∙ jobs_quiet _ post j.class i quiet_post
        ∙ after_own m₁ j.class i j.job.operations g.own
        ∙ ap (λ (v : V). or_else (written i j.job.operations) v) (sym (own_copy i))

    -- What the views become.
    view_other : (d k i : ℕ) → wrote_by S d k j ≡ false → view S d k (insert S j (placed S js)) i ≡ view S d k (placed S js) i
    view_other d k i e =
        ap (λ (xs : List (Committed V)). view S d k xs i) parts.inserted
        ∙ ap (λ (xs : List (Committed V)). after_jobs (start_copy S) xs d i) (filter-append (wrote_by S d k) pre (j ∷ post) ∙ (rw e refl) ∙ sym (filter-append (wrote_by S d k) pre post))
        ∙ ap (λ (xs : List (Committed V)). view S d k xs i) (sym parts.whole)

    view_own : (k i : ℕ) → wrote_by S j.class k j ≡ true
        → view S j.class k (insert S j (placed S js)) i ≡ or_else (written i j.job.operations) (view S j.class k (placed S js) i)
    view_own k i e =
        ap (λ (xs : List (Committed V)). view S j.class k xs i) parts.inserted
        ∙ ap (λ (xs : List (Committed V)). after_jobs (start_copy S) xs j.class i) (filter-append p pre (j ∷ post) ∙ with_it)
        ∙ ap (λ (m : Copy V). m j.class i) (jobs_append (start_copy S) (filter p pre) (j ∷ filter p post))
        ∙ jobs_quiet _ (filter p post) j.class i quiet
        ∙ after_own m₂ j.class i j.job.operations g.own
        ∙ ap (λ (v : V). or_else (written i j.job.operations) v) (sym back)
      where
        p : Committed V → Bool
        p = wrote_by S j.class k

        with_it : filter p pre ++ filter p (j ∷ post) ≡ filter p pre ++ (j ∷ filter p post)
        with_it = rw e

        m₂ : Copy V
        m₂ = after_jobs (start_copy S) (filter p pre)

        quiet : AllByRecursion (Quiet j.class) (filter p post)
        quiet = all_kept_by p (Quiet j.class) post quiet_post

        back : view S j.class k (placed S js) i ≡ m₂ j.class i
        back =
            ap (λ (xs : List (Committed V)). view S j.class k xs i) parts.whole
            ∙ ap (λ (xs : List (Committed V)). after_jobs (start_copy S) xs j.class i) (filter-append p pre post)
            ∙ ap (λ (m : Copy V). m j.class i) (jobs_append (start_copy S) (filter p pre) (filter p post))
            ∙ jobs_quiet m₂ (filter p post) j.class i quiet

    floor_grows : (d : ℕ) → floor_of S d js ≤ floor_of S d (j ∷ js)
    floor_grows d = go (eqb j.class d) refl
      where
        low : (low : Option Time) → j.job.below ≡ low → floor_of S j.class js ≤ or_else (down_since S j.class update low) (floor_of S j.class js)
        low None e = omega arith
        low (Some q) e = omega (arith, (g.low q n.kind e).base, n.least)

        go : (q : Bool) → eqb j.class d ≡ q → floor_of S d js ≤ floor_of S d (j ∷ js)
        go false e = rw e (omega arith)
        go true e =
            subst (λ (d : ℕ). floor_of S d js ≤ floor_of S d (j ∷ js)) (eqb-true j.class d e) (rw (eqb_same j.class, n.kind) (low j.job.below refl))

    low_again : (d : ℕ) → d < S.classes → (q : Bool) → eqb j.class d ≡ q → floor_of S d (j ∷ js) ≤ declared_at S (S.grade d) t + 1
    low_again d l false e = rw e (B.floor_low d l)
    low_again d l true e = subst (λ (d : ℕ). floor_of S d (j ∷ js) ≤ declared_at S (S.grade d) t + 1) (eqb-true j.class d e) (rw (eqb_same j.class, n.kind) (low j.job.below refl))
      where
        low : (low : Option Time) → j.job.below ≡ low → or_else (down_since S j.class update low) (floor_of S j.class js) ≤ declared_at S (grade_of S j) t + 1
        low None f = B.floor_low j.class n.known
        low (Some q) f = omega (arith, (g.low q n.kind f).base, g.near n.kind, n.under)

    module _ (rr : ReadsRight) (floor' : ℕ → ℕ) (cells_of' : ℕ → ℕ → Cell V)
        (fl : (c : ℕ) → c < S.classes → floor' c ≡ floor_of S c (j ∷ js))
        (own : (i : ℕ) → cells_of' j.class i ≡ stored_pending (written i j.job.operations) (wrote_under S j) (cells_of j.class i))
        (oth : (d i : ℕ) → ¬ (j.class ≡ d) → cells_of' d i ≡ cells_of d i) where
      module _ (i : ℕ) where
        cell_falls : Falls (cells_of j.class i)
        cell_falls = B.falls j.class i n.known

        cell_head : head (cells_of j.class i) ≤ wrote_under S j
        cell_head = omega (arith, B.heads j.class i n.known, n.under)

        own_reads : (k : ℕ) → head (cells_of' j.class i) ≤ k + 2 → (q : Bool) → leb (wrote_under S j) k ≡ q
            → value_at k (cells_of' j.class i) ≡ Some (view S j.class k (insert S j (placed S js)) i)
        own_reads k h true e =
            rw (own i, view_own k i (rw (eqb_same, n.kind) e))
            (stored_past _ _ cell_falls cell_head _ k _ (leb-true _ _ e)
            (B.reads j.class i k n.known (omega (arith, cell_head, leb-true (wrote_under S j) k e))))
        own_reads k h false e =
            let x = stored_before _ _ cell_falls cell_head (written i j.job.operations) k (leb-false _ _ e) (rw (own i) at h) in
            rw (own i, view_other j.class k i (rw (eqb_same, n.kind) e)) (x.1 ∙ B.reads j.class i k n.known x.0)

      pub serial_update : Serial S t floor' cells_of' (j ∷ js)
      serial_update = record {
        floors = fl;
        floor_low = λ c l. low_again c l _ refl;
        falls = λ c i l. b_falls c i l _ refl;
        heads = λ c i l. b_heads c i l _ refl;
        reads = λ c i k l h. b_reads c i k l h _ refl;
        newests = λ c i l. b_newests c i l _ refl;
        well_placed = all_insert S _ j (placed S js) g (All-weaker Placed _ (λ x h. well_placed_later S t t _ _ x (omega arith) (floor_grows x.class) h) (placed S js) B.well_placed);
        ordered = ordered_insert S j (placed S js) B.ordered;
        true_reads = new_true rr;
      }
        where
          b_falls : (c i : ℕ) → c < S.classes → (q : Bool) → eqb j.class c ≡ q → Falls (cells_of' c i)
          b_falls c i l true e = rw (← (eqb-true _ _ e), own i) (stored_falls (wrote_under S j) (cells_of j.class i) (cell_falls i) (cell_head i) (written i j.job.operations))
          b_falls c i l false e = rw (oth c i (eqb-false _ _ e)) (B.falls c i l)

          b_heads : (c i : ℕ) → c < S.classes → (q : Bool) → eqb j.class c ≡ q → head (cells_of' c i) ≤ declared_at S (S.grade c) t + 1
          b_heads c i l true e = rw (← (eqb-true _ _ e), own i, ← n.under) (stored_head (wrote_under S j) (cells_of j.class i) (cell_falls i) (cell_head i) (written i j.job.operations))
          b_heads c i l false e = rw (oth c i (eqb-false _ _ e)) (B.heads c i l)

          b_reads : (c i k : ℕ) → c < S.classes → head (cells_of' c i) ≤ k + 2 → (q : Bool) → eqb j.class c ≡ q
              → value_at k (cells_of' c i) ≡ Some (view S c k (insert S j (placed S js)) i)
          b_reads c i k l h true e = rw (← (eqb-true j.class c e)) (own_reads i k (rw (eqb-true j.class c e) h) _ refl)
          b_reads c i k l h false e =
              rw (oth c i (eqb-false _ _ e), view_other c k i (and_left _ _ e)) (B.reads c i k l (rw (oth c i (eqb-false _ _ e)) at h))

          b_newests : (c i : ℕ) → c < S.classes → (q : Bool) → eqb j.class c ≡ q
              → newest_value (cells_of' c i) ≡ Some (after_jobs (start_copy S) (insert S j (placed S js)) c i)
          b_newests c i l true e =
              rw (← (eqb-true j.class c e), own i, end_own i) (stored_newest (wrote_under S j) (cells_of j.class i) (cell_falls i) (cell_head i) (written i j.job.operations) _ (B.newests j.class i n.known))
          b_newests c i l false e = rw (oth c i (eqb-false _ _ e), end_other c i (eqb-false _ _ e)) (B.newests c i l)

  -- One more long job.
  module _ (u : j.job.kind ≡ long) (g : WellPlaced S t (floor_of S j.class js) j) (young : declared_at S 0 t ≤ long_number S j + 1) where
    abbrev pub LongReadsRight : Type 0
    LongReadsRight =
        (m : Copy V) → ((d i : ℕ) → dominates S j.class d ≡ true → Some (m d i) ≡ value_at (long_number S j) (cells_of d i)) → ReadsOfJob m j.job.operations

    unchanged : (m : Copy V) → after_operations m j.job.operations ≡ m
    unchanged m = fun_ext (λ d. fun_ext (λ i. after_none m d i j.job.operations (g.mute u)))

    long_copy : (d i : ℕ) → dominates S j.class d ≡ true → view S d (long_number S j) (placed S js) i ≡ m₁ d i
    long_copy d i dom =
        copy_at d (long_number S j) i
        (λ x k v. long_before S L t _ t _ j x g k v.kind u v.under)
        (λ x k c v w. go x k c v w (eqb j.class d) refl)
      where
        go : (x : Committed V) → Placed x → x.class ≡ d → x.job.kind ≡ update → long_number S j < wrote_under S x → (q : Bool) → eqb j.class d ≡ q → precedes S j x ≡ true
        go x k c v w true e = long_after_own S L t _ t _ j x g k v u (eqb-true j.class d e ∙ sym c) w
        go x k c v w false e = long_after_below S L t _ t _ j x g k v u (rw c (lower S L j.class d dom (eqb-false _ _ e))) w

    end_same : after_jobs (start_copy S) (insert S j (placed S js)) ≡ after_jobs (start_copy S) (placed S js)
    end_same =
        ap (λ (xs : List (Committed V)). after_jobs (start_copy S) xs) parts.inserted
        ∙ jobs_append (start_copy S) pre (j ∷ post)
        ∙ ap (λ (m : Copy V). after_jobs m post) (unchanged m₁)
        ∙ sym (jobs_append (start_copy S) pre post)
        ∙ ap (λ (xs : List (Committed V)). after_jobs (start_copy S) xs) (sym parts.whole)

    not_wrote_by : (d k : ℕ) → wrote_by S d k j ≡ false
    not_wrote_by d k = rw u (and_right (eqb j.class d) false refl)

    view_same : (d k i : ℕ) → view S d k (insert S j (placed S js)) i ≡ view S d k (placed S js) i
    view_same d k i =
        ap (λ (xs : List (Committed V)). view S d k xs i) parts.inserted
        ∙ ap (λ (xs : List (Committed V)). after_jobs (start_copy S) xs d i) (filter-append (wrote_by S d k) pre (j ∷ post) ∙ left_out ∙ sym (filter-append (wrote_by S d k) pre post))
        ∙ ap (λ (xs : List (Committed V)). view S d k xs i) (sym parts.whole)
      where
        left_out : filter (wrote_by S d k) pre ++ filter (wrote_by S d k) (j ∷ post) ≡ filter (wrote_by S d k) pre ++ filter (wrote_by S d k) post
        left_out = rw (not_wrote_by d k)

    floor_same : (c : ℕ) → floor_of S c (j ∷ js) ≡ floor_of S c js
    floor_same c = rw u (go (eqb j.class c))
      where
        go : (q : Bool) → cond q (floor_of S c js) (floor_of S c js) ≡ floor_of S c js
        go true = refl
        go false = refl

    pub serial_long : LongReadsRight → Serial S t floor cells_of (j ∷ js)
    serial_long rr = record {
      floors = λ c l. B.floors c l ∙ sym (floor_same c);
      floor_low = λ c l. rw (floor_same c) (B.floor_low c l);
      falls = B.falls;
      heads = B.heads;
      reads = λ c i k l h. rw (view_same c k i) (B.reads c i k l h);
      newests = λ c i l. rw end_same (B.newests c i l);
      well_placed = all_insert S _ j (placed S js) (rw (floor_same j.class) g) (All-weaker Placed _ (λ x h. rw (floor_same x.class) h) (placed S js) B.well_placed);
      ordered = ordered_insert S j (placed S js) B.ordered;
      true_reads =
          let old : ReadsOfCopy (start_copy S) (pre ++ post) = rw parts.whole at B.true_reads in
          rw parts.inserted (reads_append (start_copy S) pre (j ∷ post) (reads_left (start_copy S) pre post old)
          (j_reads, rw (unchanged m₁) (reads_right (start_copy S) pre post old)));
    }
      where
        j_reads : ReadsOfJob m₁ j.job.operations
        j_reads =
            rr m₁ (λ d i dom.
            let kd = inside S L j.class d dom in
            let nr = declared_falls S.top 0 (S.grade d) t (omega arith) (L.graded d kd) in
            ap Some (sym (long_copy d i dom)) ∙ sym (B.reads d i (long_number S j) kd (omega (arith, B.heads d i kd))))
