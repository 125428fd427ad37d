-- The cells hold what the committed jobs wrote: what this means, and that it stays so while no job commits.
use Rattle.std.proofs.Common.{◌≡◌, ℕ, ◌+◌, ◌<◌, ◌≤◌, Bool, true, false, ◌&&◌, eqb, leb, List, [], ◌∷◌, Some, filter, Option, sym, refl, arith}
use Rattle.std.specs.List.{AllByRecursion}
use Rattle.std.proofs.lemmas.Bool.{leb-true, leb-false, eqb-true, eqb-false}
use Rattle.std.proofs.ByRecursion.{All-weaker}
use Rattle.laws.specs.Setting.{Setting}
use Rattle.laws.specs.State.{Cell, newest_value, value_at, Kind, update, long}
use Rattle.laws.specs.Transactions.{Time, Operation, Committed, floor_of, read_of, write_of}
use Rattle.laws.specs.OneCopy.{by_kind, wrote_under, placed, Ordered, after_jobs, ReadsOfCopy, start_copy}
use Rattle.laws.proofs.Tests.{true_not_false, and_l, and_r}
use Rattle.laws.proofs.ClockLaws.{declared_rises}
use Rattle.laws.proofs.Cells.{head, Falls}
use Rattle.laws.proofs.Copies.{after_other, after_none, Quiet, Blind}
use Rattle.laws.proofs.Places.{MayRead, ReadsAllowed, declared_at, WellPlaced, well_placed_later}

module _ {V : Type 0} (S : Setting V) where
  -- The update jobs of class d that wrote under n or less, and what they leave of an item.
  abbrev pub wrote_by : ℕ → ℕ → Committed V → Bool
  wrote_by d n x = eqb x.class d && (by_kind x.job.kind true false && leb (wrote_under S x) n)

  abbrev pub view : ℕ → ℕ → List (Committed V) → ℕ → V
  view d n xs i = after_jobs (start_copy S) (filter (wrote_by d n) xs) d i

  pub record Serial (t : ℕ) (floor : ℕ → ℕ) (cells_of : ℕ → ℕ → Cell V) (js : List (Committed V)) : Type 0 where
    pub floors : (c : ℕ) → c < S.classes → floor c ≡ floor_of S c js
    pub floor_low : (c : ℕ) → c < S.classes → floor_of S c js ≤ declared_at S (S.grade c) t + 1
    pub falls : (c i : ℕ) → c < S.classes → Falls (cells_of c i)
    pub heads : (c i : ℕ) → c < S.classes → head (cells_of c i) ≤ declared_at S (S.grade c) t + 1
    pub reads : (c i n : ℕ) → c < S.classes → head (cells_of c i) ≤ n + 2 → value_at n (cells_of c i) ≡ Some (view c n (placed S js) i)
    pub newests : (c i : ℕ) → c < S.classes → newest_value (cells_of c i) ≡ Some (after_jobs (start_copy S) (placed S js) c i)
    pub well_placed : AllByRecursion (λ x. WellPlaced S t (floor_of S x.class js) x) (placed S js)
    pub ordered : Ordered S (placed S js)
    pub true_reads : ReadsOfCopy (start_copy S) (placed S js)

  -- A job of another class, or a long job, leaves class d as it is.
  pub quiet_other : (t f d : ℕ) (x : Committed V) → WellPlaced S t f x → ¬ (x.class ≡ d) → Quiet d x
  quiet_other t f d x g n m i = after_other m x.class d i x.job.operations g.own n

  pub quiet_long : (t f d : ℕ) (x : Committed V) → WellPlaced S t f x → x.job.kind ≡ long → Quiet d x
  quiet_long t f d x g u m i = after_none m d i x.job.operations (g.mute u)

  -- A job that is not in a view leaves the class as it is, or wrote under a greater number.
  pub quiet_wrote_by : (t f d n : ℕ) (x : Committed V) → WellPlaced S t f x → wrote_by d n x ≡ false
      → (x.class ≡ d → x.job.kind ≡ update → n < wrote_under S x → ⊥) → Quiet d x
  quiet_wrote_by t f d n x g e h = go x.job.kind (eqb x.class d) refl refl
    where
      go : (u : Kind) (q : Bool) → x.job.kind ≡ u → eqb x.class d ≡ q → Quiet d x
      go long q u f = quiet_long t _ d x g u
      go update false u f = quiet_other t _ d x g (eqb-false _ _ f)
      go update true u f = absurd (h (eqb-true _ _ f) u (leb-false (wrote_under S x) n (rw (f, u) at e)))

  pub record InView (d n : ℕ) (x : Committed V) : Type 0 where
    pub class : x.class ≡ d
    pub kind : x.job.kind ≡ update
    pub under : wrote_under S x ≤ n

  pub in_view : (d n : ℕ) (x : Committed V) → wrote_by d n x ≡ true → InView d n x
  in_view d n x e = go x.job.kind refl
    where
      go : (u : Kind) → x.job.kind ≡ u → InView d n x
      go update u = record {
        class = eqb-true x.class d (and_l (eqb x.class d) _ e);
        kind = u;
        under = leb-true (wrote_under S x) n (rw u at (and_r (eqb x.class d) (by_kind x.job.kind true false && leb (wrote_under S x) n) e));
      }
      go long u = true_not_false (sym (rw u at (and_r (eqb x.class d) (by_kind x.job.kind true false && leb (wrote_under S x) n) e)))

  -- A job that may not have read class c has not read it.
  pub blind_of : (c : ℕ) (c' : ℕ) (k : Kind) (low : Option Time) (ds : List (Operation V)) → ReadsAllowed S c' k low ds → (MayRead S c' k low c → ⊥) → Blind c ds
  blind_of c c' k low [] l h = tt
  blind_of c c' k low (read_of d i v ∷ ds) l h = ((λ e. h (rw e l.0)), blind_of c c' k low ds l.1 h)
  blind_of c c' k low (write_of d i v ∷ ds) l h = blind_of c c' k low ds l h

  -- Later, when no job has committed.
  pub serial_later : (t t' : ℕ) (floor : ℕ → ℕ) (cells_of : ℕ → ℕ → Cell V) (js : List (Committed V)) → t ≤ t' → Serial t floor cells_of js → Serial t' floor cells_of js
  serial_later t t' floor cells_of js h B = record {
    floors = B.floors;
    falls = B.falls;
    reads = B.reads;
    newests = B.newests;
    ordered = B.ordered;
    true_reads = B.true_reads;
    floor_low = λ c l. omega (arith, B.floor_low c l, declared_rises S.top (S.grade c) t t' h);
    heads = λ c i l. omega (arith, B.heads c i l, declared_rises S.top (S.grade c) t t' h);
    well_placed = All-weaker _ _ (λ x g. well_placed_later S t t' _ _ x h (omega arith) g) (placed S js) B.well_placed;
  }
