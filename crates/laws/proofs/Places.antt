-- Which of two committed jobs precedes the other: what their numbers and reads say of their places.
use Rattle.std.proofs.Common.{◌≡◌, ℕ, ◌+◌, ◌-◌, ◌*◌, ◌%◌, ◌<◌, ◌≤◌, max, Bool, true, false, eqb, List, [], ◌∷◌, Some, Option, sym, refl, ap₂, arith}
use Rattle.std.proofs.lemmas.Bool.{eqb-true, eqb-false}
use Rattle.laws.specs.Setting.{Setting, dominates, Lawful}
use Rattle.laws.specs.State.{Kind, update, long}
use Rattle.laws.specs.Clock.{declared}
use Rattle.laws.specs.Transactions.{Time, Operation, Committed, read_of, write_of}
use Rattle.laws.specs.OneCopy.{grade_of, wrote_under, base, long_number, place, turn_at, turn, precedes}
use Rattle.laws.proofs.Dominance.{lower}
use Rattle.laws.proofs.ClockLaws.{declared_falls, declared_rises}
use Rattle.laws.proofs.Bays.{WritesTo, WritesNone}
use Rattle.laws.proofs.Order.{does_precede, not_precede}

module _ {V : Type 0} (S : Setting V) where
  -- Which classes d a job of class c may have read: one that it dominates and, where an update job reads another class, after its first read from below.
  abbrev pub MayRead : ℕ → Kind → Option Time → ℕ → Type 0
  MayRead c k low d = (dominates S c d ≡ true) × (k ≡ update → ¬ (c ≡ d) → (q : Time) × (low ≡ Some q))

  abbrev pub ReadsAllowed : ℕ → Kind → Option Time → List (Operation V) → Type 0
  ReadsAllowed c k low [] = Unit {0}
  ReadsAllowed c k low (read_of d i v ∷ ds) = MayRead c k low d × ReadsAllowed c k low ds
  ReadsAllowed c k low (write_of d i v ∷ ds) = ReadsAllowed c k low ds

  abbrev pub declared_at : ℕ → ℕ → ℕ
  declared_at g t = declared S.top g t

  -- The base of a job that first read from below at time q.
  pub record LowBase (t : ℕ) (x : Committed V) (q : Time) : Type 0 where
    pub base : base S x ≡ q.declared (grade_of S x - 1)
    pub exact : q.declared (grade_of S x - 1) ≡ declared_at (grade_of S x - 1) q.ticks
    pub past : q.ticks ≤ t
    pub graded : 1 ≤ grade_of S x

  -- What holds of a committed job after t ticks, where its class has floor f.
  pub record WellPlaced (t f : ℕ) (x : Committed V) : Type 0 where
    pub known : x.class < S.classes
    pub own : WritesTo x.class x.job.operations
    pub mute : x.job.kind ≡ long → WritesNone x.job.operations
    pub allowed : ReadsAllowed x.class x.job.kind x.job.below x.job.operations
    pub under : x.job.kind ≡ update → wrote_under S x ≤ declared_at (grade_of S x) t + 1
    pub near : x.job.kind ≡ update → (base S x ≤ wrote_under S x) × (wrote_under S x ≤ base S x + 1)
    pub stays : x.job.kind ≡ update → base S x ≤ max (declared_at (grade_of S x) t) f
    pub low : (q : Time) → x.job.kind ≡ update → x.job.below ≡ Some q → LowBase t x q
    pub begun : x.job.kind ≡ long → long_number S x ≤ declared_at (grade_of S x) t

  pub well_placed_later : (t t' f f' : ℕ) (x : Committed V) → t ≤ t' → f ≤ f' → WellPlaced t f x → WellPlaced t' f' x
  well_placed_later t t' f f' x h k g =
      let r = declared_rises S.top (grade_of S x) t t' h in
      record {
        known = g.known;
        own = g.own;
        mute = g.mute;
        allowed = g.allowed;
        near = g.near;
        under = λ u. omega (arith, g.under u);
        stays = λ u. omega (arith, g.stays u);
        low = λ q u e. let lo = g.low q u e in record { base = lo.base; exact = lo.exact; past = omega (arith, lo.past); graded = lo.graded };
        begun = λ u. omega (arith, g.begun u);
      }

  odd_turn : (p g g' : ℕ) → p % 2 ≡ 1 → g < g' → g' ≤ S.top → turn_at S p g' < turn_at S p g
  odd_turn p g g' e h k = rw e (omega arith)

  even_turn : (p g g' : ℕ) → p % 2 ≡ 0 → g < g' → turn_at S p g < turn_at S p g'
  even_turn p g g' e h = rw e h

  after_by_turn : (j k : Committed V) → place S k ≤ place S j
      → (place S j ≡ place S k → turn_at S (place S j) (grade_of S k) < turn_at S (place S j) (grade_of S j)) → precedes S j k ≡ false
  after_by_turn j k a b = not_precede S j k a (λ e. omega (arith, lt e)) (λ e f. absurd (omega (arith, lt e))) (λ e f g. absurd (omega (arith, lt e)))
    where
      lt : place S j ≡ place S k → turn S k < turn S j
      lt e = rw (← e) (b e)

  before_by_turn : (j k : Committed V) → place S j ≤ place S k
      → (place S j ≡ place S k → turn_at S (place S j) (grade_of S j) < turn_at S (place S j) (grade_of S k)) → precedes S j k ≡ true
  before_by_turn j k a b = does_precede S j k a (λ e. omega (arith, lt e)) (λ e f. absurd (omega (arith, lt e))) (λ e f g. absurd (omega (arith, lt e)))
    where
      lt : place S j ≡ place S k → turn S j < turn S k
      lt e = rw (← e) (b e)

  at_update : (x : Committed V) → x.job.kind ≡ update → place S x ≡ wrote_under S x + base S x
  at_update x e = rw e

  at_long : (x : Committed V) → x.job.kind ≡ long → place S x ≡ 2 * long_number S x + 1
  at_long x e = rw e

  same_turn : (j k : Committed V) → j.class ≡ k.class → place S j ≡ place S k → turn S j ≡ turn S k
  same_turn j k e f = ap₂ (λ (p c : ℕ). turn_at S p (S.grade c)) f e

  -- An update job that commits after t ticks, in a class with floor f.
  pub record CommitsNow (t f : ℕ) (j : Committed V) : Type 0 where
    pub kind : j.job.kind ≡ update
    pub known : j.class < S.classes
    pub under : wrote_under S j ≡ declared_at (grade_of S j) t + 1
    pub least : max (declared_at (grade_of S j) t) f ≤ base S j

  module _ (L : Lawful S) (t f f' : ℕ) (j k : Committed V) (n : CommitsNow t f j) (g : WellPlaced t f' k) where
    pub own_first : f' ≤ f → k.class ≡ j.class → k.job.kind ≡ update → precedes S j k ≡ false
    own_first s e u =
        let a = at_update j n.kind in
        let b = at_update k u in
        let x : declared_at (grade_of S k) t ≡ declared_at (grade_of S j) t = rw e in
        let le : place S k ≤ place S j = omega (arith, g.under u, g.stays u, n.under, n.least) in
        not_precede S j k le (λ p. omega (arith, same_turn j k (sym e) p)) (λ p q. omega (arith, e)) (λ p q r. rw (u, n.kind) (omega arith))

    long_first : k.class ≡ j.class → k.job.kind ≡ long → precedes S j k ≡ false
    long_first e u =
        let a = at_update j n.kind in
        let b = at_long k u in
        let x : declared_at (grade_of S k) t ≡ declared_at (grade_of S j) t = rw e in
        let r = g.begun u in
        let le : place S k ≤ place S j = omega (arith, n.under, n.least) in
        not_precede S j k le (λ p. omega (arith, same_turn j k (sym e) p)) (λ p q. omega (arith, e)) (λ p q r. rw (u, n.kind) (omega arith))

    above_long : grade_of S j < grade_of S k → k.job.kind ≡ long → precedes S j k ≡ false
    above_long h u =
        let a = at_update j n.kind in
        let b = at_long k u in
        let gk = L.graded k.class g.known in
        let r = g.begun u in
        let s = declared_falls S.top (grade_of S j) (grade_of S k) t (omega arith) gk in
        after_by_turn j k (omega (arith, n.under, n.least)) (λ p. odd_turn _ _ _ (omega (arith, n.under, n.least)) h gk)

    above_update : grade_of S j < grade_of S k → k.job.kind ≡ update → (q : Time) → k.job.below ≡ Some q → precedes S j k ≡ false
    above_update h u q e =
        let a = at_update j n.kind in
        let b = at_update k u in
        let gk = L.graded k.class g.known in
        let lo = g.low q u e in
        let r = declared_rises S.top (grade_of S k - 1) q.ticks t lo.past in
        let s = declared_falls S.top (grade_of S j) (grade_of S k - 1) t (omega arith) (omega arith) in
        let nr = g.near u in
        after_by_turn j k (omega (arith, n.under, n.least)) (λ p. odd_turn _ _ _ (omega (arith, n.under, n.least)) h gk)

    -- Whoever read the class of j is not preceded by j.
    pub readers_first : MayRead k.class k.job.kind k.job.below j.class → (k.class ≡ j.class → f' ≤ f) → precedes S j k ≡ false
    readers_first l s = go k.job.kind (eqb k.class j.class) refl refl
      where
        go : (u : Kind) (q : Bool) → k.job.kind ≡ u → eqb k.class j.class ≡ q → precedes S j k ≡ false
        go update true u e = own_first (s (eqb-true _ _ e)) (eqb-true _ _ e) u
        go long true u e = long_first (eqb-true _ _ e) u
        go update false u e = let x = l.1 u (eqb-false _ _ e) in above_update (lower S L _ _ l.0 (eqb-false _ _ e)) u x.0 x.1
        go long false u e = above_long (lower S L _ _ l.0 (eqb-false _ _ e)) u

  module _ (L : Lawful S) (t f t' f' : ℕ) (j k : Committed V) (gj : WellPlaced t f j) (gk : WellPlaced t' f' k) (u : k.job.kind ≡ update) where
    -- A job stands behind just those updates of a class that it could read there.
    pub below_before : (q : Time) → j.job.kind ≡ update → j.job.below ≡ Some q → grade_of S k < grade_of S j → wrote_under S k ≤ base S j → precedes S j k ≡ false
    below_before q v e h w =
        let a = at_update j v in
        let b = at_update k u in
        let nj = gj.near v in
        let nk = gk.near u in
        after_by_turn j k (omega arith) (λ p. even_turn _ _ _ (omega arith) h)

    pub below_after : (q : Time) → j.job.kind ≡ update → j.job.below ≡ Some q → grade_of S k < grade_of S j → base S j < wrote_under S k → precedes S j k ≡ true
    below_after q v e h w =
        let a = at_update j v in
        let b = at_update k u in
        let nj = gj.near v in
        let nk = gk.near u in
        before_by_turn j k (omega arith) (λ p. odd_turn _ _ _ (omega arith) h (L.graded j.class gj.known))

    pub long_before : j.job.kind ≡ long → wrote_under S k ≤ long_number S j → precedes S j k ≡ false
    long_before v w =
        let a = at_long j v in
        let b = at_update k u in
        let nk = gk.near u in
        let lt : place S k < place S j = omega arith in
        after_by_turn j k (omega arith) (λ p. absurd (omega arith))

    pub long_after_below : j.job.kind ≡ long → grade_of S k < grade_of S j → long_number S j < wrote_under S k → precedes S j k ≡ true
    long_after_below v h w =
        let a = at_long j v in
        let b = at_update k u in
        let nk = gk.near u in
        before_by_turn j k (omega arith) (λ p. odd_turn _ _ _ (omega arith) h (L.graded j.class gj.known))

    pub long_after_own : j.job.kind ≡ long → j.class ≡ k.class → long_number S j < wrote_under S k → precedes S j k ≡ true
    long_after_own v e w =
        let a = at_long j v in
        let b = at_update k u in
        let nk = gk.near u in
        does_precede S j k (omega arith) (λ p. omega (arith, same_turn j k e p)) (λ p q. omega (arith, e)) (λ p q r. rw (u, v) (omega arith))
