-- The ways through a call that commits.
use Rattle.std.proofs.Common.{◌≡◌, ℕ, ◌+◌, Bool, true, false, eqb, List, map, set, Ok, Err, sym, refl, ap, ◌∙◌, ap₂}
use Rattle.std.proofs.lemmas.List.{length-set, get_or-set_same, get_or-set_other}
use Rattle.std.proofs.lemmas.Bool.{eqb-false}
use Rattle.cells.specs.Cells.{versions}
use Rattle.cells.specs.declared.cell.Cell.{Cell}
use Rattle.cells.specs.declared.value.Value.{Ghosts as ValueGhosts}
use Rattle.orders.specs.declared.class_order.ClassOrder.{Ghosts as OrderGhosts}
use Rattle.rules.specs.Claims.{Claims, settled, forgotten}
use Rattle.rules.specs.declared.local_rule.LocalRule.{Ghosts as RuleGhosts}
use Rattle.laws.specs.Setting.{Setting, sum_below}
use Rattle.laws.specs.State as definition
use Rattle.laws.specs.State.{put, or_else, free, Class}
use Rattle.laws.specs.Calls.{by, commit, done, refused, bay_free, bay_closed, overtaken, stale_job}
use Rattle.laws.specs.Clock.{declared}
use Rattle.laws.specs.Actions.{Outcome, answer, below_floor, after_commit, commits_in}
use Rattle.jobs.specs.Faults.{fault_reply}
use Rattle.jobs.specs.Represents.{setting, pending_of, bay_of, bay_values, cell_of, class_of}
use Rattle.jobs.specs.Lent.{none, with_rules, with_cells, RuleBecomes, ChangedOnly}
use Rattle.jobs.specs.Parts.{with_bay_in, class_in, with_class_in}
use Rattle.jobs.specs.OwnPlaces as own_places
use Rattle.jobs.specs.Storing.{all_stored, CellsBecome}
use Rattle.jobs.specs.Committing.{committed_in, validated, validated_claims}
use Rattle.register_parts.specs.declared.bay.Bay.{Bay}
use Rattle.register_parts.specs.declared.bay.Bay.TheVariants.{Free, Closed, Open}
use Rattle.register_parts.specs.declared.bay.Job.TheVariants.{Update, Long}
use Rattle.register_parts.specs.declared.bay.PendingItems.{PendingItems}
use Rattle.register_parts.specs.declared.bay.UpdateJob.{UpdateJob}
use Rattle.register_parts.specs.declared.class_state.ClassState.{ClassState}
use Rattle.register_parts.specs.declared.job_fault.JobFault.{JobFault}
use Rattle.register_parts.specs.declared.job_fault.JobFault.TheVariants.{Overtaken, Stale}
use Rattle.jobs.specs.declared.memory.Memory.{Memory}
use Rattle.jobs.specs.declared.register.Register.{Register}
use Rattle.jobs.proofs.ClassChanges.{put_at}
use Rattle.jobs.proofs.Exits.{Exit}
use Rattle.jobs.proofs.Entrance.{ok_not_err, claims_here, class_here, cells_of, Inside, refuses, bay_becomes, job_ends, class_changes}
use Rattle.jobs.proofs.ClassCells.{others_stay, own_stored, cells_stay, same_length}

-- The memory after the stores of a commit, where the rules were changed before.
pub settled_and_stored : {V R : Type 0} (m m'' : Memory V R) (rules : List R) (n first first' w w' : ℕ) (p : PendingItems) (c b : ℕ)
    → first ≡ first' → w ≡ w'
    → CellsBecome (all_stored n first w (pending_of p (bay_values m.pending.now c b)) (map versions m.cells.now)) (with_rules m rules) m''
    → (m'' ≡ with_cells (with_rules m rules) m''.cells.now)
    × (map versions m''.cells.now ≡ all_stored n first' w' (pending_of p (bay_values m.pending.now c b)) (map versions m.cells.now))
settled_and_stored m m'' rules n first first' w w' p c b e f z = (
  z.0,
  z.1 ∙ ap₂ (λ (a k : ℕ). all_stored n a k (pending_of p (bay_values m.pending.now c b)) (map versions m.cells.now)) e f,
)

module _ {O V R : Type 0} (o : OrderGhosts O) (v : ValueGhosts V) (r : RuleGhosts R) (x : Register O) (m : Memory V R) (c b : ℕ) where
  abbrev S : Setting V
  S = setting o v r x

  abbrev commits : Bay → Outcome V
  commits y = commits_in S x.clock.ticks (cells_of o v r x m c b) c (class_here o v r x m c b) b (bay_of (bay_values m.pending.now c b) y)

  abbrev freed : Register O
  freed = with_class_in x c (with_bay_in (class_in x c) b Free)

  -- The number under which the class writes.
  abbrev pub number : ℕ
  number = declared x.clock.top (o.grade x.order c) x.clock.ticks + 1

  pub was_free : Inside o v r x m c b commit Free → Exit o v r x m (by c b commit) (refused bay_free) x m
  was_free h = refuses o v r x m c b commit Free h bay_free (ap commits h.bay)

  pub was_closed : Inside o v r x m c b commit Closed → Exit o v r x m (by c b commit) (refused bay_closed) freed m
  was_closed h = bay_becomes o v r x m c b commit Closed h (refused bay_closed) Free (ap commits h.bay)

  pub was_long : (j : ℕ) → Inside o v r x m c b commit (Open (Long j)) → (m' : Memory V R) → RuleBecomes r c (forgotten b (claims_here o v r x m c b)) m m'
      → Exit o v r x m (by c b commit) done freed m'
  was_long j h m' w = job_ends o v r x m c b commit (Open (Long j)) h done m' w (ap commits h.bay)

  module _ (job : UpdateJob) (h : Inside o v r x m c b commit (Open (Update job))) where
    abbrev below : Bool
    below = below_floor (class_in x c).floor job.down

    abbrev stale : Bool
    stale = (claims_here o v r x m c b).stale b

    -- The job does not pass validation, which leaves the claims as they are; then it ends.
    pub was_refused : (e : JobFault) → Err e ≡ validated below stale → (m' : Memory V R)
        → RuleBecomes r c (forgotten b (validated_claims below b (claims_here o v r x m c b))) m m' → Exit o v r x m (by c b commit) (fault_reply e) freed m'
    was_refused e p m' w = go below stale refl refl
      where
        go : (t q : Bool) → below ≡ t → stale ≡ q → Exit o v r x m (by c b commit) (fault_reply e) freed m'
        go true q f g =
            let p' : Err e ≡ Err Overtaken = rw f at p in
            let is : e ≡ Overtaken = cc in
            rw is (job_ends o v r x m c b commit (Open (Update job)) h (refused overtaken) m' (w.0, w.1, w.2 ∙ rw f) (ap commits h.bay ∙ rw f))
        go false true f g =
            let p' : Err e ≡ Err Stale = rw (f, g) at p in
            let is : e ≡ Stale = cc in
            rw is (job_ends o v r x m c b commit (Open (Update job)) h (refused stale_job) m' (w.0, w.1, w.2 ∙ rw (f, g)) (ap commits h.bay ∙ rw (f, g)))
        go false false f g = let q : Err e ≡ Ok tt = rw (f, g) at p in ok_not_err (sym q)

    -- It does: the pending values are stored, the claims settled, the bay freed and the floor raised.
    module _ (rule : R) (cells' : List (Cell V))
        (stores : map versions cells' ≡ all_stored (S.items c) (sum_below c S.items) number (pending_of job.pending (bay_values m.pending.now c b)) (map versions m.cells.now)) where
      abbrev class_with : Claims → (ℕ → definition.Bay V) → (ℕ → definition.Cell V) → Class V
      class_with j bays cells = record { floor = or_else job.down (class_in x c).floor; claims = j; bays = bays; cells = cells }

      own_bays : (class_of S cells' m.pending.now c (committed_in (class_in x c) b job.down) (r.meaning rule)).bays ≡ put (class_here o v r x m c b).bays b free
      own_bays =
          put_at (class_here o v r x m c b).bays (class_of S cells' m.pending.now c (committed_in (class_in x c) b job.down) (r.meaning rule)).bays b free
          (ap (bay_of (bay_values m.pending.now c b)) (get_or-set_same (class_in x c).bays b Free Free h.in_state))
          (λ d a. ap (bay_of (bay_values m.pending.now c d)) (get_or-set_other (class_in x c).bays b d Free Free a))

      is_stored : r.meaning rule ≡ settled b (claims_here o v r x m c b)
          → after_commit (S.items c) number (class_here o v r x m c b) b job.down (pending_of job.pending (bay_values m.pending.now c b))
          ≡ class_of S cells' m.pending.now c (committed_in (class_in x c) b job.down) (r.meaning rule)
      is_stored w =
          let mine = own_stored S m.cells.now cells' c number (pending_of job.pending (bay_values m.pending.now c b)) h.in_classes h.cells_room stores in
          sym (ap (λ (j : Claims). class_with j (class_of S cells' m.pending.now c (committed_in (class_in x c) b job.down) (r.meaning rule)).bays (cell_of S cells' c)) w
          ∙ ap (λ (f : ℕ → definition.Bay V). class_with (settled b (claims_here o v r x m c b)) f (cell_of S cells' c)) own_bays
          ∙ ap (class_with (settled b (claims_here o v r x m c b)) (put (class_here o v r x m c b).bays b free)) mine)

      other_class : (d : ℕ) → ¬ (d ≡ c) → (k : ClassState) (j : Claims) → class_of S cells' m.pending.now d k j ≡ class_of S m.cells.now m.pending.now d k j
      other_class d a k j =
          let with_cells_of : (ℕ → definition.Cell V) → Class V = λ f. record { floor = k.floor; claims = j; bays = (class_of S m.cells.now m.pending.now d k j).bays; cells = f } in
          ap with_cells_of (others_stay S m.cells.now cells' c number (pending_of job.pending (bay_values m.pending.now c b)) h.in_classes h.cells_room stores d a)

      pub was_valid : Ok tt ≡ validated below stale → r.meaning rule ≡ validated_claims below b (claims_here o v r x m c b)
          → Exit o v r x m (by c b commit) done (with_class_in x c (committed_in (class_in x c) b job.down)) (with_cells (with_rules m (set m.rules.now c rule)) cells')
      was_valid p w = go below stale refl refl
        where
          go : (t q : Bool) → below ≡ t → stale ≡ q
              → Exit o v r x m (by c b commit) done (with_class_in x c (committed_in (class_in x c) b job.down)) (with_cells (with_rules m (set m.rules.now c rule)) cells')
          go true q f g = let z : Ok tt ≡ Err Overtaken = rw f at p in ok_not_err z
          go false true f g = let z : Ok tt ≡ Err Stale = rw (f, g) at p in ok_not_err z
          go false false f g =
              let means : r.meaning rule ≡ settled b (claims_here o v r x m c b) = w ∙ (rw (f, g)) in
              class_changes o v r x m c b commit (Open (Update job)) h done (committed_in (class_in x c) b job.down) rule
              (with_cells (with_rules m (set m.rules.now c rule)) cells') refl other_class
              (ap commits h.bay ∙ rw (f, g) (ap (answer done) (is_stored means)))

      -- Outside the cells and the rule of the class nothing has changed.
      pub own_cells_changed : ChangedOnly (own_places.cells_of x.counts.items c) none (eqb c) m (with_cells (with_rules m (set m.rules.now c rule)) cells')
      own_cells_changed = record {
        lenders = (refl, refl, refl);
        lengths = (same_length S m.cells.now cells' c number (pending_of job.pending (bay_values m.pending.now c b)) h.in_classes h.cells_room stores, refl, length-set m.rules.now c rule);
        cells = cells_stay S m.cells.now cells' c number (pending_of job.pending (bay_values m.pending.now c b)) h.in_classes h.cells_room stores;
        pending = λ _ _ _. refl;
        rules = λ at a d. get_or-set_other m.rules.now c at rule d (λ e. eqb-false c at a (sym e));
      }
