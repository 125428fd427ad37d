use Rattle.std.proofs.Common.{eqb, get_or, set, refl, Err, sym, ap, ◌∙◌, subst, arith, rules}
use Rattle.std.proofs.lemmas.Result.{err_from_is_err_and}
use Rattle.rules.specs.Claims.{Claims, forgotten}
use Rattle.laws.specs.Setting.{sum_below}
use Rattle.laws.specs.Calls.{by, commit}
use Rattle.laws.specs.Actions.{below_floor}
use Rattle.jobs.specs.Faults.{done_reply}
use Rattle.jobs.specs.Lent.{none, with_rules, ChangedOnly}
use Rattle.jobs.specs.OwnPlaces.{cells_of}
use Rattle.jobs.specs.Parts.{class_in}
use Rattle.jobs.specs.Committing.{validated, validated_claims}
use Rattle.register_parts.specs.declared.bay.Bay.TheVariants.{Open}
use Rattle.jobs.proofs.Exits.{at_reply, at_register, at_both, unchanged, with_rule}
use Rattle.jobs.proofs.Entrance.{outside, through, for_numbers}
use Rattle.jobs.proofs.RuleCalls.{rule_there, rule_becomes}
use Rattle.jobs.proofs.LentChanges.{changed_at_most, bay_names}
use Rattle.jobs.proofs.ItemSums.{sum_in}
use Rattle.jobs.proofs.Committing.{was_free, was_closed, was_long, was_refused, was_valid, own_cells_changed, settled_and_stored, number}
use Rattle.jobs.proofs.register.Register.commit_job.Goals as goal

pub returns-in_err-id : goal.returns-in_err-id
returns-in_err-id g c =
    let o = g.O.ClassOrder in
    let v = g.V.Value in
    let r = g.R.LocalRule in
    let x = c.args.self.now in
    let m = c.args.memory.now in
    let q = by c.args.class c.args.bay commit in
    let p = err_from_is_err_and c.from_residual.result c.from_residual.ensures.1 in
    unchanged o v r x m q (at_reply o v r x m q x m (ap done_reply (p.1 ∙ ap Err p.2))
    (outside o v r x m c.args.class c.args.bay commit c.in_err-id.field-0.0 c.in_err-id.ensures.reply))

pub returns-in-Free : goal.returns-in-Free
returns-in-Free g c =
    let o = g.O.ClassOrder in
    let v = g.V.Value in
    let r = g.R.LocalRule in
    let x = c.args.self.now in
    let m = c.args.memory.now in
    let id = c.in_ok-id.id in
    let h = through o v r x m commit id _ (search rules) c.bay.ensures.eight refl c.in_ok-id.ensures.reply c.in_ok-id.ensures.names c.in-Free.ensures.reply in
    for_numbers o v r x m commit id c.in_ok-id.ensures.names
    (unchanged o v r x m (by id.class id.bay commit) (was_free o v r x m id.class id.bay h))

pub returns-in-Closed : goal.returns-in-Closed
returns-in-Closed g c =
    let o = g.O.ClassOrder in
    let v = g.V.Value in
    let r = g.R.LocalRule in
    let x = c.args.self.now in
    let m = c.args.memory.now in
    let id = c.in_ok-id.id in
    let h = through o v r x m commit id _ (search rules) c.bay.ensures.eight refl c.in_ok-id.ensures.reply c.in_ok-id.ensures.names c.in-Closed.ensures.reply in
    for_numbers o v r x m commit id c.in_ok-id.ensures.names
    (unchanged o v r x m (by id.class id.bay commit)
    (at_register o v r x m (by id.class id.bay commit) _ m c.set_bay.ensures.state (was_closed o v r x m id.class id.bay h)))

pub returns-in_default : goal.returns-in_default
returns-in_default g c =
    let o = g.O.ClassOrder in
    let v = g.V.Value in
    let r = g.R.LocalRule in
    let x = c.args.self.now in
    let m = c.args.memory.now in
    let id = c.in_ok-id.id in
    let h = through o v r x m commit id _ (search rules) c.bay.ensures.eight refl c.in_ok-id.ensures.reply c.in_ok-id.ensures.names (sym (ap Open c.in_default.is) ∙ c.in-Open.ensures.reply) in
    let m' = with_rules m (set m.rules.now id.class c.end_job.new.rule) in
    let w = rule_becomes r m id.class _ c.end_job.new.rule (forgotten id.bay) h.in_rules c.end_job.ensures.rule in
    for_numbers o v r x m commit id c.in_ok-id.ensures.names
    (with_rule o v r x m id.class id.bay commit h.in_classes h.in_bays w
    (at_register o v r x m (by id.class id.bay commit) _ m' c.end_job.ensures.state (was_long o v r x m id.class id.bay c.in_default.field-0 h m' w)))

pub returns-in-Err : goal.returns-in-Err
returns-in-Err g c =
    let o = g.O.ClassOrder in
    let v = g.V.Value in
    let r = g.R.LocalRule in
    let x = c.args.self.now in
    let m = c.args.memory.now in
    let id = c.in_ok-id.id in
    let job = c.in-Update.job in
    let h = through o v r x m commit id _ (search rules) c.bay.ensures.eight refl c.in_ok-id.ensures.reply c.in_ok-id.ensures.names (sym (ap Open c.in-Update.is) ∙ c.in-Open.ensures.reply) in
    let below = below_floor (class_in x id.class).floor job.down in
    let rule = c.index-memory-id.result in
    let m' = with_rules m (set m.rules.now id.class c.end_job-in-Err.new.rule) in
    let w = rule_becomes r m id.class rule c.end_job-in-Err.new.rule (λ (k : Claims). forgotten id.bay (validated_claims below id.bay k)) h.in_rules
    (c.end_job-in-Err.ensures.rule ∙ ap (forgotten id.bay) c.in-Err.ensures.rule) in
    let e = c.in-Err.ensures.reply ∙ ap (λ (k : Claims). validated below (k.stale id.bay)) (rule_there r m id.class rule h.in_rules) in
    for_numbers o v r x m commit id c.in_ok-id.ensures.names
    (with_rule o v r x m id.class id.bay commit h.in_classes h.in_bays w
    (at_register o v r x m (by id.class id.bay commit) _ m' c.end_job-in-Err.ensures.state (was_refused o v r x m id.class id.bay job h c.in-Err.fault e m' w)))

pub store_pending-requires : goal.store_pending-requires
store_pending-requires g c =
    let o = g.O.ClassOrder in
    let v = g.V.Value in
    let r = g.R.LocalRule in
    let x = c.args.self.now in
    let m = c.args.memory.now in
    let id = c.in_ok-id.id in
    let h = through o v r x m commit id _ (search rules) c.bay.ensures.eight refl c.in_ok-id.ensures.reply c.in_ok-id.ensures.names (sym (ap Open c.in-Update.is) ∙ c.in-Open.ensures.reply) in
    let inside = sum_in (λ d. get_or x.counts.items d 0) id.class (o.classes x.order) h.in_classes in
    (omega (arith, inside, h.cells_room, c.first_cell-first.ensures.reply), omega (arith, h.pending_room, h.in_classes, h.in_bays))

pub returns : goal.returns
returns g c =
    let o = g.O.ClassOrder in
    let v = g.V.Value in
    let r = g.R.LocalRule in
    let x = c.args.self.now in
    let m = c.args.memory.now in
    let id = c.in_ok-id.id in
    let job = c.in-Update.job in
    let h = through o v r x m commit id _ (search rules) c.bay.ensures.eight refl c.in_ok-id.ensures.reply c.in_ok-id.ensures.names (sym (ap Open c.in-Update.is) ∙ c.in-Open.ensures.reply) in
    let below = below_floor (class_in x id.class).floor job.down in
    let before = c.index-memory-id.result in
    let rule = c.validate.new.rule in
    let there = rule_there r m id.class before h.in_rules in
    let e = c.in_default-validate.ensures.reply ∙ ap (λ (k : Claims). validated below (k.stale id.bay)) there in
    let means = c.in_default-validate.ensures.rule ∙ ap (validated_claims below id.bay) there in
    let m' = c.store_pending.new.self in
    let stored = settled_and_stored m m' (set m.rules.now id.class rule) (get_or x.counts.items id.class 0) c.first_cell-first.result (sum_below id.class (λ d. get_or x.counts.items d 0))
    c.writing_number-number.result (number o v r x m id.class id.bay) job.pending id.class id.bay c.first_cell-first.ensures.reply c.writing_number-number.ensures.reply c.store_pending.ensures.memory in
    let z = at_both o v r x m (by id.class id.bay commit) _ c.commit_bay.ensures.state stored.0 (was_valid o v r x m id.class id.bay job h rule m'.cells.now stored.1 e means) in
    for_numbers o v r x m commit id c.in_ok-id.ensures.names (record {
      reply = z.0;
      state = z.1;
      memory = changed_at_most (bay_names _ id.class id.bay (cells_of x.counts.items id.class) h.in_classes h.in_bays) (λ k e. e) (bay_names _ id.class id.bay (eqb id.class) h.in_classes h.in_bays)
          (subst (ChangedOnly (cells_of x.counts.items id.class) none (eqb id.class) m) (sym stored.0) (own_cells_changed o v r x m id.class id.bay job h rule m'.cells.now stored.1));
    })
