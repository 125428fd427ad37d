use Rattle.std.proofs.Common.{◌<◌, sym, refl, Err, ap, ◌∙◌, arith, rules}
use Rattle.std.proofs.lemmas.Result.{err_from_is_err_and}
use Rattle.std.proofs.lemmas.Bool.{lt-ltb}
use Rattle.rules.specs.declared.access.Access.TheVariants.{Read}
use Rattle.laws.specs.Calls.{Action, by, read}
use Rattle.register_parts.specs.FaultNumbers.{fault_of_rule}
use Rattle.jobs.specs.Faults.{read_reply}
use Rattle.jobs.specs.declared.memory.Memory.{Memory}
use Rattle.jobs.proofs.Exits.{at_reply, at_register, unchanged, with_rule}
use Rattle.jobs.proofs.Entrance.{outside, through, through_job, no_job, for_numbers, claims_here}
use Rattle.jobs.proofs.ClaimReplies.{claim_made, claim_denied}
use Rattle.jobs.proofs.ReadingItems.{reads, not_below, no_item, at_long, below, own_pending, own_denied, own_claimed}
use Rattle.jobs.proofs.register.Register.read_item.Goals as goal

pub returns-in_err-id : goal.returns-in_err-id
returns-in_err-id g c =
    let o = g.O.ClassOrder in
    let v = g.V.Value in
    let r = g.R.LocalRule in
    let x = c.args.self.now in
    let m = c.args.memory.now in
    let a : Action g.row.V.Denot = read c.args.other c.args.item in
    let q = by c.args.class c.args.bay a in
    let p = err_from_is_err_and c.from_residual.result c.from_residual.ensures.1 in
    unchanged o v r x m q (at_reply o v r x m q x m (ap read_reply (p.1 ∙ ap Err p.2))
    (outside o v r x m c.args.class c.args.bay a c.in_err-id.field-0.0 c.in_err-id.ensures.reply))

pub returns-in_err-job : goal.returns-in_err-job
returns-in_err-job g c =
    let o = g.O.ClassOrder in
    let v = g.V.Value in
    let r = g.R.LocalRule in
    let x = c.args.self.now in
    let m = c.args.memory.now in
    let id = c.in_ok-id.id in
    let a : Action g.row.V.Denot = read c.args.other c.args.item in
    let q = by id.class id.bay a in
    let k = lt-ltb c.args.other (o.classes x.order) (omega (arith, c.classes.ensures.reply, c.if-other-classes.false)) in
    let h = through o v r x m a id _ (search rules) c.running_job.ensures.eight k c.in_ok-id.ensures.reply c.in_ok-id.ensures.names refl in
    let on = reads o v r x m id.class id.bay c.args.other c.args.item in
    let p = err_from_is_err_and c.from_residual-in_err-job.result c.from_residual-in_err-job.ensures.1 in
    for_numbers o v r x m a id c.in_ok-id.ensures.names
    (unchanged o v r x m q (at_reply o v r x m q x m (ap read_reply (p.1 ∙ ap Err p.2))
    (no_job o v r x m id.class id.bay a _ h (λ e. ap on e) (λ e. ap on e) c.in_err-job.field-0.0 c.in_err-job.ensures.reply)))

pub returns-then-not-dominates : goal.returns-then-not-dominates
returns-then-not-dominates g c =
    let o = g.O.ClassOrder in
    let v = g.V.Value in
    let r = g.R.LocalRule in
    let x = c.args.self.now in
    let m = c.args.memory.now in
    let id = c.in_ok-id.id in
    let a : Action g.row.V.Denot = read c.args.other c.args.item in
    let k = lt-ltb c.args.other (o.classes x.order) (omega (arith, c.classes.ensures.reply, c.if-other-classes.false)) in
    let h = through_job o v r x m a id c.in_ok-job.job (search rules) c.running_job.ensures.eight k c.in_ok-id.ensures.reply c.in_ok-id.ensures.names c.in_ok-job.ensures.reply in
    let e = sym c.if-not-dominates.ensures.reply in
    for_numbers o v r x m a id c.in_ok-id.ensures.names
    (unchanged o v r x m (by id.class id.bay a) (not_below o v r x m id.class id.bay c.args.other c.args.item c.in_ok-job.job h e))

pub returns-then-item-self : goal.returns-then-item-self
returns-then-item-self g c =
    let o = g.O.ClassOrder in
    let v = g.V.Value in
    let r = g.R.LocalRule in
    let x = c.args.self.now in
    let m = c.args.memory.now in
    let id = c.in_ok-id.id in
    let a : Action g.row.V.Denot = read c.args.other c.args.item in
    let k = lt-ltb c.args.other (o.classes x.order) (omega (arith, c.classes.ensures.reply, c.if-other-classes.false)) in
    let h = through_job o v r x m a id c.in_ok-job.job (search rules) c.running_job.ensures.eight k c.in_ok-id.ensures.reply c.in_ok-id.ensures.names c.in_ok-job.ensures.reply in
    let e = sym c.if-not-dominates.ensures.reply in
    for_numbers o v r x m a id c.in_ok-id.ensures.names
    (unchanged o v r x m (by id.class id.bay a) (no_item o v r x m id.class id.bay c.args.other c.args.item c.in_ok-job.job h e c.if-item-self.true))

pub overflow_add-place : goal.overflow_add-place
overflow_add-place g c = omega (arith, c.first_cell.ensures.bound)

pub returns-in-Long : goal.returns-in-Long
returns-in-Long g c =
    let o = g.O.ClassOrder in
    let v = g.V.Value in
    let r = g.R.LocalRule in
    let x = c.args.self.now in
    let m = c.args.memory.now in
    let id = c.in_ok-id.id in
    let a : Action g.row.V.Denot = read c.args.other c.args.item in
    let k = lt-ltb c.args.other (o.classes x.order) (omega (arith, c.classes.ensures.reply, c.if-other-classes.false)) in
    let h = through_job o v r x m a id c.in_ok-job.job (search rules) c.running_job.ensures.eight k c.in_ok-id.ensures.reply c.in_ok-id.ensures.names c.in_ok-job.ensures.reply in
    let e = sym c.if-not-dominates.ensures.reply in
    let w = c.value_at.ensures.reply ∙ rw c.first_cell.ensures.reply in
    for_numbers o v r x m a id c.in_ok-id.ensures.names
    (unchanged o v r x m (by id.class id.bay a) (at_long o v r x m id.class id.bay c.args.other c.args.item c.in_ok-job.job h e c.if-item-self.false c.in-Long.number c.in-Long.is c.value_at.result w))

pub returns-then-id-other : goal.returns-then-id-other
returns-then-id-other g c =
    let o = g.O.ClassOrder in
    let v = g.V.Value in
    let r = g.R.LocalRule in
    let x = c.args.self.now in
    let m = c.args.memory.now in
    let id = c.in_ok-id.id in
    let a : Action g.row.V.Denot = read c.args.other c.args.item in
    let k = lt-ltb c.args.other (o.classes x.order) (omega (arith, c.classes.ensures.reply, c.if-other-classes.false)) in
    let h = through_job o v r x m a id c.in_ok-job.job (search rules) c.running_job.ensures.eight k c.in_ok-id.ensures.reply c.in_ok-id.ensures.names c.in_ok-job.ensures.reply in
    let e = sym c.if-not-dominates.ensures.reply in
    let w = c.value_at-then-id-other.ensures.reply ∙ rw c.first_cell.ensures.reply in
    for_numbers o v r x m a id c.in_ok-id.ensures.names
    (unchanged o v r x m (by id.class id.bay a) (at_register o v r x m (by id.class id.bay a) _ m c.set_bay.ensures.state
    (below o v r x m id.class id.bay c.args.other c.args.item c.in_ok-job.job h e c.if-item-self.false c.in-Update.job c.in-Update.is c.if-id-other.true c.down_number-down.result c.down_number-down.ensures.reply c.value_at-then-id-other.result w)))

pub returns-in-Some : goal.returns-in-Some
returns-in-Some g c =
    let o = g.O.ClassOrder in
    let v = g.V.Value in
    let r = g.R.LocalRule in
    let x = c.args.self.now in
    let m = c.args.memory.now in
    let id = c.in_ok-id.id in
    let a : Action g.row.V.Denot = read c.args.other c.args.item in
    let k = lt-ltb c.args.other (o.classes x.order) (omega (arith, c.classes.ensures.reply, c.if-other-classes.false)) in
    let h = through_job o v r x m a id c.in_ok-job.job (search rules) c.running_job.ensures.eight k c.in_ok-id.ensures.reply c.in_ok-id.ensures.names c.in_ok-job.ensures.reply in
    let e = sym c.if-not-dominates.ensures.reply in
    for_numbers o v r x m a id c.in_ok-id.ensures.names
    (unchanged o v r x m (by id.class id.bay a) (own_pending o v r x m id.class id.bay c.args.other c.args.item c.in_ok-job.job h e c.if-item-self.false c.in-Update.job c.in-Update.is c.if-id-other.false c.in-Some.value c.in-Some.ensures.reply))

pub claim-requires : goal.claim-requires
claim-requires g c =
    let o = g.O.ClassOrder in
    let v = g.V.Value in
    let r = g.R.LocalRule in
    let x = c.args.self.now in
    let m = c.args.memory.now in
    let id = c.in_ok-id.id in
    let a : Action g.row.V.Denot = read c.args.other c.args.item in
    let k = lt-ltb c.args.other (o.classes x.order) (omega (arith, c.classes.ensures.reply, c.if-other-classes.false)) in
    let h = through_job o v r x m a id c.in_ok-job.job (search rules) c.running_job.ensures.eight k c.in_ok-id.ensures.reply c.in_ok-id.ensures.names c.in_ok-job.ensures.reply in
    h.in_rules

pub returns-in_err-claim-in-Update : goal.returns-in_err-claim-in-Update
returns-in_err-claim-in-Update g c =
    let o = g.O.ClassOrder in
    let v = g.V.Value in
    let r = g.R.LocalRule in
    let x = c.args.self.now in
    let m = c.args.memory.now in
    let id = c.in_ok-id.id in
    let a : Action g.row.V.Denot = read c.args.other c.args.item in
    let k = lt-ltb c.args.other (o.classes x.order) (omega (arith, c.classes.ensures.reply, c.if-other-classes.false)) in
    let h = through_job o v r x m a id c.in_ok-job.job (search rules) c.running_job.ensures.eight k c.in_ok-id.ensures.reply c.in_ok-id.ensures.names c.in_ok-job.ensures.reply in
    let e = sym c.if-not-dominates.ensures.reply in
    let in_items : c.args.item < 64 = omega (arith, c.if-item-self.false, x.counts.few c.args.other) in
    let p = err_from_is_err_and c.from_residual-in_err-claim-in-Update.result c.from_residual-in_err-claim-in-Update.ensures.1 in
    let d = claim_denied Read (r.policy Read) (claims_here o v r x m id.class id.bay) id.bay c.args.item h.in_bays in_items c.in_err-claim-in-Update.field-0.0 c.in_err-claim-in-Update.ensures.reply in
    for_numbers o v r x m a id c.in_ok-id.ensures.names
    (with_rule o v r x m id.class id.bay a h.in_classes h.in_bays c.claim.ensures.memory (at_reply o v r x m (by id.class id.bay a) x c.claim.new.self (ap read_reply (p.1 ∙ ap Err (p.2 ∙ ap fault_of_rule d.2)))
    (own_denied o v r x m id.class id.bay c.args.other c.args.item c.in_ok-job.job h e c.if-item-self.false c.in-Update.job c.in-Update.is c.if-id-other.false c.in_default.ensures.reply _ c.claim.new.self c.claim.ensures.memory d.0 d.1 d.3)))

pub returns-in_ok-claim-in-Update : goal.returns-in_ok-claim-in-Update
returns-in_ok-claim-in-Update g c =
    let o = g.O.ClassOrder in
    let v = g.V.Value in
    let r = g.R.LocalRule in
    let x = c.args.self.now in
    let m = c.args.memory.now in
    let id = c.in_ok-id.id in
    let a : Action g.row.V.Denot = read c.args.other c.args.item in
    let k = lt-ltb c.args.other (o.classes x.order) (omega (arith, c.classes.ensures.reply, c.if-other-classes.false)) in
    let h = through_job o v r x m a id c.in_ok-job.job (search rules) c.running_job.ensures.eight k c.in_ok-id.ensures.reply c.in_ok-id.ensures.names c.in_ok-job.ensures.reply in
    let e = sym c.if-not-dominates.ensures.reply in
    let in_items : c.args.item < 64 = omega (arith, c.if-item-self.false, x.counts.few c.args.other) in
    let d = claim_made Read (r.policy Read) (claims_here o v r x m id.class id.bay) id.bay c.args.item h.in_bays in_items c.in_ok-claim-in-Update.ensures.reply in
    let cells = ap (λ (t : Memory g.row.V.Denot g.row.R.Denot). t.cells.now) c.claim.ensures.memory.1 in
    let w = c.newest_value.ensures.reply ∙ rw (c.first_cell.ensures.reply, cells) in
    for_numbers o v r x m a id c.in_ok-id.ensures.names
    (with_rule o v r x m id.class id.bay a h.in_classes h.in_bays c.claim.ensures.memory (own_claimed o v r x m id.class id.bay c.args.other c.args.item c.in_ok-job.job h e c.if-item-self.false c.in-Update.job c.in-Update.is c.if-id-other.false c.in_default.ensures.reply _ c.claim.new.self c.claim.ensures.memory d.0 d.1 c.newest_value.result w))
