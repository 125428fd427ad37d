use Rattle.std.proofs.Common.{◌≡◌, ℕ, ◌+◌, ◌<◌, eqb, set, Some, Option, Result, Ok, Err, ok_or, sym, refl, ap, ◌∙◌, subst, arith, rules}
use Rattle.std.proofs.lemmas.Result.{err_from_is_err_and}
use Rattle.rules.specs.declared.access.Access.TheVariants.{Write}
use Rattle.rules.specs.declared.rule_fault.RuleFault.{RuleFault}
use Rattle.laws.specs.Calls.{Action, by, write, done, Reply}
use Rattle.register_parts.specs.FaultNumbers.{fault_of_rule}
use Rattle.jobs.specs.Answered.{Answered}
use Rattle.jobs.specs.Faults.{done_reply, fault_reply}
use Rattle.jobs.specs.Lent.{none, with_rules, with_pending, RuleBecomes, ChangedOnly}
use Rattle.jobs.specs.OwnPlaces.{places_of}
use Rattle.jobs.specs.Represents.{claims_in, pending_place}
use Rattle.register_parts.specs.PendingPlaces.{pending_items, place, with_item}
use Rattle.register_parts.specs.declared.job_fault.JobFault.{JobFault}
use Rattle.register_parts.specs.declared.job_fault.JobFault.TheVariants.{TooManyPending}
use Rattle.register_parts.specs.declared.bay.Job.TheVariants.{Update}
use Rattle.jobs.specs.declared.memory.Memory.{Memory}
use Rattle.jobs.proofs.Exits.{at_reply, at_both, unchanged, with_rule}
use Rattle.jobs.proofs.Entrance.{through, through_job, no_job, for_numbers}
use Rattle.jobs.proofs.LentChanges.{changed_at_most, bay_names}
use Rattle.jobs.proofs.ClaimReplies.{claim_made, claim_denied}
use Rattle.register_parts.proofs.ItemPlaces.{place_most, room_left, no_room_left}
use Rattle.jobs.proofs.Writing.{writes, too_many, is_denied, is_written, one_place_changed}
use Rattle.jobs.proofs.register.Register.write_item.Goals as goal

pub returns-in_err-job : goal.returns-in_err-job
returns-in_err-job g c =
    let o = g.O.ClassOrder in
    let v = g.V.Value in
    let r = g.R.LocalRule in
    let x = c.args.self.now in
    let m = c.args.memory.now in
    let id = c.in_ok-id.id in
    let a : Action g.row.V.Denot = write c.args.item c.args.value in
    let q = by id.class id.bay a in
    let h = through o v r x m a id _ (search rules) c.running_job.ensures.eight refl c.in_ok-id.ensures.reply c.in_ok-id.ensures.names refl in
    let on = writes o v r x m id.class id.bay c.args.item c.args.value in
    let p = err_from_is_err_and c.from_residual-in_err-job.result c.from_residual-in_err-job.ensures.1 in
    for_numbers o v r x m a id c.in_ok-id.ensures.names
    (unchanged o v r x m q (at_reply o v r x m q x m (ap done_reply (p.1 ∙ ap Err p.2))
    (no_job o v r x m id.class id.bay a _ h (λ e. ap on e) (λ e. ap on e) c.in_err-job.field-0.0 c.in_err-job.ensures.reply)))

pub returns-in_err-place : goal.returns-in_err-place
returns-in_err-place g c =
    let o = g.O.ClassOrder in
    let v = g.V.Value in
    let r = g.R.LocalRule in
    let x = c.args.self.now in
    let m = c.args.memory.now in
    let id = c.in_ok-id.id in
    let job = c.in-Update.job in
    let value = c.in_ok-value.value in
    let a : Action g.row.V.Denot = write c.args.item (Some value) in
    let h = through_job o v r x m (a) id (Update c.in-Update.job) (search rules) c.running_job.ensures.eight refl c.in_ok-id.ensures.reply c.in_ok-id.ensures.names (ap Ok (sym c.in-Update.is) ∙ c.in_ok-job.ensures.reply) in
    let past = no_room_left c.args.item (pending_items job.pending) (sym c.in_err-place.ensures.ok_part ∙ c.room_for.ensures.reply) in
    let p = err_from_is_err_and c.from_residual-in_err-place.result c.from_residual-in_err-place.ensures.1 in
    let none_left : Option ℕ → Result ℕ JobFault = λ w. ok_or w TooManyPending in
    let none : ◌≡◌ {A = Result ℕ JobFault} (Err c.in_err-place.field-0.0) (Err TooManyPending) = c.in_err-place.ensures.value ∙ ap none_left c.in_err-place.ensures.ok_part in
    let fault : c.in_err-place.field-0.0 ≡ TooManyPending = cc in
    let z = unchanged o v r x m (by id.class id.bay a) (at_reply o v r x m (by id.class id.bay a) x m (ap done_reply (p.1 ∙ ap Err (p.2 ∙ fault))) (too_many o v r x m id.class id.bay c.args.item value job h c.if-item-self.false c.room_for.ensures.few past)) in
    subst (λ (w : Option g.row.V.Denot). Answered o v r x m (by c.args.class c.args.bay (write c.args.item w)) (done_reply c.from_residual-in_err-place.result) x m) (sym c.in_ok-value.ensures.ok_part)
    (for_numbers o v r x m a id c.in_ok-id.ensures.names z)

pub returns-in_err-claim : goal.returns-in_err-claim
returns-in_err-claim g c =
    let o = g.O.ClassOrder in
    let v = g.V.Value in
    let r = g.R.LocalRule in
    let x = c.args.self.now in
    let m = c.args.memory.now in
    let id = c.in_ok-id.id in
    let job = c.in-Update.job in
    let value = c.in_ok-value.value in
    let item = c.args.item in
    let a : Action g.row.V.Denot = write item (Some value) in
    let h = through_job o v r x m (a) id (Update c.in-Update.job) (search rules) c.running_job.ensures.eight refl c.in_ok-id.ensures.reply c.in_ok-id.ensures.names (ap Ok (sym c.in-Update.is) ∙ c.in_ok-job.ensures.reply) in
    let room = room_left item (pending_items job.pending) c.in_ok-place.place (sym c.in_ok-place.ensures.ok_part ∙ c.room_for.ensures.reply) in
    let in_items : item < 64 = omega (arith, c.if-item-self.false, x.counts.few id.class) in
    let m' = c.claim.new.self in
    let d = claim_denied Write (r.policy Write) (claims_in r m.rules.now id.class) id.bay item h.in_bays in_items c.in_err-claim.field-0.0 c.in_err-claim.ensures.reply in
    let claimed = c.in_err-claim.ensures.memory in
    let w : RuleBecomes r id.class (claims_in r m.rules.now id.class) m m' = (claimed.0, claimed.1, claimed.2 ∙ d.3) in
    let z = (is_denied o v r x m id.class id.bay item value job h c.if-item-self.false c.room_for.ensures.few room.1 d.0 d.1 m' w) in
    let p = err_from_is_err_and c.from_residual-in_err-claim.result c.from_residual-in_err-claim.ensures.1 in
    let as_reply : RuleFault → Reply g.row.V.Denot = λ e. fault_reply (fault_of_rule e) in
    let y = ap done_reply (p.1 ∙ ap Err p.2) ∙ ap as_reply d.2 in
    subst (λ (w : Option g.row.V.Denot). Answered o v r x m (by c.args.class c.args.bay (write item w)) (done_reply c.from_residual-in_err-claim.result) x m') (sym c.in_ok-value.ensures.ok_part)
    (for_numbers o v r x m a id c.in_ok-id.ensures.names (with_rule o v r x m id.class id.bay a h.in_classes h.in_bays w (at_reply o v r x m (by id.class id.bay a) x m' y z)))

pub put_item-requires : goal.put_item-requires
put_item-requires g c =
    let job = c.in-Update.job in
    let items = pending_items job.pending in
    let room = room_left c.args.item items c.in_ok-place.place (sym c.in_ok-place.ensures.ok_part ∙ c.room_for.ensures.reply) in
    (omega (arith, room), omega (arith, room, place_most c.args.item items))

pub returns : goal.returns
returns g c =
    let o = g.O.ClassOrder in
    let v = g.V.Value in
    let r = g.R.LocalRule in
    let x = c.args.self.now in
    let m = c.args.memory.now in
    let id = c.in_ok-id.id in
    let job = c.in-Update.job in
    let value = c.in_ok-value.value in
    let item = c.args.item in
    let a : Action g.row.V.Denot = write item (Some value) in
    let h = through_job o v r x m (a) id (Update c.in-Update.job) (search rules) c.running_job.ensures.eight refl c.in_ok-id.ensures.reply c.in_ok-id.ensures.names (ap Ok (sym c.in-Update.is) ∙ c.in_ok-job.ensures.reply) in
    let at = place item (pending_items job.pending) in
    let room = room_left item (pending_items job.pending) c.in_ok-place.place (sym c.in_ok-place.ensures.ok_part ∙ c.room_for.ensures.reply) in
    let in_items : item < 64 = omega (arith, c.if-item-self.false, x.counts.few id.class) in
    let d = claim_made Write (r.policy Write) (claims_in r m.rules.now id.class) id.bay item h.in_bays in_items c.in_ok-claim.ensures.reply in
    let w = c.in_ok-claim.ensures.memory in
    let rule = w.0 in
    let where_to = c.pending_index.ensures ∙ ap (λ k. pending_place id.class id.bay + k) room.0 in
    let is = c.set_pending.ensures.memory ∙ ap (λ (t : Memory g.row.V.Denot g.row.R.Denot). with_pending t (set t.pending.now c.pending_index.result value)) w.1
    ∙ ap (λ (k : ℕ). with_pending (with_rules m (set m.rules.now id.class rule)) (set m.pending.now k value)) where_to in
    let put = c.put_item.ensures.state ∙ ap (λ k. with_item k item (pending_items job.pending)) room.0 in
    let z = at_both o v r x m (by id.class id.bay a) done c.set_bay.ensures.state is
    (is_written o v r x m id.class id.bay item value job h c.if-item-self.false c.room_for.ensures.few room.1 c.put_item.new.pending put d.0 rule (w.2 ∙ d.1)) in
    let changed = changed_at_most (λ k e. e) (bay_names _ id.class id.bay (places_of id.class id.bay) h.in_classes h.in_bays) (bay_names _ id.class id.bay (eqb id.class) h.in_classes h.in_bays)
    (subst (ChangedOnly none (places_of id.class id.bay) (eqb id.class) m) (sym is) (one_place_changed m id.class id.bay at value rule room.1)) in
    subst (λ (w : Option g.row.V.Denot). Answered o v r x m (by c.args.class c.args.bay (write item w)) done c.set_bay.new.self c.set_pending.new.self) (sym c.in_ok-value.ensures.ok_part)
    (for_numbers o v r x m a id c.in_ok-id.ensures.names (record { reply = z.0; state = z.1; memory = changed }))
