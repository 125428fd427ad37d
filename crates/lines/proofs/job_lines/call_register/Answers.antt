use Rattle.std.proofs.Common.{◌≡◌, false, refl, ap, ◌∙◌, rules, arith}
use Rattle.jobs.specs.Requests.{to_commit}
use Rattle.lines.specs.JobFrames.{right_length}
use Rattle.lines.specs.Operations.{byte}
use Rattle.lines.specs.Replies.{reply_bytes}
use Rattle.lines.specs.declared.operation.JobOperation.TheVariants.{Commit}
use Rattle.lines.proofs.ServedCalls.{call_served, refusal_served, wrong_served}
use Rattle.lines.proofs.WithinNeeds.{commit_within}
use Rattle.lines.proofs.job_lines.call_register.Goals as goal
use Rattle.lines.proofs.job_lines.call_register.Goals.{in_default-via-in-Begin+then-frame-lt4, in_default-via-in-Begin+else-frame-lt4+else-this-lt5, in_default-via-in-Read+then-this-lt5-2, in_default-via-in-Read+else-this-lt5-2+else-this-lt6, in_default-via-in-Write+then-this-lt4, in_default-via-in-Write-len4-up+else-value-WIDTH, in_default-via-in-Commit+then-this-lt3, in_default-via-in-Commit+else-this-lt3+else-this-lt4-2, in_default-via-in-GiveUp+then-this-lt3-2, in_default-via-in-GiveUp+else-this-lt3-2+else-this-lt4-3, in_default-via-in-Tick+then-this-lt1, in_default-via-in-Tick+else-this-lt1+else-this-lt2}

pub returns-in_err-commit-in-Commit-len3 : goal.returns-in_err-commit-in-Commit-len3
returns-in_err-commit-in-Commit-len3 g c =
    let o = g.O.ClassOrder in
    let v = g.V.Value in
    let r = g.R.LocalRule in
    let x = c.args.register.now in
    let m = c.args.memory.now in
    let frame = c.args.frame.now in
    let class = byte 1 frame in
    let bay = byte 2 frame in
    record {
      served = refusal_served o v r x m c.args.job Commit frame c.in-Commit-len3.is-0 (omega (arith, c.in-Commit-len3.len_at_least, c.in-Commit-len3.len_below))
          (to_commit class bay) refl c.commit.new.self c.commit.new.memory c.commit.ensures.state
          (commit_within o v r x m c.commit.new.memory class bay c.commit.ensures.bay_memory) c.in_err-commit-in-Commit-len3.field-0.0
          c.from_residual-in_err-commit-in-Commit-len3.result c.from_residual-in_err-commit-in-Commit-len3.ensures.1 c.in_err-commit-in-Commit-len3.ensures.reply;
    }

pub returns-in_ok-commit-in-Commit-len3 : goal.returns-in_ok-commit-in-Commit-len3
returns-in_ok-commit-in-Commit-len3 g c =
    let o = g.O.ClassOrder in
    let v = g.V.Value in
    let r = g.R.LocalRule in
    let x = c.args.register.now in
    let m = c.args.memory.now in
    let frame = c.args.frame.now in
    let class = byte 1 frame in
    let bay = byte 2 frame in
    record {
      served = call_served o v r x m c.args.job Commit frame c.in-Commit-len3.is-0 (omega (arith, c.in-Commit-len3.len_at_least, c.in-Commit-len3.len_below))
          (to_commit class bay) refl c.commit.new.self c.commit.new.memory c.commit.ensures.state
          (commit_within o v r x m c.commit.new.memory class bay c.commit.ensures.bay_memory) c.done-in-Commit-len3.result.items
          (c.done-in-Commit-len3.ensures.reply ∙ ap (reply_bytes v) c.in_ok-commit-in-Commit-len3.ensures.reply);
    }

pub returns-in_default : goal.returns-in_default
returns-in_default g c =
    let wrong : right_length g.V.Value.WIDTH c.args.job c.args.frame.now ≡ false =
    elim c.in_default.branch [
      | in_default-via-in-Begin+then-frame-lt4 w ↦ search rules
      | in_default-via-in-Begin+else-frame-lt4+else-this-lt5 w ↦ search rules
      | in_default-via-in-Read+then-this-lt5-2 w ↦ search rules
      | in_default-via-in-Read+else-this-lt5-2+else-this-lt6 w ↦ search rules
      | in_default-via-in-Write+then-this-lt4 w ↦ search rules
      | in_default-via-in-Write-len4-up+else-value-WIDTH w ↦ search rules
      | in_default-via-in-Commit+then-this-lt3 w ↦ search rules
      | in_default-via-in-Commit+else-this-lt3+else-this-lt4-2 w ↦ search rules
      | in_default-via-in-GiveUp+then-this-lt3-2 w ↦ search rules
      | in_default-via-in-GiveUp+else-this-lt3-2+else-this-lt4-3 w ↦ search rules
      | in_default-via-in-Tick+then-this-lt1 w ↦ search rules
      | in_default-via-in-Tick+else-this-lt1+else-this-lt2 w ↦ search rules
    ] in
    record { served = wrong_served g.O.ClassOrder g.V.Value g.R.LocalRule c.args.register.now c.args.memory.now c.args.job c.args.frame.now wrong }
