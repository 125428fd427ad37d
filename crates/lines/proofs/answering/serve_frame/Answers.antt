use Rattle.lines.specs.Replies.{told}
use Rattle.lines.proofs.SessionPhases.{out_of_order, word_frame, slip_frame}
use Rattle.lines.proofs.answering.serve_frame.Goals as goal

pub returns-in_default : goal.returns-in_default
returns-in_default c = record {
  answer = out_of_order c.args.register.now c.args.supplied.now c.args.values c.args.operation c.args.frame.now c.in_default.not-Job;
}

pub returns-in-Words : goal.returns-in-Words
returns-in-Words c =
    rw (c.in-Words.is, c.in-Job.is) (record {
      answer = word_frame c.args.register.now c.args.supplied.now c.in-Job.job c.args.frame.now (told c.serve_job.result)
          c.serve_job.new.register c.serve_job.new.memory c.serve_job.ensures.served;
    })

pub returns-in-Slips : goal.returns-in-Slips
returns-in-Slips c =
    rw (c.in-Slips.is, c.in-Job.is) (record {
      answer = slip_frame c.args.register.now c.args.supplied.now c.in-Job.job c.args.frame.now (told c.serve_job-in-Slips.result)
          c.serve_job-in-Slips.new.register c.serve_job-in-Slips.new.memory c.serve_job-in-Slips.ensures.served;
    })
