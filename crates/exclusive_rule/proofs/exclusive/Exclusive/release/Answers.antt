use Rattle.std.proofs.Common.{sym, ap, ◌∙◌, arith}
use Rattle.exclusive_rule.specs.Holds.{claims_of}
use Rattle.exclusive_rule.proofs.Holds.{after_release}
use Rattle.rules.proofs.InRange.{forget_in_range}
use Rattle.exclusive_rule.proofs.exclusive.Exclusive.release.Goals as goal

pub returns : goal.returns
returns c =
    let e = forget_in_range (claims_of c.args.self.now.holds) c.args.bay (omega arith) in
    record {
      reply = sym (ap (λ o. o.reply) e);
      state = ap claims_of c.release_all.ensures ∙ after_release c.args.self.now.holds c.args.bay ∙ sym (ap (λ o. o.claims) e);
    }
