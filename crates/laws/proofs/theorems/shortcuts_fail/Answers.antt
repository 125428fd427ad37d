-- The read that gives a shortcut away gave 1 or 5, where one copy gives 0; all is by computation.
use Rattle.std.proofs.Common.{◌≡◌, ℕ, refl, arith}
use Rattle.sets.specs.Members.{overlap}
use Rattle.laws.proofs.theorems.shortcuts_fail.Goals as goal

pub returns : goal.returns
unfolding overlap
returns c = record {
  newest_declared = λ r. let wrong : ◌≡◌ {A = ℕ} 1 0 = r.0.0 in omega arith;
  below_floor = λ r. let wrong : ◌≡◌ {A = ℕ} 5 0 = r.0.0 in omega arith;
  lower_later = λ r. let wrong : ◌≡◌ {A = ℕ} 1 0 = r.0.0 in omega arith;
  kept_in_mixed_release = ((refl, (refl, tt)), (tt, tt));
  kept_in_overtaken_job = ((refl, tt), tt);
  kept_in_early_report = ((refl, (refl, tt)), (tt, tt));
}
