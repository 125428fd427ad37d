-- What holds of a register that stands after a history: the bays and the jobs agree, the cells hold what the committed jobs wrote, and open jobs read rightly.
use Rattle.std.proofs.Common.{ℕ, ◌<◌, [], refl, arith}
use Rattle.std.proofs.lemmas.Bool.{le-leb}
use Rattle.laws.specs.Setting.{Setting}
use Rattle.laws.specs.State.{Cell, State, fresh_state}
use Rattle.laws.specs.History.{History}
use Rattle.laws.specs.Transactions.{job, committed}
use Rattle.laws.proofs.Deadlines.{Tracked}
use Rattle.laws.proofs.Serial.{Serial}
use Rattle.laws.proofs.JobReads.{Sound}

module _ {V : Type 0} (S : Setting V) where
  abbrev pub cells_in : State V → ℕ → ℕ → Cell V
  cells_in s d i = (s.class d).cells i

  abbrev pub floors_in : State V → ℕ → ℕ
  floors_in s d = (s.class d).floor

  pub record Invariant (s : State V) (h : History V) : Type 0 where
    pub tracked : Tracked S s h
    pub serial : Serial S s.ticks (floors_in s) (cells_in s) (committed S h)
    pub sound : (c b : ℕ) → c < S.classes → Sound S (cells_in s) (s.class c).claims c b ((s.class c).bays b) (job c b h)

  pub invariant_fresh : Invariant (fresh_state S) []
  invariant_fresh = record {
    tracked = record { time = refl; bays = λ c b l. tt };
    serial = record {
      floors = λ c l. refl;
      floor_low = λ c l. omega arith;
      falls = λ c i l. tt;
      heads = λ c i l. omega arith;
      reads = λ c i n l h. rw (le-leb 0 n (omega arith));
      newests = λ c i l. refl;
      well_placed = tt;
      ordered = tt;
      true_reads = tt;
    };
    sound = λ c b l. tt;
  }
