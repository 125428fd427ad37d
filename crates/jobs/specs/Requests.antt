-- The requests that the calls of a register stand for.
use Rattle.std.specs.Prelude.{ℕ, Option}
use Rattle.laws.specs.Calls.{begin, read, write, commit, give_up, Request, by, tick}

module _ {V : Type 0} where
  abbrev pub to_begin : ℕ → ℕ → ℕ → Request V
  to_begin c b kind = by c b (begin kind)

  abbrev pub to_read : ℕ → ℕ → ℕ → ℕ → Request V
  to_read c b d i = by c b (read d i)

  abbrev pub to_write : ℕ → ℕ → ℕ → Option V → Request V
  to_write c b i v = by c b (write i v)

  abbrev pub to_commit : ℕ → ℕ → Request V
  to_commit c b = by c b commit

  abbrev pub to_give_up : ℕ → ℕ → Request V
  to_give_up c b = by c b give_up

  abbrev pub to_tick : Request V
  to_tick = tick
