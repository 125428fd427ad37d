-- Separation: what a class is told does not depend on what classes do that it does not dominate.
use Rattle.std.specs.Prelude.{◌≡◌, ℕ, Bool, true, not, ◌||◌, filter, nat_lt}
use Rattle.laws.specs.Setting.{Setting, dominates}
use Rattle.laws.specs.Calls.{Request, by, tick}
use Rattle.laws.specs.History.{Entry, History, Faithful}

module _ {V : Type 0} (S : Setting V) where
  -- Whether a request stays where only classes that pass a test are heard. Ticks, and requests by a number that is no class, stay always.
  abbrev pub stays : (ℕ → Bool) → Request V → Bool
  stays heard tick = true
  stays heard (by c b a) = not (nat_lt c S.classes) || heard c

  -- The history without the calls of classes that fail the test.
  abbrev pub only : (ℕ → Bool) → History V → History V
  only heard h = filter (λ (e : Entry V). stays heard e.call.request) h

  -- Name a class k and strike out the calls by all classes that it does not dominate:
  -- a second register, fresh at first and set up alike, gives every call that is left the same reply.
  abbrev pub Separated : History V → Type 0
  Separated h = (k : ℕ) → Faithful S (only (dominates S k) h)

  -- A test that passes, with a class, every class that it dominates. Separation is proved for any such test.
  abbrev pub ClosedBelow : (ℕ → Bool) → Type 0
  ClosedBelow heard = (c d : ℕ) → heard c ≡ true → dominates S c d ≡ true → heard d ≡ true
