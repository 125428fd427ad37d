-- The worked cases, by computation.
use Rattle.std.proofs.Common.{◌≡◌, ℕ, zero, suc, ◌≤◌, Some, None, Option, refl, arith}
use lib.Count.{ones}
use Rattle.std.proofs.lemmas.Bool.{leb-true, le-leb}
use Rattle.rules.specs.declared.access.Access.{Access}
use Rattle.rules.specs.declared.access.Access.TheVariants.{Read, Write}
use Rattle.rules.specs.Claims.{Policy}
use Rattle.rules.specs.Policies.{lock, nothing_in_the_way, lowest_below}
use Rattle.rules.specs.Rivals.{NamesARival}
use Rattle.rules.specs.Refusals.{lock_names_a_rival}
use Rattle.rules.proofs.Worked.{stale_reader}
use Rattle.laws.specs.Setting.{sum_below, Lawful}
use Rattle.laws.specs.Worked.{Labels, Versions, chain, Places, Ticks, items_of_two, Run, Worked}

none_not_some : {A : Type 0} (b : ℕ) → ◌≡◌ {A = Option ℕ} None (Some b) → A
none_not_some b e = let z : ◌≡◌ {A = ℕ} 0 1 = cc in absurd (omega arith)

nothing_in_the_way_fair : NamesARival nothing_in_the_way
nothing_in_the_way_fair k b i rival e = none_not_some rival e

chain_lawful : (answers : Access → Policy) (top : ℕ) (items : ℕ → ℕ) → ((access : Access) → NamesARival (answers access))
    → top ≤ 15 → ((c : ℕ) → items c ≤ 2) → sum_below (suc top) items ≤ 256 → Lawful (chain answers (suc top) top items)
chain_lawful answers top items fair few small sum = record {
  some_class = omega arith;
  few_classes = omega arith;
  few_items = λ c l. omega (arith, small c);
  few_in_all = sum;
  reflexive = λ c l. le-leb c c (omega arith);
  antisymmetric = λ c d l l' x y. omega (arith, leb-true d c x, leb-true c d y);
  transitive = λ c d e l l' l'' x y. le-leb e c (omega (arith, leb-true d c x, leb-true e d y));
  lower_below = λ c d l l' x n. omega (arith, leb-true d c x);
  graded = λ c l. omega arith;
  top_reached = (top, omega arith, refl);
  few_grades = omega arith;
  reading_fair = fair Read;
  writing_fair = fair Write;
}

two_small : (c : ℕ) → items_of_two c ≤ 2
two_small zero = omega arith
two_small (suc c) = omega arith

pub labels : Labels
unfolding ones
labels = record { grade = refl; above = refl; apart = refl }

pub versions : Versions
versions = record { greater = λ a b c d. refl; newest = λ a b c d. refl }

pub places : Places
places = record { odd = refl; even = refl; long = refl; higher_first = refl; lower_later = refl; lower_first = refl; higher_later = refl }

pub ticks : Ticks
ticks = record {
  four = refl;
  closes_old = λ p. refl;
  spares_new = λ p. refl;
  outlives = (refl, (refl, (refl, tt)));
  is_closed = (refl, (refl, (refl, tt)));
}

pub run : Run
unfolding lowest_below
run = record {
  lawful = chain_lawful lock 1 items_of_two lock_names_a_rival (omega arith) two_small (omega arith);
  lawful_three = chain_lawful (λ access. nothing_in_the_way) 2 (λ c. 1) (λ access. nothing_in_the_way_fair) (omega arith) (λ c. omega arith) (omega arith);
  replies = (refl, (refl, (refl, (refl, (refl, (refl, (refl, (refl, (refl, (refl, (refl, (refl, (refl, tt)))))))))))));
  places = refl;
  operations = refl;
  copy = refl;
}

pub worked : Worked
worked = record { labels = labels; versions = versions; stale_reader = stale_reader; places = places; ticks = ticks; run = run }
