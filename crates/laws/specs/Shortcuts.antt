-- Three shortcuts that a register might take, and that break the law of one copy: for each a short run in which it fails.
use Rattle.std.specs.Prelude.{ℕ, ◌+◌, true, cond, List, [], ◌∷◌, Some, None, ◌==◌}
use Rattle.rules.specs.Policies.{nothing_in_the_way}
use Rattle.laws.specs.Setting.{Setting}
use Rattle.laws.specs.State.{Cell, updating, reading, Bay, free, closed, running, Class, State, with_bay, fresh_state}
use Rattle.laws.specs.Calls.{Action, begin, read, write, commit, give_up, Request, by, tick}
use Rattle.laws.specs.Actions.{Outcome, answer, perform}
use Rattle.laws.specs.Step.{Stepped, with_outcome, tick_step}
use Rattle.laws.specs.History.{History, entry}
use Rattle.laws.specs.OneCopy.{ReadsOfCopy, start_copy, serialized}
use Rattle.laws.specs.Worked.{chain}

-- What a class does at an action, as `perform` says it, or otherwise.
abbrev pub Way : Type 0 → Type 0
Way V = ℕ → (ℕ → ℕ → Cell V) → ℕ → Class V → ℕ → Action V → Outcome V

module _ {V : Type 0} (S : Setting V) (way : Way V) where
  abbrev pub step_in_way : State V → Request V → Stepped V
  step_in_way s tick = tick_step S s
  step_in_way s (by c b a) = with_outcome S s c (way s.ticks (λ d i. (s.class d).cells i) c (s.class c) b a)

  -- The history h in state s, and after it the requests, first to last.
  abbrev pub continued_in_way : State V → History V → List (Request V) → History V
  continued_in_way s h [] = h
  continued_in_way s h (x ∷ xs) =
      continued_in_way (step_in_way s x).next (entry (record { enough = true; request = x }) (step_in_way s x).reply ∷ h) xs

  abbrev pub history_in_way : List (Request V) → History V
  history_in_way xs = continued_in_way (fresh_state S) [] xs

module _ {V : Type 0} (S : Setting V) where
  -- Each read from below is at the number declared by then: the job forgets its down number.
  abbrev pub without_down : Bay V → Bay V
  without_down free = free
  without_down closed = closed
  without_down (running (updating down p)) = running (updating None p)
  without_down (running (reading r)) = running (reading r)

  abbrev pub reads_newest_declared : Way V
  reads_newest_declared t cells c k b (begin q) = perform S t cells c k b (begin q)
  reads_newest_declared t cells c k b (read d i) = perform S t cells c (with_bay k b (without_down (k.bays b))) b (read d i)
  reads_newest_declared t cells c k b (write i v) = perform S t cells c k b (write i v)
  reads_newest_declared t cells c k b commit = perform S t cells c k b commit
  reads_newest_declared t cells c k b give_up = perform S t cells c k b give_up

  -- A commit takes no notice of the floor.
  abbrev pub without_floor : Class V → Class V
  without_floor k = record { floor = 0; claims = k.claims; bays = k.bays; cells = k.cells }

  abbrev pub commits_below_floor : Way V
  commits_below_floor t cells c k b (begin q) = perform S t cells c k b (begin q)
  commits_below_floor t cells c k b (read d i) = perform S t cells c k b (read d i)
  commits_below_floor t cells c k b (write i v) = perform S t cells c k b (write i v)
  commits_below_floor t cells c k b commit = perform S t cells c (without_floor k) b commit
  commits_below_floor t cells c k b give_up = perform S t cells c k b give_up

  -- A long job reads other classes at the number after its own.
  abbrev pub one_later : Bay V → Bay V
  one_later free = free
  one_later closed = closed
  one_later (running (updating down p)) = running (updating down p)
  one_later (running (reading r)) = running (reading (r + 1))

  abbrev pub reads_lower_later : Way V
  reads_lower_later t cells c k b (begin q) = perform S t cells c k b (begin q)
  reads_lower_later t cells c k b (read d i) =
      cond (c == d) (perform S t cells c k b (read d i))
      (answer (perform S t cells c (with_bay k b (one_later (k.bays b))) b (read d i)).reply k)
  reads_lower_later t cells c k b (write i v) = perform S t cells c k b (write i v)
  reads_lower_later t cells c k b commit = perform S t cells c k b commit
  reads_lower_later t cells c k b give_up = perform S t cells c k b give_up

-- Two classes, 1 above 0, with two items each; every claim is answered yes.
abbrev pub two_classes : Setting ℕ
two_classes = chain (λ access. nothing_in_the_way) 2 1 (λ c. 2)

abbrev pub update_kind : ℕ
update_kind = 0

abbrev pub long_kind : ℕ
long_kind = 1

-- Class 0 releases 1 for both of its items, and the period ends; meanwhile a job of class 1 reads one item before that and the other after it.
abbrev pub mixed_release : List (Request ℕ)
mixed_release =
    by 1 0 (begin update_kind)
    ∷ by 1 0 (read 0 0)
    ∷ by 0 0 (begin update_kind)
    ∷ by 0 0 (write 0 (Some 1))
    ∷ by 0 0 (write 1 (Some 1))
    ∷ by 0 0 commit
    ∷ tick
    ∷ by 1 0 (read 0 1)
    ∷ by 1 0 commit
    ∷ []

-- Of two jobs of class 1 the one that read the older release commits last, and has read what the other wrote.
abbrev pub overtaken_job : List (Request ℕ)
overtaken_job =
    by 1 0 (begin update_kind)
    ∷ by 1 0 (read 0 0)
    ∷ tick
    ∷ by 1 1 (begin update_kind)
    ∷ by 1 1 (read 0 0)
    ∷ by 1 1 (write 0 (Some 5))
    ∷ by 1 1 commit
    ∷ by 1 0 (read 1 0)
    ∷ by 1 0 commit
    ∷ []

-- A long job of class 1 reads class 0, whose release 1 is declared and class 1's next period is not.
abbrev pub early_report : List (Request ℕ)
early_report =
    by 0 0 (begin update_kind)
    ∷ by 0 0 (write 0 (Some 1))
    ∷ by 0 0 commit
    ∷ tick
    ∷ by 1 0 (begin long_kind)
    ∷ by 1 0 (read 1 0)
    ∷ by 1 0 (read 0 0)
    ∷ by 1 0 commit
    ∷ []

-- The reads of the committed jobs are those of one copy, when the register serves the requests in this way.
abbrev pub ReadsInWay : Way ℕ → List (Request ℕ) → Type 0
ReadsInWay way xs = ReadsOfCopy (start_copy two_classes) (serialized two_classes (history_in_way two_classes way xs))

-- Each shortcut breaks the law in its run, and the register itself keeps it in all three.
pub record ShortcutsFail : Type 0 where
  pub newest_declared : ¬ ReadsInWay (reads_newest_declared two_classes) mixed_release
  pub below_floor : ¬ ReadsInWay (commits_below_floor two_classes) overtaken_job
  pub lower_later : ¬ ReadsInWay (reads_lower_later two_classes) early_report
  pub kept_in_mixed_release : ReadsInWay (perform two_classes) mixed_release
  pub kept_in_overtaken_job : ReadsInWay (perform two_classes) overtaken_job
  pub kept_in_early_report : ReadsInWay (perform two_classes) early_report
