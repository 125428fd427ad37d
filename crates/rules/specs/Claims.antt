-- What a local rule means: which items each bay claims, which bays are stale, and how the calls change that.
-- A bay is the slot of one running transaction; a claim is a lock request or an entry for validation.
use Rattle.std.specs.Prelude.{ℕ, Bool, false, not, ◌&&◌, ◌||◌, Option, ◌==◌, nat_eq}
use Rattle.sets.specs.Members.{overlap}

pub record Claims : Type 0 where
  -- Which of a rule's variants is in force, where it has several: set-up chooses it and no call changes it.
  pub variant : ℕ
  -- Whether a bay claims an item, for reading and for writing.
  pub reads : ℕ → ℕ → Bool
  pub writes : ℕ → ℕ → Bool
  -- A stale bay is doomed: it read what another bay has overwritten since, so it fails validation.
  pub stale : ℕ → Bool

-- A fresh rule: nothing is claimed, no bay is stale.
abbrev pub no_claims : ℕ → Claims
no_claims v = record { variant = v; reads = λ b i. false; writes = λ b i. false; stale = λ b. false }

abbrev pub this_item : ℕ → ℕ → ℕ → ℕ → Bool
this_item b i b' i' = b == b' && i == i'

abbrev pub with_read : ℕ → ℕ → Claims → Claims
with_read b i k = record {
  variant = k.variant;
  reads = λ b' i'. this_item b i b' i' || k.reads b' i';
  writes = k.writes;
  stale = k.stale;
}

abbrev pub with_write : ℕ → ℕ → Claims → Claims
with_write b i k = record {
  variant = k.variant;
  reads = k.reads;
  writes = λ b' i'. this_item b i b' i' || k.writes b' i';
  stale = k.stale;
}

-- The bays that `ends` names lose their claims and are not stale.
abbrev pub without : (ℕ → Bool) → Claims → Claims
without ends k = record {
  variant = k.variant;
  reads = λ b i. not (ends b) && k.reads b i;
  writes = λ b i. not (ends b) && k.writes b i;
  stale = λ b. not (ends b) && k.stale b;
}

abbrev pub forgotten : ℕ → Claims → Claims
forgotten b = without (nat_eq b)

-- Whether a bay read an item that bay b writes.
abbrev pub reads_from : ℕ → Claims → ℕ → Bool
reads_from b k b' = overlap (k.writes b) (k.reads b')

-- Bay b settles (passes validation): whoever else read what it writes is stale, and its own claims are gone.
abbrev pub settled : ℕ → Claims → Claims
settled b k = forgotten b (record {
  variant = k.variant;
  reads = k.reads;
  writes = k.writes;
  stale = λ b'. k.stale b' || reads_from b k b';
})

-- How a rule answers a claim: which bay stands in the way, if any. A function of what the rule means, of the bay and of the item.
abbrev pub Policy : Type 0
Policy = Claims → ℕ → ℕ → Option ℕ
