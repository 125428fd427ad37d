-- What a table means after each call that is accepted.
use Rattle.std.proofs.Common.{◌≡◌, ℕ, ◌<◌, true, false, ltb, List, map, length, set, Some, None, Option, Ok, sym, ap, ◌∙◌, ⊎_elim, arith}
use Rattle.std.proofs.lemmas.List.{length-map}
use Rattle.std.proofs.lemmas.Bool.{lt-ltb, ltb-true, cases_Bool, cond-true, cond-false}
use Rattle.rules.specs.declared.access.Access.{Access}
use Rattle.rules.specs.declared.access.Access.TheVariants.{Read, Write}
use Rattle.rules.specs.declared.bay_claims.BayClaims.{BayClaims}
use Rattle.rules.specs.Claims.{Claims, no_claims, forgotten, settled}
use Rattle.rules.specs.Calls.{Outcome, accepted, with_claim, claim_answered, settling, forgetting, one_of, fresh_claims}
use Rattle.rules.specs.Tables.{one_bay, nothing_claimed, one_claim_more, overwritten, bay_at, claims_of}
use Rattle.rules.proofs.InRange.{claim_in_range, settle_in_range, forget_in_range}
use Rattle.rules.proofs.Tables.{replaced, claimed_here, claimed_there, forgotten_here, forgotten_there, settled_here, settled_there, marked_at}

-- The call is accepted, and leaves a table that means what it should, under each variant.
abbrev pub Accepted : List BayClaims → (ℕ → Outcome) → Type 0
Accepted after outcome = (Ok tt ≡ (outcome 0).reply) × ((v : ℕ) → claims_of v after ≡ (outcome v).claims)

accepted_by : (after : List BayClaims) (outcome : ℕ → Outcome) (k : ℕ → Claims) → ((v : ℕ) → outcome v ≡ accepted (k v))
    → ((v : ℕ) → claims_of v after ≡ k v) → Accepted after outcome
accepted_by after outcome k says means = (sym (ap (λ (o : Outcome). o.reply) (says 0)), (λ v. means v ∙ sym (ap (λ (o : Outcome). o.claims) (says v))))

module _ (bays : List BayClaims) (b : ℕ) (y : BayClaims) (in_table : b < length bays) (in_range : b < 8) where
  pub claim_accepted : (rival : Option ℕ) (access : Access) (i : ℕ) → rival ≡ None → i < 64 → one_bay y ≡ one_claim_more access i (one_bay (bay_at bays b))
      → Accepted (set bays b y) (λ v. claim_answered rival access (claims_of v bays) b i)
  claim_accepted rival access i granted h e =
      accepted_by (set bays b y) (λ v. claim_answered rival access (claims_of v bays) b i) (λ v. with_claim access b i (claims_of v bays)) (λ v. claim_in_range (claims_of v bays) b in_range access i h rival None granted) (means access e)
    where
      means : (access : Access) → one_bay y ≡ one_claim_more access i (one_bay (bay_at bays b)) → (v : ℕ)
          → claims_of v (set bays b y) ≡ with_claim access b i (claims_of v bays)
      means Read e v = replaced bays b y (with_claim Read b i (claims_of v bays)) in_table (claimed_here Read (claims_of v bays) b i h ∙ sym e) (claimed_there Read (claims_of v bays) b i)
      means Write e v = replaced bays b y (with_claim Write b i (claims_of v bays)) in_table (claimed_here Write (claims_of v bays) b i h ∙ sym e) (claimed_there Write (claims_of v bays) b i)

  pub forget_accepted : one_bay y ≡ nothing_claimed → Accepted (set bays b y) (λ v. forgetting (claims_of v bays) b)
  forget_accepted e =
      accepted_by (set bays b y) (λ v. forgetting (claims_of v bays) b) (λ v. forgotten b (claims_of v bays)) (λ v. forget_in_range (claims_of v bays) b in_range)
      (λ v. replaced bays b y (forgotten b (claims_of v bays)) in_table (forgotten_here (claims_of v bays) b ∙ sym e) (forgotten_there (claims_of v bays) b))

  pub settle_accepted : (marked : List BayClaims) → (bay_at bays b).stale ≡ false → marked ≡ map (overwritten (bay_at bays b).writes) bays
      → one_bay y ≡ nothing_claimed → Accepted (set marked b y) (λ v. settling (claims_of v bays) b)
  settle_accepted marked fit m e =
      accepted_by (set marked b y) (λ v. settling (claims_of v bays) b) (λ v. settled b (claims_of v bays)) (λ v. settle_in_range (claims_of v bays) b in_range fit) means
    where
      all : List BayClaims
      all = map (overwritten (bay_at bays b).writes) bays

      means : (v : ℕ) → claims_of v (set marked b y) ≡ settled b (claims_of v bays)
      means v =
          ap (λ (xs : List BayClaims). claims_of v (set xs b y)) m
          ∙ replaced all b y (settled b (claims_of v bays)) (rw length-map in_table) (settled_here (claims_of v bays) b ∙ sym e)
          (λ b' ne. settled_there v bays b b' ne ∙ ap one_bay (sym (marked_at (bay_at bays b).writes bays b')))

-- What is one of the numbers below n is v, below n.
is_one_of : (n v w : ℕ) → Some w ≡ one_of n v → (v < n) × (w ≡ v)
is_one_of n v w e = ⊎_elim below (λ past. let z : Some w ≡ None = e ∙ cond-false (ltb v n) (Some v) None past in absurd (some_is_not_none z)) (cases_Bool (ltb v n))
  where
    some_is_not_none : {x : ℕ} → Some x ≡ None → ⊥
    some_is_not_none p = let z : ◌≡◌ {A = ℕ} 0 1 = cc in omega arith

    below : ltb v n ≡ true → (v < n) × (w ≡ v)
    below t = let z : Some w ≡ Some v = e ∙ cond-true (ltb v n) (Some v) None t in (ltb-true v n t, cc)

-- A rule over an empty table is fresh.
pub fresh_accepted : (n v w : ℕ) (bays : List BayClaims) → Some w ≡ one_of n v → ((u : ℕ) → claims_of u bays ≡ no_claims u)
    → Some (claims_of w bays) ≡ fresh_claims n v
fresh_accepted n v w bays numbered empty =
    let h = is_one_of n v w numbered in
    let t = lt-ltb v n h.0 in
    rw t (ap Some (empty w ∙ ap no_claims h.1))
