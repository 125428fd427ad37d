-- What a table means once a bay is replaced, and once readers are marked.
use Rattle.std.proofs.Common.{◌≡◌, ℕ, zero, suc, ◌<◌, Bool, false, ◌≢◌, List, map, length, get_or, set, replicate, sym, refl, ap, ◌∙◌, ⊎_elim, get_or-set_other, get_or-set_same}
use lib.ListN.{get_or-map}
use Rattle.std.proofs.lemmas.Bool.{cases_eq, eq-eqb, ne_eqb, lt-ltb, cases_Bool, both_ways}
use Rattle.sets.specs.Members.{members, overlap}
use Rattle.sets.specs.declared.small_set.SmallSet.{SmallSet}
use Rattle.sets.proofs.Bits.{has_none}
use Rattle.sets.proofs.Overlap.{overlap_gives}
use Rattle.rules.specs.declared.access.Access.{Access}
use Rattle.rules.specs.declared.access.Access.TheVariants.{Read, Write}
use Rattle.rules.specs.declared.bay_claims.BayClaims.{BayClaims}
use Rattle.rules.specs.Claims.{Claims, no_claims, forgotten, settled}
use Rattle.rules.specs.Calls.{with_claim}
use Rattle.rules.specs.Tables.{OneBay, one_bay, nothing_claimed, one_claim_more, overwritten, no_bay, bay_at, claims_of}

-- Bay b's part of a meaning.
abbrev pub part : Claims → ℕ → OneBay
part k b = record { reads = k.reads b; writes = k.writes b; stale = k.stale b }

-- Two meanings of one variant are one if they agree bay by bay.
pub same_claims : (k l : Claims) → k.variant ≡ l.variant → ((b : ℕ) → part k b ≡ part l b) → k ≡ l
same_claims k l v h = λ j. record { variant = v j; reads = λ b. (h b j).reads; writes = λ b. (h b j).writes; stale = λ b. (h b j).stale }

pub same_bay : (x y : OneBay) → ((i : ℕ) → x.reads i ≡ y.reads i) → ((i : ℕ) → x.writes i ≡ y.writes i) → x.stale ≡ y.stale → x ≡ y
same_bay x y r w s = λ j. record { reads = λ i. r i j; writes = λ i. w i j; stale = s j }

-- A table with bay b replaced means what is new at b and old elsewhere.
pub replaced : (bays : List BayClaims) (b : ℕ) (y : BayClaims) (k : Claims) → b < length bays → part k b ≡ one_bay y
    → ((b' : ℕ) → b ≢ b' → part k b' ≡ one_bay (bay_at bays b')) → claims_of k.variant (set bays b y) ≡ k
replaced bays b y k h here there = same_claims (claims_of k.variant (set bays b y)) k refl each
  where
    each : (b' : ℕ) → one_bay (bay_at (set bays b y) b') ≡ part k b'
    each b' =
        ⊎_elim
        (λ (e : b ≡ b'). let s = get_or-set_same bays b y no_bay h in rw (← e, s) (sym here))
        (λ (ne : b ≡ b' → ⊥). let s = get_or-set_other bays b b' y no_bay (λ e. ne (sym e)) in rw s (sym (there b' ne)))
        (cases_eq b b')

-- A claim, at its own bay and at any other.
pub claimed_here : (access : Access) (k : Claims) (b i : ℕ) → i < 64 → part (with_claim access b i k) b ≡ one_claim_more access i (part k b)
claimed_here Read k b i h = let e = eq-eqb b b refl in let l = lt-ltb i 64 h in same_bay _ _ (λ i'. rw (e, l)) (λ i'. refl) refl
claimed_here Write k b i h = let e = eq-eqb b b refl in let l = lt-ltb i 64 h in same_bay _ _ (λ i'. refl) (λ i'. rw (e, l)) refl

pub claimed_there : (access : Access) (k : Claims) (b i b' : ℕ) → b ≢ b' → part (with_claim access b i k) b' ≡ part k b'
claimed_there Read k b i b' ne = let e = ne_eqb b b' ne in same_bay _ _ (λ i'. rw e) (λ i'. refl) refl
claimed_there Write k b i b' ne = let e = ne_eqb b b' ne in same_bay _ _ (λ i'. refl) (λ i'. rw e) refl

-- Forgetting, at its own bay and at any other.
pub forgotten_here : (k : Claims) (b : ℕ) → part (forgotten b k) b ≡ nothing_claimed
forgotten_here k b = let e = eq-eqb b b refl in same_bay _ _ (λ i. rw e) (λ i. rw e) (rw e)

pub forgotten_there : (k : Claims) (b b' : ℕ) → b ≢ b' → part (forgotten b k) b' ≡ part k b'
forgotten_there k b b' ne = let e = ne_eqb b b' ne in same_bay _ _ (λ i. rw e) (λ i. rw e) (rw e)

-- Nothing is read past the end of a table.
pub no_bay_claims : one_bay no_bay ≡ nothing_claimed
no_bay_claims = same_bay (one_bay no_bay) nothing_claimed has_none has_none refl

pub nothing_overwritten : (w : SmallSet) → overwritten w no_bay ≡ no_bay
nothing_overwritten w =
    ap (λ (t : Bool). record { reads = no_bay.reads; writes = no_bay.writes; stale = t }) apart
  where
    apart : overlap (members w) (members no_bay.reads) ≡ false
    apart = ⊎_elim (λ t. let r = overlap_gives (members w) (members no_bay.reads) t in absurd (both_ways _ (has_none r.0) r.3)) (λ t. t) (cases_Bool (overlap (members w) (members no_bay.reads)))

pub marked_at : (w : SmallSet) (bays : List BayClaims) (b : ℕ) → bay_at (map (overwritten w) bays) b ≡ overwritten w (bay_at bays b)
marked_at w bays b = ap (get_or (map (overwritten w) bays) b) (sym (nothing_overwritten w)) ∙ get_or-map (overwritten w) bays b no_bay

-- Settling, at its own bay and at any other.
pub settled_here : (k : Claims) (b : ℕ) → part (settled b k) b ≡ nothing_claimed
settled_here k b = let e = eq-eqb b b refl in same_bay _ _ (λ i. rw e) (λ i. rw e) (rw e)

pub settled_there : (v : ℕ) (bays : List BayClaims) (b b' : ℕ) → b ≢ b' → part (settled b (claims_of v bays)) b' ≡ one_bay (overwritten (bay_at bays b).writes (bay_at bays b'))
settled_there v bays b b' ne = let e = ne_eqb b b' ne in same_bay _ _ (λ i. rw e) (λ i. rw e) (rw e)

-- A table of bays that claim nothing.
pub empty_table : (v n : ℕ) (y : BayClaims) → one_bay y ≡ nothing_claimed → claims_of v (replicate n y) ≡ no_claims v
empty_table v n y e = same_claims (claims_of v (replicate n y)) (no_claims v) refl (each n)
  where
    each : (n b : ℕ) → one_bay (bay_at (replicate n y) b) ≡ nothing_claimed
    each zero b = no_bay_claims
    each (suc n) zero = e
    each (suc n) (suc b) = each n b
