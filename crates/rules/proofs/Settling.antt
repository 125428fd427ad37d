-- For rules under which no bay reads what another writes: settling makes nobody stale.
use Rattle.std.proofs.Common.{◌≡◌, ℕ, Bool, true, false, not, ◌&&◌, ◌||◌, eqb, ◌≢◌, ◌⊎◌, refl, inl, inr, ⊎_elim}
use Rattle.std.proofs.lemmas.Bool.{cases_Bool, cases_eq, eq-eqb, ne_eqb}
use Rattle.sets.proofs.Overlap.{overlap_gives}
use Rattle.rules.specs.Claims.{Claims, forgotten, reads_from, settled}
use Rattle.rules.proofs.Tables.{same_claims, same_bay}

pub settles_unread : (k : Claims) (b : ℕ) → ((b' i : ℕ) → b ≢ b' → k.writes b i ≡ true → k.reads b' i ≡ true → ⊥) → settled b k ≡ forgotten b k
settles_unread k b apart = same_claims (settled b k) (forgotten b k) refl (λ b'. same_bay _ _ (λ i. refl) (λ i. refl) (stale_at b' (cases_eq b b')))
  where
    unread : (b' : ℕ) → b ≢ b' → reads_from b k b' ≡ false
    unread b' ne =
        ⊎_elim (λ t. let r = overlap_gives (k.writes b) (k.reads b') t in absurd (apart b' r.0 ne r.2 r.3)) (λ t. t)
        (cases_Bool (reads_from b k b'))

    or_false : (x : Bool) → (x || false) ≡ x
    or_false true = refl
    or_false false = refl

    stale_at : (b' : ℕ) → (b ≡ b') ⊎ (b ≡ b' → ⊥) → (not (eqb b b') && (k.stale b' || reads_from b k b')) ≡ (not (eqb b b') && k.stale b')
    stale_at b' (inl e) = let t = eq-eqb b b' e in rw t
    stale_at b' (inr ne) = let t = ne_eqb b b' ne in let u = unread b' ne in rw (t, u) (or_false (k.stale b'))
