-- What stands where in a list with one more element at its end.
use Rattle.std.proofs.Common.{◌≡◌, ℕ, suc, ◌<◌, List, [], ◌∷◌, ◌++◌, length, get_or, arith, length-append}
use lib.ListN.{get_or-append, get_or-eq_default}
use lib.Seq.{get_or_at}

module _ {A : Type 0} (w : List A) (x d : A) where
  pub longer : length (w ++ (x ∷ [])) ≡ suc (length w)
  longer = omega (arith, length-append w (x ∷ []))

  pub at_old : (c : ℕ) → c < length w → get_or (w ++ (x ∷ [])) c d ≡ get_or w c d
  at_old c h = get_or-append w (x ∷ []) d c h

  pub at_new : (c : ℕ) → length w ≡ c → get_or (w ++ (x ∷ [])) c d ≡ x
  at_new c e = get_or_at w x [] d c e

  pub past_new : (c : ℕ) → length w < c → get_or (w ++ (x ∷ [])) c d ≡ d
  past_new c h = get_or-eq_default (w ++ (x ∷ [])) d (omega (arith, longer))
