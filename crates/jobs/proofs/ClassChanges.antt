-- A change of one class of a register, or of one bay of it, is that change of the state that it stands for.
use Rattle.std.proofs.Common.{◌≡◌, ℕ, ◌<◌, Bool, true, false, cond, eqb, ltb, List, length, get_or, set, sym, refl, ap}
use mathlib.Core.Path.{fun_ext}
use Rattle.std.proofs.lemmas.List.{get_or-set_same, get_or-set_other}
use Rattle.std.proofs.lemmas.Bool.{eqb-true, eqb-false}
use Rattle.cells.specs.declared.cell.Cell.{Cell}
use Rattle.rules.specs.Claims.{Claims, no_claims}
use Rattle.laws.specs.Setting.{Setting}
use Rattle.laws.specs.State as definition
use Rattle.laws.specs.State.{put, Class, with_bay, fresh_class}
use Rattle.jobs.specs.Represents.{no_state, class_of, classes_of, bay_of, bay_values}
use Rattle.jobs.specs.Parts.{with_bay_in}
use Rattle.register_parts.specs.declared.bay.Bay.{Bay}
use Rattle.register_parts.specs.declared.bay.Bay.TheVariants.{Free}
use Rattle.register_parts.specs.declared.class_state.ClassState.{ClassState}

-- A function that differs from f at c alone.
pub put_at : {A : Type 0} (f f' : ℕ → A) (c : ℕ) (k : A) → f' c ≡ k → ((d : ℕ) → ¬ (d ≡ c) → f' d ≡ f d) → f' ≡ put f c k
put_at f f' c k same other = fun_ext (λ d. go d (eqb c d) refl)
  where
    go : (d : ℕ) (q : Bool) → eqb c d ≡ q → f' d ≡ put f c k d
    go d true e = rw (e, ← (eqb-true c d e)) same
    go d false e = rw e (other d (λ p. eqb-false c d e (sym p)))

pub put_same : {A : Type 0} (f : ℕ → A) (c : ℕ) → put f c (f c) ≡ f
put_same f c = sym (put_at f f c (f c) refl (λ d n. refl))

module _ {V : Type 0} (S : Setting V) where
  -- Class c has another state and other claims, and its cells and pending values may be others too.
  pub class_changed : (cells cells' : List (Cell V)) (pending pending' : List V) (states : List ClassState) (claims : List Claims) (c : ℕ) (k : ClassState) (j : Claims)
      → ltb c S.classes ≡ true → c < length states → c < length claims
      → ((d : ℕ) → ¬ (d ≡ c) → (k : ClassState) (j : Claims) → class_of S cells' pending' d k j ≡ class_of S cells pending d k j)
      → classes_of S cells' pending' (set states c k) (set claims c j) ≡ put (classes_of S cells pending states claims) c (class_of S cells' pending' c k j)
  class_changed cells cells' pending pending' states claims c k j inside l m other =
      put_at (classes_of S cells pending states claims) (classes_of S cells' pending' (set states c k) (set claims c j)) c (class_of S cells' pending' c k j)
      (rw (inside, get_or-set_same states c k no_state l, get_or-set_same claims c j (no_claims 0) m)) elsewhere
    where
      elsewhere : (d : ℕ) → ¬ (d ≡ c) → classes_of S cells' pending' (set states c k) (set claims c j) d ≡ classes_of S cells pending states claims d
      elsewhere d n =
          let z : Class V → Class V = λ y. cond (ltb d S.classes) y (fresh_class S) in
          rw (get_or-set_other states c d k no_state n, get_or-set_other claims c d j (no_claims 0) n) (ap z (other d n (get_or states d no_state) (get_or claims d (no_claims 0))))

  -- Bay b has y.
  pub bay_changed : (cells : List (Cell V)) (pending : List V) (c : ℕ) (k : ClassState) (j : Claims) (b : ℕ) (y : Bay) → b < length k.bays
      → class_of S cells pending c (with_bay_in k b y) j ≡ with_bay (class_of S cells pending c k j) b (bay_of (bay_values pending c b) y)
  bay_changed cells pending c k j b y l =
      let with_bays : (ℕ → definition.Bay V) → Class V = λ f. record { floor = k.floor; claims = j; bays = f; cells = (class_of S cells pending c k j).cells } in
      ap with_bays (put_at (class_of S cells pending c k j).bays (class_of S cells pending c (with_bay_in k b y) j).bays b (bay_of (bay_values pending c b) y)
      (ap (bay_of (bay_values pending c b)) (get_or-set_same k.bays b y Free l))
      (λ d n. ap (bay_of (bay_values pending c d)) (get_or-set_other k.bays b d y Free n)))
