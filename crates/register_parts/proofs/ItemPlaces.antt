-- Where items stand among those that have a pending value.
use Rattle.std.proofs.Common.{◌≡◌, ℕ, zero, suc, ◌+◌, ◌<◌, ◌≤◌, Bool, true, false, not, cond, eqb, ltb, List, [], ◌∷◌, length, get_or, take, drop, set, Some, None, Option, sym, refl, ap, ◌∙◌, arith, eq-eqb, ne_eqb, position, unwrap_or, MatchOption, IsSomeAnd}
use Rattle.std.specs.List.{position_or_len}
use Rattle.std.proofs.lemmas.Bool.{ltb-true, ltb-false}
use Rattle.std.proofs.lemmas.List.{at_drop_more, at_drop_all}
use Rattle.std.proofs.lemmas.List.Quantifiers.{position-Some}
use Rattle.std.proofs.lemmas.List.Recursion.{is_position_or_len}
use Rattle.std.proofs.lemmas.List.Sums.{prefix_len-le-length}
use Rattle.register_parts.specs.PendingPlaces.{place, room_for, with_item}

-- Among at most eight items a place is a byte.
pub as_byte : (p : ℕ → Bool) (items : List ℕ) (o r : Option ℕ) (Q : ℕ → ℕ → Type 0) → length items ≤ 8 → o ≡ position p items
    → ((x y : ℕ) → x < 8 → Q x y → y ≡ x) → MatchOption o (r ≡ None) (λ x. IsSomeAnd r (Q x)) → r ≡ position p items
as_byte p items None r Q few e short m = m ∙ e
as_byte p items (Some k) None Q few e short m = absurd m
as_byte p items (Some k) (Some y) Q few e short m =
    let within : k < length items = (position-Some p items k 0 (sym e)).0 in
    ap Some (short k y (omega arith) m) ∙ e

-- The place for a value of an item is where a search for the item ends.
pub first_place : (i : ℕ) (items : List ℕ) → place i items ≡ position_or_len (eqb i) items
first_place i items = is_position_or_len (place i) (eqb i) refl behind_first items
  where
    behind_first : (j : ℕ) (rest : List ℕ) → place i (j ∷ rest) ≡ cond (eqb i j) 0 (1 + place i rest)
    behind_first j rest = let next : suc (place i rest) ≡ 1 + place i rest = omega arith in ap (cond (eqb i j) 0) next

-- It is what the search answers, else the number of items.
pub place_found : (i : ℕ) (items : List ℕ) (n : ℕ) → n ≡ length items → unwrap_or (position (eqb i) items) n ≡ place i items
place_found i items n l = rw (first_place i items) (go (ltb first (length items)) refl)
  where
    first : ℕ
    first = position_or_len (eqb i) items

    go : (q : Bool) → ltb first (length items) ≡ q → unwrap_or (position (eqb i) items) n ≡ first
    go true f = rw f refl
    go false f =
        let last : first ≤ length items = prefix_len-le-length (λ j. not (eqb i j)) items in
        let behind : length items ≤ first = ltb-false first (length items) f in
        rw f (omega arith)

-- What the search answers says whether that place is among the items.
pub found_at : (i : ℕ) (items : List ℕ) (k : ℕ) → Some k ≡ position (eqb i) items → (k ≡ place i items) × (place i items < length items)
found_at i items k e =
    let within : k < length items = (position-Some (eqb i) items k 0 (sym e)).0 in
    let is : k ≡ place i items = ap (λ (o : Option ℕ). unwrap_or o (length items)) e ∙ place_found i items (length items) refl in
    (is, omega arith)

pub not_found : (i : ℕ) (items : List ℕ) → None ≡ position (eqb i) items → length items ≤ place i items
not_found i items e =
    let is : length items ≡ place i items = ap (λ (o : Option ℕ). unwrap_or o (length items)) e ∙ place_found i items (length items) refl in
    omega arith

pub place_most : (i : ℕ) (items : List ℕ) → place i items ≤ length items
place_most i [] = omega arith
place_most i (j ∷ items) = go (eqb i j) (place_most i items)
  where
    go : (q : Bool) → place i items ≤ length items → cond q 0 (suc (place i items)) ≤ suc (length items)
    go true h = omega arith
    go false h = omega arith

-- What an answer says of the room that is left.
pub room_left : (i : ℕ) (items : List ℕ) (k : ℕ) → Some k ≡ room_for i items → (k ≡ place i items) × (place i items < 8)
room_left i items k e = go (ltb (place i items) 8) refl
  where
    go : (q : Bool) → ltb (place i items) 8 ≡ q → (k ≡ place i items) × (place i items < 8)
    go true f = let same : Some k ≡ Some (place i items) = rw f at e in (cc, ltb-true (place i items) 8 f)
    go false f = let none : Some k ≡ None = rw f at e in let z : ◌≡◌ {A = ℕ} 0 1 = cc in absurd (omega arith)

pub no_room_left : (i : ℕ) (items : List ℕ) → None ≡ room_for i items → 8 ≤ place i items
no_room_left i items e = go (ltb (place i items) 8) refl
  where
    go : (q : Bool) → ltb (place i items) 8 ≡ q → 8 ≤ place i items
    go true f = let some : None ≡ Some (place i items) = rw f at e in let z : ◌≡◌ {A = ℕ} 0 1 = cc in absurd (omega arith)
    go false f = ltb-false (place i items) 8 f

-- A search that has come to place k.
module _ (i : ℕ) (items : List ℕ) (k : ℕ) (here : k < length items) where
  pub place_here : i ≡ get_or items k 0 → k + place i (drop k items) ≡ k
  place_here e = rw (at_drop_more (place i) items k 0 here, eq-eqb i (get_or items k 0) e) (omega arith)

  pub place_later : ¬ (i ≡ get_or items k 0) → k + place i (drop k items) ≡ (k + 1) + place i (drop (k + 1) items)
  place_later e = rw (at_drop_more (place i) items k 0 here, ne_eqb i (get_or items k 0) e) (omega arith)

pub place_behind : (i : ℕ) (items : List ℕ) → length items + place i (drop (length items) items) ≡ length items
place_behind i items = rw (at_drop_all (place i) items (length items) (omega arith)) (omega arith)

-- Setting an item among the first n, or behind them.
pub put_within : (n : ℕ) (items : List ℕ) (k i : ℕ) → k < n → k < length items → take n (set items k i) ≡ with_item k i (take n items)
put_within n [] k i h l = absurd (omega arith)
put_within zero (j ∷ items) k i h l = absurd (omega arith)
put_within (suc n) (j ∷ items) zero i h l = refl
put_within (suc n) (j ∷ items) (suc k) i h l = ap (◌∷◌ j) (put_within n items k i (omega arith) (omega arith))

pub put_behind : (items : List ℕ) (k i : ℕ) → k < length items → take (suc k) (set items k i) ≡ with_item k i (take k items)
put_behind [] k i l = absurd (omega arith)
put_behind (j ∷ items) zero i l = refl
put_behind (j ∷ items) (suc k) i l = ap (◌∷◌ j) (put_behind items k i (omega arith))
