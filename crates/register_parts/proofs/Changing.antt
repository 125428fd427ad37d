-- A list that is changed element by element.
use Rattle.std.proofs.Common.{◌≡◌, ℕ, ◌+◌, ◌<◌, ◌≤◌, List, ◌++◌, map, length, get_or, take, drop, set, ap, ◌∙◌, arith}
use lib.ListN.{length-map}
use Rattle.std.proofs.lemmas.List.Edits.{map_over_more}
use Rattle.std.proofs.lemmas.List.{get_or_default, length-append, length-take, length-drop, take_all, drop_all, append-nil}

-- A list of which the first i elements are changed by f: the next one is changed.
pub change_next : {X : Type 0} (f : X → X) (old now later : List X) (i : ℕ) (d : X) → i < length old → now ≡ map f (take i old) ++ drop i old
    → later ≡ set now i (f (get_or now i d)) → later ≡ map f (take (i + 1) old) ++ drop (i + 1) old
change_next f old now later i d h e l =
    let n : length now ≡ length old = ap length e ∙ simp (length-append, length-map, length-take, length-drop) (omega arith) in
    l ∙ map_over_more f old now i (get_or now i d) h e (get_or_default now i d (get_or now i d) (omega arith))

pub change_all : {X : Type 0} (f : X → X) (old : List X) (i : ℕ) → length old ≤ i → map f (take i old) ++ drop i old ≡ map f old
change_all f old i h = rw (take_all i old h, drop_all i old h) (append-nil (map f old))
