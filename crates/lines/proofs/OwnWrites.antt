-- By the definition, a job that has written an item reads its own value there.
use Rattle.std.proofs.Common.{◌≡◌, ℕ, ◌<◌, Bool, true, false, ◌&&◌, ltb, List, [], ◌∷◌, Some, None, Option, sym, refl, ap, ◌∙◌, subst, arith}
use Rattle.std.proofs.lemmas.Bool.{ltb-true, and_parts, cond-true}
use Rattle.cells.specs.declared.value.Value.{Ghosts as ValueGhosts}
use Rattle.laws.specs.Setting.{Setting, dominates, bay_count}
use Rattle.laws.specs.State.{put, State, Class, Cell, Bay, Pending, find, pend, free, closed, running, updating, reading}
use Rattle.laws.specs.Calls.{Call, by, read, write, got, refused, unknown}
use Rattle.laws.specs.Actions.{Outcome, no_room, claimed, writes_in, writes_by, writes_value, writes_pending, perform}
use Rattle.laws.specs.Step.{Stepped, stepped, step, known, outcome, with_outcome, request_step}
use Rattle.laws.proofs.Tests.{eqb_same}
use Rattle.laws.proofs.Bays.{find_pend}
use Rattle.lines.specs.Replies.{reply_bytes}

-- A reply of other bytes is no acceptance.
other_bytes : {A : Type 0} (n : ℕ) (rest : List ℕ) → 0 < n → n ∷ rest ≡ 0 ∷ [] → A
other_bytes n rest h e = let z : n ≡ 0 = cc in absurd (omega arith)

module _ {V : Type 0} (v : ValueGhosts V) (S : Setting V) (t : ℕ) (cells_of : ℕ → ℕ → Cell V) (c : ℕ) (k : Class V) (b i : ℕ) where
  -- What an accepted write has done: there was a value and such an item, and the value is pending.
  pub record Written (w : Option V) (z : Outcome V) : Type 0 where
    pub value : V
    pub down : Option ℕ
    pub before : List (Pending V)
    pub came : w ≡ Some value
    pub is_item : ltb i (S.items c) ≡ true
    pub outcome : z ≡ writes_pending S t cells_of c k b down before i value

  was_written : (w : Option V) (x : Bay V) → reply_bytes v (writes_in S t cells_of c k b i w x).reply ≡ 0 ∷ [] → Written w (writes_in S t cells_of c k b i w x)
  was_written w free e = other_bytes 10 [] (omega arith) e
  was_written w closed e = other_bytes 11 [] (omega arith) e
  was_written w (running (reading r)) e = other_bytes 14 [] (omega arith) e
  was_written w (running (updating down p)) e = at_item (ltb i (S.items c)) refl w e
    where
      at_claim : (is : ltb i (S.items c) ≡ true) (x : V) (a : Option ℕ) → reply_bytes v (claimed a (writes_pending S t cells_of c k b down p i x) k).reply ≡ 0 ∷ []
          → Written (Some x) (claimed a (writes_pending S t cells_of c k b down p i x) k)
      at_claim is x None f = record { value = x; down = down; before = p; came = refl; is_item = is; outcome = refl }
      at_claim is x (Some y) f = other_bytes 17 (y ∷ []) (omega arith) f

      at_room : (is : ltb i (S.items c) ≡ true) (x : V) (q : Bool) → no_room i p ≡ q → reply_bytes v (writes_value S t cells_of c k b down p i (Some x)).reply ≡ 0 ∷ []
          → Written (Some x) (writes_value S t cells_of c k b down p i (Some x))
      at_room is x true full f = other_bytes 16 [] (omega arith) (rw full at f)
      at_room is x false full f = rw full (at_claim is x (S.writing k.claims b i) (rw full at f))

      at_value : (is : ltb i (S.items c) ≡ true) (u : Option V) → reply_bytes v (writes_value S t cells_of c k b down p i u).reply ≡ 0 ∷ []
          → Written u (writes_value S t cells_of c k b down p i u)
      at_value is None f = other_bytes 15 [] (omega arith) f
      at_value is (Some x) f = at_room is x (no_room i p) refl f

      at_item : (q : Bool) → ltb i (S.items c) ≡ q → (u : Option V) → reply_bytes v (writes_by S t cells_of c k b (updating down p) i u).reply ≡ 0 ∷ []
          → Written u (writes_by S t cells_of c k b (updating down p) i u)
      at_item false is u f = other_bytes 13 [] (omega arith) (rw is at f)
      at_item true is u f = rw is (at_value is u (rw is at f))

  -- In the class that this leaves, the job reads the value.
  pub reads_written : (w : Option V) (z : Outcome V) (h : Written w z) → dominates S c c ≡ true → (cells' : ℕ → ℕ → Cell V) → (perform S t cells' c z.next b (read c i)).reply ≡ got h.value
  reads_written w z h d cells' =
      let k' : Class V = (writes_pending S t cells_of c k b h.down h.before i h.value).next in
      let found : find i (pend i h.value h.before) ≡ Some h.value = find_pend i i h.value h.before ∙ rw (eqb_same i) refl in
      let here : (perform S t cells' c k' b (read c i)).reply ≡ got h.value = rw (eqb_same b, d, h.is_item, eqb_same c, found) refl in
      subst (λ (o : Outcome V). (perform S t cells' c o.next b (read c i)).reply ≡ got h.value) (sym h.outcome) here

-- A write that is accepted, with the read of the same item by the same bay as the next call.
module _ {V : Type 0} (v : ValueGhosts V) (S : Setting V) (s : State V) (c b i : ℕ) (w : Option V) where
  abbrev writing : Bool → Call V
  writing e = record { enough = e; request = by c b (write i w) }

  abbrev reading_back : Bool → Call V
  reading_back e = record { enough = e; request = by c b (read c i) }

  pub reads_own_write : (e : Bool) → (c < S.classes → S.above c c ≡ true) → reply_bytes v (step S s (writing e)).reply ≡ 0 ∷ []
      → (x : V) × (w ≡ Some x) × ((step S (step S s (writing e)).next (reading_back e)).reply ≡ got x)
  reads_own_write false reflexive f = other_bytes 7 [] (omega arith) f
  reads_own_write true reflexive f = go (known S c b (write i w)) refl f
    where
      go : (q : Bool) → known S c b (write i w) ≡ q → reply_bytes v (request_step S s (by c b (write i w))).reply ≡ 0 ∷ []
          → (x : V) × (w ≡ Some x) × ((step S (request_step S s (by c b (write i w))).next (reading_back true)).reply ≡ got x)
      go false is g = other_bytes 8 [] (omega arith) (rw is at g)
      go true is g =
          let in_classes : ltb c S.classes ≡ true = (and_parts (ltb c S.classes) (ltb b bay_count && true) is).0 in
          let in_bays : ltb b bay_count ≡ true = (and_parts (ltb b bay_count) true (and_parts (ltb c S.classes) (ltb b bay_count && true) is).1).0 in
          let own : dominates S c c ≡ true = rw (in_classes, reflexive (ltb-true c S.classes in_classes)) refl in
          let z = outcome S s c b (write i w) in
          let s' = (with_outcome S s c z).next in
          let h = was_written v S s.ticks (λ d j. (s.class d).cells j) c (s.class c) b i w ((s.class c).bays b) (rw is at g) in
          let known_read : known S c b (read c i) ≡ true = rw (in_classes, in_bays) refl in
          let here : put s.class c z.next c ≡ z.next = rw (eqb_same c) refl in
          let then : (step S s' (reading_back true)).reply ≡ got h.value =
          ap (λ (y : Stepped V). y.reply) (cond-true (known S c b (read c i)) (with_outcome S s' c (outcome S s' c b (read c i))) (stepped (refused unknown) s') known_read)
          ∙ ap (λ (y : Class V). (perform S s.ticks (λ d j. (s'.class d).cells j) c y b (read c i)).reply) here
          ∙ reads_written v S s.ticks (λ d j. (s.class d).cells j) c (s.class c) b i w z h own (λ d j. (s'.class d).cells j) in
          let stepped_to : request_step S s (by c b (write i w)) ≡ with_outcome S s c z = cond-true (known S c b (write i w)) (with_outcome S s c z) (stepped (refused unknown) s) is in
          (h.value, h.came, subst (λ (y : Stepped V). (step S y.next (reading_back true)).reply ≡ got h.value) (sym stepped_to) then)
