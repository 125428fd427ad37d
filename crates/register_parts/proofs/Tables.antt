-- The table of declared numbers: what a tick changes in it.
use Rattle.std.proofs.Common.{◌≡◌, ℕ, zero, suc, ◌+◌, ◌/◌, ◌<◌, Bool, true, false, eqb, List, length, get_or, set, sym, refl, ap, ◌∙◌, mod-lt, add-one, arith, get_or-set_other, get_or-set_same}
use Rattle.std.proofs.lemmas.Bool.{eqb-true, eqb-false, eq-eqb, ne_eqb}
use Rattle.laws.specs.Clock.{declared, tick_grade, tick_number}
use Rattle.register_parts.specs.declared.declaration.Declaration.{Declaration}
use Rattle.laws.proofs.ClockLaws.{tick_here}

-- Above the greatest grade nothing is declared.
pub undeclared : (top g t : ℕ) → top < g → declared top g t ≡ 0
undeclared top g zero h = refl
undeclared top g (suc t) h =
    let l : tick_grade top t < suc top = mod-lt t (omega arith) in
    rw (ne_eqb (tick_grade top t) g (omega arith), undeclared top g t h)

-- A tick puts the number that it declares at its grade.
pub tick_table : (table : List ℕ) (top t : ℕ) (next : Declaration) → next ≡ record { grade = tick_grade top t; number = tick_number top t }
    → tick_grade top t < length table → ((g : ℕ) → get_or table g 0 ≡ declared top g t)
    → (g : ℕ) → get_or (set table next.grade next.number) g 0 ≡ declared top g (t + 1)
tick_table table top t next is h counted g = rw (is, add-one t) (go (eqb (tick_grade top t) g) refl)
  where
    table' : List ℕ
    table' = set table (tick_grade top t) (tick_number top t)

    go : (q : Bool) → eqb (tick_grade top t) g ≡ q → get_or table' g 0 ≡ declared top g (suc t)
    go true e =
        let f : tick_grade top t ≡ g = eqb-true (tick_grade top t) g e in
        let d : declared top g t ≡ t / suc top = ap (λ k. declared top k t) (sym f) ∙ tick_here top t in
        let s : get_or table' g 0 ≡ tick_number top t = ap (λ k. get_or table' k 0) (sym f) ∙ get_or-set_same table (tick_grade top t) (tick_number top t) 0 h in
        rw (e, s, d) (omega arith)
    go false e =
        rw (e, get_or-set_other table (tick_grade top t) g (tick_number top t) 0 (λ f. eqb-false (tick_grade top t) g e (sym f)), counted g) (omega arith)

-- What a tick says it declares is then declared.
pub tick_declares : (top t : ℕ) (next : Declaration) → next ≡ record { grade = tick_grade top t; number = tick_number top t }
    → declared top next.grade (t + 1) ≡ next.number
tick_declares top t next is = rw (is, add-one t, eq-eqb (tick_grade top t) (tick_grade top t) refl, tick_here top t) (omega arith)
