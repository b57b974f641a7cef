-- How entries are read one by one.
use Rattle.std.proofs.Common.{◌≡◌, inl, inr, ℕ, zero, suc, ◌+◌, ◌-◌, ◌<◌, ◌≤◌, List, [], ◌∷◌, length, take, drop, min, refl, sym, ◌∙◌, ap, ap₂, arith, length-drop, le-ltb, lt-ltb}
use Rattle.std.proofs.lemmas.List.{drop-drop, drop_all, take_min}
use Rattle.std.proofs.lemmas.Bool.{cond-true, cond-false, cases_lt}
use Rattle.journal.specs.Block.{said_number, first_entries}

pub unpack_few : (most : ℕ) (bytes : List ℕ) → length bytes < 8 → first_entries most bytes ≡ []
unpack_few zero bytes few = refl
unpack_few (suc most) bytes few = cond-true _ _ _ (lt-ltb _ _ few)

-- the entry at a place: its length, and as many bytes as there are of it
module _ (most at said part : ℕ) (bytes : List ℕ) (far : at + 8 ≤ length bytes) (is : said ≡ said_number (drop at bytes)) (part_is : part ≡ min said (length bytes - (at + 8))) where
  abbrev here : List ℕ
  here = drop at bytes

  enough : 8 ≤ length here
  enough = omega (arith, far, length-drop at bytes)

  front : take (said_number here) (drop 8 here) ≡ take part (drop (at + 8) bytes)
  front =
      let least : min said (length (drop (at + 8) bytes)) ≡ part = omega (arith, part_is, length-drop (at + 8) bytes) in
      ap₂ (λ (n : ℕ) (l : List ℕ). take n l) (sym is) (drop-drop 8 at bytes)
      ∙ sym (take_min said (drop (at + 8) bytes))
      ∙ ap (λ (n : ℕ). take n (drop (at + 8) bytes)) least

  back : drop (8 + said_number here) here ≡ drop (at + 8 + part) bytes
  back = elim (cases_lt (length bytes - (at + 8)) said) [
    | inl less ↦
        drop-drop (8 + said_number here) at bytes
        ∙ drop_all (at + (8 + said_number here)) bytes (omega (arith, less, is))
        ∙ sym (drop_all (at + 8 + part) bytes (omega (arith, less, part_is, far)))
    | inr fits ↦
        let same : at + (8 + said_number here) ≡ at + 8 + part = omega (arith, fits, is, part_is) in
        drop-drop (8 + said_number here) at bytes ∙ ap (λ (k : ℕ). drop k bytes) same
  ]

  pub unpack_step : first_entries (suc most) here ≡ take part (drop (at + 8) bytes) ∷ first_entries most (drop (at + 8 + part) bytes)
  unpack_step =
      cond-false _ _ _ (le-ltb _ _ enough)
      ∙ ap₂ (λ (e : List ℕ) (l : List ℕ). e ∷ first_entries most l) front back
