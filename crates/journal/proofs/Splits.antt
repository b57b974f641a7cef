-- Each file is the blocks of the batches that are read of it, and an end or damage.
use Rattle.std.proofs.Common.{◌≡◌, ◌⊎◌, inl, inr, ℕ, zero, suc, ◌+◌, ◌<◌, List, [], ◌∷◌, ◌++◌, length, drop, Option, Some, None, refl, sym, ◌∙◌, ap, subst, arith, append_assoc, length-append}
use Rattle.journal.specs.Form.{blocks, file_blocks}
use Rattle.journal.specs.Block.{Found, read_from, found_in, Contents, what_begins}
use Rattle.journal.specs.Laws.{HasSplit}
use Rattle.journal.specs.declared.block.First.{First}
use Rattle.journal.specs.declared.block.First.TheVariants.{End, Whole, Damaged}
use Rattle.journal.proofs.Firsts.{whole_is}
use Rattle.journal.proofs.Readings.{behind, one_block, length-written, read_end, read_damaged, reads_as, joined_read}

-- where the batches that are found end, and what is there
abbrev Stops : List ℕ → ℕ → Option ℕ → Type 0
Stops end place damage = ((what_begins end ≡ End) × (damage ≡ None)) ⊎ ((what_begins end ≡ Damaged) × (damage ≡ Some place))

-- the same of bytes at a place, and what is found in them
record Split (place : ℕ) (bytes : List ℕ) (r : Found) : Type 0 where
  end : List ℕ
  split : bytes ≡ file_blocks r.batches ++ end
  stops : Stops end (place + length (file_blocks r.batches)) r.damage

split_end : (place : ℕ) (bytes : List ℕ) → what_begins bytes ≡ End → Split place bytes (record { batches = []; damage = None })
split_end place bytes is = record { end = bytes; split = refl; stops = inl (is, refl) }

split_damaged : (place : ℕ) (bytes : List ℕ) → what_begins bytes ≡ Damaged → Split place bytes (record { batches = []; damage = Some place })
split_damaged place bytes is = record { end = bytes; split = refl; stops = inr (is, ap (λ (n : ℕ). Some n) (omega arith)) }

further : (end : List ℕ) (place then : ℕ) (damage : Option ℕ) → place ≡ then → Stops end place damage → Stops end then damage
further end place then damage same stops = subst (λ (p : ℕ). Stops end p damage) same stops

split_more : (place : ℕ) (batch : List (List ℕ)) (rest : List ℕ) (r : Found) → Split (place + length (blocks batch)) rest r → Split place (blocks batch ++ rest) (behind (batch ∷ []) r)
split_more place batch rest r s = record {
  end = s.end;
  split = ap (λ (l : List ℕ). blocks batch ++ l) s.split ∙ sym (append_assoc (blocks batch) (file_blocks r.batches) s.end);
  stops = further s.end (place + length (blocks batch) + length (file_blocks r.batches)) (place + length (file_blocks (batch ∷ r.batches))) r.damage (omega (arith, length-written batch r.batches)) s.stops;
}

split_by : (fuel place : ℕ) (bytes : List ℕ) → ((p : ℕ) (b : List ℕ) → length b < fuel → Split p b (read_from p 0 b)) → length bytes < suc fuel → (f : First (List (List ℕ))) → what_begins bytes ≡ f → Split place bytes (read_from place 0 bytes)
split_by fuel place bytes shorter few End is = subst (λ r. Split place bytes r) (sym (read_end place bytes is)) (split_end place bytes is)
split_by fuel place bytes shorter few Damaged is = subst (λ r. Split place bytes r) (sym (read_damaged place bytes is)) (split_damaged place bytes is)
split_by fuel place bytes shorter few (Whole batch) is =
    let rest = drop (length (blocks batch)) bytes in
    let is_block : bytes ≡ blocks batch ++ rest = whole_is bytes batch is in
    let next = place + length (blocks batch) in
    let step : read_from place 0 bytes ≡ behind (batch ∷ []) (read_from next 0 rest) =
    ap (λ (b : List ℕ). read_from place 0 b) is_block ∙ one_block place batch rest (ap what_begins (sym is_block) ∙ is) in
    let there = shorter next rest (omega (arith, ap length is_block, length-append (blocks batch) rest, few)) in
    let here = split_more place batch rest (read_from next 0 rest) there in
    subst (λ r. Split place bytes r) (sym step) (subst (λ b. Split place b (behind (batch ∷ []) (read_from next 0 rest))) (sym is_block) here)

splits_at : (fuel place : ℕ) (bytes : List ℕ) → length bytes < fuel → Split place bytes (read_from place 0 bytes)
splits_at zero place bytes few = absurd (omega arith)
splits_at (suc fuel) place bytes few = split_by fuel place bytes (splits_at fuel) few (what_begins bytes) refl

found_split : (file : List ℕ) → Split 0 file (found_in file)
unfolding found_in
found_split file = splits_at (suc (length file)) 0 file (omega arith)

pub splits : (file : List ℕ) → HasSplit file
splits file =
    let s = found_split file in
    let same = ap (λ (r : Contents). r.damage) (reads_as file) in
    record {
      end = s.end;
      split = s.split;
      entries = joined_read file;
      stops = subst (λ (d : Option ℕ). Stops s.end (length (file_blocks (let f = found_in file in f.batches))) d) (sym same) (further s.end _ _ _ (omega arith) s.stops);
    }
