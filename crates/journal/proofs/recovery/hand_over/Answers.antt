use Rattle.std.proofs.Common.{◌≡◌, ◌≤◌, ◌++◌, List, ℕ, Vec, Global, length, take, sym, ◌∙◌, ap, arith}
use Rattle.std.proofs.lemmas.List.{length-map, take-map}
use Rattle.journal.specs.Recovery.{TookFirst}
use Rattle.journal.specs.Words.{bytes_of_each}
use Rattle.journal.proofs.recovery.hand_over.Goals as goal

-- the first entries were taken
firsts : (old new : List (List ℕ)) (entries : List (Vec ℕ Global)) (i : ℕ) → i ≤ length entries → new ≡ old ++ bytes_of_each (take i entries) → TookFirst old new (bytes_of_each entries)
firsts old new entries i within took = record {
  count = i;
  within = omega (arith, within, length-map entries (λ v. v.items));
  took = took ∙ ap (λ (l : List (List ℕ)). old ++ l) (sym (take-map (λ (v : Vec ℕ Global). v.items) i entries));
}

pub returns-in_err-to_vec-clause-took_first : goal.returns-in_err-to_vec-clause-took_first
returns-in_err-to_vec-clause-took_first g c = firsts _ _ c.args.entries.now c.loop-entry.entry-index c.loop-entry.auto.entry-index-end c.loop-entry.invariant

pub returns-in-Err-clause-took_first : goal.returns-in-Err-clause-took_first
returns-in-Err-clause-took_first g c = firsts _ _ c.args.entries.now c.loop-entry.entry-index c.loop-entry.auto.entry-index-end (c.in-Err.ensures.refused ∙ c.loop-entry.invariant)
