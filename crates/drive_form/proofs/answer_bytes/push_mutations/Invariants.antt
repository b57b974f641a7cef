use Rattle.std.proofs.Common.{◌≡◌, ◌++◌, length, take}
use Rattle.std.specs.Int.{w32, to_le_bytes}
use Rattle.std.specs.List.{AllByRecursion}
use Rattle.drive_form.specs.Form.{FitsMutation, each_of, mutation_bytes}
use Rattle.drive_form.proofs.answer_bytes.push_mutations.Given as goal

abbrev pub invariant-loop-mutation : goal.invariant-loop-mutation
invariant-loop-mutation l = record {
  spelled :
      l.out.items
      ≡ l.fn.out.items ++ (to_le_bytes w32 (length l.mutations) ++ each_of mutation_bytes (take l.mutation-index l.mutations));
  fit : AllByRecursion FitsMutation (take l.mutation-index l.mutations);
}
