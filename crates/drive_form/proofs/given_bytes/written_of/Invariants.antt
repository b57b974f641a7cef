use Rattle.std.proofs.Common.{◌≡◌, ◌++◌, length}
use Rattle.std.specs.Int.{w32, to_le_bytes}
use Rattle.std.specs.List.{AllByRecursion}
use Rattle.drive_form.specs.Form.{FitsMutation, each_of, mutation_bytes}
use Rattle.drive_form.proofs.given_bytes.written_of.Given as goal

abbrev pub invariant-loop : goal.invariant-loop
invariant-loop l = record {
  read : l.fn.reader.rest.now ≡ to_le_bytes w32 l.count ++ (each_of mutation_bytes l.written.items ++ l.reader.rest.now);
  many : length l.written.items ≡ l.counter;
  fit : AllByRecursion FitsMutation l.written.items;
}
