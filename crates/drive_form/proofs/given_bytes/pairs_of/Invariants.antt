use Rattle.std.proofs.Common.{◌≡◌, ◌++◌, length}
use Rattle.std.specs.Int.{w32, to_le_bytes}
use Rattle.std.specs.List.{AllByRecursion}
use Rattle.drive_form.specs.Form.{FitsPair, each_of, pair_bytes}
use Rattle.drive_form.proofs.given_bytes.pairs_of.Given as goal

abbrev pub invariant-loop : goal.invariant-loop
invariant-loop l = record {
  read : l.fn.reader.rest.now ≡ to_le_bytes w32 l.count ++ (each_of pair_bytes l.pairs.items ++ l.reader.rest.now);
  many : length l.pairs.items ≡ l.counter;
  fit : AllByRecursion FitsPair l.pairs.items;
}
