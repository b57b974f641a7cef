use Rattle.std.proofs.Common.{◌≡◌, ◌++◌, take}
use Rattle.tuple_codec.specs.Spelling.{escaped}
use Rattle.tuple_codec.proofs.write.write_escaped.Given as goal

abbrev pub invariant-loop-byte : goal.invariant-loop-byte
invariant-loop-byte l = l.out.items ≡ l.fn.out.items ++ escaped (take l.byte-index l.bytes)
