use Rattle.std.proofs.Common.{◌≡◌, drop}
use Rattle.plan_exec.specs.Decoding.{is_pack_of}
use Rattle.plan_exec.proofs.EntryCells.{key_test}
use Rattle.plan_exec.proofs.entries.is_key.Given as goal

abbrev pub invariant-loop-kind : goal.invariant-loop-kind
invariant-loop-kind l = is_pack_of (key_test l.kinds) l.fn.bytes ≡ is_pack_of (key_test (drop l.kind-index l.kinds)) l.rest
