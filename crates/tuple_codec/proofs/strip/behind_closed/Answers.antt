use Rattle.std.proofs.Common.{arith, refl}
use Rattle.tuple_codec.proofs.Strips.{closes, stops}
use Rattle.tuple_codec.proofs.strip.behind_closed.Goals as goal

pub returns-in-None : goal.returns-in-None
returns-in-None c = stops c.args.code c.args.string.now c.args.key.now c.loop-byte.rest.now c.loop-byte.byte-index _ c.loop-byte-test.true refl c.loop-byte.invariant c.in-None.ensures

pub returns : goal.returns
returns c =
    closes c.args.code c.args.string.now c.args.key.now c.loop-byte.rest.now c.loop-byte.byte-index c.behind_byte-2.result (omega (arith, c.loop-byte-test.false)) c.loop-byte.invariant c.behind_byte-2.ensures
