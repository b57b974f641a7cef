use Rattle.recordctl.proofs.KnownInput.{front_is_read}
use Rattle.recordctl.proofs.input.read_input.Goals as goal

pub returns-in-Ok-clause-ok : goal.returns-in-Ok-clause-ok
returns-in-Ok-clause-ok g c = front_is_read (g.R.Read.remaining c.args.input.now) 4000001 c.new-bytes.result.items c.read_to_end.new.buf.items c.new-bytes.ensures.items (rw (c.take.ensures.limit, c.take.ensures.inner) at c.in-Ok.ensures.bytes)
