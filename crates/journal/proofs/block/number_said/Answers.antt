use Rattle.std.proofs.Common.{◌≡◌, ◌<◌, ℕ, List, take, get_or, get_or-take, arith}
use Rattle.journal.specs.Block.{said_number}
use Rattle.journal.proofs.block.number_said.Goals as goal

at : (bytes : List ℕ) (i : ℕ) → i < 8 → get_or (take 8 bytes) i 0 ≡ get_or bytes i 0
at bytes i less = get_or-take 8 bytes i 0 less

pub returns-clause-said : goal.returns-clause-said
unfolding said_number
returns-clause-said c =
    let b = c.args.behind.now in
    omega (arith, c.from_be_bytes.ensures, at b 0 (omega arith), at b 1 (omega arith), at b 2 (omega arith), at b 3 (omega arith), at b 4 (omega arith), at b 5 (omega arith), at b 6 (omega arith), at b 7 (omega arith))
