use Rattle.std.proofs.Common.{◌≡◌, ◌<◌, ℕ, List, take, get_or, get_or-take, arith}
use Rattle.durable.specs.Heads.{word_in}
use Rattle.durable.proofs.heads.word.Goals as goal

at : (bytes : List ℕ) (i : ℕ) → i < 8 → get_or (take 8 bytes) i 0 ≡ get_or bytes i 0
at bytes i less = get_or-take 8 bytes i 0 less

pub returns : goal.returns
unfolding word_in
returns c =
    let b = c.args.bytes.now in
    (c.in-len8-up.len_at_least, omega (arith, c.from_be_bytes.ensures, at b 0 (omega arith), at b 1 (omega arith), at b 2 (omega arith), at b 3 (omega arith), at b 4 (omega arith), at b 5 (omega arith), at b 6 (omega arith), at b 7 (omega arith)))
