use Rattle.std.proofs.Common.{◌≡◌, ◌+◌, ◌≤◌, ℕ, length, ◌∙◌, ap, sym, arith}
use Rattle.journal.specs.Block.{said_number}
use Rattle.journal.specs.declared.block.Head.TheVariants.{Room}
use Rattle.journal.proofs.Heads.{tells_unfit, tells_short, tells_room}
use Rattle.journal.proofs.block.read_behind.Goals as goal
use Rattle.journal.proofs.block.read_behind.Goals.{then-left-lt-HEAD_BYTES-via-then-left-lt-HEAD_BYTES, then-left-lt-HEAD_BYTES-via-else-left-lt-HEAD_BYTES+then-len-left}

pub returns-then-not-is_fitting : goal.returns-then-not-is_fitting
returns-then-not-is_fitting c = λ bytes is left.
    tells_unfit bytes c.args.behind.now is (sym c.is_fitting.ensures ∙ c.if-not-is_fitting.true)

pub returns-then-left-lt-HEAD_BYTES : goal.returns-then-left-lt-HEAD_BYTES
returns-then-left-lt-HEAD_BYTES c = λ bytes is left.
    let said : c.in-Some.len ≡ said_number c.args.behind.now = c.in-Some.ensures.said in
    tells_short bytes c.args.behind.now is
    (elim c.then-left-lt-HEAD_BYTES.branch [ then-left-lt-HEAD_BYTES-via-then-left-lt-HEAD_BYTES w ↦ omega arith | then-left-lt-HEAD_BYTES-via-else-left-lt-HEAD_BYTES+then-len-left w ↦ omega arith ])

pub returns : goal.returns
returns c = λ bytes is left.
    let said : c.in-Some.len ≡ said_number c.args.behind.now = c.in-Some.ensures.said in
    let enough : c.in-Some.len + 65 ≤ 1 + length bytes = omega arith in
    ap (λ (n : ℕ). Room n) said
    ∙ tells_room bytes c.args.behind.now is (sym c.is_fitting.ensures ∙ c.if-not-is_fitting.false) (omega (arith, enough, said))
