-- What the head of bytes tells of them.
use Rattle.std.proofs.Common.{◌≡◌, ℕ, ◌+◌, ◌<◌, ◌≤◌, true, false, List, length, take, sym, ◌∙◌, ap, arith, length-take}
use Rattle.journal.specs.Block.{said_number, counts_fit, behind_gate}
use Rattle.journal.specs.declared.block.Head.TheVariants.{Part, Room}
use Rattle.journal.proofs.Firsts.{said_room, said_unfit, said_short, said_number-take, fits_by}

-- bytes behind a gate whose head is this
module _ (bytes behind : List ℕ) (is : behind ≡ take 64 bytes) where
  same_fits : counts_fit behind ≡ counts_fit bytes
  same_fits = ap counts_fit is ∙ fits_by 64 bytes (omega arith)

  same_length : said_number behind ≡ said_number bytes
  same_length = ap said_number is ∙ said_number-take 64 bytes (omega arith)

  long : length behind ≤ length bytes
  long = omega (arith, ap length is, length-take 64 bytes)

  pub tells_unfit : counts_fit behind ≡ false → Part ≡ behind_gate bytes
  tells_unfit unfit = sym (said_unfit bytes (sym same_fits ∙ unfit))

  pub tells_few : length behind < 8 → Part ≡ behind_gate bytes
  tells_few few = sym (said_short bytes (omega (arith, few, ap length is, length-take 64 bytes)))

  pub tells_short : length bytes < 64 + said_number behind → Part ≡ behind_gate bytes
  tells_short less = sym (said_short bytes (omega (arith, less, same_length)))

  pub tells_room : counts_fit behind ≡ true → 64 + said_number behind ≤ length bytes → Room (said_number behind) ≡ behind_gate bytes
  tells_room fit enough =
      ap (λ (n : ℕ). Room n) same_length ∙ sym (said_room bytes (sym same_fits ∙ fit) (omega (arith, enough, same_length)))
