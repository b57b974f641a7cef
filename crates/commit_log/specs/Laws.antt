-- What a crash leaves of a log that is on the disk.
use Rattle.std.specs.Prelude.{ℕ, List}
use Rattle.std.proofs.Common.{subst, sym}
use Rattle.command_log.specs.declared.entry.Entry.{Entry}
use Rattle.durable.specs.Keeping.{HasLogOf, HasOnDisk, no_base}

pub leaves_log : {D : Type 0} (seen : D → List ℕ) (may_leave : D → List ℕ → Type 0) (device : D) (entries : List Entry)
    (file : List ℕ) → HasOnDisk seen may_leave no_base entries device → may_leave device file →
    HasLogOf no_base file entries
leaves_log seen may_leave device entries file has left =
    subst (λ c. HasLogOf no_base c entries) (sym (has.durable file left)) has.file
