use Rattle.std.proofs.Common.{◌≡◌, IfOk, IfSome, subst, sym}
use Rattle.record_store.proofs.known.KnownSchema.known.Goals as goal

pub returns-in-Some-clause-known : goal.returns-in-Some-clause-known
returns-in-Some-clause-known c =
    subst (λ w. IfOk c.of_bytes.result (λ found. IfSome found (λ schema. IfSome w (λ last. last.schema.value ≡ schema.value)))) (sym c.in-Some.is) c.of_bytes.ensures.known
