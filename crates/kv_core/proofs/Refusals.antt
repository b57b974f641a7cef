-- Refusals of lists of mutations, by the bytes before them.
use Rattle.std.proofs.Common.{◌≡◌, ◌+◌, Bool, true, false, cond, not, nat_le, Option, None, Some, [], ◌∷◌, ◌++◌, refl, ap, ◌∙◌, arith}
use Rattle.std.proofs.lemmas.List.Sums.{sum_by-append}
use Rattle.std.specs.Option.{option_or}
use Rattle.kv_core.specs.declared.change.WriteError.{WriteError}
use Rattle.kv_core.specs.declared.change.WriteError.TheVariants.{TransactionTooLarge}
use Rattle.kv_core.specs.MapLaws.{RefusalsBySize}
use Rattle.kv_core.specs.Limits.{own_refusal, size_of, size_of_all, write_all_refusal, refusal_after}

joined : (o : Option WriteError) (t : Bool) (x : WriteError) (r : Option WriteError) →
    option_or (option_or o (cond (not t) (Some x) None)) r ≡ option_or o (cond t r (Some x))
joined (Some e) t x r = refl
joined None true x r = refl
joined None false x r = refl

-- only how many bytes the mutations before have matters
pub write_all-by_size : RefusalsBySize
write_all-by_size before [] = refl
write_all-by_size before (m ∷ more) =
    let one : size_of_all (m ∷ []) ≡ size_of m = omega arith in
    let rest : write_all_refusal (before ++ m ∷ []) more ≡ refusal_after (size_of_all before + size_of m) more =
    write_all-by_size (before ++ m ∷ []) more ∙ ap (λ n. refusal_after n more) (sum_by-append size_of before (m ∷ []) ∙ ap (λ n. size_of_all before + n) one) in
    joined (own_refusal m) (nat_le (size_of_all before + size_of m) 10_000_000) TransactionTooLarge (write_all_refusal (before ++ m ∷ []) more)
    ∙ ap (λ r. option_or (own_refusal m) (cond (nat_le (size_of_all before + size_of m) 10_000_000) r (Some TransactionTooLarge))) rest
