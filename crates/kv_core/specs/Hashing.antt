-- What a hasher is fed of a byte string: its bytes, in one run.
use Rattle.std.specs.Prelude.{◌≡◌, ℕ, true, List, [], ◌∷◌}
use Rattle.std.specs.Ordering.{eq_by_cmp}
use Rattle.std.proofs.Common.{sym, ap, ◌∙◌}
use Rattle.std.proofs.lemmas.Map.Text.{is_eq-slice_cmp}
use Rattle.std.proofs.lemmas.Slice.Eq.{bytes_eq-Decides}
use Rattle.kv_core.specs.Bytes.{key_cmp}

-- byte strings that the order doesn't tell apart feed the same
pub fed_alike : (a b : List ℕ) → eq_by_cmp key_cmp a b ≡ true → a ∷ [] ≡ b ∷ []
fed_alike a b tie = ap (λ bytes. bytes ∷ []) ((bytes_eq-Decides a b).0 (sym (is_eq-slice_cmp a b) ∙ tie))
