-- When a range is the point of its begin: where its end is the begin followed by a zero byte.
use Rattle.std.proofs.Common.{◌≡◌, ℕ, Bool, true, false, List, [], ◌∷◌, ◌++◌, sym, ap, ◌∙◌}
use Rattle.std.proofs.lemmas.List.{same_from_push}
use Rattle.std.specs.Bool.{MatchBool}
use Rattle.kv_core.specs.Bytes.{next_key}
use Rattle.kv_core.specs.Range.{KeyRange, point}

-- a run of bytes that ends in a zero byte is another one followed by a zero byte exactly where the other one stands before that
pub next_or_not : (bytes others front : List ℕ) (last : ℕ) (same : Bool) → bytes ≡ front ++ last ∷ [] → last ≡ 0 → MatchBool same (front ≡ others) (front ≡ others → ⊥)
    → MatchBool same (bytes ≡ next_key others) (bytes ≡ next_key others → ⊥)
next_or_not bytes others front last true e zero is = e ∙ (λ i. is i ++ zero i ∷ [])
next_or_not bytes others front last false e zero other = λ next. other ((same_from_push front others last 0 (sym e ∙ next)).0)

-- a range is a point exactly where its end is that of one
pub point_or_not : (range : KeyRange) (same : Bool) → MatchBool same (range.end ≡ next_key range.begin) (range.end ≡ next_key range.begin → ⊥)
    → MatchBool same (range ≡ point range.begin) (range ≡ point range.begin → ⊥)
point_or_not range true is = λ i. record { begin = range.begin; end = is i }
point_or_not range false other = λ is. other (ap (λ (r : KeyRange). r.end) is)
