-- When pairs are the ones that are known, and whose states are known then.
use Rattle.std.proofs.Common.{◌≡◌, ◌&&◌, ℕ, List, Bool, true, false, Option, Some, None, IfSome, MatchBool, refl, sym, ap, subst}
use Rattle.std.proofs.Math.Bool.{true≢false}
use Rattle.std.specs.Bool.{Decides}
use Rattle.std.specs.Option.{IsSomeAnd}
use Rattle.std.specs.Ordering.{eq_by_cmp}
use Rattle.std.proofs.lemmas.Bool.Decides.{Decides-and}
use Rattle.std.proofs.lemmas.Cmp.{eq_by_cmp_equiv, nat_list_cmp_total}
use Rattle.std.proofs.lemmas.Map.Lookups.{exact_bytes}
use Rattle.std.proofs.lemmas.Map.Views.{tells_apart}
use Rattle.kv_core.specs.Bytes.{key_cmp}
use Rattle.metadata.specs.Schema.{Schema}
use Rattle.metadata.specs.declared.index.State.{State}
use Rattle.record_store.specs.Reading.{AreStates}

abbrev Pair : Type 0
Pair = List ℕ × List ℕ

bytes_decide : (a b : List ℕ) → Decides (eq_by_cmp key_cmp a b) (a ≡ b)
bytes_decide a b = (tells_apart exact_bytes a b, λ e. subst (λ c. eq_by_cmp key_cmp a c ≡ true) e ((eq_by_cmp_equiv nat_list_cmp_total).refl a))

-- two pairs are the same where their keys and their values are
pub pairs_decide : (p q : Pair) → Decides (eq_by_cmp key_cmp p.0 q.0 && eq_by_cmp key_cmp p.1 q.1) (p ≡ q)
pairs_decide p q =
    let both = Decides-and (eq_by_cmp key_cmp p.0 q.0) (eq_by_cmp key_cmp p.1 q.1) (bytes_decide p.0 q.0) (bytes_decide p.1 q.1) in
    ((λ e i. ((both.0 e).0 i, (both.0 e).1 i)), λ e. both.1 (ap (λ (r : Pair). r.0) e, ap (λ (r : Pair). r.1) e))

pub matched : {P : Type 0} (r : Bool) → Decides r P → MatchBool r P (P → ⊥)
matched true decides = decides.0 refl
matched false decides = λ p. true≢false (sym (decides.1 p))

-- states of the schema that is known are those of an equal one
pub of_known : {W : Type 0} (told : W → Schema) (prefix : List ℕ) (schema : Schema) (pairs : List Pair)
    (states : List (ℕ × State)) (written : Option W) → IfSome written (λ last. told last ≡ schema) →
    IsSomeAnd written (λ last. AreStates prefix (told last).indexes pairs states) →
    AreStates prefix schema.indexes pairs states
of_known told prefix schema pairs states None is none = absurd none
of_known told prefix schema pairs states (Some last) is good = subst (λ (s : Schema). AreStates prefix s.indexes pairs states) is good
