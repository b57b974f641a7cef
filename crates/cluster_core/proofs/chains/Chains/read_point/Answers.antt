use Rattle.std.proofs.Common.{◌≡◌, ◌∷◌, ◌++◌, [], List, Option, None, Some, ℕ, false, ◌∙◌, ap, sym}
use Rattle.std.specs.BTreeMap.{BTreeMap}
use Rattle.kv_core.specs.Range.{point}
use Rattle.kv_core.specs.Read.{read_of}
use Rattle.kv_core.proofs.PointReads.{pair_of, read_of-point}
use Rattle.cluster_core.specs.Chains.{links_at, shown, value_at}
use Rattle.cluster_core.specs.declared.chain.Chain.{Chain}
use Rattle.cluster_core.proofs.Shown.{get-shown}
use Rattle.cluster_core.proofs.chains.Chains.read_point.Goals as goal

-- what is read at a key is the pair of its value there
pair_at : (chains : BTreeMap (List ℕ) Chain) (version : ℕ) (key : List ℕ) (found : Option (List ℕ)) → found ≡ value_at version (links_at chains key) → pair_of key found ≡ read_of (shown chains.entries version) (point key) 1 false
pair_at chains version key found is = ap (pair_of key) (is ∙ sym (get-shown chains version key)) ∙ sym (read_of-point (shown chains.entries version) key)

pub returns-in-None : goal.returns-in-None
returns-in-None c = c.new-pairs.ensures.items ∙ pair_at c.args.self.now.chains c.args.version c.args.key.now None c.in-None.ensures

-- the first pair of a list
one_pair : (k l v w : List ℕ) (old new : List (List ℕ × List ℕ)) → new ≡ old ++ (l, w) ∷ [] → old ≡ [] → l ≡ k → w ≡ v → new ≡ pair_of k (Some v)
one_pair k l v w old new is none key value = is ∙ ap (λ them. them ++ (l, w) ∷ []) none ∙ ap (λ x. (x, w) ∷ []) key ∙ ap (λ x. (k, x) ∷ []) value

pub returns-in_ok-push-in-Some : goal.returns-in_ok-push-in-Some
returns-in_ok-push-in-Some c =
    one_pair c.args.key.now _ c.in-Some.value.now _ _ _ c.in_ok-push-in-Some.ensures.items c.new-pairs.ensures.items c.in_ok-copy-in-Some.ensures c.in_ok-copy-in-Some-2.ensures
    ∙ pair_at c.args.self.now.chains c.args.version c.args.key.now (Some c.in-Some.value.now) c.in-Some.ensures
