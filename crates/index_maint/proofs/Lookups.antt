-- What is looked up in lists of pairs.
use Rattle.std.proofs.Common.{◌≡◌, ℕ, Bool, true, false, cond, List, Option, map, [], ◌∷◌, ◌++◌, Some, None, refl, ap, ◌∙◌}
use Rattle.std.proofs.lemmas.Bool.{false_from_ne_true}
use Rattle.std.specs.BTreeMap.{is_at}
use Rattle.std.specs.List.{AllByRecursion}
use Rattle.std.specs.Map.{lookup}
use Rattle.std.specs.Option.{option_or}
use Rattle.std.specs.Ordering.{is_eq}
use Rattle.tuple_codec.specs.Spelling.{spelling}
use Rattle.tuple_codec.specs.Subspace.{BeginsWith}
use Rattle.kv_core.specs.Bytes.{key_cmp}
use Rattle.kv_core.proofs.Order.{tied_keys}
use Rattle.metadata.specs.declared.index.IndexDefinition.{IndexDefinition}
use Rattle.metadata.specs.Record.{Record}
use Rattle.index_maint.specs.Entries.{IndexEntry, entry_items, index_entries}
use Rattle.index_maint.specs.Layout.{entries_prefix, entry_pair, entry_pairs}

abbrev Pair : Type 0
Pair = List ℕ × List ℕ

-- in two lists one after the other the first one decides, where it has the key
pub lookup-append : (key : List ℕ) (ps qs : List Pair) → lookup (is_at (key_cmp key)) (ps ++ qs) ≡ option_or (lookup (is_at (key_cmp key)) ps) (lookup (is_at (key_cmp key)) qs)
lookup-append key [] qs = refl
lookup-append key (p ∷ ps) qs = by_test (is_eq (key_cmp key p.0)) (lookup-append key ps qs)
  where
    by_test : (b : Bool) → lookup (is_at (key_cmp key)) (ps ++ qs) ≡ option_or (lookup (is_at (key_cmp key)) ps) (lookup (is_at (key_cmp key)) qs) →
        cond b (Some p.1) (lookup (is_at (key_cmp key)) (ps ++ qs)) ≡ option_or (cond b (Some p.1) (lookup (is_at (key_cmp key)) ps)) (lookup (is_at (key_cmp key)) qs)
    by_test true rest = refl
    by_test false rest = rest

-- a list none of whose keys is the key has nothing there
pub lookup-none : (key : List ℕ) (ps : List Pair) → AllByRecursion (λ p. key ≡ p.0 → ⊥) ps → lookup (is_at (key_cmp key)) ps ≡ None
lookup-none key [] others = refl
lookup-none key (p ∷ ps) others =
    ap (λ b. cond b (Some p.1) (lookup (is_at (key_cmp key)) ps)) (false_from_ne_true (is_eq (key_cmp key p.0)) (λ same. others.0 (tied_keys key p.0 same)))
    ∙ lookup-none key ps others.1

-- so what stands where the key is in neither the lists before nor those behind is found alone
pub lookup-behind : (key : List ℕ) (ps qs : List Pair) → lookup (is_at (key_cmp key)) ps ≡ None → lookup (is_at (key_cmp key)) (ps ++ qs) ≡ lookup (is_at (key_cmp key)) qs
lookup-behind key ps qs none = lookup-append key ps qs ∙ ap (λ o. option_or o (lookup (is_at (key_cmp key)) qs)) none

pub lookup-before : (key : List ℕ) (ps qs : List Pair) → lookup (is_at (key_cmp key)) qs ≡ None → lookup (is_at (key_cmp key)) (ps ++ qs) ≡ lookup (is_at (key_cmp key)) ps
lookup-before key ps qs none = lookup-append key ps qs ∙ ap (λ o. option_or (lookup (is_at (key_cmp key)) ps) o) none ∙ alone (lookup (is_at (key_cmp key)) ps)
  where
    alone : (o : Option (List ℕ)) → option_or o None ≡ o
    alone None = refl
    alone (Some bytes) = refl

-- entries have nothing at a key that isn't under their index's prefix
pub entries-none : (prefix : List ℕ) (index : IndexDefinition) (key : List ℕ) (records : List Record) → (BeginsWith (entries_prefix prefix index.number) key → ⊥) →
    lookup (is_at (key_cmp key)) (entry_pairs prefix index records) ≡ None
entries-none prefix index key records apart = lookup-none key (entry_pairs prefix index records) (each (index_entries index records))
  where
    each : (left : List IndexEntry) → AllByRecursion (λ p. key ≡ p.0 → ⊥) (map (entry_pair prefix index.number) left)
    each [] = tt
    each (entry ∷ left) = (λ is. apart (spelling (entry_items entry), is), each left)
