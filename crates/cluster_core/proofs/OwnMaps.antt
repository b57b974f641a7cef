-- What the mutations that concern a part make of the part's map.
use Rattle.std.proofs.Common.{All, arith, fold, ◌≡◌, ℕ, zero, suc, Bool, true, false, cond, ◌&&◌, Option, None, Some, unwrap_or, List, [], ◌∷◌, take, inl, inr, refl, sym, ap, subst, ◌∙◌}
use Rattle.std.proofs.lemmas.Bool.{true≢false, cases_Bool, false_from_ne_true}
use Rattle.std.specs.List.{AllByRecursion, slice_get}
use Rattle.std.specs.FinMap.{empty, get, insert}
use Rattle.std.specs.Ordering.{is_eq}
use Rattle.kv_core.specs.Bytes.{key_cmp, key_lt}
use Rattle.kv_core.specs.Addition.{added}
use Rattle.kv_core.specs.Change.{write_range}
use Rattle.kv_core.specs.Map.{Map, after, after_all, is_just}
use Rattle.kv_core.specs.Range.{KeyRange, common, contains, has_keys, point}
use Rattle.kv_core.specs.declared.change.Mutation.{Mutation}
use Rattle.kv_core.specs.declared.change.Mutation.TheVariants.{Set, ClearRange, Add, CompareAndClear}
use Rattle.kv_core.proofs.Changes.{get-after, get-compared, get-kept, get-set, same_maps}
use Rattle.kv_core.proofs.Order.{contains-point, tied_keys}
use Rattle.cluster_core.specs.Cuts.{has_keys-own}
use Rattle.cluster_core.specs.Decision.{Owned, cut, owns}
use Rattle.cluster_core.specs.Tier.{oldest, part}
use Rattle.cluster_core.proofs.Ownership.{meets_within-from, meets_within-point}
use Rattle.cluster_core.proofs.StorageMaps.{part-after_all, part-empty}

pub either_way : {X : Type 0} (b : Bool) (x : X) → cond b x x ≡ x
either_way true x = refl
either_way false x = refl

common-self : (r : KeyRange) → common r r ≡ r
common-self r = λ i. record { begin = either_way (key_lt r.begin r.begin) r.begin i; end = either_way (key_lt r.end r.end) r.end i }

-- an owner has keys of a point where it owns the key
pub owns-point : (owner : Owned) (k : List ℕ) → owns owner k ≡ has_keys (cut owner (point k))
owns-point owner k =
    sym (ap (λ b. b && owns owner k) (contains-point k)) ∙ meets_within-point owner k (point k) ∙ ap (λ x. has_keys (cut owner x)) (common-self (point k))

-- a map that has a part's keys alone has none elsewhere, and the other way round
pub none_elsewhere : (owner : Owned) (m : Map) (q : List ℕ) → part owner m ≡ m → owns owner q ≡ false → get m q ≡ None
none_elsewhere owner m q kept other = ap (λ x. get x q) (sym kept) ∙ get-kept m (owns owner) q ∙ ap (λ b. cond b (get m q) None) other

pub own_alone : (owner : Owned) (m : Map) → ((q : List ℕ) → owns owner q ≡ false → get m q ≡ None) → part owner m ≡ m
own_alone owner m none = same_maps (part owner m) m (λ q. get-kept m (owns owner) q ∙ elim (cases_Bool (owns owner q)) [
  | inl own ↦ ap (λ b. cond b (get m q) None) own
  | inr other ↦ ap (λ b. cond b (get m q) None) other ∙ sym (none q other)
])

pub part-part : (owner : Owned) (m : Map) → part owner (part owner m) ≡ part owner m
part-part owner m = own_alone owner (part owner m) (λ q other. get-kept m (owns owner) q ∙ ap (λ b. cond b (get m q) None) other)

insert_kept : (owner : Owned) (m : Map) (k v : List ℕ) → part owner m ≡ m → owns owner k ≡ true → part owner (insert m k v) ≡ insert m k v
insert_kept owner m k v kept own = own_alone owner (insert m k v) (λ q other.
    let apart : is_eq (key_cmp q k) ≡ false = false_from_ne_true (is_eq (key_cmp q k)) (λ same. true≢false (sym own ∙ ap (owns owner) (sym (tied_keys q k same)) ∙ other)) in
    get-set m k v q ∙ ap (λ b. cond b (Some v) (get m q)) apart ∙ none_elsewhere owner m q kept other)

-- a mutation of the part's keys leaves a map of the part's keys
pub applied-own : (owner : Owned) (c : Mutation) (m : Map) → part owner m ≡ m → has_keys (cut owner (write_range c)) ≡ true → part owner (after c m) ≡ after c m
applied-own owner (Set k v) m kept h = insert_kept owner m k v kept (owns-point owner k ∙ h)
applied-own owner (Add k o) m kept h = insert_kept owner m k (added (get m k) o) kept (owns-point owner k ∙ h)
applied-own owner (ClearRange r) m kept h = own_alone owner (after (ClearRange r) m) (λ q other.
    get-kept m (λ k. Rattle.std.proofs.Common.not (contains r k)) q
    ∙ ap (λ o. cond (Rattle.std.proofs.Common.not (contains r q)) o None) (none_elsewhere owner m q kept other)
    ∙ either_way (Rattle.std.proofs.Common.not (contains r q)) None)
applied-own owner (CompareAndClear k o) m kept h = own_alone owner (after (CompareAndClear k o) m) (λ q other.
    get-compared m k o q
    ∙ ap (λ v. cond (is_eq (key_cmp q k) && is_just o v) None v) (none_elsewhere owner m q kept other)
    ∙ either_way (is_eq (key_cmp q k) && is_just o None) None)

-- a mutation of no key of the part leaves the part of the map
pub skipped-own : (owner : Owned) (c : Mutation) (m : Map) → part owner m ≡ m → has_keys (cut owner (write_range c)) ≡ false → part owner (after c m) ≡ m
skipped-own owner c m kept h = same_maps (part owner (after c m)) m (λ q. get-kept (after c m) (owns owner) q ∙ elim (cases_Bool (owns owner q)) [
  | inl own ↦
      ap (λ b. cond b (get (after c m) q) None) own
      ∙ get-after c m q (false_from_ne_true (contains (write_range c) q) (λ inside. true≢false (sym (has_keys-own owner (write_range c) q own inside) ∙ h)))
  | inr other ↦ ap (λ b. cond b (get (after c m) q) None) other ∙ sym (none_elsewhere owner m q kept other)
])

-- after a skipped mutation the others make the same part
pub part-skipped : (owner : Owned) (c : Mutation) (cs : List Mutation) (m : Map) → part owner m ≡ m → has_keys (cut owner (write_range c)) ≡ false →
    part owner (after_all cs m) ≡ part owner (after_all (c ∷ cs) m)
part-skipped owner c cs m kept h =
    ap (λ x. part owner (after_all cs x)) (sym (skipped-own owner c m kept h)) ∙ part-after_all owner cs (after c m)

-- maps of a part's keys, and the oldest of them past their end, are of its keys
own_oldest : (owner : Owned) (ms : List Map) (first : Map) → part owner first ≡ first → AllByRecursion (λ m. part owner m ≡ m) ms →
    part owner (fold (λ (before m : Map). m) first ms) ≡ fold (λ (before m : Map). m) first ms
own_oldest owner [] first own all = own
own_oldest owner (m ∷ ms) first own all = own_oldest owner ms m all.0 all.1

own_or : (owner : Owned) (ms : List Map) (back : ℕ) (other : Map) → part owner other ≡ other → AllByRecursion (λ m. part owner m ≡ m) ms →
    part owner (unwrap_or (slice_get ms back) other) ≡ unwrap_or (slice_get ms back) other
own_or owner [] back other own all = own
own_or owner (m ∷ ms) zero other own all = all.0
own_or owner (m ∷ ms) (suc back) other own all = own_or owner ms back other own all.1

pub own-map_of : (owner : Owned) (ms : List Map) (back : ℕ) → AllByRecursion (λ m. part owner m ≡ m) ms →
    part owner (unwrap_or (slice_get ms back) (oldest ms)) ≡ unwrap_or (slice_get ms back) (oldest ms)
own-map_of owner ms back all = own_or owner ms back (oldest ms) (own_oldest owner ms empty (part-empty owner) all) all

pub own-take : (owner : Owned) (ms : List Map) (n : ℕ) → AllByRecursion (λ m. part owner m ≡ m) ms → AllByRecursion (λ m. part owner m ≡ m) (take n ms)
own-take owner ms zero all = tt
own-take owner [] (suc n) all = tt
own-take owner (m ∷ ms) (suc n) all = (all.0, own-take owner ms n all.1)

-- one mutation more, applied or skipped, and then the others
pub applied-rest : (owner : Owned) (c : Mutation) (more all : List Mutation) (m next end : Map) → all ≡ c ∷ more → next ≡ after c m →
    part owner (after_all all m) ≡ end → part owner (after_all more next) ≡ end
applied-rest owner c more all m next end is done so =
    ap (λ x. part owner (after_all more x)) done ∙ ap (λ cs. part owner (after_all cs m)) (sym is) ∙ so

pub skipped-rest : (owner : Owned) (c : Mutation) (more all : List Mutation) (m next end : Map) → part owner m ≡ m → has_keys (cut owner (write_range c)) ≡ false →
    all ≡ c ∷ more → next ≡ m → part owner (after_all all m) ≡ end → part owner (after_all more next) ≡ end
skipped-rest owner c more all m next end kept h is done so =
    ap (λ x. part owner (after_all more x)) done ∙ part-skipped owner c more m kept h ∙ ap (λ cs. part owner (after_all cs m)) (sym is) ∙ so

-- what holds of all servers holds of the first and of the others
pub all_parts : {X : Type 0} (P : X → Type 0) (x : X) (xs all : List X) → all ≡ x ∷ xs → AllByRecursion P all → P x × AllByRecursion P xs
all_parts P x xs all is h = subst (AllByRecursion P) is h

pub All-others : {X : Type 0} (P : X → Type 0) (x : X) (xs all : List X) → all ≡ x ∷ xs → All P all → All P xs
All-others {X} P x xs all is h = λ k d below. let Q : List X → Type 0 = All P in subst Q is h (suc k) d (omega (arith, below))

pub first_of_all : {X : Type 0} (P : X → Type 0) (x : X) (xs all : List X) → all ≡ x ∷ xs → All P all → P x
first_of_all {X} P x xs all is h = let Q : List X → Type 0 = All P in subst Q is h zero x (omega arith)

-- what is a part of a map is its own part
pub own_part : (owner same : Owned) (x m : Map) → same ≡ owner → m ≡ part owner x → part same m ≡ m
own_part owner same x m own is = ap (λ o. part o m) own ∙ ap (part owner) is ∙ part-part owner x ∙ sym is
