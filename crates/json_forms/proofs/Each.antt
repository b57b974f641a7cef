-- What the values in a list stand for, one value at a time.
use Rattle.std.proofs.Common.{◌≡◌, ℕ, zero, suc, ◌+◌, ◌<◌, ◌≤◌, List, [], ◌∷◌, ◌++◌, length, get_or, take, map, Option, Some, None, option_map, option_and_then, Vec, Global, refl, ap, add-one, arith}
use Rattle.std.proofs.Math.Seq.{take-suc}
use Rattle.std.proofs.lemmas.List.{map-append, take_all}
use Rattle.serde_json.proofs.Views.{view-Array}
use Rattle.serde_json.specs.Data.{Data, depth, items_depth}
use Rattle.serde_json.specs.View.{view, items_of, items_view}
use Rattle.serde_json.specs.declared.value.Value.{Value, Array}
use Rattle.json_forms.specs.Json.{json_values, each_in, all_in}

pub items_in_items_of : (ds : List Data) → json_values (items_of ds) ≡ ds
items_in_items_of [] = refl
items_in_items_of (d ∷ ds) = ap (λ more. d ∷ more) (items_in_items_of ds)

start : {A : Type 0} (found : Option (List A)) → found ≡ option_map (λ more. [] ++ more) found
start None = refl
start (Some more) = refl

under_one : {A : Type 0} (one : A) (front back : Option (List A)) → option_map (λ more. one ∷ more) (option_and_then (λ a. option_map (λ b. a ++ b) back) front) ≡ option_and_then (λ a. option_map (λ b. a ++ b) back) (option_map (λ more. one ∷ more) front)
under_one one None back = refl
under_one one (Some a) None = refl
under_one one (Some a) (Some b) = refl

append_one : {A : Type 0} (f : Data → Option A) (first : Option A) (xs ys : List Data) → each_in f (xs ++ ys) ≡ option_and_then (λ a. option_map (λ b. a ++ b) (each_in f ys)) (each_in f xs)
    → option_and_then (λ one. option_map (λ more. one ∷ more) (each_in f (xs ++ ys))) first ≡ option_and_then (λ a. option_map (λ b. a ++ b) (each_in f ys)) (option_and_then (λ one. option_map (λ more. one ∷ more) (each_in f xs)) first)
append_one f None xs ys e = refl
append_one f (Some one) xs ys e = rw e (under_one one (each_in f xs) (each_in f ys))

pub each_append : {A : Type 0} (f : Data → Option A) (xs ys : List Data) → each_in f (xs ++ ys) ≡ option_and_then (λ a. option_map (λ b. a ++ b) (each_in f ys)) (each_in f xs)
each_append f [] ys = start (each_in f ys)
each_append f (x ∷ xs) ys = append_one f (f x) xs ys (each_append f xs ys)

-- one more value
pub each_joined : {A : Type 0} (f : Data → Option A) (vs : List Value) (v : Value) (done : List A) (one : A) → each_in f (map view vs) ≡ Some done → f (view v) ≡ Some one → each_in f (map view (vs ++ v ∷ [])) ≡ Some (done ++ one ∷ [])
each_joined f vs v done one e h = rw (map-append view vs (v ∷ []), each_append f (map view vs) (view v ∷ []), e, h)

-- a list is read up to a place, and the value there is read
pub each_more : {A : Type 0} (f : Data → Option A) (vs : List Value) (i : ℕ) (v : Value) (done : List A) (one : A) → i < length vs → v ≡ get_or vs i v → f (view v) ≡ Some one
    → each_in f (map view (take i vs)) ≡ Some done → each_in f (map view (take (i + 1) vs)) ≡ Some (done ++ one ∷ [])
each_more f vs i v done one h at e before = rw (add-one, take-suc vs i v h, ← at) (each_joined f (take i vs) v done one before e)

-- things are written up to a place, and the thing there is written
pub each_pushed : {A : Type 0} (f : Data → Option A) (vs : List Value) (v : Value) (things : List A) (i : ℕ) (one : A) → i < length things → one ≡ get_or things i one → f (view v) ≡ Some one
    → each_in f (map view vs) ≡ Some (take i things) → each_in f (map view (vs ++ v ∷ [])) ≡ Some (take (i + 1) things)
each_pushed f vs v things i one h at e before = rw (add-one, take-suc things i one h, ← at) (each_joined f vs v (take i things) one before e)

none_first : {A : Type 0} (first : Option A) (rest : Option (List A)) → rest ≡ None → option_and_then (λ one. option_map (λ more. one ∷ more) rest) first ≡ None
none_first None rest e = refl
none_first (Some one) rest e = rw e

-- a value stands for nothing
pub each_none : {A : Type 0} (f : Data → Option A) (vs : List Value) (i : ℕ) (v : Value) → i < length vs → v ≡ get_or vs i v → f (view v) ≡ None → each_in f (map view vs) ≡ None
each_none f [] i v h at e = absurd (omega arith)
each_none f (x ∷ vs) zero v h at e = rw (← at, e)
each_none f (x ∷ vs) (suc i) v h at e = none_first (f (view x)) (each_in f (map view vs)) (each_none f vs i v (omega arith) at e)

pub depth_pushed : (n : ℕ) (vs : List Value) (v : Value) → items_depth (items_view vs) ≤ n → depth (view v) ≤ n → items_depth (items_view (vs ++ v ∷ [])) ≤ n
depth_pushed n [] v h k = omega arith
depth_pushed n (x ∷ vs) v h k = let rest = depth_pushed n vs v (omega arith) k in omega arith

-- a list whose values stand for things
pub all_array : {A : Type 0} (f : Data → Option A) (vs : Vec Value Global) (found : Option (List A)) → each_in f (map view vs.items) ≡ found → all_in f (view (Array vs)) ≡ found
all_array f vs found e = rw (view-Array vs, items_in_items_of (map view vs.items)) e

-- all things are written
pub all_written : {A : Type 0} (f : Data → Option A) (vs : Vec Value Global) (things : List A) (i : ℕ) → length things ≤ i → each_in f (map view vs.items) ≡ Some (take i things) → all_in f (view (Array vs)) ≡ Some things
all_written f vs things i h e = all_array f vs (Some things) (rw (take_all i things h) at e)
