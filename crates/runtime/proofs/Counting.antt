-- The committed entries of one client's submissions in a log that grows.
use Rattle.std.proofs.Common.{◌≡◌, ℕ, ◌+◌, ◌<◌, ◌≤◌, ◌==◌, Bool, true, false, not, ◌&&◌, ◌||◌, cond, is_none, nat_lt, nat_le, Option, Some, None, List, [], ◌∷◌, ◌++◌, refl, sym, ap, ◌∙◌, subst, arith, append-nil, append_assoc, true≢false}
use Rattle.std.specs.Prelude.{filter, sum_by}
use Rattle.std.specs.List.{list_any}
use Rattle.std.proofs.lemmas.Bool.Decides.{nat_tests}
use Rattle.std.proofs.lemmas.List.Elements.{filter-append}
use Rattle.std.proofs.lemmas.List.Folds.{list_any-append}
use Rattle.std.proofs.lemmas.List.Sums.{sum_by-append}
use mathlib.Core.List.{IsPrefix}
use Rattle.runtime.specs.Origins.{Origin}
use Rattle.cluster_core.specs.Decision.{Cause}
use Rattle.kv_core.specs.Range.{KeyRange}
use Rattle.runtime.specs.declared.log_entry.Entry.{Entry}
use Rattle.runtime.specs.declared.outcome.Outcome.TheVariants as outcomes
use Rattle.runtime.specs.Outcomes.{decided}
use Rattle.runtime.specs.Logs.{are_in_turn, cause_next, count_of, has_submission, is_once, is_same_submission}
use Rattle.runtime.specs.Builds.{committed_behind, is_numbered_in, own_committed}
use Rattle.runtime.proofs.WellFormed.{both_true, left_true, right_true}
use Rattle.runtime.proofs.Numbers.{number_of_last}
use Rattle.runtime.proofs.Submissions.{counted_of, is_numbered_so}

not_true : (b : Bool) → not b ≡ true → b ≡ false
not_true true p = sym p
not_true false p = refl

pub or_left_false : (a b : Bool) → (a || b) ≡ false → a ≡ false
or_left_false true b p = p
or_left_false false b p = refl

pub or_right_false : (a b : Bool) → (a || b) ≡ false → b ≡ false
or_right_false true b p = absurd (cc)
or_right_false false b p = p

number_eq : (a b : ℕ) → (a == b) ≡ true → a ≡ b
number_eq a b h = grind (arith, nat_tests)

number_same : (a b : ℕ) → a ≡ b → (a == b) ≡ true
number_same a b h = grind (arith, nat_tests)

-- ---- a submission stands once

-- an entry that isn't of the same submission hasn't the number
apart : (e x : Entry) (client number : ℕ) → e.client ≡ client → e.number ≡ number → (b : Bool) → is_numbered_so client number x ≡ b → is_same_submission e x ≡ false → is_numbered_so client number x ≡ false
apart e x client number is_client is_number true is other =
    let c : x.client ≡ client = number_eq x.client client (left_true (x.client == client) (x.number == number) is) in
    let n : x.number ≡ number = number_eq x.number number (right_true (x.client == client) (x.number == number) is) in
    let same : is_same_submission e x ≡ true = both_true (e.client == x.client) (e.number == x.number) (number_same e.client x.client (is_client ∙ sym c)) (number_same e.number x.number (is_number ∙ sym n)) in
    absurd (true≢false (sym same ∙ other))
apart e x client number is_client is_number false is other = is

none_same : (e : Entry) (client number : ℕ) (xs : List Entry) → e.client ≡ client → e.number ≡ number → list_any (is_same_submission e) xs ≡ false → has_submission client number xs ≡ false
none_same e client number [] is_client is_number none = refl
none_same e client number (x ∷ xs) is_client is_number none =
    let here : is_numbered_so client number x ≡ false = apart e x client number is_client is_number (is_numbered_so client number x) refl (or_left_false (is_same_submission e x) (list_any (is_same_submission e) xs) none) in
    let others : has_submission client number xs ≡ false = none_same e client number xs is_client is_number (or_right_false (is_same_submission e x) (list_any (is_same_submission e) xs) none) in
    (λ i. here i || others i)

once_at : (x : Entry) (xs ys : List Entry) (client number : ℕ) → is_once ((x ∷ xs) ++ ys) ≡ true → has_submission client number (x ∷ xs) ≡ true → (has_submission client number xs ≡ true → has_submission client number ys ≡ false) →
    (b : Bool) → is_numbered_so client number x ≡ b → has_submission client number ys ≡ false
once_at x xs ys client number once there rest true is =
    let none : list_any (is_same_submission x) (xs ++ ys) ≡ false = not_true (list_any (is_same_submission x) (xs ++ ys)) (left_true (not (list_any (is_same_submission x) (xs ++ ys))) (is_once (xs ++ ys)) once) in
    let behind : list_any (is_same_submission x) ys ≡ false = or_right_false (list_any (is_same_submission x) xs) (list_any (is_same_submission x) ys) (sym (list_any-append (is_same_submission x) xs ys) ∙ none) in
    none_same x client number ys (number_eq x.client client (left_true (x.client == client) (x.number == number) is)) (number_eq x.number number (right_true (x.client == client) (x.number == number) is)) behind
once_at x xs ys client number once there rest false is = rest (sym (ap (λ b. b || has_submission client number xs) is) ∙ there)

-- what stands in a log doesn't stand behind it too
pub once_apart : (xs ys : List Entry) (client number : ℕ) → is_once (xs ++ ys) ≡ true → has_submission client number xs ≡ true → has_submission client number ys ≡ false
once_apart [] ys client number once there = absurd (true≢false (sym there))
once_apart (x ∷ xs) ys client number once there =
    once_at x xs ys client number once there (once_apart xs ys client number (right_true (not (list_any (is_same_submission x) (xs ++ ys))) (is_once (xs ++ ys)) once)) (is_numbered_so client number x) refl

number_here : (client number : ℕ) (e : Entry) (xs : List Entry) → e.client ≡ client → e.number ≡ number → has_submission client number (e ∷ xs) ≡ true
number_here client number e xs is_client is_number =
    let one : is_numbered_so client number e ≡ true = both_true (e.client == client) (e.number == number) (number_same e.client client is_client) (number_same e.number number is_number) in
    ap (λ b. b || has_submission client number xs) one

-- nor before it
pub none_before_by : (before more : List Entry) (e : Entry) (client number : ℕ) → e.client ≡ client → e.number ≡ number → is_once (before ++ e ∷ more) ≡ true → (b : Bool) → has_submission client number before ≡ b → has_submission client number before ≡ false
none_before_by before more e client number is_client is_number once true is = absurd (true≢false (sym (number_here client number e more is_client is_number) ∙ once_apart before (e ∷ more) client number once is))
none_before_by before more e client number is_client is_number once false is = is

-- ---- committed entries of a longer log

behind_append : (origin : Origin) (log xs ys : List Entry) → committed_behind origin log (xs ++ ys) ≡ committed_behind origin log xs ++ committed_behind origin (log ++ xs) ys
behind_append origin log [] ys = ap (λ l. committed_behind origin l ys) (sym (append-nil log))
behind_append origin log (x ∷ xs) ys =
    let head : List Entry = cond (is_none (cause_next origin log x.request)) (x ∷ []) [] in
    let own : List Entry = committed_behind origin (log ++ x ∷ []) xs in
    ap (λ l. head ++ l) (behind_append origin (log ++ x ∷ []) xs ys)
    ∙ ap (λ l. head ++ (own ++ committed_behind origin l ys)) (append_assoc log (x ∷ []) xs)
    ∙ sym (append_assoc head own (committed_behind origin (log ++ x ∷ xs) ys))

filter_one_no : (p : Entry → Bool) (x : Entry) (b : Bool) → p x ≡ false → filter p (cond b (x ∷ []) []) ≡ []
filter_one_no p x true fails = ap (λ t. cond t (x ∷ []) []) fails
filter_one_no p x false fails = refl

filter_one_yes : (p : Entry → Bool) (x : Entry) (b : Bool) → p x ≡ true → filter p (cond b (x ∷ []) []) ≡ cond b (x ∷ []) []
filter_one_yes p x true passes = ap (λ t. cond t (x ∷ []) []) passes
filter_one_yes p x false passes = refl

none_behind : (p : Entry → Bool) (origin : Origin) (log xs : List Entry) → list_any p xs ≡ false → filter p (committed_behind origin log xs) ≡ []
none_behind p origin log [] none = refl
none_behind p origin log (x ∷ xs) none =
    let c : Bool = is_none (cause_next origin log x.request) in
    let here : filter p (cond c (x ∷ []) []) ≡ [] = filter_one_no p x c (or_left_false (p x) (list_any p xs) none) in
    let others : filter p (committed_behind origin (log ++ x ∷ []) xs) ≡ [] = none_behind p origin (log ++ x ∷ []) xs (or_right_false (p x) (list_any p xs) none) in
    filter-append p (cond c (x ∷ []) []) (committed_behind origin (log ++ x ∷ []) xs) ∙ (λ i. here i ++ others i)

none_in_by : (client above upto : ℕ) (x : Entry) (xs : List Entry) → ((n : ℕ) → above < n → n ≤ upto → has_submission client n (x ∷ xs) ≡ false) → (b : Bool) → is_numbered_in client above upto x ≡ b → is_numbered_in client above upto x ≡ false
none_in_by client above upto x xs none true is =
    let c : x.client ≡ client = number_eq x.client client (left_true (x.client == client) (nat_lt above x.number && nat_le x.number upto) is) in
    let range : (nat_lt above x.number && nat_le x.number upto) ≡ true = right_true (x.client == client) (nat_lt above x.number && nat_le x.number upto) is in
    let lt : nat_lt above x.number ≡ true = left_true (nat_lt above x.number) (nat_le x.number upto) range in
    let le : nat_le x.number upto ≡ true = right_true (nat_lt above x.number) (nat_le x.number upto) range in
    let low : above < x.number = grind (arith, nat_tests) in
    let high : x.number ≤ upto = grind (arith, nat_tests) in
    absurd (true≢false (sym (number_here client x.number x xs c refl) ∙ none x.number low high))
none_in_by client above upto x xs none false is = is

-- where no number between stands, no entry between does
none_in : (client above upto : ℕ) (xs : List Entry) → ((n : ℕ) → above < n → n ≤ upto → has_submission client n xs ≡ false) → list_any (is_numbered_in client above upto) xs ≡ false
none_in client above upto [] none = refl
none_in client above upto (x ∷ xs) none =
    let here : is_numbered_in client above upto x ≡ false = none_in_by client above upto x xs none (is_numbered_in client above upto x) refl in
    let others : list_any (is_numbered_in client above upto) xs ≡ false = none_in client above upto xs (λ n low high. or_right_false (is_numbered_so client n x) (has_submission client n xs) (none n low high)) in
    (λ i. here i || others i)

-- a longer log has no more of a client's entries whose numbers all stand already
pub own_grown : (origin : Origin) (client above upto : ℕ) (xs ys : List Entry) → IsPrefix xs ys → is_once ys ≡ true → ((n : ℕ) → above < n → n ≤ upto → has_submission client n xs ≡ true) →
    own_committed origin client above upto ys ≡ own_committed origin client above upto xs
own_grown origin client above upto xs ys p once given =
    let more : List Entry = p.0 in
    let once_more : is_once (xs ++ more) ≡ true = subst (λ (l : List Entry). is_once l ≡ true) (sym p.1) once in
    let test : Entry → Bool = is_numbered_in client above upto in
    let none : list_any test more ≡ false = none_in client above upto more (λ n low high. once_apart xs more client n once_more (given n low high)) in
    ap (λ l. own_committed origin client above upto l) (sym p.1)
    ∙ ap (filter test) (behind_append origin [] xs more)
    ∙ filter-append test (committed_behind origin [] xs) (committed_behind origin xs more)
    ∙ ap (λ l. own_committed origin client above upto xs ++ l) (none_behind test origin xs more none)
    ∙ append-nil (own_committed origin client above upto xs)

-- between two numbers there is none
pub own_none : (origin : Origin) (client above : ℕ) (xs : List Entry) → own_committed origin client above above xs ≡ []
own_none origin client above xs = none_behind (is_numbered_in client above above) origin [] xs (none_in client above above xs (λ n low high. absurd (omega (arith, low, high))))

-- ---- one number more

single : (f : Entry → ℕ) (p : Entry → Bool) (e : Entry) (b : Bool) → p e ≡ b → sum_by f (filter p (e ∷ [])) ≡ cond b (f e) 0
single f p e true is = ap (λ t. sum_by f (cond t (e ∷ []) [])) is ∙ (let z : 0 + f e ≡ f e = omega arith in z)
single f p e false is = ap (λ t. sum_by f (cond t (e ∷ []) [])) is

range_split : (t : Bool) (n above last : ℕ) (k : ℕ) → above ≤ last → (b : Bool) → nat_le n last ≡ b →
    cond (t && (nat_lt above n && nat_le n (last + 1))) k 0 ≡ cond (t && (nat_lt above n && nat_le n last)) k 0 + cond (t && (nat_lt last n && nat_le n (last + 1))) k 0
range_split false n above last k le b is = refl
range_split true n above last k le true is =
    let small : n ≤ last = grind (arith, nat_tests) in
    let no : nat_lt last n ≡ false = grind (arith, nat_tests) in
    let yes : nat_le n (last + 1) ≡ true = grind (arith, nat_tests) in
    rw (no, yes, is) (let z : cond (nat_lt above n && true) k 0 + 0 ≡ cond (nat_lt above n && true) k 0 = omega arith in sym z)
range_split true n above last k le false is =
    let large : last < n = grind (arith, nat_tests) in
    let up : nat_lt above n ≡ true = grind (arith, nat_tests) in
    let over : nat_lt last n ≡ true = grind (arith, nat_tests) in
    rw (up, over, is) (let z : 0 + cond (nat_le n (last + 1)) k 0 ≡ cond (nat_le n (last + 1)) k 0 = omega arith in sym z)

sum_between : (f : Entry → ℕ) (client above last : ℕ) (es : List Entry) → above ≤ last →
    sum_by f (filter (is_numbered_in client above (last + 1)) es) ≡ sum_by f (filter (is_numbered_in client above last) es) + sum_by f (filter (is_numbered_in client last (last + 1)) es)
sum_between f client above last [] le = refl
sum_between f client above last (e ∷ es) le =
    let all : Entry → Bool = is_numbered_in client above (last + 1) in
    let old : Entry → Bool = is_numbered_in client above last in
    let new : Entry → Bool = is_numbered_in client last (last + 1) in
    let a : sum_by f (filter all (e ∷ es)) ≡ sum_by f (filter all (e ∷ [])) + sum_by f (filter all es) = parts all in
    let o : sum_by f (filter old (e ∷ es)) ≡ sum_by f (filter old (e ∷ [])) + sum_by f (filter old es) = parts old in
    let n : sum_by f (filter new (e ∷ es)) ≡ sum_by f (filter new (e ∷ [])) + sum_by f (filter new es) = parts new in
    let one : sum_by f (filter all (e ∷ [])) ≡ sum_by f (filter old (e ∷ [])) + sum_by f (filter new (e ∷ [])) =
    single f all e (all e) refl ∙ range_split (e.client == client) e.number above last (f e) le (nat_le e.number last) refl ∙ sym (λ i. single f old e (old e) refl i + single f new e (new e) refl i) in
    let rest : sum_by f (filter all es) ≡ sum_by f (filter old es) + sum_by f (filter new es) = sum_between f client above last es le in
    omega (arith, a, o, n, one, rest)
  where
    parts : (p : Entry → Bool) → sum_by f (filter p (e ∷ es)) ≡ sum_by f (filter p (e ∷ [])) + sum_by f (filter p es)
    parts p = ap (sum_by f) (filter-append p (e ∷ []) es) ∙ sum_by-append f (filter p (e ∷ [])) (filter p es)

-- the entry of the next number, where it is committed
own_next : (origin : Origin) (client last : ℕ) (before more : List Entry) (e : Entry) → e.client ≡ client → e.number ≡ last + 1 → is_once (before ++ e ∷ more) ≡ true →
    own_committed origin client last (last + 1) (before ++ e ∷ more) ≡ cond (is_none (cause_next origin before e.request)) (e ∷ []) []
own_next origin client last before more e is_client is_number once =
    let test : Entry → Bool = is_numbered_in client last (last + 1) in
    let c : Bool = is_none (cause_next origin before e.request) in
    let low : nat_lt last e.number ≡ true = grind (arith, nat_tests) in
    let high : nat_le e.number (last + 1) ≡ true = grind (arith, nat_tests) in
    let yes : test e ≡ true = both_true (e.client == client) (nat_lt last e.number && nat_le e.number (last + 1)) (number_same e.client client is_client) (both_true (nat_lt last e.number) (nat_le e.number (last + 1)) low high) in
    let no_before : has_submission client (last + 1) before ≡ false = none_before_by before more e client (last + 1) is_client is_number once (has_submission client (last + 1) before) refl in
    let once_there : is_once ((before ++ e ∷ []) ++ more) ≡ true = subst (λ (l : List Entry). is_once l ≡ true) (sym (append_assoc before (e ∷ []) more)) once in
    let no_more : has_submission client (last + 1) more ≡ false = once_apart (before ++ e ∷ []) more client (last + 1) once_there (number_behind before) in
    ap (filter test) (behind_append origin [] before (e ∷ more))
    ∙ filter-append test (committed_behind origin [] before) (committed_behind origin before (e ∷ more))
    ∙ (λ i. none_behind test origin [] before (only before no_before) i ++ filter test (committed_behind origin before (e ∷ more)))
    ∙ filter-append test (cond c (e ∷ []) []) (committed_behind origin (before ++ e ∷ []) more)
    ∙ (λ i. filter_one_yes test e c yes i ++ none_behind test origin (before ++ e ∷ []) more (only more no_more) i)
    ∙ append-nil (cond c (e ∷ []) [])
  where
    only : (xs : List Entry) → has_submission client (last + 1) xs ≡ false → list_any (is_numbered_in client last (last + 1)) xs ≡ false
    only xs none = none_in client last (last + 1) xs (λ n low high. let same : last + 1 ≡ n = omega (arith, low, high) in subst (λ (m : ℕ). has_submission client m xs ≡ false) same none)

    number_behind : (xs : List Entry) → has_submission client (last + 1) (xs ++ e ∷ []) ≡ true
    number_behind xs = number_of_last client (last + 1) xs e is_client is_number

-- what the committed entries weigh once the next number stands
pub sum_next : (f : Entry → ℕ) (origin : Origin) (client above last : ℕ) (xs ys before : List Entry) (e : Entry) → above ≤ last → IsPrefix xs ys → IsPrefix (before ++ e ∷ []) ys → is_once ys ≡ true → e.client ≡ client → e.number ≡ last + 1 →
    ((n : ℕ) → above < n → n ≤ last → has_submission client n xs ≡ true) →
    sum_by f (own_committed origin client above (last + 1) ys) ≡ sum_by f (own_committed origin client above last xs) + sum_by f (cond (is_none (cause_next origin before e.request)) (e ∷ []) [])
sum_next f origin client above last xs ys before e le grows ends once is_client is_number given =
    let all : ys ≡ before ++ e ∷ ends.0 = sym ends.1 ∙ append_assoc before (e ∷ []) ends.0 in
    let once_all : is_once (before ++ e ∷ ends.0) ≡ true = subst (λ (l : List Entry). is_once l ≡ true) all once in
    sum_between f client above last (committed_behind origin [] ys) le
    ∙ (λ i. sum_by f (own_grown origin client above last xs ys grows once given i) + sum_by f (own_committed origin client last (last + 1) (all i)))
    ∙ ap (λ l. sum_by f (own_committed origin client above last xs) + sum_by f l) (own_next origin client last before ends.0 e is_client is_number once_all)

-- ---- numbers that don't stand

-- a wider range of numbers weighs no less
pub sum_wider : (f : Entry → ℕ) (client above low high : ℕ) (es : List Entry) → low ≤ high → sum_by f (filter (is_numbered_in client above low) es) ≤ sum_by f (filter (is_numbered_in client above high) es)
sum_wider f client above low high [] le = omega arith
sum_wider f client above low high (e ∷ es) le =
    let small : Entry → Bool = is_numbered_in client above low in
    let large : Entry → Bool = is_numbered_in client above high in
    let s : sum_by f (filter small (e ∷ es)) ≡ sum_by f (filter small (e ∷ [])) + sum_by f (filter small es) = parts small in
    let l : sum_by f (filter large (e ∷ es)) ≡ sum_by f (filter large (e ∷ [])) + sum_by f (filter large es) = parts large in
    let a : sum_by f (filter small (e ∷ [])) ≡ cond (small e) (f e) 0 = single f small e (small e) refl in
    let b : sum_by f (filter large (e ∷ [])) ≡ cond (large e) (f e) 0 = single f large e (large e) refl in
    let one : cond (small e) (f e) 0 ≤ cond (large e) (f e) 0 = both (small e) (large e) (f e) (wider (small e) refl) in
    let rest : sum_by f (filter small es) ≤ sum_by f (filter large es) = sum_wider f client above low high es le in
    omega (arith, s, l, a, b, one, rest)
  where
    parts : (p : Entry → Bool) → sum_by f (filter p (e ∷ es)) ≡ sum_by f (filter p (e ∷ [])) + sum_by f (filter p es)
    parts p = ap (sum_by f) (filter-append p (e ∷ []) es) ∙ sum_by-append f (filter p (e ∷ [])) (filter p es)

    both : (a b : Bool) (k : ℕ) → (a ≡ true → b ≡ true) → cond a k 0 ≤ cond b k 0
    both true true k may = omega arith
    both false true k may = omega arith
    both false false k may = omega arith
    both true false k may = absurd (true≢false (sym (may refl)))

    wider : (b : Bool) → is_numbered_in client above low e ≡ b → b ≡ true → is_numbered_in client above high e ≡ true
    wider b is holds =
        let in_small : is_numbered_in client above low e ≡ true = is ∙ holds in
        let range : (nat_lt above e.number && nat_le e.number low) ≡ true = right_true (e.client == client) (nat_lt above e.number && nat_le e.number low) in_small in
        let upto : nat_le e.number low ≡ true = right_true (nat_lt above e.number) (nat_le e.number low) range in
        let more : nat_le e.number high ≡ true = grind (arith, nat_tests) in
        both_true (e.client == client) (nat_lt above e.number && nat_le e.number high) (left_true (e.client == client) (nat_lt above e.number && nat_le e.number low) in_small)
        (both_true (nat_lt above e.number) (nat_le e.number high) (left_true (nat_lt above e.number) (nat_le e.number low) range) more)

-- an entry is numbered alike in two ranges between which it isn't
alike : (client above low high : ℕ) (e : Entry) → low ≤ high → ((n : ℕ) → low < n → n ≤ high → is_numbered_so client n e ≡ false) → is_numbered_in client above high e ≡ is_numbered_in client above low e
alike client above low high e le none = by (e.client == client) refl (nat_le e.number low) refl (nat_le e.number high) refl
  where
    same : (e.number == e.number) ≡ true
    same = number_same e.number e.number refl

    by : (c : Bool) → (e.client == client) ≡ c → (a : Bool) → nat_le e.number low ≡ a → (b : Bool) → nat_le e.number high ≡ b → is_numbered_in client above high e ≡ is_numbered_in client above low e
    by false is a small b large = ap (λ t. t && (nat_lt above e.number && nat_le e.number high)) is ∙ sym (ap (λ t. t && (nat_lt above e.number && nat_le e.number low)) is)
    by true is true small true large = ap (λ t. (e.client == client) && (nat_lt above e.number && t)) (large ∙ sym small)
    by true is false small false large = ap (λ t. (e.client == client) && (nat_lt above e.number && t)) (large ∙ sym small)
    by true is true small false large = absurd (let n : nat_le e.number high ≡ true = grind (arith, nat_tests) in true≢false (sym n ∙ large))
    by true is false small true large =
        let over : low < e.number = grind (arith, nat_tests) in
        let most : e.number ≤ high = grind (arith, nat_tests) in
        absurd (true≢false (sym (both_true (e.client == client) (e.number == e.number) is same) ∙ none e.number over most))

behind_alike : (origin : Origin) (client above low high : ℕ) (log xs : List Entry) → low ≤ high → ((n : ℕ) → low < n → n ≤ high → has_submission client n xs ≡ false) →
    filter (is_numbered_in client above high) (committed_behind origin log xs) ≡ filter (is_numbered_in client above low) (committed_behind origin log xs)
behind_alike origin client above low high log [] le none = refl
behind_alike origin client above low high log (x ∷ xs) le none =
    let c : Bool = is_none (cause_next origin log x.request) in
    let more : List Entry = committed_behind origin (log ++ x ∷ []) xs in
    let test : is_numbered_in client above high x ≡ is_numbered_in client above low x = alike client above low high x le (λ n over most. or_left_false (is_numbered_so client n x) (has_submission client n xs) (none n over most)) in
    let rest : filter (is_numbered_in client above high) more ≡ filter (is_numbered_in client above low) more = behind_alike origin client above low high (log ++ x ∷ []) xs le (λ n over most. or_right_false (is_numbered_so client n x) (has_submission client n xs) (none n over most)) in
    filter-append (is_numbered_in client above high) (cond c (x ∷ []) []) more
    ∙ (λ i. here c test i ++ rest i)
    ∙ sym (filter-append (is_numbered_in client above low) (cond c (x ∷ []) []) more)
  where
    here : (c : Bool) → is_numbered_in client above high x ≡ is_numbered_in client above low x → filter (is_numbered_in client above high) (cond c (x ∷ []) []) ≡ filter (is_numbered_in client above low) (cond c (x ∷ []) [])
    here true test = ap (λ t. cond t (x ∷ []) []) test
    here false test = refl

-- numbers that don't stand add no entry
pub own_rest : (origin : Origin) (client above low high : ℕ) (log : List Entry) → low ≤ high → ((n : ℕ) → low < n → n ≤ high → has_submission client n log ≡ false) →
    own_committed origin client above high log ≡ own_committed origin client above low log
own_rest origin client above low high log le none = behind_alike origin client above low high [] log le none

-- where a number stands each lower one does
pub stands_below : (client low high : ℕ) (log : List Entry) → are_in_turn [] log ≡ true → 0 < low → low ≤ high → has_submission client high log ≡ true → has_submission client low log ≡ true
stands_below client low high log turn some le there = by (nat_lt (count_of client log) high) refl
  where
    by : (b : Bool) → nat_lt (count_of client log) high ≡ b → has_submission client low log ≡ true
    by true is =
        let over : count_of client log < high = grind (arith, nat_tests) in
        absurd (true≢false (sym there ∙ (counted_of client log turn).above high over))
    by false is =
        let upto : high ≤ count_of client log = grind (arith, nat_tests) in
        (counted_of client log turn).stands low some (omega (arith, le, upto))

-- ---- what is told

pub none_decided : (why : Option Cause) (version v : ℕ) → decided why version ≡ outcomes.Committed v → is_none why ≡ true
none_decided None version v is = refl
none_decided (Some why) version v is = absurd (cc)

pub some_decided : (why : Option Cause) (version seen : ℕ) (range : KeyRange) → decided why version ≡ outcomes.Conflict seen range → is_none why ≡ false
some_decided None version seen range is = absurd (cc)
some_decided (Some why) version seen range is = refl
