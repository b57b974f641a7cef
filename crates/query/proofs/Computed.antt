-- Truths and refusals computed on worked cases.
use Rattle.std.specs.Prelude.{◌≡◌, ℕ, zero, suc, false, List, [], ◌∷◌, refl, pos, Some, None, filter, map, replicate}
use Rattle.metadata.specs.declared.cells.Cell.{Cell}
use Rattle.metadata.specs.declared.cells.Cell.TheVariants.{Null, Int, Text, Bytes}
use Rattle.metadata.specs.declared.cells.Kind.TheVariants as kind
use Rattle.metadata.specs.Schema.{Schema}
use Rattle.metadata.specs.declared.definition.TypeDefinition.{TypeDefinition}
use Rattle.metadata.specs.Record.{Record}
use Rattle.query.specs.declared.filter.Operator.TheVariants.{Equal, Less}
use Rattle.query.specs.declared.filter.Truth.{Truth}
use Rattle.query.specs.declared.filter.Truth.TheVariants.{True, False, Unknown}
use Rattle.query.specs.declared.error.QueryError.TheVariants.{UnknownType, TooDeep, TooLarge, UnknownField, WrongKind, SortTwice}
use Rattle.query.specs.Filter.{Filter, compare, null_field, starts, all_of, some_of, negation, no_filters, filters_of, conjuncts}
use Rattle.query.specs.Truth.{truth, selects}
use Rattle.query.specs.Query.{Query}
use Rattle.query.specs.Checked.{query_refusal}

-- the names k, a, b, s, y, t, u, z
abbrev pub k : List ℕ
k = 107 ∷ []

abbrev pub a : List ℕ
a = 97 ∷ []

abbrev pub b : List ℕ
b = 98 ∷ []

abbrev pub s : List ℕ
s = 115 ∷ []

abbrev pub y : List ℕ
y = 121 ∷ []

abbrev pub t : List ℕ
t = 116 ∷ []

abbrev pub u : List ℕ
u = 117 ∷ []

abbrev pub z : List ℕ
z = 122 ∷ []

-- type t: whole numbers k, a, b, key k
abbrev pub type_t : TypeDefinition
type_t = record { number = 1; name = t; fields = record { name = k; kind = kind.Int } ∷ record { name = a; kind = kind.Int } ∷ record { name = b; kind = kind.Int } ∷ []; key = 0 ∷ []; first_fields = 3 }

-- type u: whole number k, text s, bytes y, key k
abbrev pub type_u : TypeDefinition
type_u = record { number = 1; name = u; fields = record { name = k; kind = kind.Int } ∷ record { name = s; kind = kind.Text } ∷ record { name = y; kind = kind.Bytes } ∷ []; key = 0 ∷ []; first_fields = 3 }

abbrev pub row : Cell → Cell → Cell → Record
row c d e = record { definition = type_t; cells = c ∷ d ∷ e ∷ [] }

abbrev pub int : ℕ → Cell
int n = Int (pos n)

abbrev pub four : List Record
four = row (int 1) Null (int 0) ∷ row (int 2) (int 4) (int 0) ∷ row (int 3) (int 5) (int 0) ∷ row (int 4) (int 6) (int 0) ∷ []

-- `<` leaves null out
pub below_five : filter (selects (compare a Less (int 5))) four ≡ row (int 2) (int 4) (int 0) ∷ []
below_five = refl

-- `not` of an unknown is unknown
pub not_five : filter (selects (negation (compare a Equal (int 5)))) four ≡ row (int 2) (int 4) (int 0) ∷ row (int 4) (int 6) (int 0) ∷ []
not_five = refl

pub null_a : filter (selects (null_field a)) four ≡ row (int 1) Null (int 0) ∷ []
null_a = refl

pub of_nothing : map (λ f. truth f (row (int 1) Null (int 0))) (all_of no_filters ∷ some_of no_filters ∷ compare a Equal (int 5) ∷ negation (compare a Equal (int 5)) ∷ []) ≡ True ∷ False ∷ Unknown ∷ Unknown ∷ []
of_nothing = refl

-- `and` and `or` of true, false and unknown, each with each
abbrev three : List Filter
three = all_of no_filters ∷ some_of no_filters ∷ compare a Equal (int 5) ∷ []

abbrev table : (Filter → Filter → Filter) → List (List Truth)
table combine = map (λ f. map (λ g. truth (combine f g) (row (int 1) Null (int 0))) three) three

pub and_table : table (λ f g. all_of (filters_of (f ∷ g ∷ []))) ≡ (True ∷ False ∷ Unknown ∷ []) ∷ (False ∷ False ∷ False ∷ []) ∷ (Unknown ∷ False ∷ Unknown ∷ []) ∷ []
and_table = refl

pub or_table : table (λ f g. some_of (filters_of (f ∷ g ∷ []))) ≡ (True ∷ True ∷ True ∷ []) ∷ (True ∷ False ∷ Unknown ∷ []) ∷ (True ∷ Unknown ∷ Unknown ∷ []) ∷ []
or_table = refl

-- prefixes of a text with a zero byte
abbrev pub text_row : ℕ → List ℕ → List ℕ → Record
text_row n c d = record { definition = type_u; cells = int n ∷ Text c ∷ Bytes d ∷ [] }

abbrev pub texts : List Record
texts = text_row 1 (97 ∷ []) [] ∷ text_row 2 (97 ∷ 0 ∷ []) (0xff ∷ []) ∷ text_row 3 (97 ∷ 0 ∷ 98 ∷ []) (0xff ∷ 0 ∷ []) ∷ text_row 4 (97 ∷ 1 ∷ []) (0xfe ∷ []) ∷ []

pub starts_text : filter (selects (starts s (Text (97 ∷ 0 ∷ [])))) texts ≡ text_row 2 (97 ∷ 0 ∷ []) (0xff ∷ []) ∷ text_row 3 (97 ∷ 0 ∷ 98 ∷ []) (0xff ∷ 0 ∷ []) ∷ []
starts_text = refl

pub starts_bytes : filter (selects (starts y (Bytes (0xff ∷ [])))) texts ≡ text_row 2 (97 ∷ 0 ∷ []) (0xff ∷ []) ∷ text_row 3 (97 ∷ 0 ∷ 98 ∷ []) (0xff ∷ 0 ∷ []) ∷ []
starts_bytes = refl

-- `and` within `and` is flattened in order
pub flattened : conjuncts (all_of (filters_of (null_field a ∷ all_of (filters_of (null_field b ∷ some_of no_filters ∷ [])) ∷ null_field k ∷ []))) ≡ null_field a ∷ null_field b ∷ some_of no_filters ∷ null_field k ∷ []
flattened = refl

-- ---- what is refused

abbrev schema : Schema
schema = record { last_index = 0; types = type_t ∷ []; indexes = [] }

abbrev pub asks : List ℕ → Filter → List (List ℕ) → Query
asks name f names = record { record_type = name; filter = f; sort = names; reverse = false }

abbrev nested : ℕ → Filter
nested zero = null_field a
nested (suc n) = negation (nested n)

pub unknown_type : query_refusal schema (asks z (null_field a) []) ≡ Some UnknownType
unknown_type = refl

pub too_deep : query_refusal schema (asks t (nested 32) []) ≡ Some TooDeep
too_deep = refl

pub deep_enough : query_refusal schema (asks t (nested 31) []) ≡ None
deep_enough = refl

pub too_large : query_refusal schema (asks t (all_of (filters_of (replicate 256 (null_field a)))) []) ≡ Some TooLarge
too_large = refl

pub large_enough : query_refusal schema (asks t (all_of (filters_of (replicate 255 (null_field a)))) []) ≡ None
large_enough = refl

pub nine_sort_fields : query_refusal schema (asks t (null_field z) (replicate 9 a)) ≡ Some TooLarge
nine_sort_fields = refl

pub unknown_field : query_refusal schema (asks t (compare z Equal (int 1)) []) ≡ Some UnknownField
unknown_field = refl

pub null_value : query_refusal schema (asks t (compare a Equal Null) []) ≡ Some WrongKind
null_value = refl

pub number_prefix : query_refusal schema (asks t (starts a (int 1)) []) ≡ Some WrongKind
number_prefix = refl

pub unknown_sort : query_refusal schema (asks t (all_of no_filters) (z ∷ [])) ≡ Some UnknownField
unknown_sort = refl

pub sort_twice : query_refusal schema (asks t (all_of no_filters) (a ∷ a ∷ [])) ≡ Some SortTwice
sort_twice = refl
