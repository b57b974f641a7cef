-- Private: how the logic stores a query: as the tokens of its filter, each part before its whole, and its other fields.
use Rattle.std.specs.Prelude.{◌≡◌, ℕ, Bool, List, [], ◌∷◌, ◌++◌, ◌==◌, cond, refl}
use Rattle.std.proofs.Common.{ap, ◌∙◌}
use Rattle.std.specs.Coded.{Coded, code_by, coded×, coded_bool, coded_list, coded_ℕ}
use Rattle.metadata.specs.declared.cells.Cell.{Cell}
use Rattle.metadata.specs.declared.cells.Cell.TheVariants.{Null}
use Rattle.metadata.specs.contracts.cells.Cell as cell
use Rattle.query.specs.declared.filter.Operator.{Operator}
use Rattle.query.specs.declared.filter.Operator.TheVariants.{Equal}
use Rattle.query.specs.contracts.filter.Operator as operator
use Rattle.query.specs.Filter.{Filter, compare, null_field, starts, all_of, some_of, negation}
use Rattle.query.specs.Filter.{Filters, no_filters, filter}
use Rattle.query.specs.Query.{Query}

-- a token: its kind, and the field, the operator and the value of a leaf
abbrev pub Token : Type 0
Token = ℕ × (List ℕ × (Operator × Cell))

abbrev mark : ℕ → Token
mark kind = (kind, ([], (Equal, Null)))

-- the tokens of a filter, and of a list of filters
abbrev mutual
  pub tokens : Filter → List Token
  tokens (compare name o v) = (0, (name, (o, v))) ∷ []
  tokens (null_field name) = (1, (name, (Equal, Null))) ∷ []
  tokens (starts name v) = (2, (name, (Equal, v))) ∷ []
  tokens (all_of fs) = tokens_of fs ++ mark 3 ∷ []
  tokens (some_of fs) = tokens_of fs ++ mark 4 ∷ []
  tokens (negation f) = tokens f ++ mark 5 ∷ []

  pub tokens_of : Filters → List Token
  tokens_of no_filters = mark 6 ∷ []
  tokens_of (filter f fs) = tokens_of fs ++ tokens f ++ mark 7 ∷ []

-- ---- back

-- a filter stands on the stack as the list of itself
abbrev one : Filter → Filters
one f = filter f no_filters

-- the first filter of a list
abbrev first : Filters → Filter
first no_filters = all_of no_filters
first (filter f fs) = f

-- the list on top is made a filter
abbrev made : (Filters → Filter) → List Filters → List Filters
made make [] = []
made make (fs ∷ stack) = one (make fs) ∷ stack

-- the filter on top is put before the list below it
abbrev joined : List Filters → List Filters
joined [] = []
joined (f ∷ []) = []
joined (f ∷ fs ∷ stack) = filter (first f) fs ∷ stack

abbrev step : Token → List Filters → List Filters
step t stack =
    cond (t.0 == 0) (one (compare t.1.0 t.1.1.0 t.1.1.1) ∷ stack)
    (cond (t.0 == 1) (one (null_field t.1.0) ∷ stack)
    (cond (t.0 == 2) (one (starts t.1.0 t.1.1.1) ∷ stack)
    (cond (t.0 == 3) (made all_of stack)
    (cond (t.0 == 4) (made some_of stack)
    (cond (t.0 == 5) (made (λ fs. negation (first fs)) stack)
    (cond (t.0 == 6) (no_filters ∷ stack) (joined stack)))))))

abbrev run : List Token → List Filters → List Filters
run [] stack = stack
run (t ∷ ts) stack = run ts (step t stack)

abbrev top : List Filters → Filter
top [] = all_of no_filters
top (fs ∷ stack) = first fs

-- the filter that has these tokens
abbrev pub filter_from : List Token → Filter
filter_from ts = top (run ts [])

run_append : (ts us : List Token) (stack : List Filters) → run (ts ++ us) stack ≡ run us (run ts stack)
run_append [] us stack = refl
run_append (t ∷ ts) us stack = run_append ts us (step t stack)

mutual
  ran : (f : Filter) (stack : List Filters) → run (tokens f) stack ≡ one f ∷ stack
  ran (compare name o v) stack = refl
  ran (null_field name) stack = refl
  ran (starts name v) stack = refl
  ran (all_of fs) stack =
      run_append (tokens_of fs) (mark 3 ∷ []) stack ∙ ap (run (mark 3 ∷ [])) (ran_of fs stack)
  ran (some_of fs) stack =
      run_append (tokens_of fs) (mark 4 ∷ []) stack ∙ ap (run (mark 4 ∷ [])) (ran_of fs stack)
  ran (negation f) stack = run_append (tokens f) (mark 5 ∷ []) stack ∙ ap (run (mark 5 ∷ [])) (ran f stack)

  ran_of : (fs : Filters) (stack : List Filters) → run (tokens_of fs) stack ≡ fs ∷ stack
  ran_of no_filters stack = refl
  ran_of (filter f fs) stack =
      run_append (tokens_of fs ++ tokens f) (mark 7 ∷ []) stack
      ∙ ap (run (mark 7 ∷ [])) (run_append (tokens_of fs) (tokens f) stack
      ∙ ap (run (tokens f)) (ran_of fs stack) ∙ ran f (fs ∷ stack))

-- ---- a query

abbrev Stored : Type 0
Stored = List ℕ × (List Token × (List (List ℕ) × Bool))

abbrev query_to : Query → Stored
query_to q = (q.record_type, (tokens q.filter, (q.sort, q.reverse)))

abbrev query_from : Stored → Query
query_from p = record { record_type = p.0; filter = filter_from p.1.0; sort = p.1.1.0; reverse = p.1.1.1 }

pub query_from_to : (q : Query) → query_from (query_to q) ≡ q
query_from_to q =
    λ i. record { record_type = q.record_type; filter = ap top (ran q.filter []) i; sort = q.sort; reverse = q.reverse }

abbrev pub query_code : Coded Query
query_code =
    code_by Stored
    (coded× (coded_list coded_ℕ)
    (coded× (coded_list (coded× coded_ℕ (coded× (coded_list coded_ℕ)
    (coded× operator.the_row.coded cell.the_row.coded))))
    (coded× (coded_list (coded_list coded_ℕ)) coded_bool))) query_to query_from query_from_to
