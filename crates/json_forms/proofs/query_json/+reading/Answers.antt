use Rattle.std.proofs.Common.{◌≡◌, ◌∙◌, ◌≤◌, None, ap, map, rules, sym}
use Rattle.std.specs.Prelude.{option_map}
use Rattle.std.proofs.lemmas.List.{map-append, take_all}
use Rattle.serde_json.specs.Data.{depth, items_depth}
use Rattle.serde_json.specs.View.{items_view, view}
use Rattle.query.specs.Filter.{filters_of as filters_in_list, negation}
use Rattle.query.specs.View.{filter_of as filter_meant}
use Rattle.json_forms.specs.QueryJson.{filter_in, filters_in}
use Rattle.json_forms.specs.declared.error.PartError.TheVariants.{BadForm}
use Rattle.json_forms.proofs.Each.{each_more, each_none}
use Rattle.json_forms.proofs.Filters.{filters_each, list_read, only_one, taken_apart, value_depth_at}
use Rattle.json_forms.proofs.query_json.+reading.Goals as goal
use Rattle.json_forms.proofs.query_json.+reading.Goals.{opposite_of-in_default-via-then-rest-lt1, opposite_of-in_default-via-else-rest-lt1+else-rest-lt2}

pub filter_of-returns-in_ok-str_of-in-len1-up-clause-ok : goal.filter_of-returns-in_ok-str_of-in-len1-up-clause-ok
filter_of-returns-in_ok-str_of-in-len1-up-clause-ok t c =
    rw (c.in-Array.is, list_read c.in-Array.items c.word-item.result _ _ (sym c.as_slice.ensures.value ∙ taken_apart c.as_slice.result.now c.word-item.result c.in-len1-up.len_at_least c.word-item.is) c.in_ok-str_of-in-len1-up.ensures.ok) c.worded_filter.ensures.ok

pub filter_of-returns-in_ok-str_of-in-len1-up-clause-err : goal.filter_of-returns-in_ok-str_of-in-len1-up-clause-err
filter_of-returns-in_ok-str_of-in-len1-up-clause-err t c =
    rw (c.in-Array.is, list_read c.in-Array.items c.word-item.result _ _ (sym c.as_slice.ensures.value ∙ taken_apart c.as_slice.result.now c.word-item.result c.in-len1-up.len_at_least c.word-item.is) c.in_ok-str_of-in-len1-up.ensures.ok) c.worded_filter.ensures.err

pub filters_of-filter_of-requires : goal.filters_of-filter_of-requires
filters_of-filter_of-requires t c =
    let deep : depth (view c.item-item.result) ≤ items_depth (items_view c.args.items.now) = value_depth_at c.args.items.now c.loop-item.item-index c.item-item.result c.loop-item-test.true c.item-item.is in
    search (rules, deep)

pub filters_of-returns-in_err-filter_of-clause-err : goal.filters_of-returns-in_err-filter_of-clause-err
filters_of-returns-in_err-filter_of-clause-err t c =
    let none : c.in_err-filter_of.field-0.0 ≡ BadForm → filters_in (items_view c.args.items.now) ≡ None =
    λ e. filters_each (map view c.args.items.now) ∙ ap (option_map filters_in_list) (each_none filter_in c.args.items.now c.loop-item.item-index c.item-item.result c.loop-item-test.true c.item-item.is (c.in_err-filter_of.ensures.err e)) in
    search (rules, none)

pub filters_of-loop-item-preserved : goal.filters_of-loop-item-preserved
filters_of-loop-item-preserved t c = rw (c.in_ok-push.ensures.items, map-append filter_meant c.loop-item.filters.items _) (each_more filter_in c.args.items.now c.loop-item.item-index c.item-item.result _ _ c.loop-item-test.true c.item-item.is c.in_ok-filter_of.ensures.ok c.loop-item.invariant)

pub filters_of-returns-clause-ok : goal.filters_of-returns-clause-ok
filters_of-returns-clause-ok t c = filters_each (map view c.args.items.now) ∙ ap (option_map filters_in_list) (rw (take_all c.loop-item.item-index c.args.items.now c.loop-item-test.false) at c.loop-item.invariant)

pub opposite_of-returns-in_default-clause-err : goal.opposite_of-returns-in_default-clause-err
opposite_of-returns-in_default-clause-err t c e =
    ap (option_map negation) (only_one c.args.rest.now (elim c.in_default.branch [ opposite_of-in_default-via-then-rest-lt1 w ↦ (λ one. search (rules, one)) | opposite_of-in_default-via-else-rest-lt1+else-rest-lt2 w ↦ (λ one. search (rules, one)) ]))
