use Rattle.std.proofs.Common.{ap, sym, ◌∙◌, subst, map, Some}
use Rattle.std.specs.Option.{is_some, option_copied, option_map}
use Rattle.query.specs.View.{query_of}
use Rattle.planner.specs.Planned.{planned}
use Rattle.planner.specs.Rules.{MayBeUsed, usable}
use Rattle.planner.specs.View.{node_of}
use Rattle.planner.proofs.CodecLaws.{codec_laws, reads_back}
use Rattle.planner.proofs.Theorem.{planned_for, planned_right, planned_merges, planned_promised, planned_usable, planned_where_served}
use Rattle.planner.proofs.Lists.{each_all}
use Rattle.planner.specs.Right.{IsPlanFor, indexes_of}
use Rattle.planner.proofs.planner.plan.Goals as goal

pub invariant_of-result : goal.invariant_of-result
invariant_of-result c =
    subst (λ q. IsPlanFor q (record { definition = c.in_ok-definition.definition; root = node_of c.in-Some-2.root })) (sym c.in_ok-copy.ensures)
    (planned_for codec_laws reads_back c.args.schema.now c.args.states.now (query_of c.args.query.now) c.in_ok-definition.definition c.types.ensures.lawful c.requires c.values_known.ensures
    (sym c.type_named.ensures ∙ ap option_copied c.in-Some.is ∙ ap Some (sym c.in_ok-definition.ensures)) (node_of c.in-Some-2.root)
    (ap (λ d. planned d (usable c.args.schema.now c.args.states.now d) (query_of c.args.query.now)) c.in_ok-definition.ensures
    ∙ ap (λ is. planned c.in-Some.own.now is (query_of c.args.query.now))
    (sym (ap (λ w. map (λ i. i.now) w) c.as_slice.ensures.value ∙ c.in_ok-found.ensures))
    ∙ sym c.in_ok-root.ensures ∙ ap (option_map node_of) c.in-Some-2.is))

pub returns-in-Some-2-clause-is : goal.returns-in-Some-2-clause-is
returns-in-Some-2-clause-is c =
    ap (λ d. planned d (usable c.args.schema.now c.args.states.now d) (query_of c.args.query.now)) c.in_ok-definition.ensures
    ∙ ap (λ is. planned c.in-Some.own.now is (query_of c.args.query.now))
    (sym (ap (λ w. map (λ i. i.now) w) c.as_slice.ensures.value ∙ c.in_ok-found.ensures))
    ∙ sym c.in_ok-root.ensures ∙ ap (option_map node_of) c.in-Some-2.is

pub returns-in-Some-2-clause-right : goal.returns-in-Some-2-clause-right
returns-in-Some-2-clause-right c =
    planned_right codec_laws reads_back c.args.schema.now c.args.states.now (query_of c.args.query.now) c.in_ok-definition.definition c.types.ensures.lawful c.requires c.values_known.ensures
    (sym c.type_named.ensures ∙ ap option_copied c.in-Some.is ∙ ap Some (sym c.in_ok-definition.ensures)) (node_of c.in-Some-2.root) (returns-in-Some-2-clause-is c)

pub returns-in-Some-2-clause-merges : goal.returns-in-Some-2-clause-merges
returns-in-Some-2-clause-merges c =
    planned_merges codec_laws reads_back c.args.schema.now c.args.states.now (query_of c.args.query.now) c.in_ok-definition.definition c.types.ensures.lawful c.requires c.values_known.ensures
    (sym c.type_named.ensures ∙ ap option_copied c.in-Some.is ∙ ap Some (sym c.in_ok-definition.ensures)) (node_of c.in-Some-2.root) (returns-in-Some-2-clause-is c)

pub returns-in-Some-2-clause-chosen : goal.returns-in-Some-2-clause-chosen
returns-in-Some-2-clause-chosen c =
    planned_promised codec_laws reads_back c.args.schema.now c.args.states.now (query_of c.args.query.now) c.in_ok-definition.definition c.types.ensures.lawful c.requires c.values_known.ensures
    (sym c.type_named.ensures ∙ ap option_copied c.in-Some.is ∙ ap Some (sym c.in_ok-definition.ensures)) (node_of c.in-Some-2.root) (returns-in-Some-2-clause-is c)

pub returns-in-Some-2-clause-served : goal.returns-in-Some-2-clause-served
returns-in-Some-2-clause-served c =
    sym (planned_where_served codec_laws reads_back c.args.schema.now c.args.states.now (query_of c.args.query.now) c.in_ok-definition.definition c.types.ensures.lawful c.requires c.values_known.ensures
    (sym c.type_named.ensures ∙ ap option_copied c.in-Some.is ∙ ap Some (sym c.in_ok-definition.ensures)))
    ∙ ap is_some (returns-in-Some-2-clause-is c)

pub returns-in-None-clause-refused : goal.returns-in-None-clause-refused
returns-in-None-clause-refused c =
    λ same. sym (planned_where_served codec_laws reads_back c.args.schema.now c.args.states.now (query_of c.args.query.now) c.in-Some.own.now c.types.ensures.lawful c.requires c.values_known.ensures
    (sym c.type_named.ensures ∙ ap option_copied c.in-Some.is))
    ∙ ap is_some (ap (λ is. planned c.in-Some.own.now is (query_of c.args.query.now)) (sym (ap (λ w. map (λ i. i.now) w) c.as_slice.ensures.value ∙ c.in_ok-found.ensures)) ∙ sym c.in_ok-root.ensures ∙ ap (option_map node_of) c.in-None.is)

pub returns-in-Some-2-clause-usable : goal.returns-in-Some-2-clause-usable
returns-in-Some-2-clause-usable c =
    each_all (MayBeUsed c.args.schema.now c.args.states.now c.in_ok-definition.definition) (indexes_of (node_of c.in-Some-2.root))
    (planned_usable c.args.schema.now c.args.states.now c.in_ok-definition.definition (query_of c.args.query.now) (node_of c.in-Some-2.root) (returns-in-Some-2-clause-is c))
