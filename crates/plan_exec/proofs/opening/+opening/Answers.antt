use Rattle.std.proofs.Common.{◌≡◌, ℕ, List, [], ◌∷◌, ◌++◌, ◌+◌, ◌<◌, map, length, get_or, take, ap, sym, ◌∙◌}
use Rattle.std.proofs.lemmas.List.{map-append, take_all, take_more}
use Rattle.plan_exec.specs.Rows.{level_of}
use Rattle.plan_exec.proofs.Opened.{begun, distinct_opened, fetch_opened, union_opened, unordered_opened}
use Rattle.plan_exec.proofs.opening.+opening.Goals as goal

-- one part more is opened
one_more : {X Y Z : Type 0} (f : X → Z) (g : Y → Z) (parts after : List X) (part : X) (nodes : List Y) (i : ℕ) (node : Y) → i < length nodes → node ≡ get_or nodes i node → after ≡ parts ++ part ∷ [] → f part ≡ g node →
    map f parts ≡ map g (take i nodes) → map f after ≡ map g (take (i + 1) nodes)
one_more f g parts after part nodes i node lt at is one so =
    ap (map f) is ∙ map-append f parts (part ∷ [])
    ∙ (λ j. so j ++ one j ∷ [])
    ∙ sym (map-append g (take i nodes) (node ∷ []))
    ∙ ap (map g) (ap (λ x. take i nodes ++ x ∷ []) at ∙ sym (take_more nodes i node lt))

pub parts_of-loop-node-init : goal.parts_of-loop-node-init
parts_of-loop-node-init t c = ap (map level_of) c.in_ok-parts.ensures.items

pub parts_of-loop-node-preserved : goal.parts_of-loop-node-preserved
parts_of-loop-node-preserved t c =
    one_more level_of (begun c.args.records.now) c.loop-node.parts.items c.push.new.self.items c.in_ok-rows_of.field-0 c.args.nodes.now c.loop-node.node-index c.node-item.result c.loop-node-test.true c.node-item.is
    c.in_ok-push.ensures.items c.in_ok-rows_of.ensures c.loop-node.invariant

pub parts_of-returns : goal.parts_of-returns
parts_of-returns t c = c.loop-node.invariant ∙ ap (map (begun c.args.records.now)) (take_all c.loop-node.node-index c.args.nodes.now c.loop-node-test.false)

pub rows_of-returns-in_ok-entries-in-Fetch : goal.rows_of-returns-in_ok-entries-in-Fetch
rows_of-returns-in_ok-entries-in-Fetch t c =
    fetch_opened c.args.records.now (level_of c.new-in-Fetch-2.result) c.args.node.now c.in-Fetch.source c.in_ok-entries-in-Fetch.entries c.in-Fetch.is c.in_ok-entries-in-Fetch.ensures c.new-in-Fetch-2.ensures

pub rows_of-returns-in_ok-parts-in-Union : goal.rows_of-returns-in_ok-parts-in-Union
rows_of-returns-in_ok-parts-in-Union t c =
    union_opened c.args.records.now (level_of c.new-in-Union.result) c.args.node.now (map level_of c.in_ok-parts-in-Union.parts.items) c.in-Union.nodes c.as_slice.result.now c.as_slice.ensures.value c.in_ok-parts-in-Union.ensures c.in-Union.is c.new-in-Union.ensures

pub rows_of-returns-in_ok-parts-in-UnorderedUnion : goal.rows_of-returns-in_ok-parts-in-UnorderedUnion
rows_of-returns-in_ok-parts-in-UnorderedUnion t c =
    unordered_opened c.args.records.now (level_of c.new-in-UnorderedUnion.result) c.args.node.now (map level_of c.in_ok-parts-in-UnorderedUnion.parts.items) c.in-UnorderedUnion.nodes c.as_slice-in-UnorderedUnion.result.now
    c.as_slice-in-UnorderedUnion.ensures.value c.in_ok-parts-in-UnorderedUnion.ensures c.in-UnorderedUnion.is c.new-in-UnorderedUnion.ensures

pub rows_of-returns-in_ok-parts-in-Distinct : goal.rows_of-returns-in_ok-parts-in-Distinct
rows_of-returns-in_ok-parts-in-Distinct t c =
    distinct_opened c.args.records.now (level_of c.new-in-Distinct-2.result) c.args.node.now (map level_of c.in_ok-parts-in-Distinct.parts.items) c.in-Distinct.part c.deref-in-Distinct.result.now c.deref-in-Distinct.ensures
    c.in_ok-parts-in-Distinct.ensures c.new-in-Distinct.result c.new-in-Distinct.ensures c.in-Distinct.is c.new-in-Distinct-2.ensures
