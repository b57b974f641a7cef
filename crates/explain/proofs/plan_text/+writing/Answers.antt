use Rattle.std.proofs.Common.{◌++◌, codes, map, string_bytes}
use Rattle.std.proofs.lemmas.List.{take_all}
use Rattle.serde_json.specs.Written.{compact_text}
use Rattle.json_forms.specs.QueryJson.{filter_data}
use Rattle.query.specs.View.{filter_of}
use Rattle.planner.specs.View.{node_of}
use Rattle.explain.specs.PlanText.{node_text}
use Rattle.explain.proofs.Joined.{followed, texts_each, written_to}
use Rattle.explain.proofs.Views.{node_of-Distinct, node_of-Filter, node_of-Scan}
use Rattle.explain.proofs.plan_text.+writing.Goals as goal

pub push_node-returns-in-Scan : goal.push_node-returns-in-Scan
push_node-returns-in-Scan t c = rw (c.in-Scan.is, node_of-Scan c.in-Scan.scan) c.push_scan.ensures

pub push_node-returns-in_ok-push_closed-in-Filter : goal.push_node-returns-in_ok-push_closed-in-Filter
push_node-returns-in_ok-push_closed-in-Filter t c =
    rw (c.in-Filter.is, node_of-Filter c.in-Filter.filter c.in-Filter.part) (followed (codes "Filter(" ++ compact_text (filter_data (filter_of c.in-Filter.filter)) ++ codes ",") (node_text c.args.name.now (node_of c.in-Filter.part.value) ++ codes ")") (string_bytes c.args.text.now) (string_bytes c.push_filter.new.text) (string_bytes c.push_closed.new.text) c.in_ok-push_filter-in-Filter.ensures (rw c.deref.ensures at c.in_ok-push_closed-in-Filter.ensures))

pub push_node-returns-in_ok-push_closed-in-Distinct : goal.push_node-returns-in_ok-push_closed-in-Distinct
push_node-returns-in_ok-push_closed-in-Distinct t c =
    rw (c.in-Distinct.is, node_of-Distinct c.in-Distinct.part) (followed (codes "Distinct(") (node_text c.args.name.now (node_of c.in-Distinct.part.value) ++ codes ")") (string_bytes c.args.text.now) (string_bytes c.push_str.new.self) (string_bytes c.push_closed-in-Distinct.new.text) c.in_ok-push_str-in-Distinct.ensures.bytes (rw c.deref-in-Distinct.ensures at c.in_ok-push_closed-in-Distinct.ensures))

pub push_nodes-loop-index-preserved : goal.push_nodes-loop-index-preserved
push_nodes-loop-index-preserved t c =
    written_to node_of (node_text c.args.name.now) c.args.parts.now c.loop-index.index c.index-parts-index.result (string_bytes c.args.text.now) (string_bytes c.loop-index.text) (string_bytes c.push_comma.new.text) (string_bytes c.push_node.new.text) c.loop-index-test.true c.index-parts-index.is c.loop-index.invariant c.in_ok-push_comma.ensures c.in_ok-push_node.ensures

pub push_nodes-returns : goal.push_nodes-returns
push_nodes-returns t c = rw (texts_each c.args.name.now (map node_of c.args.parts.now)) (rw (take_all c.loop-index.index c.args.parts.now c.loop-index-test.false) at c.loop-index.invariant)
