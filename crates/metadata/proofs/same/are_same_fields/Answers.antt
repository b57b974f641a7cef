use Rattle.std.proofs.Common.{sym, ◌∙◌, arith, rules}
use Rattle.std.proofs.lemmas.Iterator.{YieldsList-from_slice, YieldsList-from_zip}
use Rattle.std.proofs.lemmas.Iterator.Search.{all_from_yields_List}
use borrow.Author.Tests.{tests}
use Rattle.metadata.specs.declared.definition.Field.{Field}
use Rattle.metadata.specs.Same.{equal_field}
use Rattle.metadata.proofs.SameTypes.{all_same-zip, all_same-unequal}
use Rattle.metadata.proofs.same.are_same_fields.Goals as goal

pub returns-then-a-b : goal.returns-then-a-b
returns-then-a-b c = sym (all_same-unequal equal_field c.args.a.now c.args.b.now (omega arith))

pub returns : goal.returns
returns c =
    all_from_yields_List (λ (p : Field × Field). equal_field p.0 p.1) c.all.new.self _ _ c.all.ensures.ran (YieldsList-from_zip (YieldsList-from_slice c.args.a.now cc) (YieldsList-from_slice c.args.b.now cc)) (λ x b q k. search (rules, tests))
    ∙ all_same-zip equal_field c.args.a.now c.args.b.now (omega arith)
